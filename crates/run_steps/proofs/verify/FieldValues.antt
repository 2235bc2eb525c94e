-- Words that are FIELD=VALUE are those that are read as a field and its value.
use Rattle.std.proofs.Common.{◌≡◌, ◌≢◌, ℕ, zero, suc, ◌+◌, ◌<◌, true, false, nat_lt, List, [], ◌∷◌, ◌++◌, length, length-append, take, drop, get_or, slice_index, slice_get, Option, Some, None, inl, inr, refl, sym, ap, ◌∙◌, subst, append_assoc, arith}
use Rattle.std.specs.Fmt.{decimal}
use Rattle.std.specs.List.{before_first, after_first, position_or_len}
use Rattle.std.specs.Option.{option_map, option_and_then}
use Rattle.std.specs.Str.{bytes_eq}
use Rattle.std.proofs.lemmas.Bool.{cases_Bool}
use Rattle.std.proofs.lemmas.Bool.Decides.{nat_tests, Decides-eqb}
use Rattle.std.proofs.lemmas.List.{get_or-take, get_or_at, get_or_append_left, take_at, drop_at, length-take-le}
use Rattle.std.proofs.lemmas.List.Sums.{fails_before_first, passes_at_first, split_at_first, position_or_len_is}
use Rattle.std.proofs.lemmas.Slice.Eq.{bytes_eq-Decides}
use Rattle.rule_check.specs.Value.{place}
use Rattle.rule_check.specs.WellFormed.{is_among}
use Rattle.run_steps.specs.script.Words.{number_in}
use Rattle.run_steps.proofs.script.Numbers.{number-spelled, number-of}
use Rattle.run_steps.specs.verify.Fields.{is_equals, split_equals, field_called, given_parts, given_by}
use Rattle.run_steps.specs.verify.Given.{IsFieldValue}

pub then-some : {A B : Type 0} (f : A → Option B) (o : Option A) (y : B) → option_and_then f o ≡ Some y → (x : A) × (o ≡ Some x) × (f x ≡ Some y)
then-some f None y h = absurd (cc)
then-some f (Some x) y h = (x, refl, h)

map-some : {A B : Type 0} (f : A → B) (o : Option A) (y : B) → option_map f o ≡ Some y → (x : A) × (o ≡ Some x) × (f x ≡ y)
map-some f None y h = absurd (cc)
map-some f (Some x) y h = (x, refl, cc)

-- ---- words that are cut at their first =

no-equals : (b : ℕ) → is_equals b ≡ false → b ≢ 61
no-equals b h is = (let yes = (Decides-eqb b 61).1 is in let bad : true ≡ false = sym yes ∙ h in cc)

equals-not : (b : ℕ) → b ≢ 61 → is_equals b ≡ false
equals-not b other =
    elim (cases_Bool (is_equals b)) [
      | inl is ↦ absurd (other ((Decides-eqb b 61).0 is))
      | inr not ↦ not
    ]

cut-parts : (word : List ℕ) (p : List ℕ × List ℕ) → split_equals word ≡ Some p → (word ≡ p.0 ++ 61 ∷ p.1) × ((i : ℕ) → i < length p.0 → slice_index p.0 i ≢ 61)
cut-parts word p h =
    let at = position_or_len is_equals word in
    elim (cases_Bool (nat_lt at (length word))) [
      | inl is ↦ (
          let less : at < length word = grind (arith, nat_tests) in
          let both : Some (before_first is_equals word, after_first is_equals word) ≡ Some p = rw is at h in
          let same : (before_first is_equals word, after_first is_equals word) ≡ p = cc in
          let front : before_first is_equals word ≡ p.0 = ap (λ (q : List ℕ × List ℕ). q.0) same in
          let back : after_first is_equals word ≡ p.1 = ap (λ (q : List ℕ × List ℕ). q.1) same in
          let mark : get_or word at 0 ≡ 61 = (Decides-eqb (get_or word at 0) 61).0 (passes_at_first is_equals word 0 less) in
          let many : length (take at word) ≡ at = length-take-le at word (omega arith) in
          let long : length p.0 ≡ at = sym (ap length front) ∙ many in (
            split_at_first is_equals word 0 less ∙ ap (λ (b : ℕ). before_first is_equals word ++ b ∷ after_first is_equals word) mark ∙ ap (λ (f : List ℕ). f ++ 61 ∷ after_first is_equals word) front ∙ ap (λ (r : List ℕ). p.0 ++ 61 ∷ r) back,
            λ i low. (
                let here : i < at = omega arith in
                let same_byte : get_or p.0 i 0 ≡ get_or word i 0 = sym (ap (λ (f : List ℕ). get_or f i 0) front) ∙ get_or-take at word i 0 here in
                no-equals (get_or p.0 i 0) (ap is_equals same_byte ∙ fails_before_first is_equals word i 0 here)),
          ))
      | inr past ↦ (let none : ◌≡◌ {A = Option (List ℕ × List ℕ)} None (Some p) = rw past at h in absurd (cc))
    ]

-- what stands before a = and behind it
mark-cut : (name rest : List ℕ) (n : ℕ) → n ≡ length name → (take n (name ++ 61 ∷ rest) ≡ name) × (drop (n + 1) (name ++ 61 ∷ rest) ≡ rest)
mark-cut name rest n at =
    let more : length (name ++ 61 ∷ []) ≡ n + 1 = omega (arith, length-append name (61 ∷ [])) in
    let same : (name ++ 61 ∷ []) ++ rest ≡ name ++ 61 ∷ rest = append_assoc name (61 ∷ []) rest in
    (take_at name (61 ∷ rest) n (sym at), subst (λ (w : List ℕ). drop (n + 1) w ≡ rest) same (drop_at (name ++ 61 ∷ []) rest (n + 1) more))

-- the first = of a word stands after what has none
mark-first : (name rest : List ℕ) → ((i : ℕ) → i < length name → slice_index name i ≢ 61) → position_or_len is_equals (name ++ 61 ∷ rest) ≡ length name
mark-first name rest none =
    let long = length-append name (61 ∷ rest) in
    position_or_len_is is_equals (name ++ 61 ∷ rest) (length name) 0 (omega arith)
    (λ k low. ap is_equals (get_or_append_left name (61 ∷ rest) 0 k low) ∙ equals-not (get_or name k 0) (none k low))
    (λ _. (Decides-eqb (get_or (name ++ 61 ∷ rest) (length name) 0) 61).1 (get_or_at name 61 rest 0 (length name) refl))

parts-cut : (name rest : List ℕ) → ((i : ℕ) → i < length name → slice_index name i ≢ 61) → split_equals (name ++ 61 ∷ rest) ≡ Some (name, rest)
parts-cut name rest none =
    let at = mark-first name rest none in
    let long = length-append name (61 ∷ rest) in
    let cut = mark-cut name rest (position_or_len is_equals (name ++ 61 ∷ rest)) at in
    let test : nat_lt (position_or_len is_equals (name ++ 61 ∷ rest)) (length (name ++ 61 ∷ rest)) ≡ true = grind (arith, nat_tests) in
    rw (test, cut.0, cut.1) refl

-- ---- fields by their names

next-one : (x : List ℕ) (xs : List (List ℕ)) (n : ℕ) → slice_get (x ∷ xs) (n + 1) ≡ slice_get xs n
next-one x xs n = (let e : n + 1 ≡ suc n = omega arith in ap (slice_get (x ∷ xs)) e)

name-not : (x name : List ℕ) → bytes_eq x name ≡ false → x ≢ name
name-not x name h is = (let yes = (bytes_eq-Decides x name).1 is in let bad : true ≡ false = sym yes ∙ h in cc)

-- where a name stands first among fields
abbrev StandsFirst : List (List ℕ) → List ℕ → ℕ → Type 0
StandsFirst fields name k = (slice_get fields k ≡ Some name) × ((i : ℕ) → i < k → slice_get fields i ≢ Some name)

behind-first : (x : List ℕ) (xs : List (List ℕ)) (name : List ℕ) (k : ℕ) → x ≢ name → StandsFirst xs name k → (i : ℕ) → i < k + 1 → slice_get (x ∷ xs) i ≢ Some name
behind-first x xs name k other h zero low is = (let same : x ≡ name = cc in other same)
behind-first x xs name k other h (suc i) low is = h.1 i (omega arith) is

place-named : (fields : List (List ℕ)) (name : List ℕ) → is_among fields name ≡ true → StandsFirst fields name (place fields name)
place-named [] name h = absurd (cc)
place-named (x ∷ xs) name h =
    elim (cases_Bool (bytes_eq x name)) [
      | inl is ↦ (let here : place (x ∷ xs) name ≡ 0 = rw is refl in subst (StandsFirst (x ∷ xs) name) (sym here) (ap Some ((bytes_eq-Decides x name).0 is), λ i low. absurd (omega arith)))
      | inr other ↦ (
          let rest : is_among xs name ≡ true = rw other at h in
          let ih = place-named xs name rest in
          let here : place (x ∷ xs) name ≡ place xs name + 1 = rw other refl in
          subst (StandsFirst (x ∷ xs) name) (sym here) (next-one x xs (place xs name) ∙ ih.0, behind-first x xs name (place xs name) (name-not x name other) ih))
    ]

-- a name that is found among fields
field-found : (fields : List (List ℕ)) (name : List ℕ) (k : ℕ) → field_called fields name ≡ Some k → StandsFirst fields name k
field-found fields name k h =
    elim (cases_Bool (is_among fields name)) [
      | inl is ↦ (
          let some : Some (place fields name) ≡ Some k = rw is at h in
          let same : place fields name ≡ k = cc in
          subst (StandsFirst fields name) same (place-named fields name is))
      | inr other ↦ (let none : ◌≡◌ {A = Option ℕ} None (Some k) = rw other at h in absurd (cc))
    ]

named-place : (fields : List (List ℕ)) (name : List ℕ) (k : ℕ) → slice_get fields k ≡ Some name → ((i : ℕ) → i < k → slice_get fields i ≢ Some name) → (is_among fields name ≡ true) × (place fields name ≡ k)
named-place [] name k h first = absurd (cc)
named-place (x ∷ xs) name zero h first = (let same : x ≡ name = cc in let is = (bytes_eq-Decides x name).1 same in (rw is refl, rw is refl))
named-place (x ∷ xs) name (suc k) h first =
    elim (cases_Bool (bytes_eq x name)) [
      | inl is ↦ absurd (first 0 (omega arith) (ap Some ((bytes_eq-Decides x name).0 is)))
      | inr other ↦ (
          let ih = named-place xs name k h (λ i low. first (suc i) (omega arith)) in
          let at = ih.1 in
          let next : place xs name + 1 ≡ suc k = omega arith in
          (rw other ih.0, rw other next))
    ]

-- ---- words

module _ (fields : List (List ℕ)) (word : List ℕ) (k v : ℕ) where
  pub read-value : given_by fields word ≡ Some (k, v) → IsFieldValue fields word k v
  read-value h =
      let x = then-some (given_parts fields) (split_equals word) (k, v) h in
      let p = x.0 in
      let cut = cut-parts word p x.1 in
      let y = then-some (λ (n : ℕ). option_map (λ (w : ℕ). (n, w)) (number_in p.1)) (field_called fields p.0) (k, v) x.2 in
      let z = map-some (λ (w : ℕ). (y.0, w)) (number_in p.1) (k, v) y.2 in
      let pair = z.2 in
      let field : y.0 ≡ k = ap (λ (q : ℕ × ℕ). q.0) pair in
      let value : z.0 ≡ v = ap (λ (q : ℕ × ℕ). q.1) pair in
      let number = number-spelled p.1 z.0 z.1 in
      let named = field-found fields p.0 y.0 y.1 in
      let first : StandsFirst fields p.0 k = subst (StandsFirst fields p.0) field named in
      record {
        name = p.0;
        are = cut.0 ∙ ap (λ (r : List ℕ). p.0 ++ 61 ∷ r) (number.0 ∙ ap decimal value);
        first_equals = cut.1;
        named = first.0;
        first_named = first.1;
        fits = omega (arith, number.1);
      }

  pub value-read : IsFieldValue fields word k v → given_by fields word ≡ Some (k, v)
  value-read h =
      let at = named-place fields h.name k h.named h.first_named in
      let is = at.0 in
      let called : field_called fields h.name ≡ Some k = rw is (ap Some at.1) in
      let number = number-of v h.fits in
      ap (given_by fields) h.are
      ∙ ap (option_and_then (given_parts fields)) (parts-cut h.name (decimal v) h.first_equals)
      ∙ ap (option_and_then (λ (n : ℕ). option_map (λ (w : ℕ). (n, w)) (number_in (decimal v)))) called
      ∙ ap (option_map (λ (w : ℕ). (k, w))) number
