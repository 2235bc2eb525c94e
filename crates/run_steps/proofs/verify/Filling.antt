-- Values that are read from a state are those that its members give.
use Rattle.std.proofs.Common.{◌≡◌, ◌≢◌, ℕ, zero, suc, ◌+◌, ◌≤◌, ◌<◌, ◌^◌, true, nat_lt, List, [], ◌∷◌, length, set, slice_get, Option, Some, None, Ok, inl, inr, refl, sym, ap, ◌∙◌, arith}
use Rattle.std.proofs.lemmas.Bool.{cases_Bool}
use Rattle.std.proofs.lemmas.Bool.Decides.{nat_tests}
use Rattle.std.proofs.lemmas.List.{get_or-set_same, get_or-set_other, length-set}
use Rattle.serde_json.specs.Data.{Data, null, boolean, number, string, array, object, unsigned, negative, float}
use Rattle.serde_json.specs.Find.{get}
use Rattle.run_steps.specs.declared.verify.entry.Given.{Given}
use Rattle.run_steps.specs.verify.Fields.{and_then}
use Rattle.run_steps.specs.verify.Given.{value_given}
use Rattle.run_steps.specs.verify.Objects.{word_by, with_word, with_member, with_fields}
use Rattle.run_steps.proofs.verify.Choosing.{then-ok}

-- ---- numbers

-- a value that is read as a number is it
pub word-number : (d : Data) (v : ℕ) → word_by d ≡ Some v → (d ≡ number (unsigned v)) × (v < 2 ^ 32)
word-number (number (unsigned n)) v h =
    elim (cases_Bool (nat_lt n (2 ^ 32))) [
      | inl is ↦ (let some : Some n ≡ Some v = rw is at h in let same : n ≡ v = cc in (ap (λ (x : ℕ). number (unsigned x)) same, (let low : n < 2 ^ 32 = grind (arith, nat_tests) in omega arith)))
      | inr past ↦ (let none : ◌≡◌ {A = Option ℕ} None (Some v) = rw past at h in absurd (cc))
    ]
word-number (number (negative z)) v h = absurd (cc)
word-number (number (float x)) v h = absurd (cc)
word-number null v h = absurd (cc)
word-number (boolean b) v h = absurd (cc)
word-number (string s) v h = absurd (cc)
word-number (array ds) v h = absurd (cc)
word-number (object ms) v h = absurd (cc)

pub number-word : (v : ℕ) → v < 2 ^ 32 → word_by (number (unsigned v)) ≡ Some v
number-word v small = (let t : nat_lt v (2 ^ 32) ≡ true = grind (arith, nat_tests) in rw t refl)

-- ---- fields, one after another

-- what a member makes of a value
abbrev pub by_member : Option ℕ → Option Data → Option ℕ
by_member old None = old
by_member old (Some d) = word_by d

module _ (line : ℕ) (state : Data) where
  -- values behind fields of these names, the first of which is at place k
  pub record Fills (k : ℕ) (old : Given) (names : List (List ℕ)) (given : Given) : Type 0 where
    pub places : length given.values ≡ 8
    pub before : (l : ℕ) → l < k → value_given given l ≡ value_given old l
    pub behind : (l : ℕ) → k + length names ≤ l → value_given given l ≡ value_given old l
    pub at : (i : ℕ) (name : List ℕ) → slice_get names i ≡ Some name → value_given given (k + i) ≡ by_member (value_given old (k + i)) (get name state)
    pub good : (i : ℕ) (name : List ℕ) (d : Data) → slice_get names i ≡ Some name → get name state ≡ Some d → (v : ℕ) × (word_by d ≡ Some v)

  -- one field
  record FillsOne (k : ℕ) (old : Given) (member : Option Data) (given : Given) : Type 0 where
    places : length given.values ≡ 8
    others : (l : ℕ) → l ≢ k → value_given given l ≡ value_given old l
    at : value_given given k ≡ by_member (value_given old k) member
    good : (d : Data) → member ≡ Some d → (v : ℕ) × (word_by d ≡ Some v)

  fills-one : (k : ℕ) (old : Given) (member : Option Data) (given : Given) → k < 8 → length old.values ≡ 8 → with_member line old k member ≡ Ok given → FillsOne k old member given
  fills-one k old None given low wide h =
      let same : old ≡ given = cc in
      record {
        places = ap (λ (g : Given). length g.values) (sym same) ∙ wide;
        others = λ l other. ap (λ (g : Given). value_given g l) (sym same);
        at = ap (λ (g : Given). value_given g k) (sym same);
        good = λ d is. absurd (cc);
      }
  fills-one k old (Some d) given low wide h = by_word (word_by d) refl h where
    by_word : (o : Option ℕ) → word_by d ≡ o → with_word line old k o ≡ Ok given → FillsOne k old (Some d) given
    by_word None is e = absurd (cc)
    by_word (Some v) is e =
        let made : Given = record { values = set old.values k (Some v) } in
        let same : made ≡ given = cc in
        let within : k < length old.values = omega arith in
        record {
          places = ap (λ (g : Given). length g.values) (sym same) ∙ length-set old.values k (Some v) ∙ wide;
          others = λ l other. ap (λ (g : Given). value_given g l) (sym same) ∙ get_or-set_other old.values k l (Some v) None other;
          at = ap (λ (g : Given). value_given g k) (sym same) ∙ get_or-set_same old.values k (Some v) None within ∙ sym is;
          good = λ x own. (let e : d ≡ x = cc in (v, ap word_by (sym e) ∙ is));
        }

  pub fills : (names : List (List ℕ)) (k : ℕ) (old given : Given) → k + length names ≤ 8 → length old.values ≡ 8 → with_fields line state old k names ≡ Ok given → Fills k old names given
  fills [] k old given low wide h =
      let same : old ≡ given = cc in
      record {
        places = ap (λ (g : Given). length g.values) (sym same) ∙ wide;
        before = λ l less. ap (λ (g : Given). value_given g l) (sym same);
        behind = λ l more. ap (λ (g : Given). value_given g l) (sym same);
        at = λ i name is. absurd (cc);
        good = λ i name d is. absurd (cc);
      }
  fills (name ∷ names) k old given low wide h =
      let x = then-ok (with_member line old k (get name state)) (λ more. with_fields line state more (k + 1) names) given h in
      let one = fills-one k old (get name state) x.0 (omega arith) wide x.1 in
      let rest = fills names (k + 1) x.0 given (omega arith) one.places x.2 in
      record {
        places = rest.places;
        before = λ l less. rest.before l (omega arith) ∙ one.others l (λ same. omega arith);
        behind = λ l more. rest.behind l (omega arith) ∙ one.others l (λ same. omega arith);
        at = at one rest;
        good = good one rest;
      } where
        at : {more : Given} → FillsOne k old (get name state) more → Fills (k + 1) more names given → (i : ℕ) (n : List ℕ) → slice_get (name ∷ names) i ≡ Some n → value_given given (k + i) ≡ by_member (value_given old (k + i)) (get n state)
        at one rest zero n is =
            let same : name ≡ n = cc in
            let here : k + 0 ≡ k = omega arith in
            ap (value_given given) here ∙ rest.before k (omega arith) ∙ one.at ∙ ap (λ (m : List ℕ). by_member (value_given old k) (get m state)) same ∙ ap (λ l. by_member (value_given old l) (get n state)) (sym here)
        at one rest (suc i) n is =
            let here : k + suc i ≡ k + 1 + i = omega arith in
            ap (value_given given) here ∙ rest.at i n is ∙ ap (λ o. by_member o (get n state)) (one.others (k + 1 + i) (λ same. omega arith)) ∙ ap (λ l. by_member (value_given old l) (get n state)) (sym here)

        good : {more : Given} → FillsOne k old (get name state) more → Fills (k + 1) more names given → (i : ℕ) (n : List ℕ) (d : Data) → slice_get (name ∷ names) i ≡ Some n → get n state ≡ Some d → (v : ℕ) × (word_by d ≡ Some v)
        good one rest zero n d is found = (let same : name ≡ n = cc in one.good d (ap (λ (m : List ℕ). get m state) same ∙ found))
        good one rest (suc i) n d is found = rest.good i n d is found

  -- members that are numbers are read
  pub filling : (names : List (List ℕ)) (k : ℕ) (old : Given) → ((i : ℕ) (name : List ℕ) (d : Data) → slice_get names i ≡ Some name → get name state ≡ Some d → (v : ℕ) × (word_by d ≡ Some v)) → (given : Given) × (with_fields line state old k names ≡ Ok given)
  filling [] k old good = (old, refl)
  filling (name ∷ names) k old good =
      let one = by_member_of (get name state) (λ d found. good 0 name d refl found) in
      let rest = filling names (k + 1) one.0 (λ i n d is found. good (suc i) n d is found) in
      (rest.0, ap (λ r. and_then r (λ more. with_fields line state more (k + 1) names)) one.1 ∙ rest.1) where
        by_member_of : (o : Option Data) → ((d : Data) → o ≡ Some d → (v : ℕ) × (word_by d ≡ Some v)) → (given : Given) × (with_member line old k o ≡ Ok given)
        by_member_of None h = (old, refl)
        by_member_of (Some d) h = (let w = h d refl in (record { values = set old.values k (Some w.0) }, ap (with_word line old k) w.1))
