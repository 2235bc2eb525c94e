-- A set among sets by rising names.
use Rattle.std.proofs.Common.{◌≡◌, ◌≢◌, ℕ, ◌+◌, ◌<◌, ◌≤◌, Bool, true, false, ◌||◌, List, [], ◌∷◌, map, length, get_or, take, set, Some, Ordering, Less, Equal, Greater, nat_cmp, refl, ap, sym, subst, ◌∙◌, inl, inr, arith, zero, suc, if◌then◌else◌}
use Rattle.std.specs.List.{insert, AllByRecursion}
use Rattle.std.specs.List.Sorted.{IsStrictlySortedBy}
use Rattle.std.specs.Cmp.{tied_itself}
use Rattle.std.specs.Cmp.Lexicographic.{slice_cmp}
use Rattle.std.specs.Ordering.{ordering_reverse}
use Rattle.std.specs.Str.{bytes_eq}
use Rattle.std.proofs.lemmas.Bool.{cases_Bool, or_parts}
use Rattle.std.proofs.lemmas.Cmp.{nat_list_cmp_total}
use Rattle.std.proofs.lemmas.Map.Lookups.{exact_bytes}
use Rattle.std.proofs.lemmas.Slice.Eq.{bytes_eq-Decides}
use Rattle.std.proofs.lemmas.List.Folds.{list_any_more}
use Rattle.link_net.specs.declared.field_set.FieldSet.{FieldSet}
use Rattle.link_net.specs.Names.{AreRising}
use Rattle.net_initial.specs.declared.opening.Opening.{Opening}
use Rattle.net_initial.specs.Opened.{set_at, set_after, opened_set, is_named, is_undefined, has_undefined, pairs_at}
use Rattle.net_initial.specs.Placed.{put_set}

abbrev cmp : List ℕ → List ℕ → Ordering
cmp a b = slice_cmp nat_cmp a b

turned : (a b : List ℕ) → cmp a b ≡ Less → cmp b a ≡ Greater
turned a b h = nat_list_cmp_total.antisymm b a ∙ ap ordering_reverse h

turned_back : (a b : List ℕ) → cmp a b ≡ Greater → cmp b a ≡ Less
turned_back a b h = nat_list_cmp_total.antisymm b a ∙ ap ordering_reverse h

equal_names : (a b : List ℕ) → bytes_eq a b ≡ true → a ≡ b
equal_names a b h = (bytes_eq-Decides a b).0 h

same_names : (a b : List ℕ) → a ≡ b → bytes_eq a b ≡ true
same_names a b h = (bytes_eq-Decides a b).1 h

-- ---- where the set goes

abbrev Below : FieldSet → List FieldSet → ℕ → Type 0
Below s sets p = (k : ℕ) (d : FieldSet) → k < p → cmp (get_or sets k d).name s.name ≡ Less

later : (s t : FieldSet) (ts : List FieldSet) (p : ℕ) → Below s (t ∷ ts) (suc p) → Below s ts p
later s t ts p below k d low = below (suc k) d (omega arith)

pub put_equal : (s : FieldSet) (sets : List FieldSet) (p : ℕ) (d : FieldSet) → p < length sets → Below s sets p → bytes_eq (get_or sets p d).name s.name ≡ true → set sets p s ≡ put_set s sets
put_equal s [] p d low below same = absurd (omega arith)
put_equal s (t ∷ ts) zero d low below same =
    let is : s.name ≡ t.name = sym (equal_names t.name s.name same) in
    let tie : cmp s.name t.name ≡ Equal = rw is (tied_itself nat_list_cmp_total t.name) in
    rw tie refl
put_equal s (t ∷ ts) (suc p) d low below same =
    let above : cmp s.name t.name ≡ Greater = turned t.name s.name (below 0 d (omega arith)) in
    rw above (ap (λ r. t ∷ r) (put_equal s ts p d (omega arith) (later s t ts p below) same))

not_equal : (a b : List ℕ) → cmp a b ≢ Less → bytes_eq a b ≡ false → cmp b a ≡ Less
not_equal a b less same = at (cmp a b) refl where
  at : (o : Ordering) → cmp a b ≡ o → cmp b a ≡ Less
  at Less e = absurd (less e)
  at Equal e = let bad = same_names a b (exact_bytes a b e) in cc
  at Greater e = turned_back a b e

pub put_new : (s : FieldSet) (sets : List FieldSet) (p : ℕ) → p ≤ length sets → Below s sets p
    → ((d : FieldSet) → p < length sets → cmp (get_or sets p d).name s.name ≢ Less) → ((d : FieldSet) → p < length sets → bytes_eq (get_or sets p d).name s.name ≡ false) → insert sets p s ≡ put_set s sets
put_new s [] zero low below stops other = refl
put_new s [] (suc p) low below stops other = absurd (omega arith)
put_new s (t ∷ ts) zero low below stops other =
    let less : cmp s.name t.name ≡ Less = not_equal t.name s.name (stops t (omega arith)) (other t (omega arith)) in
    rw less refl
put_new s (t ∷ ts) (suc p) low below stops other =
    let above : cmp s.name t.name ≡ Greater = turned t.name s.name (below 0 t (omega arith)) in
    rw above (ap (λ r. t ∷ r) (put_new s ts p (omega arith) (later s t ts p below) (λ d h. stops d (omega arith)) (λ d h. other d (omega arith))))

-- ---- the sets still rise

above_put : (n : List ℕ) (s : FieldSet) (sets : List FieldSet) → AllByRecursion (λ y. cmp n y ≡ Less) (map (λ s. s.name) sets) → cmp n s.name ≡ Less → AllByRecursion (λ y. cmp n y ≡ Less) (map (λ s. s.name) (put_set s sets))
above_put n s [] all less = (less, tt)
above_put n s (t ∷ ts) all less = at (cmp s.name t.name) refl (above_put n s ts all.1 less) where
  at : (o : Ordering) → cmp s.name t.name ≡ o → AllByRecursion (λ y. cmp n y ≡ Less) (map (λ s. s.name) (put_set s ts)) → AllByRecursion (λ y. cmp n y ≡ Less) (map (λ s. s.name) (put_set s (t ∷ ts)))
  at Less e rest = rw e (less, all)
  at Equal e rest = rw e (less, all.1)
  at Greater e rest = rw e (all.0, rest)

below_all : (m n : List ℕ) (sets : List FieldSet) → cmp m n ≡ Less → AllByRecursion (λ y. cmp n y ≡ Less) (map (λ s. s.name) sets) → AllByRecursion (λ y. cmp m y ≡ Less) (map (λ s. s.name) sets)
below_all m n [] less all = tt
below_all m n (t ∷ ts) less all = (nat_list_cmp_total.trans m n t.name less all.0, below_all m n ts less all.1)

pub put_rises : (s : FieldSet) (sets : List FieldSet) → AreRising sets → AreRising (put_set s sets)
unfolding IsStrictlySortedBy
put_rises s [] rise = (tt, tt)
put_rises s (t ∷ ts) rise = at (cmp s.name t.name) refl (put_rises s ts rise.1) where
  at : (o : Ordering) → cmp s.name t.name ≡ o → AreRising (put_set s ts) → AreRising (put_set s (t ∷ ts))
  at Less e rest = rw e ((e, below_all s.name t.name ts e rise.0), rise)
  at Equal e rest = let is : t.name ≡ s.name = sym (exact_bytes s.name t.name e) in rw e (subst (λ n. AllByRecursion (λ y. cmp n y ≡ Less) (map (λ s. s.name) ts)) is rise.0, rise.1)
  at Greater e rest = rw e (above_put t.name s ts rise.0 (turned_back s.name t.name e), rest)

-- ---- what is found

clash : Equal ≡ Greater → ⊥
clash h = cc

other_name : (s t : FieldSet) (f : List ℕ) → cmp s.name t.name ≡ Greater → bytes_eq t.name f ≡ true → bytes_eq s.name f ≡ false
other_name s t f e hit =
    elim (cases_Bool (bytes_eq s.name f)) [
      | inl both ↦
          let is : s.name ≡ t.name = equal_names s.name f both ∙ sym (equal_names t.name f hit) in
          let tie : cmp s.name t.name ≡ Equal = rw is (tied_itself nat_list_cmp_total t.name) in
          absurd (clash (sym tie ∙ e))
      | inr miss ↦ miss
    ]

pub put_found : (s : FieldSet) (sets : List FieldSet) (f : List ℕ) → set_at (put_set s sets) f ≡ (if bytes_eq s.name f then Some s else set_at sets f)
put_found s [] f = refl
put_found s (t ∷ ts) f = at (cmp s.name t.name) refl (put_found s ts f) where
  at : (o : Ordering) → cmp s.name t.name ≡ o → set_at (put_set s ts) f ≡ (if bytes_eq s.name f then Some s else set_at ts f) → set_at (put_set s (t ∷ ts)) f ≡ (if bytes_eq s.name f then Some s else set_at (t ∷ ts) f)
  at Less e rest = rw e refl
  at Equal e rest =
      let is : t.name ≡ s.name = sym (exact_bytes s.name t.name e) in
      let alike : bytes_eq t.name f ≡ bytes_eq s.name f = ap (λ n. bytes_eq n f) is in
      elim (cases_Bool (bytes_eq s.name f)) [
        | inl hit ↦ rw (e, hit) refl
        | inr miss ↦ rw (e, alike, miss) refl
      ]
  at Greater e rest =
      elim (cases_Bool (bytes_eq t.name f)) [
        | inl hit ↦ rw (e, hit, other_name s t f e hit) refl
        | inr miss ↦ rw (e, miss) rest
      ]

-- ---- one more opening

module _ (n : ℕ) (sets : List FieldSet) (openings : List Opening) (i : ℕ) (d : Opening) (low : i < length openings) where
  named_more : (f : List ℕ) → is_named (take (i + 1) openings) f ≡ (is_named (take i openings) f || bytes_eq (get_or openings i d).field f)
  named_more f = list_any_more (λ o. bytes_eq o.field f) openings i d low

  or_true : (b : Bool) → (b || true) ≡ true
  or_true true = refl
  or_true false = refl

  or_false : (b : Bool) → (b || false) ≡ b
  or_false true = refl
  or_false false = refl

  pub named_before : (f : List ℕ) → is_named (take i openings) (get_or openings i d).field ≡ true → set_after n sets openings (take i openings) f ≡ set_after n sets openings (take (i + 1) openings) f
  named_before f before =
      elim (cases_Bool (bytes_eq (get_or openings i d).field f)) [
        | inl hit ↦
            let is : (get_or openings i d).field ≡ f = equal_names (get_or openings i d).field f hit in
            let here : is_named (take i openings) f ≡ true = rw is at before in
            rw (named_more f, here) refl
        | inr miss ↦ rw (named_more f, miss, or_false (is_named (take i openings) f)) refl
      ]

  pub named_now : (opened : List FieldSet) → ((f : List ℕ) → set_at opened f ≡ set_after n sets openings (take i openings) f)
      → (f : List ℕ) → set_at (put_set (opened_set n sets openings (get_or openings i d).field) opened) f ≡ set_after n sets openings (take (i + 1) openings) f
  named_now opened each f =
      elim (cases_Bool (bytes_eq (get_or openings i d).field f)) [
        | inl hit ↦
            let is : (get_or openings i d).field ≡ f = equal_names (get_or openings i d).field f hit in
            rw (put_found (opened_set n sets openings (get_or openings i d).field) opened f, named_more f, hit, or_true (is_named (take i openings) f)) (ap (λ g. Some (opened_set n sets openings g)) is)
        | inr miss ↦
            rw (put_found (opened_set n sets openings (get_or openings i d).field) opened f, named_more f, miss, or_false (is_named (take i openings) f)) (each f)
      ]

  pub defined_more : has_undefined n sets (take i openings) ≡ false → is_undefined n (pairs_at sets (get_or openings i d).field) ≡ false → has_undefined n sets (take (i + 1) openings) ≡ false
  defined_more before here = list_any_more (λ o. is_undefined n (pairs_at sets o.field)) openings i d low ∙ rw (before, here) refl

defined_named : (n : ℕ) (sets : List FieldSet) (os : List Opening) (f : List ℕ) → has_undefined n sets os ≡ false → is_named os f ≡ true → is_undefined n (pairs_at sets f) ≡ false
defined_named n sets [] f fine named = cc
defined_named n sets (o ∷ os) f fine named =
    let parts = or_parts (is_undefined n (pairs_at sets o.field)) (has_undefined n sets os) fine in
    elim (cases_Bool (bytes_eq o.field f)) [
      | inl hit ↦ let is : o.field ≡ f = equal_names o.field f hit in rw is at parts.0
      | inr miss ↦ let after : is_named os f ≡ true = rw miss at named in defined_named n sets os f parts.1 after
    ]

pub defined_before : (n : ℕ) (sets : List FieldSet) (openings : List Opening) (i : ℕ) (d : Opening) → i < length openings → has_undefined n sets (take i openings) ≡ false → is_named (take i openings) (get_or openings i d).field ≡ true
    → has_undefined n sets (take (i + 1) openings) ≡ false
defined_before n sets openings i d low fine named =
    defined_more n sets openings i d low fine (defined_named n sets (take i openings) (get_or openings i d).field fine named)

-- a set that is there has one name
pub any_other : (n : List ℕ) (sets : List FieldSet) (p : ℕ) (e : FieldSet) → bytes_eq (get_or sets p e).name n ≡ false → (d : FieldSet) → p < length sets → bytes_eq (get_or sets p d).name n ≡ false
any_other n [] p e h d low = absurd (omega arith)
any_other n (t ∷ ts) zero e h d low = h
any_other n (t ∷ ts) (suc p) e h d low = any_other n ts p e h d (omega arith)
