-- The fields of a program have different names.
use Rattle.std.proofs.Common.{◌≡◌, ℕ, zero, suc, Bool, true, false, ◌||◌, List, [], ◌∷◌, nat_lt, length, slice_get, Option, Some, None, inl, inr, refl, sym, ap, ◌∙◌}
use Rattle.std.specs.Str.{bytes_eq}
use Rattle.std.proofs.lemmas.Slice.Eq.{bytes_eq-Decides}
use Rattle.rule_check.specs.Value.{Rules, names_of}
use Rattle.rule_check.specs.WellFormed.{is_among, has_twice, first_fault}
use Rattle.run_steps.proofs.verify.Colons.{or-first, or-second}
use Rattle.run_steps.proofs.verify.Keys.{AreDistinct}
use Rattle.run_steps.proofs.script.Choosing.{choice}

-- a name that stands among others is one of them
stands-among : (names : List (List ℕ)) (i : ℕ) (name : List ℕ) → slice_get names i ≡ Some name → is_among names name ≡ true
stands-among [] i name h = absurd (cc)
stands-among (x ∷ xs) zero name h = (let same : x ≡ name = cc in or-first (bytes_eq x name) (is_among xs name) ((bytes_eq-Decides x name).1 same))
stands-among (x ∷ xs) (suc i) name h = or-second (bytes_eq x name) (is_among xs name) (stands-among xs i name h)

neither : (a b : Bool) → (a || b) ≡ false → (a ≡ false) × (b ≡ false)
neither true b h = absurd (cc)
neither false b h = (refl, h)

none-twice : (names : List (List ℕ)) → has_twice names ≡ false → AreDistinct names
none-twice [] h i j name a b = absurd (cc)
none-twice (x ∷ xs) h i j name a b = (let both = neither (is_among xs x) (has_twice xs) h in by_places both.0 (none-twice xs both.1) i j a b) where
  apart : is_among xs x ≡ false → (k : ℕ) → ◌≡◌ {A = Option (List ℕ)} (Some x) (Some name) → slice_get xs k ≡ Some name → ⊥
  apart no_other k one other =
      let same : x ≡ name = cc in
      let yes = stands-among xs k x (other ∙ sym one) in
      let bad : true ≡ false = sym yes ∙ no_other in
      cc

  by_places : is_among xs x ≡ false → AreDistinct xs → (i j : ℕ) → slice_get (x ∷ xs) i ≡ Some name → slice_get (x ∷ xs) j ≡ Some name → i ≡ j
  by_places lone rest zero zero a b = refl
  by_places lone rest zero (suc j) a b = absurd (apart lone j a b)
  by_places lone rest (suc i) zero a b = absurd (apart lone i b a)
  by_places lone rest (suc i) (suc j) a b = ap suc (rest i j name a b)

-- so it is in a program without a fault
pub fields-distinct : (rules : Rules) → first_fault rules ≡ None → AreDistinct (names_of rules)
fields-distinct rules h =
    elim (choice (nat_lt 8 (length rules.fields)) _ _ _ h) [
      | inl a ↦ (let e = a.1 in absurd (cc))
      | inr b ↦ elim (choice (has_twice (names_of rules)) _ _ _ b.1) [
        | inl a ↦ (let e = a.1 in absurd (cc))
        | inr c ↦ none-twice (names_of rules) c.0
      ]
    ]
