-- The place of a name among the names of fields.
use Rattle.std.proofs.Common.{◌≡◌, ℕ, ◌+◌, List, [], ◌∷◌, length, suc, add-one, refl, ap, sym, ◌∙◌, arith}
use Rattle.std.specs.Prelude.{Bool, true, false, ◌||◌, if◌then◌else◌, nat_lt}
use Rattle.std.specs.Str.{bytes_eq}
use Rattle.std.proofs.lemmas.Bool.Decides.{nat_tests}
use Rattle.rule_check.specs.declared.parts.Field.{Field}
use Rattle.rule_check.specs.Value.{place}
use Rattle.rule_check.specs.WellFormed.{is_among}
use Rattle.rule_check.specs.Fields.{field_names}

one_less : (a b : ℕ) → nat_lt a b ≡ nat_lt (a + 1) (b + 1)
one_less a b = grind (arith, nat_tests)

step : (b : Bool) (p n m : ℕ) → m ≡ n + 1 → (b || nat_lt p n) ≡ nat_lt (if b then 0 else p + 1) m
step true p n m e = grind (arith, nat_tests)
step false p n m e = one_less p n ∙ ap (nat_lt (p + 1)) (sym e)

-- a name is among the fields' names where its place is that of a field
pub among_by_place : (fields : List Field) (name : List ℕ) → is_among (field_names fields) name ≡ nat_lt (place (field_names fields) name) (length fields)
among_by_place [] name = refl
among_by_place (f ∷ fs) name = ap (λ b. bytes_eq f.name name || b) (among_by_place fs name) ∙ step (bytes_eq f.name name) (place (field_names fs) name) (length fs) (suc (length fs)) (sym (add-one (length fs)))
