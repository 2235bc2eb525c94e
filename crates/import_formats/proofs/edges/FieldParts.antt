-- The parts of records of two or three fields.
use Rattle.std.proofs.Common.{◌≡◌, ℕ, zero, suc, true, false, List, [], ◌∷◌, get_or, Option, Some, None, Ok, Err, Bor, refl, ◌∙◌}
use Rattle.std.specs.Prelude.{slice_get}
use Rattle.std.specs.Option.{option_map, option_copied, is_some}
use Rattle.csv.specs.Records.{field_at}
use Rattle.import_lines.specs.Parts.{parts_of}
use Rattle.import_lines.specs.declared.words_fault.WordsFault.TheVariants.{OneWord, TooManyWords}

-- the bytes that are lent
abbrev lent : Option (Bor (List ℕ)) → Option (List ℕ)
lent r = option_map (λ (s : Bor (List ℕ)). s.now) r

pub no_first : (fields : List (List ℕ)) → None ≡ field_at fields 0 → parts_of fields ≡ Err OneWord
unfolding field_at
no_first [] none = refl
no_first (a ∷ fields) none = cc

pub no_second : (fields : List (List ℕ)) → None ≡ field_at fields 1 → parts_of fields ≡ Err OneWord
unfolding field_at
no_second [] none = refl
no_second (a ∷ []) none = refl
no_second (a ∷ b ∷ fields) none = cc

pub a_fourth : (fields : List (List ℕ)) (r : Option (Bor (List ℕ))) → lent r ≡ field_at fields 3 → is_some r ≡ true → parts_of fields ≡ Err TooManyWords
unfolding field_at
a_fourth [] None at is = cc
a_fourth [] (Some s) at is = cc
a_fourth (a ∷ []) None at is = cc
a_fourth (a ∷ []) (Some s) at is = cc
a_fourth (a ∷ b ∷ []) None at is = cc
a_fourth (a ∷ b ∷ []) (Some s) at is = cc
a_fourth (a ∷ b ∷ c ∷ []) None at is = cc
a_fourth (a ∷ b ∷ c ∷ []) (Some s) at is = cc
a_fourth (a ∷ b ∷ c ∷ d ∷ fields) r at is = refl

pub all_parts : (fields : List (List ℕ)) (x y : List ℕ) (third fourth : Option (Bor (List ℕ))) → Some x ≡ field_at fields 0 → Some y ≡ field_at fields 1 → lent third ≡ field_at fields 2 → lent fourth ≡ field_at fields 3 → is_some fourth ≡ false → parts_of fields ≡ Ok (x, y, option_copied third)
unfolding field_at
all_parts [] x y third fourth first second at behind is = cc
all_parts (a ∷ []) x y third fourth first second at behind is = cc
all_parts (a ∷ b ∷ []) x y None fourth first second at behind is = cc
all_parts (a ∷ b ∷ []) x y (Some s) fourth first second at behind is = cc
all_parts (a ∷ b ∷ c ∷ []) x y None fourth first second at behind is = cc
all_parts (a ∷ b ∷ c ∷ []) x y (Some s) fourth first second at behind is = cc
all_parts (a ∷ b ∷ c ∷ d ∷ fields) x y third None first second at behind is = cc
all_parts (a ∷ b ∷ c ∷ d ∷ fields) x y third (Some s) first second at behind is = cc

-- the field at a place
pub field_here : (fields : List (List ℕ)) (place : ℕ) (x : List ℕ) → Some x ≡ field_at fields place → get_or fields place [] ≡ x
unfolding field_at
field_here [] place x is = cc
field_here (f ∷ fields) zero x is = cc
field_here (f ∷ fields) (suc place) x is = field_here fields place x is

pub field_gone : (fields : List (List ℕ)) (place : ℕ) → None ≡ field_at fields place → get_or fields place [] ≡ []
unfolding field_at
field_gone [] place is = refl
field_gone (f ∷ fields) zero is = cc
field_gone (f ∷ fields) (suc place) is = field_gone fields place is

field_at_is : (fields : List (List ℕ)) (column : ℕ) → field_at fields column ≡ slice_get fields column
unfolding field_at
field_at_is [] column = refl
field_at_is (f ∷ fields) zero = refl
field_at_is (f ∷ fields) (suc column) = field_at_is fields column

-- the field in a column, as it is lent
pub field_lent : (fields : List (List ℕ)) (column : ℕ) (r : Option (Bor (List ℕ))) → lent r ≡ field_at fields column → option_copied r ≡ slice_get fields column
field_lent fields column None is = is ∙ field_at_is fields column
field_lent fields column (Some s) is = is ∙ field_at_is fields column
