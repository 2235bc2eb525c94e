-- The place of a name that is no field's.
use Rattle.std.proofs.Common.{◌≡◌, ℕ, ◌+◌, List, [], ◌∷◌, length, suc, add-one, refl, ap, ◌∙◌, false, true}
use Rattle.std.specs.Prelude.{Bool, ◌||◌, if◌then◌else◌, Option, Some, None}
use Rattle.std.specs.Str.{bytes_eq}
use Rattle.rule_check.specs.Value.{place}
use Rattle.rule_check.specs.WellFormed.{is_among}

behind : (b : Bool) (rest : Bool) (p n : ℕ) → (b || rest) ≡ false → (rest ≡ false → p ≡ n) → (if b then 0 else p + 1) ≡ suc n
behind true rest p n none same = cc
behind false rest p n none same = ap (λ k. k + 1) (same none) ∙ add-one n

-- it is the number of the names
pub place_past : (names : List (List ℕ)) (name : List ℕ) → is_among names name ≡ false → place names name ≡ length names
place_past [] name none = refl
place_past (x ∷ xs) name none = behind (bytes_eq x name) (is_among xs name) (place xs name) (length xs) none (place_past xs name)

not_there : (b : Bool) (n : ℕ) (found : Option ℕ) → found ≡ None → found ≡ (if b then Some n else None) → b ≡ false
not_there true n found none is = cc
not_there false n found none is = refl

-- of a name that is not found
pub place_none : (names : List (List ℕ)) (name : List ℕ) (found : Option ℕ) → found ≡ None → found ≡ (if is_among names name then Some (place names name) else None) → place names name ≡ length names
place_none names name found none is = place_past names name (not_there (is_among names name) (place names name) found none is)
