-- What stands at the front of a text.
use Rattle.std.specs.Prelude.{◌≡◌, ◌≢◌, ℕ, List, ◌++◌, Option, Some, None}
use Rattle.std.specs.Char.{is_ascii_digit}
use Rattle.rule_lang.specs.Tokens.{StopsAt}

-- the bytes end, or go on with a byte that is no digit
abbrev pub Ends : List ℕ → Type 0
Ends bytes = StopsAt is_ascii_digit bytes

-- whatever stands after
abbrev pub Anything : List ℕ → Type 0
Anything bytes = Unit {0}

-- found: the bytes are the spelling of a fitting value, and what stands after it; none: no spelling of a fitting value stands at the front
abbrev pub IsFront : {X : Type 0} → (X → List ℕ) → (X → Type 0) → (List ℕ → Type 0) → List ℕ → Option (X × List ℕ) → Type 0
IsFront {X} spell Fits Behind bytes (Some found) = (bytes ≡ spell found.0 ++ found.1) × Fits found.0 × Behind found.1
IsFront {X} spell Fits Behind bytes None = (value : X) (behind : List ℕ) → Fits value → Behind behind → bytes ≢ spell value ++ behind
