-- How values are coloured.
use Rattle.std.specs.Prelude.{◌≡◌, ◌≢◌, ◌↔◌, ◌⊎◌, ◌<◌, ◌≤◌, ℕ, All, Contains, ◌+◌, ◌-◌, ◌*◌, ◌/◌, ◌==◌, ◌||◌, ◌&&◌, min, Bool, true, false, List, [], ◌∷◌, codes, if◌then◌else◌, length, nat_le, nat_lt, slice_get, slice_index, slice_index_or, take, Option, Some, None}
use Rattle.std.specs.List.{IsAmong, list_any, prefix_len, range_with_len}
use Rattle.std.specs.List.Sorted.{IsStrictlyIncreasing}
use Rattle.std.specs.Str.{bytes_eq}
use Rattle.run_picture.specs.declared.chosen.Colour.{Colour}
use Rattle.run_picture.specs.declared.chosen.ValueColour.{ValueColour}
use Rattle.run_picture.specs.Chosen.{StylesView, has_own, hex_text, is_dim, own_place}

-- the value that says that there is none
abbrev pub no_value : ℕ
no_value = 4294967295

-- what the colours of cells follow from
pub record KeyView : Type 0 where
  -- how values are shown
  pub styles : StylesView
  -- the values that are shown, rising, each once; where there are more than nine, the least nine
  pub values : List ℕ
  -- the greatest of all that are shown, or 0
  pub greatest : ℕ
  -- whether `no_value` is in a cell
  pub none : Bool

-- how many of rising values are below this one
abbrev pub rank : List ℕ → ℕ → ℕ
rank values v = prefix_len (λ x. nat_lt x v) values

-- how many states a field has whose values have these names: each value below this is one. A field has 256 states at most.
abbrev pub state_count : StylesView → ℕ
state_count styles = min 256 (length styles.names)

-- the value is one of the states, or says that there is none
abbrev pub IsState : StylesView → ℕ → Type 0
IsState styles v = (v < state_count styles) ⊎ (v ≡ no_value)

-- the value is shown: it is one of the states, whether or not a cell has it, or it is the value of a cell and does not say that there is none
abbrev pub IsShown : StylesView → List ℕ → ℕ → Type 0
IsShown styles cells v = (v < state_count styles) ⊎ (Contains cells v × (v ≢ no_value))

-- the key of cells whose values are shown in these styles
pub record IsKey (styles : StylesView) (cells : List ℕ) (key : KeyView) : Type 0 where
  pub same_styles : key.styles ≡ styles
  -- all values that are shown, rising, each once
  pub shown : List ℕ
  pub rising : IsStrictlyIncreasing shown
  pub each : (v : ℕ) → Contains shown v ↔ IsShown styles cells v
  -- the least nine of them; all of them where there are no more
  pub least : key.values ≡ take 9 shown
  -- the greatest of them, or 0 where there are none
  pub below : All (λ v. v ≤ key.greatest) shown
  pub reached : Contains shown key.greatest ⊎ (key.greatest ≡ 0)
  -- whether `no_value` is in a cell
  pub none : (key.none ≡ true) ↔ Contains cells no_value

-- there are so few values that each has a colour of its own
abbrev pub is_few : KeyView → Bool
is_few key = nat_le (length key.values) 8

-- the least value, or 0
abbrev pub least_of : KeyView → ℕ
least_of key = slice_index key.values 0

-- the step of a value, of 16 even ones from the least value to the greatest: how many sixteenths of the numbers between them lie below it (`Steps.AreSteps`)
abbrev pub step_of : KeyView → ℕ → ℕ
step_of key v = min 15 ((v - least_of key) * 16 / (key.greatest - least_of key + 1))

-- The number of a value's colour in the palette: 24 for `no_value`; where there is no value but 0 and 1, the value; where there are few values, how many are below this one, 0 to 7;
-- else 8 and its step, 8 to 23.
abbrev pub shade_of : KeyView → ℕ → ℕ
shade_of key v =
    if v == no_value then 24
    else if nat_le key.greatest 1 then v
    else if is_few key then rank key.values v
    else 8 + step_of key v

-- how many colours the palette has
abbrev pub class_count : ℕ
class_count = 25

-- The number of a value's colour: of a value that has a colour of its own, 25 and how many such values stand before it; of any other that in the palette.
abbrev pub class_of : KeyView → ℕ → ℕ
class_of key v = if has_own key.styles.colours v then class_count + own_place key.styles.colours v else shade_of key v

-- how many colours there are
abbrev pub class_total : KeyView → ℕ
class_total key = class_count + length key.styles.colours

-- The colours of values by their numbers. The first eight can be told apart by those who are colour-blind too (M. Okabe and K. Ito, Color universal design, 2008), but that the first is
-- nearly white, in place of their reddish purple. The next 16 are even steps of the scale viridis, from dark to bright.
abbrev pub colours : List (List ℕ)
colours =
    codes "#f0f0f0" ∷ codes "#000000" ∷ codes "#e69f00" ∷ codes "#56b4e9" ∷ codes "#009e73" ∷ codes "#f0e442" ∷ codes "#0072b2" ∷ codes "#d55e00"
    ∷ codes "#440154" ∷ codes "#481a6c" ∷ codes "#472f7d" ∷ codes "#414487" ∷ codes "#39568c" ∷ codes "#31688e" ∷ codes "#2a788e" ∷ codes "#23888e"
    ∷ codes "#1f988b" ∷ codes "#22a884" ∷ codes "#35b779" ∷ codes "#54c568" ∷ codes "#7ad151" ∷ codes "#a5db36" ∷ codes "#d2e21b" ∷ codes "#fde725" ∷ []

-- the colour of a number in the palette; that of `no_value` is grey
abbrev pub colour_of : ℕ → List ℕ
colour_of class = slice_index_or colours class (codes "#bbbbbb")

-- the palette has this colour
abbrev pub is_in_palette : Colour → Bool
is_in_palette colour = list_any (λ n. bytes_eq (colour_of n) (hex_text colour)) (range_with_len 0 class_count)

-- the colour that a value has for itself, where there is one
abbrev pub own_fill : Option ValueColour → List ℕ
own_fill (Some own) = hex_text own.colour
own_fill None = codes "#bbbbbb"

-- the colour of a number: in the palette, or that of the value that has it for itself
abbrev pub fill_of : KeyView → ℕ → List ℕ
fill_of key class = if nat_lt class class_count then colour_of class else own_fill (slice_get key.styles.colours (class - class_count))

-- black is not read on this colour of the palette
abbrev pub shade_is_dark : ℕ → Bool
shade_is_dark class = class == 1 || class == 6 || (nat_le 8 class && nat_le class 14)

-- black is not read on a colour that a value has for itself, where there is one
abbrev pub own_is_dark : Option ValueColour → Bool
own_is_dark (Some own) = is_dim own.colour
own_is_dark None = false

-- black is not read on this colour
abbrev pub is_dark : KeyView → ℕ → Bool
is_dark key class = if nat_lt class class_count then shade_is_dark class else own_is_dark (slice_get key.styles.colours (class - class_count))

-- a colour of writing that is read on this colour
abbrev pub ink_of : KeyView → ℕ → List ℕ
ink_of key class = if is_dark key class then codes "#ffffff" else codes "#000000"

-- ---- laws

-- Each picture has a key.
abbrev pub EachPictureHasAKey : Type 0
EachPictureHasAKey = (styles : StylesView) (cells : List ℕ) → (key : KeyView) × IsKey styles cells key

-- It has one key at most.
abbrev pub KeysAreOne : Type 0
KeysAreOne = (styles : StylesView) (cells : List ℕ) (key other : KeyView) → IsKey styles cells key → IsKey styles cells other → key ≡ other

-- Each value that is shown lies from the least to the greatest.
abbrev pub ValuesLieBetween : Type 0
ValuesLieBetween = (styles : StylesView) (cells : List ℕ) (key : KeyView) (v : ℕ) → IsKey styles cells key → IsShown styles cells v → (least_of key ≤ v) × (v ≤ key.greatest)

-- In a picture with few values two cells have the same class exactly where they have the same value.
abbrev pub SameClassSameValue : Type 0
SameClassSameValue =
    (styles : StylesView) (cells : List ℕ) (key : KeyView) (v w : ℕ) → IsKey styles cells key → length key.values ≤ 8 → IsAmong cells v → IsAmong cells w
    → (class_of key v ≡ class_of key w) ↔ (v ≡ w)

-- Two cells in a picture with few values, neither of whose values has a colour of its own, have the same colour exactly where they have the same value.
abbrev pub SameColourSameValue : Type 0
SameColourSameValue =
    (styles : StylesView) (cells : List ℕ) (key : KeyView) (v w : ℕ) → IsKey styles cells key → length key.values ≤ 8 → has_own styles.colours v ≡ false → has_own styles.colours w ≡ false
    → IsAmong cells v → IsAmong cells w → (fill_of key (class_of key v) ≡ fill_of key (class_of key w)) ↔ (v ≡ w)

-- Where a field has states, few enough for a colour each, a state has the same class in each picture whose values are states: it does not hang on which of them occur.
abbrev pub StatesKeepTheirColours : Type 0
StatesKeepTheirColours =
    (styles : StylesView) (cells others : List ℕ) (key other : KeyView) (v : ℕ) → state_count styles ≤ 8 → All (IsState styles) cells → All (IsState styles) others → IsKey styles cells key
    → IsKey styles others other → class_of key v ≡ class_of other v
