-- The 16 steps of the scale on which many values are shown.
use Rattle.std.specs.Prelude.{◌≡◌, ◌⊎◌, ◌<◌, ◌≤◌, ℕ, ◌+◌, ◌-◌, ◌*◌, ◌/◌, ◌==◌, List, false, nat_lt}
use Rattle.std.specs.List.{count_by, range_with_len}
use Rattle.run_picture.specs.Chosen.{StylesView}
use Rattle.run_picture.specs.Shades.{IsKey, KeyView, is_few, least_of, step_of}

-- These are the steps of so many numbers from a least one on: they rise with the numbers, and the first s of the 16 steps, for each s, have together s sixteenths of the numbers, rounded
-- up.
pub record AreSteps (least width : ℕ) (step : ℕ → ℕ) : Type 0 where
  pub rising : (v w : ℕ) → least ≤ v → v ≤ w → w < least + width → step v ≤ step w
  pub shares : (s : ℕ) → s ≤ 16 → count_by (λ v. nat_lt (step v) s) (range_with_len least width) ≡ (s * width + 15) / 16

-- how many numbers lie from the least value to the greatest
abbrev pub width_of : KeyView → ℕ
width_of key = key.greatest - least_of key + 1

-- how many of these have a step
abbrev pub share_of : KeyView → ℕ → ℕ
share_of key s = count_by (λ v. step_of key v == s) (range_with_len (least_of key) (width_of key))

-- ---- laws

-- The steps of a scale are those of the numbers from its least value to its greatest.
abbrev pub StepsAreEven : Type 0
StepsAreEven = (key : KeyView) → least_of key ≤ key.greatest → AreSteps (least_of key) (width_of key) (step_of key)

-- Numbers have these steps and no others.
abbrev pub StepsAreOne : Type 0
StepsAreOne =
    (least width : ℕ) (step other : ℕ → ℕ) (v : ℕ) → AreSteps least width step → AreSteps least width other → least ≤ v → v < least + width → step v ≡ other v

-- A scale, on which a picture has more values than eight, goes over nine numbers at least.
abbrev pub ScalesAreWide : Type 0
ScalesAreWide = (styles : StylesView) (cells : List ℕ) (key : KeyView) → IsKey styles cells key → is_few key ≡ false → (least_of key ≤ key.greatest) × (9 ≤ width_of key)

-- Each of the 16 steps has a sixteenth of the numbers, rounded down or up.
abbrev pub EachStepHasItsShare : Type 0
EachStepHasItsShare = (key : KeyView) (s : ℕ) → least_of key ≤ key.greatest → s < 16 → (share_of key s ≡ width_of key / 16) ⊎ (share_of key s ≡ (width_of key + 15) / 16)

-- The least value has step 0. The greatest has step 15 where there are 16 numbers or more, and step 14 where there are 9 to 15.
pub record StepsHaveEnds (key : KeyView) : Type 0 where
  pub first : step_of key (least_of key) ≡ 0
  pub last : 16 ≤ width_of key → step_of key key.greatest ≡ 15
  pub short : 9 ≤ width_of key → width_of key < 16 → step_of key key.greatest ≡ 14

abbrev pub StepsGoFromEndToEnd : Type 0
StepsGoFromEndToEnd = (key : KeyView) → least_of key ≤ key.greatest → StepsHaveEnds key
