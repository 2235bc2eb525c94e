-- The numbers that stand at an axis.
use Rattle.std.specs.Prelude.{◌≡◌, ◌↔◌, ◌⊎◌, ◌<◌, ◌≤◌, ℕ, ◌+◌, ◌-◌, ◌*◌, ◌/◌, ◌^◌, Contains, List, [], ◌∷◌, if◌then◌else◌, length, map, nat_le}
use Rattle.std.specs.List.{range_with_len}
use Rattle.std.specs.List.Sorted.{IsStrictlyIncreasing}

-- a step that an axis may have: 1, 2 or 5 times a power of ten
abbrev pub IsAxisStep : ℕ → Type 0
IsAxisStep step = (n : ℕ) × ((step ≡ 10 ^ n) ⊎ ((step ≡ 2 * 10 ^ n) ⊎ (step ≡ 5 * 10 ^ n)))

-- the number is a multiple of the step
abbrev pub IsMultiple : ℕ → ℕ → Type 0
IsMultiple step number = (times : ℕ) × (number ≡ times * step)

-- The numbers that stand at an axis from a first number to a last one: the multiples of a step that lie there, rising. The step is the least of which ten reach over the axis.
pub record AreTicks (first last : ℕ) (numbers : List ℕ) : Type 0 where
  pub step : ℕ
  pub even : IsAxisStep step
  pub reaching : last - first ≤ 10 * step
  pub least : (other : ℕ) → IsAxisStep other → last - first ≤ 10 * other → step ≤ other
  pub rising : IsStrictlyIncreasing numbers
  pub each : (n : ℕ) → Contains numbers n ↔ ((first ≤ n) × (n ≤ last) × IsMultiple step n)

-- ---- laws

-- Each axis of numbers of 32 bits has some.
abbrev pub EachAxisHasTicks : Type 0
EachAxisHasTicks = (first last : ℕ) → last < 2 ^ 32 → (numbers : List ℕ) × AreTicks first last numbers

-- An axis has these numbers and no others.
abbrev pub TicksAreOne : Type 0
TicksAreOne = (first last : ℕ) (numbers others : List ℕ) → AreTicks first last numbers → AreTicks first last others → numbers ≡ others

-- These are eleven at most.
abbrev pub TicksAreFew : Type 0
TicksAreFew = (first last : ℕ) (numbers : List ℕ) → AreTicks first last numbers → length numbers ≤ 11

-- ---- how they are found: for clauses of private functions alone

-- the steps that an axis may have, which goes over a number of 32 bits at most
abbrev pub axis_steps : List ℕ
axis_steps =
    1 ∷ 2 ∷ 5 ∷ 10 ∷ 20 ∷ 50 ∷ 100 ∷ 200 ∷ 500 ∷ 1000 ∷ 2000 ∷ 5000 ∷ 10000 ∷ 20000 ∷ 50000 ∷ 100000 ∷ 200000 ∷ 500000 ∷ 1000000 ∷ 2000000 ∷ 5000000 ∷ 10000000 ∷ 20000000
    ∷ 50000000 ∷ 100000000 ∷ 200000000 ∷ 500000000 ∷ []

-- the first of these steps of which ten reach over a distance, and 1000000000 where none does
abbrev pub first_step : List ℕ → ℕ → ℕ
first_step [] distance = 1000000000
first_step (step ∷ steps) distance = if nat_le distance (10 * step) then step else first_step steps distance

-- the step of an axis that goes over a distance
abbrev pub step_over : ℕ → ℕ
step_over distance = first_step axis_steps distance

-- how often a step goes into a number, rounded up
abbrev pub lowest_times : ℕ → ℕ → ℕ
lowest_times step number = (number + step - 1) / step

-- the multiples of a step from a first number to a last one
abbrev pub multiples : ℕ → ℕ → ℕ → List ℕ
multiples step first last = map (λ times. times * step) (range_with_len (lowest_times step first) (last / step + 1 - lowest_times step first))

-- the numbers that stand at an axis from a first number to a last one
unfoldable pub ticks : ℕ → ℕ → List ℕ
ticks first last = multiples (step_over (last - first)) first last
