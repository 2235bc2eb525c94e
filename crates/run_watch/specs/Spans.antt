-- Which rounds are watched.
use Rattle.std.specs.Prelude.{ℕ, ◌+◌, ◌-◌, ◌*◌, ◌/◌, ◌≤◌, List, map}
use Rattle.std.specs.List.{range_with_len}

-- rounds from the first on, every so many, up to the last
pub record SpanView : Type 0 where
  pub first : ℕ
  pub last : ℕ
  pub every : ℕ

-- what holds of every span
pub record IsSpan (s : SpanView) : Type 0 where
  pub order : s.first ≤ s.last
  pub some : 1 ≤ s.every

-- how many rounds there are: the first, and as many more as the way to the last has room for
abbrev pub count_of : SpanView → ℕ
count_of s = (s.last - s.first) / s.every + 1

-- the round at a place, counted from 0
abbrev pub round_at : SpanView → ℕ → ℕ
round_at s place = s.first + place * s.every

-- the rounds in order
abbrev pub rounds_in : SpanView → List ℕ
rounds_in s = map (round_at s) (range_with_len 0 (count_of s))
