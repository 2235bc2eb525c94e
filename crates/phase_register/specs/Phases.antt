-- Clocks modulo three.
use Rattle.std.specs.Prelude.{ℕ, ◌+◌, ◌%◌}

-- one step on
abbrev pub next_phase : ℕ → ℕ
next_phase p = (p + 1) % 3
