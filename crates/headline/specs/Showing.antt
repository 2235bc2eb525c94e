-- What a node of a world shows.
use Rattle.std.specs.Prelude.{ℕ, ◌+◌, ◌%◌}
use Rattle.unison_world.specs.Counting.{moves_of}
use Rattle.unison_world.specs.View.{WorldView, state_of}
use Rattle.headline.specs.declared.steps.Shown.{Shown}

-- its count, its phase and its state
abbrev pub shown_in : WorldView → ℕ → Shown
shown_in w u = record { moves = moves_of w.counts u; phase = (w.plan.phase + moves_of w.counts u) % 3; state = state_of w u }
