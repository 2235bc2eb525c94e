use Rattle.std.proofs.Common.{◌≡◌, ◌++◌, ◌+◌, ◌-◌, ◌*◌, ◌/◌, ℕ, map}
use Rattle.std.specs.List.{range_with_len}
use Rattle.run_picture.specs.Ticks.{multiples}
use Rattle.run_picture.proofs.axes.multiples.Given as goal

abbrev pub invariant-loop-times : goal.invariant-loop-times
invariant-loop-times l =
    l.numbers.items ++ map (λ (times : ℕ). times * l.step) (range_with_len l.times (l.last / l.step + 1 - l.times)) ≡ multiples l.step l.first l.last
