use Rattle.std.proofs.Common.{◌≡◌, ◌++◌, ℕ, drop, string_bytes}
use Rattle.std.specs.List.{flat_map}
use Rattle.run_picture.specs.Curves.{round_line, round_lines, round_place}
use Rattle.run_picture.specs.Ticks.{ticks}
use Rattle.run_picture.proofs.axes.put_round_lines.Given as goal

abbrev pub invariant-loop-round : goal.invariant-loop-round
invariant-loop-round l =
    string_bytes l.out ++ flat_map (λ (t : ℕ). round_line (round_place l.span t) t) (drop l.round-index l.round-items) ≡ string_bytes l.initial.out ++ round_lines l.span (ticks l.span.first l.span.last)
