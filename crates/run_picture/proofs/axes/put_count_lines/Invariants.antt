use Rattle.std.proofs.Common.{◌≡◌, ◌++◌, ℕ, drop, string_bytes}
use Rattle.std.specs.List.{flat_map}
use Rattle.run_picture.specs.Curves.{count_line, count_lines, count_place}
use Rattle.run_picture.specs.Ticks.{ticks}
use Rattle.run_picture.proofs.axes.put_count_lines.Given as goal

abbrev pub invariant-loop-count : goal.invariant-loop-count
invariant-loop-count l =
    string_bytes l.out ++ flat_map (λ (n : ℕ). count_line (count_place l.nodes n) n) (drop l.count-index l.count-items) ≡ string_bytes l.initial.out ++ count_lines l.nodes (ticks 0 l.nodes)
