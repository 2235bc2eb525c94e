use Rattle.std.proofs.Common.{◌≡◌, ◌++◌, drop, string_bytes}
use Rattle.std.specs.List.{flat_map}
use Rattle.run_picture.specs.Curves.{curve_text}
use Rattle.run_picture.proofs.curves.put_each.Given as goal

abbrev pub invariant-loop-value : goal.invariant-loop-value
invariant-loop-value l =
    string_bytes l.out ++ flat_map (curve_text l.key l.rows) (drop l.value-index l.values) ≡ string_bytes l.initial.out ++ flat_map (curve_text l.key l.rows) l.values
