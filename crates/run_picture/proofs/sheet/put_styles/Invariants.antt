use Rattle.std.proofs.Common.{◌≡◌, ◌++◌, ◌-◌, string_bytes}
use Rattle.std.specs.List.{flat_map, range_with_len}
use Rattle.link_net.specs.Neighbours.{numbers_below}
use Rattle.run_picture.specs.Sheets.{class_style}
use Rattle.run_picture.proofs.sheet.put_styles.Given as goal

abbrev pub invariant-loop-class : goal.invariant-loop-class
invariant-loop-class l = string_bytes l.out ++ flat_map (class_style l.key) (range_with_len l.class (l.count - l.class)) ≡ string_bytes l.initial.out ++ flat_map (class_style l.key) (numbers_below l.count)
