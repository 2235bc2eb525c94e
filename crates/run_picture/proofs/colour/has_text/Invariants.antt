use Rattle.std.proofs.Common.{◌≡◌, ℕ, false, take}
use Rattle.std.specs.List.{list_any, range_with_len}
use Rattle.std.specs.Str.{bytes_eq}
use Rattle.run_picture.specs.Shades.{class_count, colour_of}
use Rattle.run_picture.proofs.colour.has_text.Given as goal

abbrev pub invariant-loop-class : goal.invariant-loop-class
invariant-loop-class l = list_any (λ (n : ℕ). bytes_eq (colour_of n) l.text) (take l.class (range_with_len 0 class_count)) ≡ false
