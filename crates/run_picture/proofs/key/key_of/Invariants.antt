use Rattle.std.proofs.Common.{◌≡◌, drop}
use Rattle.run_picture.specs.Keys.{key_from, key_of}
use Rattle.run_picture.proofs.key.key_of.Given as goal

abbrev pub invariant-loop-cell : goal.invariant-loop-cell
invariant-loop-cell l = key_from l.key (drop l.cell-index l.cells) ≡ key_of l.styles l.cells
