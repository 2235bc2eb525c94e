use Rattle.std.proofs.Common.{◌≡◌, drop}
use Rattle.run_picture.specs.Keys.{is_among}
use Rattle.run_picture.proofs.key.is_among.Given as goal

abbrev pub invariant-loop-known : goal.invariant-loop-known
invariant-loop-known l = is_among (drop l.known-index l.values) l.value ≡ is_among l.values l.value
