use Rattle.std.proofs.Common.{◌≡◌, drop, map, max, string_bytes}
use Rattle.run_picture.specs.Chosen.{longest}
use Rattle.run_picture.proofs.legend.longest.Given as goal

abbrev pub invariant-loop-name : goal.invariant-loop-name
invariant-loop-name l = max l.most (longest (map string_bytes (drop l.name-index l.names))) ≡ longest (map string_bytes l.names)
