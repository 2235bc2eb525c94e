use Rattle.std.proofs.Common.{◌≡◌, map, take}
use Rattle.toml.specs.View.{view}
use Rattle.net_text.specs.Written.{pair_data}
use Rattle.net_text.proofs.document.pairs_value.Given as goal

abbrev pub invariant-loop-pair : goal.invariant-loop-pair
invariant-loop-pair l = map view l.items.items ≡ map pair_data (take l.pair-index l.pairs)
