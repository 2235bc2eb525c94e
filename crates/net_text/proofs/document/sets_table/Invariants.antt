use Rattle.std.proofs.Common.{◌≡◌, take}
use Rattle.toml.specs.View.{table_view}
use Rattle.net_text.specs.Written.{sets_members}
use Rattle.net_text.proofs.document.sets_table.Given as goal

abbrev pub invariant-loop-set : goal.invariant-loop-set
invariant-loop-set l = table_view l.table ≡ sets_members (take l.set-index l.sets)
