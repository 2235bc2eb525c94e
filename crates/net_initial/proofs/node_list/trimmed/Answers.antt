use Rattle.std.proofs.Common.{refl}
use Rattle.std.proofs.lemmas.Str.Ascii.{trim_ascii_is}
use Rattle.net_initial.specs.NodeLists.{begun}
use Rattle.net_initial.proofs.node_list.trimmed.Goals as goal

pub returns : goal.returns
returns c = trim_ascii_is c.args.line.now c.trim_ascii.result.now (begun c.args.line.now) refl c.trim_ascii.ensures.value
