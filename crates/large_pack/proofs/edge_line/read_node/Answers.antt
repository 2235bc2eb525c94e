use Rattle.large_pack.proofs.Numbers.{too_large}
use Rattle.large_pack.proofs.edge_line.read_node.Goals as goal

pub returns-in_default-clause-node : goal.returns-in_default-clause-node
returns-in_default-clause-node c = too_large c.args.word.now c.as_bytes.result.now c.in_default.field-0 c.is_whole.result c.in_default.ensures.value.0 c.as_bytes.ensures.value c.is_whole.ensures c.if-not-is_whole.false
