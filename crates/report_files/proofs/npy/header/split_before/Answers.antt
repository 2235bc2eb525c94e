use Rattle.std.proofs.Common.{◌==◌, not, arith}
use Rattle.std.proofs.lemmas.List.Sums.{prefix_len-le-length}
use Rattle.rule_lang.proofs.Bytes.{split_is}
use Rattle.report_files.proofs.npy.header.split_before.Goals as goal

pub split_at-requires : goal.split_at-requires
split_at-requires c = let h = prefix_len-le-length (λ b. not (b == c.args.byte)) c.args.bytes.now in let e = c.length_before.ensures in omega arith

pub returns : goal.returns
returns c = split_is (λ b. not (b == c.args.byte)) c.args.bytes.now c.split_at.result.0.now c.split_at.result.1.now c.length_before.result c.length_before.ensures c.split_at.ensures.front c.split_at.ensures.back
