use Rattle.std.proofs.Common.{lit<}
use Rattle.std.proofs.lemmas.Str.Pattern.{split_once_first}
use Rattle.run_steps.proofs.verify.Words.{equals-split}
use Rattle.run_steps.proofs.verify.fields.split_equals.Goals as goal

pub returns : goal.returns
returns c = equals-split c.args.word.now c.split_once.result (split_once_first 61 c.args.word.now c.split_once.result c.split_once.ensures.cases (lit< tt))
