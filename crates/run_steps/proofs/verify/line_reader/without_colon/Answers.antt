use Rattle.std.proofs.Common.{lit<, ◌∙◌, ap}
use Rattle.std.proofs.lemmas.Str.Pattern.{strip_suffix_char}
use Rattle.run_steps.proofs.verify.Words.{colon}
use Rattle.run_steps.proofs.verify.line_reader.without_colon.Goals as goal

pub returns : goal.returns
returns c =
    ap (λ b. b.now) c.unwrap_or.ensures ∙ colon c.args.word c.strip_suffix.result (strip_suffix_char 58 c.args.word.now c.strip_suffix.result c.strip_suffix.ensures.cases (lit< tt))
