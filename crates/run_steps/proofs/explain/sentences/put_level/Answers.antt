use Rattle.std.proofs.Common.{codes, string_bytes}
use Rattle.rule_check.specs.Value.{names_of}
use Rattle.report_text.specs.Report.{fields_text}
use Rattle.run_steps.proofs.explain.Texts.{joined}
use Rattle.run_steps.proofs.explain.sentences.put_level.Goals as goal

pub returns : goal.returns
returns c =
    let fields = fields_text (names_of c.args.world.now.plan.program) c.args.taken.words in
    record {
      words = joined (string_bytes c.args.out.now) (string_bytes c.push_str.new.self) (string_bytes c.put_state.new.out) (codes ", which has moved as often: takes") fields c.in_ok-push_str.ensures.bytes c.in_ok-put_state.ensures.words;
    }
