use Rattle.std.proofs.Common.{◌≡◌, ◌∙◌, ◌++◌, codes, string_bytes, ap}
use Rattle.std.specs.Fmt.{decimal}
use Rattle.std.specs.Option.{option_map}
use Rattle.rule_check.specs.Value.{names_of}
use Rattle.report_text.specs.Report.{fields_text}
use Rattle.unison_world.specs.Counting.{moves_of}
use Rattle.unison_world.specs.View.{state_of}
use Rattle.run_steps.specs.explain.Sentences.{called}
use Rattle.run_steps.proofs.explain.Texts.{joined}
use Rattle.run_steps.proofs.explain.sentences.put_moved.Goals as goal

pub returns : goal.returns
returns c =
    let w = c.args.world.now in
    let u = c.args.node in
    let names = names_of w.plan.program in
    let who = called (option_map (λ n. n.now) c.args.names) u in
    let fields = fields_text names (state_of w u).words in
    let round = codes ", its state of round " ++ decimal (moves_of w.counts u) in
    let out = string_bytes c.args.out.now in
    let one = string_bytes c.put_called.new.out in
    let two = string_bytes c.push_str.new.self in
    let three = string_bytes c.put_state.new.out in
    let four = string_bytes c.write.new.self in
    let third : three ≡ two ++ fields = c.in_ok-put_state.ensures.words ∙ ap (λ s. two ++ fields_text names s.words) c.state.ensures.state in
    let last : four ≡ three ++ round = c.in_ok-write.ensures.bytes ∙ ap (λ n. three ++ (codes ", its state of round " ++ decimal n)) c.moves-round.ensures.count in
    record {
      words = joined out one four who (codes " moves:" ++ (fields ++ round)) c.in_ok-put_called.ensures.words
          (joined one two four (codes " moves:") (fields ++ round) c.in_ok-push_str.ensures.bytes (joined two three four fields round third last));
    }
