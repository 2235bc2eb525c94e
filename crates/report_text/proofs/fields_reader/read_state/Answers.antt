use Rattle.std.proofs.Common.{length, map}
use Rattle.std.proofs.lemmas.List.{length-map}
use Rattle.report_text.specs.ReadReport.{IsStateOf}
use Rattle.report_text.specs.Report.{fields_text}
use Rattle.report_text.proofs.Fronts.{line_open}
use Rattle.report_text.proofs.ReadNode.{states_once}
use Rattle.report_text.proofs.fields_reader.read_state.Goals as goal

pub returns-in_err-more : goal.returns-in_err-more
returns-in_err-more c = record {
  front = let names = map (λ f. f.now) c.args.fields.now in
      let fields = length c.args.fields.now in
      let once = states_once names fields (length-map c.args.fields.now (λ f. f.now)) c.requires.few in
      let read = c.in_ok-state.ensures.front in
      rw c.from_residual-in_err-more.ensures (line_open (λ s. fields_text names s.words) (IsStateOf fields) c.args.bytes.now c.in_ok-state.end.now c.in_ok-state.state once read.0 read.1 read.2 c.in_err-more.ensures);
}
