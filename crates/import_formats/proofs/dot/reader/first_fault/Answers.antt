use Rattle.std.proofs.Common.{sym, ◌∙◌}
use Rattle.import_formats.specs.dot.View.{event_of, token_of, tokens_left}
use Rattle.import_formats.proofs.dot.EventSteps.{skip_good}
use Rattle.import_formats.proofs.dot.reader.first_fault.Goals as goal

pub loop-token-preserved : goal.loop-token-preserved
loop-token-preserved c = record {
  room = c.in-Some.ensures.room;
  read = sym (skip_good c.args.reading.undirected c.args.reading.factor c.loop-token.state c.in-Ok.next (event_of c.in-Ok.field-0-1) (token_of c.in-Some.token)
      (tokens_left c.loop-token.tokens) (tokens_left c.next_token.new.self) c.in-Some.ensures.tokens c.in-Ok.ensures)
      ∙ c.loop-token.invariant.read;
}
