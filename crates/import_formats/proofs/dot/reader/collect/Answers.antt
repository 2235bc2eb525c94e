use Rattle.std.proofs.Common.{◌∙◌}
use Rattle.import_formats.specs.dot.View.{event_of, token_of, tokens_left}
use Rattle.import_formats.proofs.dot.EventSteps.{built_more}
use Rattle.import_formats.proofs.dot.reader.collect.Goals as goal

pub loop-token-preserved : goal.loop-token-preserved
loop-token-preserved c = record {
  room = c.in-Some.ensures.room;
  bound = c.in_ok-take.ensures.bound;
  read = built_more c.args.reading.undirected c.args.reading.factor c.loop-token.state c.in_ok-next.next c.loop-token.builder c.take.new.self (event_of c.in_ok-next.event) (token_of c.in-Some.token)
      (tokens_left c.loop-token.tokens) (tokens_left c.next_token.new.self) c.in-Some.ensures.tokens c.in_ok-next.ensures c.in_ok-take.ensures.graph
      ∙ c.loop-token.invariant.read;
}
