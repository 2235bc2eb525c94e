use Rattle.std.proofs.Common.{codes, string_bytes}
use Rattle.run_steps.specs.explain.Words.{at_count}
use Rattle.run_steps.proofs.explain.Texts.{joined}
use Rattle.run_steps.proofs.explain.words.put_taken.Goals as goal

pub returns : goal.returns
returns c = record {
  words = joined (string_bytes c.args.out.now) (string_bytes c.push_str.new.self) (string_bytes c.put_at_count.new.out) (codes "Taken: neighbour ") (at_count c.args.world.now.counts c.args.neighbour) c.in_ok-push_str.ensures.bytes c.in_ok-put_at_count.ensures.words;
}
