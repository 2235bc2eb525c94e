use Rattle.std.proofs.Common.{◌≡◌, ◌+◌, ◌≤◌, ◌<◌, ◌^◌, length}
use Rattle.std.specs.Option.{option_map}
use Rattle.import_lines.specs.Texts.{told_from}
use Rattle.rounds_plan.specs.Configs.{most_rounds}
use Rattle.run_steps.specs.Previous.{HasPrevious}
use Rattle.run_steps.specs.verify.Walks.{Walked}
use Rattle.run_steps.proofs.verify.verifying.walk.Given as goal

abbrev pub invariant-loop-number : goal.invariant-loop-number
invariant-loop-number l =
    record {
      room : l.lines.passed + length l.lines.bytes.now < 2 ^ 64;
      same_plan : l.world.plan ≡ l.initial.world.plan;
      same_stop : l.world.stop ≡ most_rounds;
      before : HasPrevious l.world l.before;
      walked : Walked l.initial.world.plan (option_map (λ n. n.now) l.names) (told_from 1 l.text) (told_from (l.lines.passed + 1) l.lines.bytes.now) l.world.counts l.said l.valued;
      many : l.said + length (told_from (l.lines.passed + 1) l.lines.bytes.now) ≡ length (told_from 1 l.text);
      some : l.valued ≤ l.said;
      small : length l.text + 1 < 2 ^ 64;
    }

abbrev pub decreases-loop-number : goal.decreases-loop-number
decreases-loop-number l = length (told_from (l.lines.passed + 1) l.lines.bytes.now)
