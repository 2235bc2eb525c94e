use Rattle.std.proofs.Common.{◌≡◌, ◌+◌, ◌<◌, ◌≤◌, ◌^◌, length}
use Rattle.std.specs.Option.{option_map}
use Rattle.import_lines.specs.Texts.{told_from}
use Rattle.unison_trace.specs.Histories.{most_steps}
use Rattle.run_steps.specs.script.Runs.{unread, behind_all}
use Rattle.run_steps.proofs.script.text.read_text.Given as goal

abbrev pub invariant-loop-number : goal.invariant-loop-number
invariant-loop-number l =
    record {
      room : l.lines.passed + length l.lines.bytes.now < 2 ^ 64;
      few : length l.steps.items ≤ most_steps;
      read : behind_all l.network (option_map (λ n. n.now) l.names) (record { steps = l.steps.items; opens = l.opens.items }) (told_from (l.lines.passed + 1) l.lines.bytes.now) ≡ behind_all l.network (option_map (λ n. n.now) l.names) unread (told_from 1 l.text);
    }

abbrev pub decreases-loop-number : goal.decreases-loop-number
decreases-loop-number l = length (told_from (l.lines.passed + 1) l.lines.bytes.now)
