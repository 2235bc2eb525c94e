use Rattle.std.proofs.Common.{◌≡◌, ◌≤◌, ◌-◌, length, drop, []}
use Rattle.rule_check.specs.Machine.{exec, Runs}
use Rattle.rule_check.specs.Frames.{seen}
use Rattle.rule_check.proofs.run.run.Given as goal

-- what is left of the code runs on the stack, to what all of it leaves
abbrev pub invariant-loop-instr : goal.invariant-loop-instr
invariant-loop-instr l = record {
  fits : l.top ≤ 127;
  long : length l.stack ≡ 127;
  runs : Runs (drop l.instr-index l.code) (127 - l.top);
  leaves : exec (seen l.frame) (drop l.instr-index l.code) (drop l.top l.stack) ≡ exec (seen l.frame) l.code [];
}
