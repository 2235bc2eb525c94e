-- With nothing on it, the stack is empty, whatever words it holds.
use Rattle.std.proofs.Common.{ap, arith}
use Rattle.std.proofs.lemmas.List.{drop_all}
use Rattle.rule_check.specs.Machine.{exec}
use Rattle.rule_check.specs.Frames.{seen}
use Rattle.rule_check.proofs.run.run.Goals as goal

pub loop-instr-init : goal.loop-instr-init
loop-instr-init c = record {
  fits = omega arith;
  long = c.told-stack;
  runs = c.requires.runs;
  leaves = ap (exec (seen c.args.frame.now) c.args.code.now) (drop_all 127 c.args.stack.now (omega arith));
}
