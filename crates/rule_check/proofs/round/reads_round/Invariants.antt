use Rattle.std.proofs.Common.{◌≡◌, drop}
use Rattle.rule_check.specs.Rounds.{code_reads_round}
use Rattle.rule_check.proofs.round.reads_round.Given as goal

abbrev pub invariant-loop-instr : goal.invariant-loop-instr
invariant-loop-instr l = code_reads_round (drop l.instr-index l.code) ≡ code_reads_round l.code
