use Rattle.std.proofs.Common.{◌≡◌, ◌++◌, drop, string_bytes}
use Rattle.run_cuts.specs.Texts.{members_text}
use Rattle.run_cuts.proofs.text.put_members.Given as goal

abbrev pub invariant-loop-number : goal.invariant-loop-number
invariant-loop-number l = string_bytes l.out ++ members_text l.telling l.number (drop l.number l.cuts) ≡ string_bytes l.initial.out ++ members_text l.telling 0 l.cuts
