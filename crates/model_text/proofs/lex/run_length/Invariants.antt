use Rattle.std.proofs.Common.{◌≡◌, ◌+◌, drop}
use Rattle.std.specs.List.{prefix_len}
use Rattle.model_text.specs.Tokens.{belongs}
use Rattle.model_text.proofs.lex.run_length.Given as goal

abbrev pub invariant-loop-place : goal.invariant-loop-place
invariant-loop-place l = l.place + prefix_len (belongs l.sort) (drop l.place l.bytes) ≡ prefix_len (belongs l.sort) l.bytes
