use Rattle.std.proofs.Common.{◌≡◌, drop}
use Rattle.model_text.specs.Tokens.{numeral_from}
use Rattle.model_text.specs.Lexing.{state_of}
use Rattle.model_text.proofs.lex.add_bytes.Given as goal

abbrev pub invariant-loop-byte : goal.invariant-loop-byte
invariant-loop-byte l = numeral_from (state_of l.numeral) (drop l.byte-index l.bytes) ≡ numeral_from (state_of l.fn.numeral) l.bytes
