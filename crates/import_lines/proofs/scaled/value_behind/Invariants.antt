use Rattle.std.proofs.Common.{◌≡◌, drop, true}
use Rattle.std.specs.Str.{all_ascii_digits}
use Rattle.std.specs.Str.Parse.{digits_value_after}
use Rattle.import_lines.proofs.scaled.value_behind.Given as goal

abbrev pub invariant-loop-byte : goal.invariant-loop-byte
invariant-loop-byte l = record {
  digits : all_ascii_digits (drop l.byte-index l.digits) ≡ true;
  read : digits_value_after 10 l.value (drop l.byte-index l.digits) ≡ digits_value_after 10 l.fn.before l.digits;
}
