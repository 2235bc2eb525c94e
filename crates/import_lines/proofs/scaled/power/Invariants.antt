use Rattle.std.proofs.Common.{◌≡◌, drop, true, min, ◌≤◌}
use Rattle.std.specs.Str.{all_ascii_digits}
use Rattle.std.specs.Str.Parse.{digits_value_after, digits_value}
use Rattle.import_lines.proofs.scaled.power.Given as goal

abbrev pub invariant-loop-byte : goal.invariant-loop-byte
invariant-loop-byte l = record {
  digits : all_ascii_digits (drop l.byte-index l.digits) ≡ true;
  bound : l.value ≤ 100_000_000_000_000_000_000;
  read : min 100_000_000_000_000_000_000 (digits_value_after 10 l.value (drop l.byte-index l.digits)) ≡ min 100_000_000_000_000_000_000 (digits_value 10 l.digits);
}
