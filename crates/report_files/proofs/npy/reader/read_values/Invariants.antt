use Rattle.std.proofs.Common.{◌≡◌, map}
use Rattle.std.specs.List.{range_with_len}
use Rattle.report_files.specs.npy.Arrays.{number_at}
use Rattle.report_files.proofs.npy.reader.read_values.Given as goal

-- the values so far are read
abbrev pub invariant-loop-place : goal.invariant-loop-place
invariant-loop-place l = l.words.items ≡ map (number_at l.element l.body) (range_with_len 0 l.place)
