use Rattle.std.proofs.Common.{◌≡◌, ◌-◌}
use Rattle.std.specs.List.{find, range_with_len}
use Rattle.report_files.specs.npy.Arrays.{is_misfit}
use Rattle.report_files.proofs.npy.reader.first_misfit.Given as goal

-- the first of those that are left is the first of all
abbrev pub invariant-loop-place : goal.invariant-loop-place
invariant-loop-place l =
    find (is_misfit l.element l.body) (range_with_len l.place (l.count - l.place)) ≡ find (is_misfit l.element l.body) (range_with_len 0 l.count)
