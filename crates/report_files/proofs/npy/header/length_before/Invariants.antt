use Rattle.std.proofs.Common.{◌≡◌, ◌+◌, ◌==◌, not, drop}
use Rattle.std.specs.List.{prefix_len}
use Rattle.report_files.proofs.npy.header.length_before.Given as goal

abbrev pub invariant-loop-place : goal.invariant-loop-place
invariant-loop-place l = l.place + prefix_len (λ b. not (b == l.byte)) (drop l.place l.bytes) ≡ prefix_len (λ b. not (b == l.byte)) l.bytes
