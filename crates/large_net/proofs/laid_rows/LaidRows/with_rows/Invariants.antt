use Rattle.std.proofs.Common.{◌≡◌, ◌++◌, take}
use Rattle.large_net.proofs.laid_rows.LaidRows.with_rows.Given as goal

-- the rows so far stand after the others
abbrev pub invariant-loop-node : goal.invariant-loop-node
invariant-loop-node l = l.laid ≡ l.fn.self ++ take l.node l.rows
