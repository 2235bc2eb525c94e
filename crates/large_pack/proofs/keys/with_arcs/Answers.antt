use Rattle.std.proofs.Common.{refl, arith}
use Rattle.large_pack.proofs.Keying.{keyed_here, keyed_dropped, keyed_kept}
use Rattle.large_pack.proofs.keys.with_arcs.Goals as goal

pub returns-then-is_dropped : goal.returns-then-is_dropped
returns-then-is_dropped c = record {
  kept = λ done was.
      keyed_dropped c.args.options.now done c.args.edge.now c.in_ok-keyed.keyed _ (keyed_here c.args.options.now done c.args.keyed c.in_ok-keyed.keyed c.in_ok-keyed.was was)
      (cc (c.is_dropped.ensures, c.if-is_dropped.true)) refl (omega (arith, c.in_ok-keyed-2.ensures)) (omega (arith, c.in_ok-keyed-3.ensures));
}

pub returns : goal.returns
returns c = record {
  kept = λ done was.
      keyed_kept c.args.options.now done c.args.edge.now (omega (arith, c.requires.first)) (omega (arith, c.requires.second)) (cc (c.unwrap_or.ensures, c.if-edge-unwrap_or.false)) c.in_ok-keyed.keyed _
      (keyed_here c.args.options.now done c.args.keyed c.in_ok-keyed.keyed c.in_ok-keyed.was was) (cc (c.is_dropped.ensures, c.if-is_dropped.false)) c.in-Ok.ensures (omega (arith, c.in_ok-keyed-2.ensures)) refl;
}
