use Rattle.std.proofs.Common.{string_bytes}
use Rattle.net_patterns.proofs.GridReads.{sign_more}
use Rattle.net_patterns.proofs.spelling.put_repeated.Goals as goal

pub loop-preserved : goal.loop-preserved
loop-preserved c = sign_more (string_bytes c.args.out.now) (string_bytes c.loop.out) c.loop.counter c.args.count c.args.sign c.loop-test.true c.in_ok-push.ensures.bytes (c.in_ok-push.ensures.ascii c.requires.ascii) c.loop.invariant
