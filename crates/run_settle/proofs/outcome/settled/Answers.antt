use Rattle.run_settle.proofs.Returns.{one_settling}
use Rattle.run_settle.proofs.outcome.settled.Goals as goal

pub returns-clause-only : goal.returns-clause-only
returns-clause-only g c = λ s other.
    one_settling (c.args.course.now.start.now) c.requires.inside c.requires.unread c.args.limit c.in_ok-settling.settling s c.in_ok-settling.ensures.settling other
