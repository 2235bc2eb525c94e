use Rattle.std.proofs.Common.{refl, subst, arith}
use Rattle.run_settle.specs.Searching.{IsFound}
use Rattle.run_settle.proofs.Returns.{still_open, again_open, repeats}
use Rattle.run_settle.proofs.outcome.settling_of.Goals as goal

pub returns-then-round-limit : goal.returns-then-round-limit
returns-then-round-limit g c =
    let p = c.args.course.now.start.now in
    let r = c.in-Still.round in
    let found = subst (IsFound p) c.in-Still.is c.requires.found in
    record { settling = (refl, still_open p c.requires.inside c.requires.unread c.args.limit r found (omega (arith, c.if-round-limit.true))) }

pub returns-then-round-period : goal.returns-then-round-period
returns-then-round-period g c =
    let p = c.args.course.now.start.now in
    let m = c.in-Again.mark in
    let n = c.in-Again.period in
    let r = c.in_ok-round-in-Again.round in
    let found = subst (IsFound p) c.in-Again.is c.requires.found in
    record { settling = (refl, again_open p c.requires.inside c.requires.unread c.args.limit m n r found c.in_ok-round-in-Again.ensures.first (omega (arith, c.if-round-period.true))) }

pub returns-else-round-period : goal.returns-else-round-period
returns-else-round-period g c =
    let p = c.args.course.now.start.now in
    let m = c.in-Again.mark in
    let n = c.in-Again.period in
    let r = c.in_ok-round-in-Again.round in
    let found = subst (IsFound p) c.in-Again.is c.requires.found in
    record { settling = repeats p c.requires.inside c.requires.unread c.args.limit m n r found c.in_ok-round-in-Again.ensures.first (omega (arith, c.if-round-period.false)) }
