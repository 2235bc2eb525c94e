use Rattle.std.proofs.Common.{ap, sym}
use Rattle.std.specs.BTreeMap.{is_at}
use Rattle.std.specs.Map.{lookup}
use Rattle.link_net.proofs.Repeats.{ends_cmp, seen_first, seen_last, found_again, put_next, none_of}
use Rattle.link_net.proofs.link_causes.link_twice.Goals as goal

pub loop-number-init : goal.loop-number-init
loop-number-init c = seen_first c.args.links.now c.new-seen.result (λ p. ap (λ entries. lookup (is_at (ends_cmp p)) entries) c.new-seen.ensures.empty)

pub returns-in-Some-clause-some : goal.returns-in-Some-clause-some
returns-in-Some-clause-some c =
    sym (found_again c.args.links.now c.loop-number.number c.loop-number.seen c.min.result c.max.result c.in-Some.earlier c.in_ok-earlier.field-0 c.loop-number-test.true c.min.ensures c.max.ensures c.in_ok-earlier.ensures.old c.in-Some.is c.loop-number.invariant).some

pub returns-in-Some-clause-twice : goal.returns-in-Some-clause-twice
returns-in-Some-clause-twice c =
    (found_again c.args.links.now c.loop-number.number c.loop-number.seen c.min.result c.max.result c.in-Some.earlier c.in_ok-earlier.field-0 c.loop-number-test.true c.min.ensures c.max.ensures c.in_ok-earlier.ensures.old c.in-Some.is c.loop-number.invariant).twice

pub returns-in-Some-clause-first : goal.returns-in-Some-clause-first
returns-in-Some-clause-first c =
    (found_again c.args.links.now c.loop-number.number c.loop-number.seen c.min.result c.max.result c.in-Some.earlier c.in_ok-earlier.field-0 c.loop-number-test.true c.min.ensures c.max.ensures c.in_ok-earlier.ensures.old c.in-Some.is c.loop-number.invariant).first

pub loop-number-preserved : goal.loop-number-preserved
loop-number-preserved c =
    put_next c.args.links.now c.loop-number.number c.loop-number.seen c.insert.new.self c.min.result c.max.result c.in_ok-earlier.field-0 c.loop-number-test.true c.min.ensures c.max.ensures c.in_ok-earlier.ensures.old
    (none_of c.in_ok-earlier.field-0 c.in_default.not-Some) (λ q. c.in_ok-earlier.ensures.updates.0 q) c.loop-number.invariant

pub returns-clause-some : goal.returns-clause-some
returns-clause-some c = sym (seen_last c.args.links.now c.loop-number.number c.loop-number.seen c.loop-number-test.false c.loop-number.invariant)
