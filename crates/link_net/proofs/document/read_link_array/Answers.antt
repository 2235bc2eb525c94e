use Rattle.std.proofs.Common.{Ok, refl, sym, ap}
use Rattle.link_net.specs.Document.{link_of, links_in}
use Rattle.link_net.proofs.Steps.{one_unread, one_read, all_read}
use Rattle.link_net.proofs.document.read_link_array.Goals as goal

pub returns-in_default : goal.returns-in_default
returns-in_default c = λ other.
    rw (← c.deref-value-items.ensures.value, one_unread link_of links_in refl (λ d ds. refl) c.deref-value-items.result.now c.loop-value.value-index c.value-item.result c.loop-value.items.items c.loop-value-test.true c.value-item.is c.loop-value.invariant c.in_default.ensures) refl

pub loop-value-preserved : goal.loop-value-preserved
loop-value-preserved c =
    rw c.in_ok-push.ensures.items
    (one_read link_of links_in refl (λ d ds. refl) c.deref-value-items.result.now c.loop-value.value-index c.value-item.result c.loop-value.items.items c.loop-value-test.true c.value-item.is c.loop-value.invariant c.in-Some.link c.in-Some.ensures)

pub returns : goal.returns
returns c =
    rw (← c.deref-value-items.ensures.value, all_read link_of links_in refl (λ d ds. refl) c.deref-value-items.result.now c.loop-value.value-index c.loop-value.items.items c.loop-value-test.false c.loop-value.invariant) (ap Ok (sym c.new.ensures))
