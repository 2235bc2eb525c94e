use Rattle.std.proofs.Common.{arith, sym, None, ⊎_elim, ◌≡◌, ◌∙◌, ap, length, slice_get, Some, refl}
use Rattle.std.proofs.lemmas.Option.{slice_get_read, slice_get_cases, none-some}
use Rattle.link_net.specs.Neighbours.{row, neighbour, weight}
use Rattle.rounds_plan.specs.Lockstep.{lockstep}
use Rattle.phase_register.specs.Looks.{look_by_phases}
use Rattle.unison_node.specs.declared.desk.Seat.{Seat}
use Rattle.unison_world.specs.declared.step.Step.TheVariants.{Read}
use Rattle.unison_world.specs.Counting.{change}
use Rattle.unison_world.specs.Pictures.{counts_of, seat_of}
use Rattle.unison_world.proofs.Sights.{Found, Shows, IsOffered, found, sees, slot_within, moves_at, same_node, same_offer}
use Rattle.unison_world.proofs.Taken.{read_answer, read_counts, read_drawn, answer-stopped, answer-no_slot}
use Rattle.unison_world.proofs.events.read.Goals as goal
use Rattle.unison_world.proofs.events.read.Goals.{After-answer_from}

pub returns-then-this-stop-clause-answer : goal.returns-then-this-stop-clause-answer
returns-then-this-stop-clause-answer c =
    let items = c.args.nodes.now.items in
    let e = c.in-Some.ensures.exact in
    let at : slice_get items c.args.node ≡ Some c.index-this.result.now = slice_get_read items (length items) c.args.node c.index-this.result.now refl (omega arith) c.index-this.ensures in
    answer-stopped c.args.plan.now.network c.args.stop (counts_of items) c.args.node c.args.slot (omega (arith, c.requires.drawn.one_each))
    (slot_within c.args.plan.now.network c.args.node c.args.slot c.in-Some.neighbour c.in-Some.weight e).0 (moves_at items c.args.node c.index-this.result.now at ∙ c.if-this-stop.true)

pub index-requires : goal.index-requires
index-requires c =
    let e = c.in-Some.ensures.exact in
    let s = slot_within c.args.plan.now.network c.args.node c.args.slot c.in-Some.neighbour c.in-Some.weight e in
    let near = c.requires.drawn.well_formed.network.within c.args.node c.args.slot s.0 in
    let here = s.1 in
    omega (arith, near, here, c.requires.drawn.one_each)

same_here : (c : After-answer_from) → c.index-this.result.now ≡ c.index_mut.result.now
same_here c = same_node c.args.nodes.now.items c.args.node c.index-this.result.now c.index_mut.result.now (omega arith) c.index-this.ensures c.index_mut.ensures.value

here : (c : After-answer_from) → Found c.args.plan.now c.args.stop c.args.nodes.now.items c.args.node c.args.slot c.index_mut.result.now c.index.result.now
here c =
    let e = c.in-Some.ensures.exact in
    found c.args.plan.now c.args.stop c.args.nodes.now.items c.args.node c.args.slot c.in-Some.neighbour c.in-Some.weight c.index_mut.result.now c.index.result.now
    c.requires.drawn (omega arith) e c.index_mut.ensures.value c.index.ensures (rw (same_here c) at c.if-this-stop.false)

seat_here : (c : After-answer_from) → c.seat-seat.result ≡ seat_of c.args.node c.index_mut.result.now
seat_here c = c.seat-seat.ensures.seat ∙ ap (seat_of c.args.node) (same_here c)

seen_here : (c : After-answer_from) → Shows c.index_mut.result.now.moves c.index.result.now.moves (lockstep c.args.plan.now c.index_mut.result.now.moves (neighbour c.args.plan.now.network c.args.node c.args.slot)) (look_by_phases c.seat-seat.result.phase c.index.result.now.register)
seen_here c =
    sees c.args.plan.now c.args.stop c.args.nodes.now.items c.args.node c.args.slot c.seat-seat.result.phase c.index_mut.result.now c.index.result.now c.requires.drawn c.requires.in_step (here c) (ap (λ (s : Seat). s.phase) (seat_here c))

offered_here : (c : After-answer_from) → IsOffered c.args.plan.now.program (seat_of c.args.node c.index_mut.result.now) c.args.slot (neighbour c.args.plan.now.network c.args.node c.args.slot) (weight c.args.plan.now.network c.args.node c.args.slot)
    c.index_mut.result.now.desk (look_by_phases c.seat-seat.result.phase c.index.result.now.register) c.offer-offer.new.self c.offer-offer.result
offered_here c =
    let e = c.in-Some.ensures.exact in
    let s = slot_within c.args.plan.now.network c.args.node c.args.slot c.in-Some.neighbour c.in-Some.weight e in
    let o : IsOffered c.program-program.result.now c.seat-seat.result c.args.slot c.in-Some.neighbour c.in-Some.weight c.index_mut.result.now.desk (look_by_phases c.seat-seat.result.phase c.index.result.now.register) c.offer-offer.new.self c.offer-offer.result =
    record { answered = c.offer-offer.ensures.answer; changed = c.offer-offer.ensures.after; summed = c.offer-offer.ensures.sums } in
    same_offer c.program-program.ensures.program (seat_here c) s.1 s.2 o

pub returns-clause-answer : goal.returns-clause-answer
returns-clause-answer c =
    c.answer_from.ensures
    ∙ read_answer c.args.plan.now c.args.stop c.args.nodes.now.items c.requires.drawn c.args.node c.args.slot c.index_mut.result.now c.index.result.now (here c) _ (seen_here c) _ _ (offered_here c)

pub returns-clause-counts : goal.returns-clause-counts
returns-clause-counts c =
    read_counts c.args.plan.now c.args.stop c.args.nodes.now.items c.requires.drawn c.args.node c.args.slot c.index_mut.result.now c.index.result.now (here c) _ (seen_here c) _ _ (offered_here c)

pub returns-clause-drawn : goal.returns-clause-drawn
returns-clause-drawn c =
    read_drawn c.args.plan.now c.args.stop c.args.nodes.now.items c.requires.drawn c.args.node c.args.slot c.index_mut.result.now c.index.result.now (here c) _ (seen_here c) _ _ (offered_here c)

pub returns-in_default-clause-answer : goal.returns-in_default-clause-answer
returns-in_default-clause-answer c =
    let network = c.args.plan.now.network in
    let none : slice_get (row network c.args.node) c.args.slot ≡ None = sym c.link.ensures.exact ∙ c.in_default.is in
    answer-no_slot network c.args.stop (counts_of c.args.nodes.now.items) c.args.node c.args.slot (omega (arith, c.requires.drawn.one_each))
    (⊎_elim (λ a. absurd (none-some a.0 (sym none ∙ a.2))) (λ b. b.0) (slice_get_cases (row network c.args.node) c.args.slot).1)

pub returns-in_default-clause-counts : goal.returns-in_default-clause-counts
returns-in_default-clause-counts c = ap (change (counts_of c.args.nodes.now.items) (Read c.args.node c.args.slot)) (returns-in_default-clause-answer c)

pub returns-then-this-stop-clause-counts : goal.returns-then-this-stop-clause-counts
returns-then-this-stop-clause-counts c = ap (change (counts_of c.args.nodes.now.items) (Read c.args.node c.args.slot)) (returns-then-this-stop-clause-answer c)
