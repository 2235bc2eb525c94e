use Rattle.std.proofs.Common.{arith, ◌≡◌, ◌∙◌, sym, ◌≢◌, length, slice_get, Some, refl}
use Rattle.std.proofs.lemmas.Option.{slice_get_read}
use Rattle.unison_world.specs.Counting.{moves_of}
use Rattle.unison_world.specs.Pictures.{counts_of}
use Rattle.unison_world.proofs.Sights.{found, sees, slot_within, moves_at, mark_at}
use Rattle.unison_world.proofs.Taken.{answer-stopped, answer-already, answer-behind, answer-not_behind}
use Rattle.unison_world.proofs.events.ask_read.Goals as goal

pub returns-then-this-stop : goal.returns-then-this-stop
returns-then-this-stop c =
    let items = c.args.nodes.now.items in
    let e = c.in-Some.ensures.exact in
    let at : slice_get items c.args.node ≡ Some c.index-this.result.now = slice_get_read items (length items) c.args.node c.index-this.result.now refl (omega arith) c.index-this.ensures in
    record {
      answer = answer-stopped c.args.plan.now.network c.args.stop (counts_of items) c.args.node c.args.slot (omega (arith, c.requires.drawn.one_each))
          (slot_within c.args.plan.now.network c.args.node c.args.slot c.in-Some.neighbour c.in-Some.field-0-1 e).0 (moves_at items c.args.node c.index-this.result.now at ∙ c.if-this-stop.true);
    }

pub returns-then-has : goal.returns-then-has
returns-then-has c =
    let items = c.args.nodes.now.items in
    let this = c.index-this.result.now in
    let e = c.in-Some.ensures.exact in
    let at : slice_get items c.args.node ≡ Some this = slice_get_read items (length items) c.args.node this refl (omega arith) c.index-this.ensures in
    let ne : moves_of (counts_of items) c.args.node ≢ c.args.stop = rw (moves_at items c.args.node this at) c.if-this-stop.false in
    record {
      answer = answer-already c.args.plan.now.network c.args.stop (counts_of items) c.args.node c.args.slot (omega (arith, c.requires.drawn.one_each))
          (slot_within c.args.plan.now.network c.args.node c.args.slot c.in-Some.neighbour c.in-Some.field-0-1 e).0 ne
          (mark_at items c.args.node c.args.slot this at ∙ sym c.has.ensures.mark ∙ c.if-has.true);
    }

pub index-requires : goal.index-requires
index-requires c =
    let e = c.in-Some.ensures.exact in
    let s = slot_within c.args.plan.now.network c.args.node c.args.slot c.in-Some.neighbour c.in-Some.field-0-1 e in
    let near = c.requires.drawn.well_formed.network.within c.args.node c.args.slot s.0 in
    let here = s.1 in
    omega (arith, near, here, c.requires.drawn.one_each)

pub returns-in-Behind : goal.returns-in-Behind
returns-in-Behind c =
    let items = c.args.nodes.now.items in
    let this = c.index-this.result.now in
    let theirs = c.index.result.now in
    let e = c.in-Some.ensures.exact in
    let f = found c.args.plan.now c.args.stop items c.args.node c.args.slot c.in-Some.neighbour c.in-Some.field-0-1 this theirs c.requires.drawn (omega arith) e c.index-this.ensures c.index.ensures c.if-this-stop.false in
    let shows = sees c.args.plan.now c.args.stop items c.args.node c.args.slot c.phase-own.result this theirs c.requires.drawn c.requires.in_step f c.phase-own.ensures.phase in
    record { answer = answer-behind c.args.plan.now c.args.stop items c.requires.drawn c.args.node c.args.slot this theirs f _ shows (sym c.has.ensures.mark ∙ c.if-has.false) (sym c.seen_from-look.ensures.by_phases ∙ c.in-Behind.is) }

pub returns-in_default-look : goal.returns-in_default-look
returns-in_default-look c =
    let items = c.args.nodes.now.items in
    let this = c.index-this.result.now in
    let theirs = c.index.result.now in
    let e = c.in-Some.ensures.exact in
    let f = found c.args.plan.now c.args.stop items c.args.node c.args.slot c.in-Some.neighbour c.in-Some.field-0-1 this theirs c.requires.drawn (omega arith) e c.index-this.ensures c.index.ensures c.if-this-stop.false in
    let shows = sees c.args.plan.now c.args.stop items c.args.node c.args.slot c.phase-own.result this theirs c.requires.drawn c.requires.in_step f c.phase-own.ensures.phase in
    record { answer = answer-not_behind c.args.plan.now c.args.stop items c.requires.drawn c.args.node c.args.slot this theirs f _ shows (sym c.has.ensures.mark ∙ c.if-has.false) (λ x. c.in_default-look.not-Behind (c.seen_from-look.ensures.by_phases ∙ x)) }
