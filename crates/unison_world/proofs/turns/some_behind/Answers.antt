use Rattle.std.proofs.Common.{arith, ◌≡◌, ◌∙◌, ◌⊎◌, ap, sym, refl, ℕ, ◌<◌, ◌≤◌, length, slice_get, Some, get_or, List, nat_lt, inl, inr, ⊎_elim}
use Rattle.std.specs.List.{list_any}
use Rattle.std.proofs.lemmas.Bool.{cases_lt}
use Rattle.std.proofs.lemmas.Option.{slice_get_read}
use Rattle.link_net.specs.Neighbours.{degree, neighbour}
use Rattle.rounds_plan.specs.Plans.{PlanView}
use Rattle.phase_register.specs.declared.register.Look.TheVariants.{Behind}
use Rattle.phase_register.specs.Looks.{look_by_phases}
use Rattle.unison_world.specs.declared.node.Node.{Node}
use Rattle.unison_world.specs.Counting.{moves_of, InStep}
use Rattle.unison_world.specs.Pictures.{counts_of, IsDrawn}
use Rattle.unison_world.specs.Turns.{neighbours_of}
use Rattle.unison_world.proofs.Sights.{moves_at, sees-there, not-behind, lt_true, lt_false}
use Rattle.unison_world.proofs.Turnings.{any-true, any-false, neighbour_is, neighbours_many}
use Rattle.unison_world.proofs.turns.some_behind.Goals as goal

module _ (plan : PlanView) (stop : ℕ) (nodes : List Node) (u j own : ℕ) (ids : List ℕ) (node : Node) (drawn : IsDrawn plan nodes) (is : InStep plan.network stop (counts_of nodes))
    (inside : u < length nodes) (same : ids ≡ neighbours_of plan.network u) (slot : j < length ids) (here : node ≡ get_or nodes u node) (phase : own ≡ node.register.phase) where
  place : get_or ids j 0 ≡ neighbour plan.network u j
  place = ap (λ (ws : List ℕ). get_or ws j 0) same ∙ neighbour_is plan.network u j

  low : j < degree plan.network u
  low = (let e = ap length same ∙ neighbours_many plan.network u in omega arith)

  within : get_or ids j 0 < length nodes
  within = (let e = place in let w = drawn.well_formed.network.within u j low in let o = drawn.one_each in omega arith)

  told : (theirs : Node) → theirs ≡ get_or nodes (get_or ids j 0) theirs
      → ((look_by_phases own theirs.register ≡ Behind) × (moves_of (counts_of nodes) (get_or ids j 0) < moves_of (counts_of nodes) u))
      ⊎ ((look_by_phases own theirs.register ≡ Behind → ⊥) × (moves_of (counts_of nodes) u ≤ moves_of (counts_of nodes) (get_or ids j 0)))
  told theirs there =
      let at : slice_get nodes u ≡ Some node = slice_get_read nodes (length nodes) u node refl inside here in
      let their : slice_get nodes (get_or ids j 0) ≡ Some theirs = slice_get_read nodes (length nodes) (get_or ids j 0) theirs refl within there in
      let m = moves_at nodes u node at in
      let t = moves_at nodes (get_or ids j 0) theirs their in
      ⊎_elim
      (λ a. (let l = a.0 in inl (a.1, omega arith)))
      (λ a. (let l = a.0 in inr (not-behind a.1, omega arith)))
      (sees-there plan stop nodes u j own node theirs drawn is at low (rw place at their) phase)

pub index-requires-in-loop-slot : goal.index-requires-in-loop-slot
index-requires-in-loop-slot c =
    let same = rw c.rows-rows.ensures.rows at c.neighbours_of-neighbours.ensures.exact in
    let low = within c.args.plan.now c.args.stop c.args.nodes.now.items c.args.node c.loop-slot.slot c.phase-own.result c.neighbours_of-neighbours.result.now c.index.result.now c.requires.drawn c.requires.in_step c.requires.node same c.loop-slot-test.true c.index.ensures c.phase-own.ensures.phase in
    omega (arith, low)

pub returns-in-Behind : goal.returns-in-Behind
returns-in-Behind c =
    let items = c.args.nodes.now.items in
    let ids = c.neighbours_of-neighbours.result.now in
    let cs = counts_of items in
    let same = rw c.rows-rows.ensures.rows at c.neighbours_of-neighbours.ensures.exact in
    let k = told c.args.plan.now c.args.stop items c.args.node c.loop-slot.slot c.phase-own.result ids c.index.result.now c.requires.drawn c.requires.in_step c.requires.node same c.loop-slot-test.true c.index.ensures c.phase-own.ensures.phase c.index-in-loop-slot.result.now c.index-in-loop-slot.ensures in
    let less : moves_of cs (get_or ids c.loop-slot.slot 0) < moves_of cs c.args.node = ⊎_elim (λ a. a.1) (λ a. absurd (a.0 (sym c.seen_from-look.ensures.by_phases ∙ c.in-Behind.is))) k in
    record {
      behind = sym (ap (list_any (λ w. nat_lt (moves_of cs w) (moves_of cs c.args.node))) (sym same)
          ∙ any-true (λ w. nat_lt (moves_of cs w) (moves_of cs c.args.node)) ids c.loop-slot.slot c.loop-slot-test.true (lt_true (moves_of cs (get_or ids c.loop-slot.slot 0)) (moves_of cs c.args.node) less));
    }

pub loop-slot-preserved : goal.loop-slot-preserved
loop-slot-preserved c k h =
    let items = c.args.nodes.now.items in
    let ids = c.neighbours_of-neighbours.result.now in
    let cs = counts_of items in
    let same = rw c.rows-rows.ensures.rows at c.neighbours_of-neighbours.ensures.exact in
    let t = told c.args.plan.now c.args.stop items c.args.node c.loop-slot.slot c.phase-own.result ids c.index.result.now c.requires.drawn c.requires.in_step c.requires.node same c.loop-slot-test.true c.index.ensures c.phase-own.ensures.phase c.index-in-loop-slot.result.now c.index-in-loop-slot.ensures in
    let most : moves_of cs c.args.node ≤ moves_of cs (get_or ids c.loop-slot.slot 0) = ⊎_elim (λ a. absurd (c.in_default.not-Behind (c.seen_from-look.ensures.by_phases ∙ a.0))) (λ a. a.1) t in
    ⊎_elim (λ l. c.loop-slot.invariant k l) (λ l. (let e : c.loop-slot.slot ≡ k = omega arith in rw e at most)) (cases_lt k c.loop-slot.slot)

pub returns : goal.returns
returns c =
    let items = c.args.nodes.now.items in
    let ids = c.neighbours_of-neighbours.result.now in
    let cs = counts_of items in
    let same = rw c.rows-rows.ensures.rows at c.neighbours_of-neighbours.ensures.exact in
    let long : length ids ≤ c.loop-slot.slot = omega arith in
    record {
      behind = sym (ap (list_any (λ w. nat_lt (moves_of cs w) (moves_of cs c.args.node))) (sym same)
          ∙ any-false (λ w. nat_lt (moves_of cs w) (moves_of cs c.args.node)) ids
          (λ k h. lt_false (moves_of cs (get_or ids k 0)) (moves_of cs c.args.node) (c.loop-slot.invariant k (omega arith))));
    }
