use Rattle.std.proofs.Common.{arith, ◌≡◌, ◌∙◌, ap, sym, ℕ, ◌<◌, ◌≤◌, Bool, false, length, get_or, List, nat_lt, ⊎_elim}
use Rattle.std.specs.List.{list_any}
use Rattle.std.proofs.lemmas.Bool.{cases_lt}
use Rattle.std.proofs.lemmas.Bool.Decides.{nat_tests}
use Rattle.link_net.specs.Neighbours.{Neighbours, degree, neighbour}
use Rattle.unison_world.specs.Counting.{moves_of}
use Rattle.unison_world.specs.Turns.{neighbours_of}
use Rattle.unison_world.proofs.Sights.{lt_false}
use Rattle.unison_world.proofs.Turnings.{any-true, any-false, neighbour_is, neighbours_many}
use Rattle.run_schedule.proofs.enabled.any_behind.Goals as goal

slot-low : (network : Neighbours) (u j : ℕ) (ids : List ℕ) → ids ≡ neighbours_of network u → j < length ids → j < degree network u
slot-low network u j ids same h = (let e = ap length same ∙ neighbours_many network u in omega arith)

slot-place : (network : Neighbours) (u j : ℕ) (ids : List ℕ) → ids ≡ neighbours_of network u → get_or ids j 0 ≡ neighbour network u j
slot-place network u j ids same = ap (λ (ws : List ℕ). get_or ws j 0) same ∙ neighbour_is network u j

not-less : (a b : ℕ) (r : Bool) → r ≡ nat_lt a b → r ≡ false → b ≤ a
not-less a b r e f = grind (arith, nat_tests)

pub is_behind-requires-clause-node : goal.is_behind-requires-clause-node
is_behind-requires-clause-node c =
    let w = c.args.walk.now.world in
    let ids = c.neighbours_of-neighbours.result.now in
    let same = rw c.network.ensures.network at c.neighbours_of-neighbours.ensures.exact in
    let low = slot-low w.plan.network c.args.node c.loop-slot.slot ids same c.loop-slot-test.true in
    let place = slot-place w.plan.network c.args.node c.loop-slot.slot ids same in
    let within = c.network.ensures.sound.plan.network.within c.args.node c.loop-slot.slot low in
    omega arith

pub returns-then-is_behind : goal.returns-then-is_behind
returns-then-is_behind c =
    let w = c.args.walk.now.world in
    let ids = c.neighbours_of-neighbours.result.now in
    let cs = w.counts in
    let same = rw c.network.ensures.network at c.neighbours_of-neighbours.ensures.exact in
    let test = λ (v : ℕ). nat_lt (moves_of cs v) (moves_of cs c.args.node) in
    record { behind = sym (ap (list_any test) (sym same) ∙ any-true test ids c.loop-slot.slot c.loop-slot-test.true (sym c.is_behind.ensures ∙ c.if-is_behind.true)) }

pub loop-slot-preserved : goal.loop-slot-preserved
loop-slot-preserved c k h =
    let ids = c.neighbours_of-neighbours.result.now in
    let cs = c.args.walk.now.world.counts in
    let most = not-less (moves_of cs (get_or ids c.loop-slot.slot 0)) (moves_of cs c.args.node) c.is_behind.result c.is_behind.ensures c.if-is_behind.false in
    ⊎_elim (λ l. c.loop-slot.invariant k l) (λ l. (let e : c.loop-slot.slot ≡ k = omega arith in rw e at most)) (cases_lt k c.loop-slot.slot)

pub returns : goal.returns
returns c =
    let w = c.args.walk.now.world in
    let ids = c.neighbours_of-neighbours.result.now in
    let cs = w.counts in
    let same = rw c.network.ensures.network at c.neighbours_of-neighbours.ensures.exact in
    let test = λ (v : ℕ). nat_lt (moves_of cs v) (moves_of cs c.args.node) in
    record { behind = sym (ap (list_any test) (sym same) ∙ any-false test ids (λ k h. lt_false (moves_of cs (get_or ids k 0)) (moves_of cs c.args.node) (c.loop-slot.invariant k (omega arith)))) }
