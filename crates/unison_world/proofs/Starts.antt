-- The picture before any step.
use Rattle.std.proofs.Common.{◌≡◌, ◌⊎◌, ℕ, zero, suc, ◌+◌, ◌-◌, ◌%◌, ◌<◌, Bool, false, List, [], ◌∷◌, ◌++◌, Some, slice_get, length, map, take, replicate, sym, refl, ap, ◌∙◌, inl, inr, ⊎_elim, arith}
use Rattle.std.proofs.lemmas.List.{map_push, take_more, length-replicate}
use Rattle.std.proofs.lemmas.Option.{same_Some}
use Rattle.rule_check.specs.declared.state.State.{State}
use Rattle.link_net.specs.Neighbours.{Neighbours, row, degree}
use Rattle.rounds_plan.specs.Plans.{PlanView}
use Rattle.rounds_plan.specs.Lockstep.{after, lockstep}
use Rattle.unison_world.specs.declared.node.Node.{Node}
use Rattle.unison_world.specs.Counting.{Counts, at_start}
use Rattle.std.specs.Option.{option_map}
use Rattle.phase_register.specs.Looks.{opening_register}
use Rattle.unison_node.specs.Desks.{empty}
use Rattle.unison_world.specs.Pictures.{counts_of, IsNodePicture}
use Rattle.unison_world.proofs.Writes.{start-sums}

pub slice_get-push : {X : Type 0} (xs : List X) (y x : X) (u : ℕ) → slice_get (xs ++ y ∷ []) u ≡ Some x → (slice_get xs u ≡ Some x) ⊎ ((u ≡ length xs) × (x ≡ y))
slice_get-push [] y x zero h = inr (refl, sym (same_Some y x h))
slice_get-push [] y x (suc u) h = (let e : ⊥ = cc in absurd e)
slice_get-push (a ∷ xs) y x zero h = inl h
slice_get-push (a ∷ xs) y x (suc u) h = ⊎_elim (λ e. inl e) (λ e. inr (ap suc e.0, e.1)) (slice_get-push xs y x u h)

all_false : (row : List (ℕ × ℕ)) → map (λ (a : ℕ × ℕ). false) row ≡ replicate (length row) false
all_false [] = refl
all_false (a ∷ row) = ap (λ bs. false ∷ bs) (all_false row)

-- one node more
pub counts-push : (network : Neighbours) (start : ℕ) (nodes : List Node) (i : ℕ) (node : Node) → i < length network → counts_of nodes ≡ at_start (take i network) start
    → node.moves ≡ start → node.desk.marks ≡ replicate (degree network i) false → counts_of (nodes ++ node ∷ []) ≡ at_start (take (i + 1) network) start
counts-push network start nodes i node h e m d =
    let previous : counts_of (nodes ++ node ∷ []) ≡ (record { moves = (counts_of nodes).moves ++ node.moves ∷ []; marks = (counts_of nodes).marks ++ node.desk.marks ∷ [] }) =
    rw (map_push (λ (n : Node). n.moves) nodes node, map_push (λ (n : Node). n.desk.marks) nodes node) refl in
    let moves : (counts_of nodes).moves ≡ map (λ (r : List (ℕ × ℕ)). start) (take i network) = ap (λ (c : Counts). c.moves) e in
    let rows : (counts_of nodes).marks ≡ map (λ (r : List (ℕ × ℕ)). map (λ (a : ℕ × ℕ). false) r) (take i network) = ap (λ (c : Counts). c.marks) e in
    let desk : node.desk.marks ≡ map (λ (a : ℕ × ℕ). false) (row network i) = d ∙ sym (all_false (row network i)) in
    previous ∙ rw (moves, rows, m, desk) (rw (take_more network i [] h) (rw (map_push {Y = ℕ} (λ (r : List (ℕ × ℕ)). start) (take i network) (row network i), map_push {Y = List Bool} (λ (r : List (ℕ × ℕ)). map (λ (a : ℕ × ℕ). false) r) (take i network) (row network i)) refl))

-- subtraction stops at 0, so a round before the start has the opening state
pub lockstep-early : (p : PlanView) (u : ℕ) → lockstep p (p.start - 1) u ≡ lockstep p p.start u
unfolding lockstep
lockstep-early p u = let e : (p.start - 1) - p.start ≡ p.start - p.start = omega arith in ap (λ k. after p k u) e

-- a degree that is looked up
pub degree_known : (network : Neighbours) (u d : ℕ) → Some d ≡ option_map length (slice_get network u) → d ≡ degree network u
degree_known [] u d h = (let e : ⊥ = cc in absurd e)
degree_known (r ∷ network) zero d h = same_Some d (length r) h
degree_known (r ∷ network) (suc u) d h = degree_known network u d h

-- a node before any step is the picture of the start
pub opened_picture : (plan : PlanView) (u n phase : ℕ) (state : State) (node : Node) → node.moves ≡ plan.start → node.register ≡ opening_register phase state → node.desk ≡ empty plan.program n
    → phase ≡ (plan.phase + plan.start) % 3 → state ≡ lockstep plan plan.start u → n ≡ degree plan.network u → IsNodePicture plan u node
opened_picture plan u n phase state node m r d p s e =
    rw (m, r, d) (record {
      started = omega arith;
      phase = p;
      current = s;
      previous = s ∙ sym (lockstep-early plan u);
      slots = length-replicate n false ∙ e;
      sums = start-sums plan u plan.start n;
    })
