-- What a move leaves of the picture.
use Rattle.std.proofs.Common.{◌≡◌, ◌≢◌, ℕ, zero, suc, ◌+◌, ◌-◌, ◌<◌, ◌-◌, Bool, true, false, List, [], ◌∷◌, Some, slice_get, length, map, set, replicate, get_or, sym, refl, ap, ◌∙◌, ⊎_elim, arith}
use Rattle.std.proofs.lemmas.List.{length-map, length-replicate}
use Rattle.std.proofs.lemmas.Option.{slice_get_read}
use Rattle.std.proofs.lemmas.Bool.{false≢true}
use Rattle.std.proofs.lemmas.Bool.Decides.{nat_tests, Decides-below_and}
use Rattle.rule_check.specs.declared.state.State.{State}
use Rattle.rule_check.specs.declared.state.Near.{Near}
use Rattle.rule_check.specs.Value.{Rules, here_at, next_state}
use Rattle.rule_check.specs.Gathering.{sums_at}
use Rattle.link_net.specs.Neighbours.{Neighbours, row, degree}
use Rattle.rounds_plan.specs.Plans.{PlanView}
use Rattle.rounds_plan.specs.Lockstep.{lockstep, lockstep-more, near_at, nears_in}
use Rattle.unison_node.specs.Desks.{IsReady, sums_over_none}
use Rattle.unison_world.specs.declared.node.Node.{Node}
use Rattle.unison_world.specs.declared.step.Step.TheVariants.{Write}
use Rattle.unison_world.specs.declared.step.Answer.TheVariants as answer
use Rattle.unison_world.specs.Counting.{Counts, moves_of, is_marked, all_marked, answer_of, moved}
use Rattle.unison_world.specs.Gathered.{marked_nears, sums_of_round, gathered_sums}
use Rattle.unison_world.specs.Pictures.{counts_of, moved_node, IsNodePicture, IsDrawn}
use Rattle.unison_world.proofs.Sights.{moves_at, marks_at, mark_at, cases_bool}
use Rattle.unison_world.proofs.Taken.{counts_of-set}

all_marked_is : (nodes : List Node) (u n : ℕ) → (all_marked (counts_of nodes) u n ≡ true → (k : ℕ) → k < n → is_marked (counts_of nodes) u k ≡ true) × (((k : ℕ) → k < n → is_marked (counts_of nodes) u k ≡ true) → all_marked (counts_of nodes) u n ≡ true)
all_marked_is nodes u n =
    Decides-below_and (is_marked (counts_of nodes) u) (λ k. is_marked (counts_of nodes) u k ≡ true) (all_marked (counts_of nodes) u) (λ k. (λ e. e, λ e. e)) refl (λ _. refl) n

pub ready_marked : (nodes : List Node) (u n : ℕ) (node : Node) → slice_get nodes u ≡ Some node → length node.desk.marks ≡ n → IsReady node.desk → all_marked (counts_of nodes) u n ≡ true
ready_marked nodes u n node at e ready =
    (all_marked_is nodes u n).1 (λ k h. mark_at nodes u k node at ∙ ready k (omega arith))

pub unready_marked : (nodes : List Node) (u n : ℕ) (node : Node) → slice_get nodes u ≡ Some node → length node.desk.marks ≡ n → (IsReady node.desk → ⊥) → all_marked (counts_of nodes) u n ≡ false
unready_marked nodes u n node at e unready =
    ⊎_elim
    (λ t. absurd (unready (λ k h. sym (mark_at nodes u k node at) ∙ (all_marked_is nodes u n).0 t k (omega arith))))
    (λ f. f)
    (cases_bool (all_marked (counts_of nodes) u n))

pub marked_ready : (nodes : List Node) (u n : ℕ) (node : Node) → slice_get nodes u ≡ Some node → length node.desk.marks ≡ n → all_marked (counts_of nodes) u n ≡ true → IsReady node.desk
marked_ready nodes u n node at e all k h = sym (mark_at nodes u k node at) ∙ (all_marked_is nodes u n).0 all k (omega arith)

pub answer-unready : (network : Neighbours) (stop : ℕ) (c : Counts) (u : ℕ) → u < length network → moves_of c u ≢ stop → all_marked c u (degree network u) ≡ false → answer.NotReady ≡ answer_of network stop c (Write u)
answer-unready network stop c u a b d = grind (arith, nat_tests)

pub answer-ready : (network : Neighbours) (stop : ℕ) (c : Counts) (u : ℕ) → u < length network → moves_of c u ≢ stop → all_marked c u (degree network u) ≡ true → answer_of network stop c (Write u) ≡ answer.Moved
answer-ready network stop c u a b d = grind (arith, nat_tests)

unmarked : (marks : List Bool) → replicate (length marks) false ≡ map (λ (b : Bool). false) marks
unmarked [] = refl
unmarked (m ∷ marks) = ap (λ bs. false ∷ bs) (unmarked marks)

pub counts-moved : (rules : Rules) (nodes : List Node) (u : ℕ) (node : Node) (s : State) → slice_get nodes u ≡ Some node → counts_of (set nodes u (moved_node rules node s)) ≡ moved (counts_of nodes) u
counts-moved rules nodes u node s at =
    counts_of-set nodes u (moved_node rules node s) ∙ rw (unmarked node.desk.marks) (rw (marks_at nodes u node at) (rw (moves_at nodes u node at) refl))

-- over all slots the neighbours are those of the network
all_nears : (at : ℕ → State) (row : List (ℕ × ℕ)) (marks : List Bool) → length marks ≡ length row → ((k : ℕ) → k < length marks → get_or marks k false ≡ true) → marked_nears at row marks ≡ map (near_at at) row
all_nears at [] marks h all = refl
all_nears at (a ∷ row) [] h all = (let x : 0 ≡ suc (length row) = h in absurd (omega arith))
all_nears at (a ∷ row) (true ∷ marks) h all = ap (λ ns. near_at at a ∷ ns) (all_nears at row marks (omega arith) (λ k l. all (suc k) (omega arith)))
all_nears at (a ∷ row) (false ∷ marks) h all = absurd (false≢true (all 0 (omega arith)))

pub ready_nears : (plan : PlanView) (u : ℕ) (node : Node) → IsNodePicture plan u node → IsReady node.desk → marked_nears (lockstep plan node.moves) (row plan.network u) node.desk.marks ≡ nears_in plan.network (lockstep plan node.moves) u
ready_nears plan u node p ready = all_nears (lockstep plan node.moves) (row plan.network u) node.desk.marks p.slots ready

-- with no slot marked there is no neighbour
no_nears : (at : ℕ → State) (row : List (ℕ × ℕ)) (n : ℕ) → marked_nears at row (replicate n false) ≡ []
no_nears at [] n = refl
no_nears at (a ∷ row) zero = refl
no_nears at (a ∷ row) (suc n) = no_nears at row n

pub start-sums : (plan : PlanView) (u round n : ℕ) → sums_over_none plan.program ≡ gathered_sums plan u round (replicate n false)
start-sums plan u round n = ap (sums_of_round plan u round) (sym (no_nears (lockstep plan round) (row plan.network u) n))

-- a move to the next state keeps a node the picture of its count
pub picture-moved : (plan : PlanView) (u : ℕ) (node : Node) (s : State) → IsNodePicture plan u node → s ≡ lockstep plan (node.moves + 1) u → IsNodePicture plan u (moved_node plan.program node s)
picture-moved plan u node s p e =
    record {
      started = (let q = p.started in omega arith);
      phase = (let q = p.phase in omega arith);
      current = e;
      previous = (let m : (node.moves + 1) - 1 ≡ node.moves = omega arith in rw m p.current);
      slots = length-replicate (length node.desk.marks) false ∙ p.slots;
      sums = start-sums plan u (node.moves + 1) (length node.desk.marks);
    }

-- what a node's write has at hand: its own node, which isn't stopped
pub record Unstopped (plan : PlanView) (stop : ℕ) (nodes : List Node) (u : ℕ) (node : Node) : Type 0 where
  pub at : slice_get nodes u ≡ Some node
  pub inside : u < length plan.network
  pub unstopped : moves_of (counts_of nodes) u ≢ stop
  pub picture : IsNodePicture plan u node

pub unstopped_here : (plan : PlanView) (stop : ℕ) (nodes : List Node) (u : ℕ) (node : Node) → IsDrawn plan nodes → u < length nodes → node ≡ get_or nodes u node → (node.moves ≡ stop → ⊥) → Unstopped plan stop nodes u node
unstopped_here plan stop nodes u node drawn h e ne =
    let at : slice_get nodes u ≡ Some node = slice_get_read nodes (length nodes) u node refl h e in
    record {
      at = at;
      inside = omega (arith, drawn.one_each);
      unstopped = rw (moves_at nodes u node at) ne;
      picture = drawn.each u node at;
    }

-- what is known of a state by the sums is that it is the next one
abbrev pub Completes : PlanView → ℕ → Node → State → Type 0
Completes plan u node s =
    (nears : List Near) → length nears ≡ length node.desk.marks
    → node.desk.sums ≡ sums_at plan.program (here_at plan.program node.moves u (length node.desk.marks) node.register.current nears)
    → s ≡ next_state plan.program node.moves u node.register.current nears

pub next-is : (plan : PlanView) (u : ℕ) (node : Node) (s : State) → IsNodePicture plan u node → IsReady node.desk → Completes plan u node s → s ≡ lockstep plan (node.moves + 1) u
next-is plan u node s p ready completes =
    let at = lockstep plan node.moves in
    let nears = nears_in plan.network at u in
    let all = ready_nears plan u node p ready in
    let sums : node.desk.sums ≡ sums_at plan.program (here_at plan.program node.moves u (length node.desk.marks) node.register.current nears) =
    p.sums ∙ ap (sums_of_round plan u node.moves) all
    ∙ sym (ap (λ d. sums_at plan.program (here_at plan.program node.moves u d node.register.current nears)) p.slots
    ∙ ap (λ own. sums_at plan.program (here_at plan.program node.moves u (degree plan.network u) own nears)) p.current) in
    completes nears (length-map (row plan.network u) (near_at at) ∙ sym p.slots) sums
    ∙ ap (λ own. next_state plan.program node.moves u own nears) p.current
    ∙ sym (lockstep-more plan node.moves u p.started)
