-- What a read leaves of the picture.
use Rattle.std.proofs.Common.{◌≡◌, ◌≢◌, ◌⊎◌, ℕ, zero, suc, ◌<◌, ◌≤◌, true, false, List, [], ◌∷◌, Some, slice_get, nat_lt, if◌then◌else◌, length, map, set, sym, refl, ap, ◌∙◌, inl, inr, ⊎_elim, arith}
use Rattle.std.proofs.lemmas.List.{length-set, map-set, set-get_or}
use Rattle.std.proofs.lemmas.Option.{get_or_from_slice_get, slice_get_within, same_Some, slice_get-map}
use Rattle.std.specs.Option.{option_map}
use Rattle.std.proofs.lemmas.Bool.Decides.{nat_tests}
use Rattle.rule_check.specs.declared.state.State.{State}
use Rattle.link_net.specs.Neighbours.{Neighbours, row, degree, neighbour, weight}
use Rattle.rounds_plan.specs.Plans.{PlanView}
use Rattle.rounds_plan.specs.Lockstep.{lockstep}
use Rattle.phase_register.specs.declared.register.Look.{Look}
use Rattle.phase_register.specs.declared.register.Look.TheVariants.{Behind}
use Rattle.unison_node.specs.declared.desk.Offer.{Offer}
use Rattle.unison_node.specs.declared.desk.Offer.TheVariants as offer
use Rattle.unison_node.specs.Desks.{DeskView, has_mark}
use Rattle.unison_node.specs.Offers.{given}
use Rattle.unison_world.specs.declared.node.Node.{Node}
use Rattle.unison_world.specs.declared.step.Step.TheVariants.{Read}
use Rattle.unison_world.specs.declared.step.Answer.TheVariants as answer
use Rattle.unison_world.specs.Answers.{answer_from}
use Rattle.unison_world.specs.Counting.{Counts, moves_of, is_marked, answer_of, change, marked, after}
use Rattle.unison_world.specs.Gathered.{sums_of_round, gathered_sums}
use Rattle.unison_world.specs.Pictures.{counts_of, seat_of, IsNodePicture, IsDrawn}
use Rattle.unison_world.proofs.Sights.{moves_at, marks_at, mark_at, cases_bool, lt_true, lt_false, offer-marked, offer-behind, offer-taken, not-behind, given-shown, seat-sums, IsOffered, Found, Shows}
use Rattle.unison_world.proofs.Splits.{splits}

-- the answer to a read of a slot by a node that isn't stopped
answer-open : (network : Neighbours) (stop : ℕ) (c : Counts) (u j : ℕ) → u < length network → j < degree network u → moves_of c u ≢ stop
    → answer_of network stop c (Read u j) ≡ (if is_marked c u j then answer.Already else if nat_lt (moves_of c (neighbour network u j)) (moves_of c u) then answer.Behind else answer.Taken)
answer-open network stop c u j a b d = grind (arith, nat_tests)

pub set-same : {X : Type 0} (xs : List X) (i : ℕ) (x : X) → slice_get xs i ≡ Some x → set xs i x ≡ xs
set-same xs i x h = rw (get_or_from_slice_get xs i x x h) at (set-get_or xs i x)

-- an element after a write is what was written, or was there before
slice_get-set : {X : Type 0} (xs : List X) (i v : ℕ) (y x : X) → slice_get (set xs i y) v ≡ Some x → ((v ≡ i) × (x ≡ y)) ⊎ (slice_get xs v ≡ Some x)
slice_get-set [] i v y x h = inr h
slice_get-set (a ∷ xs) zero zero y x h = inl (refl, sym (same_Some y x h))
slice_get-set (a ∷ xs) zero (suc v) y x h = inr h
slice_get-set (a ∷ xs) (suc i) zero y x h = inr h
slice_get-set (a ∷ xs) (suc i) (suc v) y x h = ⊎_elim (λ e. inl (ap suc e.0, e.1)) (λ e. inr e) (slice_get-set xs i v y x h)

-- a written node that is the picture of its count leaves all so
pub drawn-set : (plan : PlanView) (nodes : List Node) (u : ℕ) (node : Node) → IsDrawn plan nodes → IsNodePicture plan u node → IsDrawn plan (set nodes u node)
drawn-set plan nodes u node d p =
    record {
      well_formed = d.well_formed;
      one_each = length-set nodes u node ∙ d.one_each;
      each = λ v n h. ⊎_elim (λ e. rw (e.0, e.1) p) (λ e. d.each v n e) (slice_get-set nodes u v node n h);
    }

pub counts_of-set : (nodes : List Node) (u : ℕ) (node : Node) → counts_of (set nodes u node) ≡ record { moves = set (counts_of nodes).moves u node.moves; marks = set (counts_of nodes).marks u node.desk.marks }
counts_of-set nodes u node = rw (map-set (λ (n : Node). n.moves) nodes u node, map-set (λ (n : Node). n.desk.marks) nodes u node) refl

-- the node with another desk
abbrev pub with_desk : Node → DeskView → Node
with_desk node desk = record { moves = node.moves; register = node.register; desk = desk }

counts-taken : (nodes : List Node) (u j : ℕ) (node : Node) (desk : DeskView) → slice_get nodes u ≡ Some node → desk.marks ≡ set node.desk.marks j true
    → counts_of (set nodes u (with_desk node desk)) ≡ marked (counts_of nodes) u j
counts-taken nodes u j node desk at e =
    counts_of-set nodes u (with_desk node desk)
    ∙ rw (set-same (map (λ (n : Node). n.moves) nodes) u node.moves (slice_get-map (λ (n : Node). n.moves) nodes u ∙ ap (option_map (λ (n : Node). n.moves)) at))
    (rw e (rw (marks_at nodes u node at) refl))

module _ (plan : PlanView) (stop : ℕ) (nodes : List Node) (drawn : IsDrawn plan nodes) (u j : ℕ) (node theirs : Node) (f : Found plan stop nodes u j node theirs) where
  -- the slot is on the desk
  inside : j < length node.desk.marks
  inside = (let s = (drawn.each u node f.at).slots in let t = f.slot in omega arith)

  pub open_answer : answer_of plan.network stop (counts_of nodes) (Read u j) ≡ (if has_mark node.desk j then answer.Already else if nat_lt theirs.moves node.moves then answer.Behind else answer.Taken)
  open_answer =
      let m = moves_at nodes u node f.at in
      let n : u < length plan.network = omega (arith, slice_get_within nodes u node f.at, drawn.one_each) in
      let ne : moves_of (counts_of nodes) u ≢ stop = rw m f.unstopped in
      answer-open plan.network stop (counts_of nodes) u j n f.slot ne
      ∙ rw (mark_at nodes u j node f.at) (rw m (rw (moves_at nodes (neighbour plan.network u j) theirs f.there) refl))

  module _ (l : Look) (shows : Shows node.moves theirs.moves (lockstep plan node.moves (neighbour plan.network u j)) l) where
    pub answer-marked : has_mark node.desk j ≡ true → answer.Already ≡ answer_of plan.network stop (counts_of nodes) (Read u j)
    answer-marked e = rw open_answer (rw e refl)

    pub answer-behind : has_mark node.desk j ≡ false → l ≡ Behind → answer.Behind ≡ answer_of plan.network stop (counts_of nodes) (Read u j)
    answer-behind e b =
        let lt : theirs.moves < node.moves = ⊎_elim (λ a. a.0) (λ a. absurd (not-behind a.1 b)) shows in
        rw open_answer (rw e (rw (lt_true theirs.moves node.moves lt) refl))

    pub answer-not_behind : has_mark node.desk j ≡ false → (l ≡ Behind → ⊥) → answer.Taken ≡ answer_of plan.network stop (counts_of nodes) (Read u j)
    answer-not_behind e b =
        let le : node.moves ≤ theirs.moves = ⊎_elim (λ a. absurd (b a.1)) (λ a. a.0) shows in
        rw open_answer (rw e (rw (lt_false theirs.moves node.moves le) refl))

    module _ (left : DeskView) (said : Offer) (o : IsOffered plan.program (seat_of u node) j (neighbour plan.network u j) (weight plan.network u j) node.desk l left said) where
      abbrev state : State
      state = lockstep plan node.moves (neighbour plan.network u j)

      marked_case : has_mark node.desk j ≡ true → (said ≡ offer.Already) × (left ≡ node.desk)
      marked_case e =
          let r = offer-marked plan.program (seat_of u node) j (neighbour plan.network u j) (weight plan.network u j) node.desk l inside e in
          (o.answered ∙ r.0, o.changed ∙ r.1)

      behind_case : has_mark node.desk j ≡ false → l ≡ Behind → (said ≡ offer.Behind) × (left ≡ node.desk)
      behind_case e b =
          let r = offer-behind plan.program (seat_of u node) j (neighbour plan.network u j) (weight plan.network u j) node.desk l inside e b in
          (o.answered ∙ r.0, o.changed ∙ r.1)

      taken_case : has_mark node.desk j ≡ false → given l ≡ Some state → (said ≡ offer.Taken) × (left.marks ≡ set node.desk.marks j true)
      taken_case e g =
          let r = offer-taken plan.program (seat_of u node) j (neighbour plan.network u j) (weight plan.network u j) node.desk l inside e state g in
          (o.answered ∙ r.0, ap (λ (x : DeskView). x.marks) (o.changed ∙ r.1))

      pub read_answer : answer_from said ≡ answer_of plan.network stop (counts_of nodes) (Read u j)
      read_answer =
          ⊎_elim
          (λ t. ap answer_from (marked_case t).0 ∙ answer-marked t)
          (λ g. ⊎_elim
          (λ b. ap answer_from (behind_case g b.1).0 ∙ answer-behind g b.1)
          (λ a. ap answer_from (taken_case g (given-shown state l a.1)).0 ∙ answer-not_behind g (not-behind a.1)) shows)
          (cases_bool (has_mark node.desk j))

      pub read_counts : counts_of (set nodes u (with_desk node left)) ≡ after plan.network stop (counts_of nodes) (Read u j)
      read_counts =
          let kept : left ≡ node.desk → counts_of (set nodes u (with_desk node left)) ≡ counts_of nodes = λ d. rw d (ap counts_of (set-same nodes u node f.at)) in
          ⊎_elim
          (λ t. kept (marked_case t).1 ∙ ap (change (counts_of nodes) (Read u j)) (answer-marked t))
          (λ g. ⊎_elim
          (λ b. kept (behind_case g b.1).1 ∙ ap (change (counts_of nodes) (Read u j)) (answer-behind g b.1))
          (λ a. counts-taken nodes u j node left f.at (taken_case g (given-shown state l a.1)).1 ∙ ap (change (counts_of nodes) (Read u j)) (answer-not_behind g (not-behind a.1))) shows)
          (cases_bool (has_mark node.desk j))

      -- the sums with the neighbour taken
      taken_sums : has_mark node.desk j ≡ false → said ≡ offer.Taken → given l ≡ Some state → left.sums ≡ gathered_sums plan u node.moves (set node.desk.marks j true)
      taken_sums g t e =
          let p = drawn.each u node f.at in
          let s = splits (lockstep plan node.moves) (row plan.network u) node.desk.marks j f.slot inside g in
          let few = drawn.well_formed.network.degrees u in
          let short = s.few in
          o.summed state s.front s.back t e (omega arith)
          (p.sums ∙ ap (sums_of_round plan u node.moves) s.previous ∙ sym (seat-sums plan u node _ p))
          ∙ seat-sums plan u node _ p ∙ ap (sums_of_round plan u node.moves) (sym s.joined)

      -- the node with the offered desk is the picture of its count
      offered_picture : IsNodePicture plan u (with_desk node left)
      offered_picture =
          let p = drawn.each u node f.at in
          let kept : left ≡ node.desk → IsNodePicture plan u (with_desk node left) = λ d. rw d p in
          ⊎_elim
          (λ t. kept (marked_case t).1)
          (λ g. ⊎_elim
          (λ b. kept (behind_case g b.1).1)
          (λ a.
          let gives = given-shown state l a.1 in
          let t = taken_case g gives in
          record {
            started = p.started;
            phase = p.phase;
            current = p.current;
            previous = p.previous;
            slots = ap length t.1 ∙ length-set node.desk.marks j true ∙ p.slots;
            sums = taken_sums g t.0 gives ∙ ap (gathered_sums plan u node.moves) (sym t.1);
          }) shows)
          (cases_bool (has_mark node.desk j))

      pub read_drawn : IsDrawn plan (set nodes u (with_desk node left))
      read_drawn = drawn-set plan nodes u (with_desk node left) drawn offered_picture

pub answer-no_slot : (network : Neighbours) (stop : ℕ) (c : Counts) (u j : ℕ) → u < length network → degree network u ≤ j → answer.NoSlot ≡ answer_of network stop c (Read u j)
answer-no_slot network stop c u j a b = grind (arith, nat_tests)

pub answer-stopped : (network : Neighbours) (stop : ℕ) (c : Counts) (u j : ℕ) → u < length network → j < degree network u → moves_of c u ≡ stop → answer.Stopped ≡ answer_of network stop c (Read u j)
answer-stopped network stop c u j a b d = grind (arith, nat_tests)

pub answer-already : (network : Neighbours) (stop : ℕ) (c : Counts) (u j : ℕ) → u < length network → j < degree network u → moves_of c u ≢ stop → is_marked c u j ≡ true → answer.Already ≡ answer_of network stop c (Read u j)
answer-already network stop c u j a b d e = grind (arith, nat_tests)
