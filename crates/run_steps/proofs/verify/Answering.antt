-- What the count machine answers, and what a move shows.
use Rattle.std.proofs.Common.{◌≡◌, ◌≢◌, ℕ, zero, suc, ◌+◌, ◌<◌, ◌≤◌, ◌==◌, true, false, length, nat_le, inl, inr, refl, ap, ◌∙◌, arith}
use Rattle.std.proofs.lemmas.Bool.Decides.{nat_tests, Decides-eqb}
use Rattle.link_net.specs.Neighbours.{Neighbours, degree}
use Rattle.rule_check.specs.declared.state.State.{State}
use Rattle.rounds_plan.specs.Lockstep.{lockstep}
use Rattle.unison_world.specs.declared.step.Step.TheVariants.{Write}
use Rattle.unison_world.specs.declared.step.Answer.TheVariants as answer
use Rattle.unison_world.specs.Counting.{Counts, moves_of, is_marked, all_marked, answer_of, change, moved, HasShape}
use Rattle.unison_world.specs.View.{WorldView, answer_in, with_counts, world_after, state_of}
use Rattle.unison_world.proofs.Steps.{moves-moved}
use Rattle.unison_world.proofs.Writes.{answer-ready}

module _ (network : Neighbours) (stop : ℕ) (c : Counts) (u : ℕ) where
  -- a node that could move but for its slots is below the stop
  unready-below : u < length network → answer_of network stop c (Write u) ≡ answer.NotReady → moves_of c u ≢ stop
  unready-below node h at =
      let a : nat_le (length network) u ≡ false = grind (arith, nat_tests) in
      let b : (moves_of c u == stop) ≡ true = (Decides-eqb (moves_of c u) stop).1 at in
      let e : answer_of network stop c (Write u) ≡ answer.Stopped = rw (a, b) refl in
      cc

  marked-all : (n : ℕ) → ((k : ℕ) → k < n → is_marked c u k ≡ true) → all_marked c u n ≡ true
  marked-all zero h = refl
  marked-all (suc n) h = (let one = h n (omega arith) in let more = marked-all n (λ k less. h k (omega arith)) in rw one more)

  -- a node all of whose slots are marked is ready
  pub all-read : (n : ℕ) → degree network u ≤ n → ((k : ℕ) → k < n → is_marked c u k ≡ true) → u < length network → answer_of network stop c (Write u) ≡ answer.NotReady → ⊥
  all-read n many marks node h =
      let below = unready-below node h in
      let all = marked-all (degree network u) (λ k less. marks k (omega arith)) in
      let moves = answer-ready network stop c u node below all in
      cc

-- the state that a node shows behind a move
pub shown-moved : (w x : WorldView) (u : ℕ) (s : State) → HasShape w.plan.network w.counts → u < length w.plan.network → answer_in w (Write u) ≡ answer.Moved → x ≡ world_after w (Write u) → s ≡ state_of x u → s ≡ lockstep w.plan (moves_of w.counts u + 1) u
shown-moved w x u s shape node h is e =
    let many = shape.moves in
    let changed : world_after w (Write u) ≡ with_counts w (moved w.counts u) = ap (λ a. with_counts w (change w.counts (Write u) a)) h in
    let count : moves_of (moved w.counts u) u ≡ moves_of w.counts u + 1 = elim (moves-moved w.counts u u (omega arith)) [ inl x ↦ x.1 | inr x ↦ absurd (x.0 refl) ] in
    e ∙ ap (λ y. state_of y u) (is ∙ changed) ∙ ap (λ t. lockstep w.plan t u) count
