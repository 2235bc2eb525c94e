-- What is seen of a world is what is promised.
use Rattle.std.proofs.Common.{◌≡◌, ◌∙◌, ◌<◌, ◌≤◌, ◌+◌, ◌%◌, ℕ, Bool, true, false, Err, List, None, Ok, Option, Some, ap, arith, cond, if◌then◌else◌, inl, inr, length, map, nat_lt, slice_get, sym}
use Rattle.std.proofs.lemmas.Bool.{cases_Bool}
use Rattle.std.proofs.lemmas.Bool.Decides.{nat_tests}
use Rattle.std.proofs.lemmas.Option.{slice_get-get_or, slice_get_past}
use Rattle.std.proofs.lemmas.List.FromFn.{get_or-map-range_with_len, length-map-range_with_len}
use Rattle.link_net.specs.Neighbours.{degree, neighbour, numbers_below}
use Rattle.rounds_plan.specs.Configs.{most_rounds}
use Rattle.rounds_plan.specs.Lockstep.{lockstep}
use Rattle.rounds_plan.specs.Plans.{PlanView}
use Rattle.unison_world.specs.Counting.{Counts, InStep, moves_of}
use Rattle.unison_world.specs.declared.fault.OpenFault.TheVariants.{StopBelowStart, StopTooLarge}
use Rattle.unison_world.specs.declared.step.Step.{Step}
use Rattle.unison_world.specs.Opening.{opening_of}
use Rattle.unison_world.specs.View.{WorldView, opened, with_counts}
use Rattle.unison_trace.specs.Histories.{answers_of, run_of}
use Rattle.headline.specs.declared.steps.Seen.{Seen}
use Rattle.headline.specs.declared.steps.Shown.{Shown}
use Rattle.headline.specs.Headline.{IsUnison, Shows}
use Rattle.headline.specs.Showing.{shown_in}

given : (a b : Bool) (w v : WorldView) → (if a then Err StopTooLarge else (if b then Err StopBelowStart else Ok v)) ≡ Ok w → w ≡ v
given true b w v h = cc
given false true w v h = cc
given false false w v h = cc

-- a world that is opened is the one before any step
pub opened_is : (plan : PlanView) (stop : ℕ) (w : WorldView) → opening_of plan stop ≡ Ok w → w ≡ opened plan stop
opened_is plan stop w h = given (nat_lt most_rounds stop) (nat_lt stop plan.start) w (opened plan stop) h

slice_get_range : (f : ℕ → Shown) (n u : ℕ) → slice_get (map f (numbers_below n)) u ≡ cond (nat_lt u n) (Some (f u)) None
slice_get_range f n u =
    elim (cases_Bool (nat_lt u n)) [
      | inl low ↦
          let lt : u < n = grind (arith, nat_tests) in
          let long : u < length (map f (numbers_below n)) = omega (arith, length-map-range_with_len f 0 n) in
          rw low (slice_get-get_or (map f (numbers_below n)) u (f u) long ∙ ap Some (get_or-map-range_with_len f 0 n u u (f u) lt (omega arith)))
      | inr high ↦
          let ge : n ≤ u = grind (arith, nat_tests) in
          rw high (slice_get_past (map f (numbers_below n)) u (omega (arith, length-map-range_with_len f 0 n)))
    ]

there : (b : Bool) (x node : Shown) → cond b (Some x) None ≡ Some node → node ≡ x
there true x node h = cc
there false x node h = cc

module _ (plan : PlanView) (stop : ℕ) (steps : List Step) (seen : Seen)
    (nodes : seen.nodes.items ≡ map (shown_in (with_counts (opened plan stop) (run_of plan stop steps))) (numbers_below (length plan.network))) where
  abbrev world : WorldView
  world = with_counts (opened plan stop) (run_of plan stop steps)

  is_shown : (u : ℕ) (node : Shown) → Shows seen u node → node ≡ shown_in world u
  is_shown u node shows =
      there (nat_lt u (length plan.network)) (shown_in world u) node
      (sym (ap (λ (ns : List Shown). slice_get ns u) nodes ∙ slice_get_range (shown_in world) (length plan.network) u) ∙ shows)

  its_moves : (u : ℕ) (node : Shown) → Shows seen u node → node.moves ≡ moves_of (run_of plan stop steps) u
  its_moves u node shows = ap (λ (n : Shown). n.moves) (is_shown u node shows)

  its_phase : (u : ℕ) (node : Shown) → Shows seen u node → node.phase ≡ (plan.phase + node.moves) % 3
  its_phase u node shows = ap (λ (n : Shown). n.phase) (is_shown u node shows) ∙ ap (λ (k : ℕ). (plan.phase + k) % 3) (sym (its_moves u node shows))

  its_state : (u t : ℕ) (node : Shown) → Shows seen u node → node.moves ≡ t → node.state ≡ lockstep plan t u
  its_state u t node shows moved =
      ap (λ (n : Shown). n.state) (is_shown u node shows)
      ∙ ap (λ (k : ℕ). lockstep plan k u) (sym (its_moves u node shows) ∙ moved)

  pub is_unison : seen.answers.items ≡ answers_of plan stop steps → InStep plan.network stop (run_of plan stop steps) → IsUnison plan stop steps seen
  is_unison answers in_step = record {
    answers = answers;
    nodes = ap (λ (ns : List Shown). length ns) nodes ∙ length-map-range_with_len (shown_in world) 0 (length plan.network);
    counts = its_moves;
    phases = its_phase;
    states = its_state;
    near =
        λ u j node other inside shows there.
        let near = in_step.near u j inside in
        let mine = its_moves u node shows in
        let its = its_moves (neighbour plan.network u j) other there in
        (omega (arith, near.0, mine, its), omega (arith, near.1, mine, its));
  }
