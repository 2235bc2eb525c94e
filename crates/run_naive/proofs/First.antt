-- The first difference among the moves is the first one after any step.
use Rattle.std.proofs.Common.{◌≡◌, ℕ, ◌+◌, ◌<◌, ◌≤◌, ◌⊎◌, inl, inr, List, [], ◌∷◌, ◌++◌, length, get_or, take, Option, Some, None, Bool, true, false, not, refl, sym, ap, ◌∙◌, arith, codes}
use Rattle.std.specs.Prelude.{option_map}
use Rattle.std.specs.Fmt.{decimal}
use Rattle.std.specs.Str.{bytes_eq}
use Rattle.std.proofs.lemmas.Bool.{cases_Bool}
use Rattle.std.proofs.lemmas.Slice.Eq.{bytes_eq-Decides}
use Rattle.rule_check.specs.declared.state.State.{State}
use Rattle.rule_check.specs.Value.{names_of}
use Rattle.rounds_plan.specs.Lockstep.{lockstep, lockstep-start, state_in}
use Rattle.rounds_plan.specs.Plans.{PlanView}
use Rattle.unison_world.specs.declared.step.Step.{Step}
use Rattle.run_naive.specs.declared.node.Move.{Move}
use Rattle.run_naive.specs.declared.difference.Difference.{Difference}
use Rattle.run_naive.specs.Naive.{NaiveNode, node_in}
use Rattle.run_naive.specs.Differences.{IsFirst, IsFirstDifference, NeverDiffers, differs, is_same, nodes_after}
use Rattle.run_naive.specs.Telling.{first_line, node_text, standing}
use Rattle.run_naive.specs.Keeping.{AreAllCompared, HasCome, IsKept, IsLeast, IsMade, IsReached, agrees, difference_line, moment_of, no_move, past_in}

words_same : (xs : List ℕ) → bytes_eq xs xs ≡ true
words_same xs = (bytes_eq-Decides xs xs).1 refl

-- a state is the same as itself
same_self : (s t : State) → s ≡ t → is_same s t ≡ true
same_self s t e = ap (λ (x : State). is_same x t) e ∙ words_same t.words

module _ (p : PlanView) (stop : ℕ) (steps : List Step) (pasts : List (List Move)) (kept : IsKept p (nodes_after p stop steps) (length steps) pasts) where
  abbrev at : ℕ → List NaiveNode
  at = nodes_after p stop steps

  -- a node that has not moved does not differ
  opening_differs : (k u : ℕ) → (node_in (at k) u).moves ≡ p.start → (node_in (at k) u).state ≡ state_in p.opening u → differs p (at k) u ≡ false
  opening_differs k u moves state =
      ap not (same_self (node_in (at k) u).state (lockstep p (node_in (at k) u).moves u) (state ∙ sym (lockstep-start p u) ∙ ap (λ (t : ℕ). lockstep p t u) (sym moves)))

  -- one that has moved differs where its move did not agree
  reached_differs : (k u : ℕ) (r : IsReached p pasts k u (node_in (at k) u)) → differs p (at k) u ≡ not (agrees p pasts u r.place)
  reached_differs k u r =
      ap (λ (s : State). not (is_same s (lockstep p (node_in (at k) u).moves u))) r.state
      ∙ ap (λ (t : ℕ). not (is_same (get_or (past_in pasts u) r.place no_move).state (lockstep p t u))) r.moves

  -- each move that is kept was seen
  seen_all : (u i : ℕ) → u < length p.network → i < length (past_in pasts u) → p.start + (i + 1) ≤ (node_in (at (length steps)) u).moves
  seen_all u i h there = omega (arith, kept.count u h, there)

  never : AreAllCompared p (at (length steps)) pasts None → NeverDiffers p stop steps
  never is k u early h = elim (kept.come k u early h) as (λ _. differs p (at k) u ≡ false) [
    | inl none ↦ opening_differs k u none.0 none.1
    | inr r ↦ reached_differs k u r ∙ ap not (is u r.place (seen_all u r.place h r.there) h r.there)
  ]

  module _ (d : Difference) (is : IsLeast p pasts (λ u i. p.start + (i + 1) ≤ (node_in (at (length steps)) u).moves) d) where
    made : IsMade p at (length steps) d.node is.place (record { step = d.step; state = d.state })
    made = rw is.about.is at (kept.made d.node is.place is.about.node is.about.there)

    pub moves_then : (node_in (at d.step) d.node).moves ≡ d.moves
    moves_then = made.moves ∙ sym is.about.moves

    pub lockstep_then : lockstep p (node_in (at d.step) d.node).moves d.node ≡ d.lockstep
    lockstep_then = ap (λ (t : ℕ). lockstep p t d.node) moves_then ∙ sym is.about.lockstep

    before : (k u : ℕ) → k < d.step → u < length p.network → differs p (at k) u ≡ false
    before k u early h = elim (kept.come k u (omega (arith, early, made.early)) h) as (λ _. differs p (at k) u ≡ false) [
      | inl none ↦ opening_differs k u none.0 none.1
      | inr r ↦ elim (cases_Bool (agrees p pasts u r.place)) as (λ _. differs p (at k) u ≡ false) [
        | inl same ↦ reached_differs k u r ∙ ap not same
        | inr apart ↦ (let later = is.least u r.place (seen_all u r.place h r.there) h r.there apart in absurd (omega (arith, early, later, r.early)))
      ]
    ]

    first_of_all : IsFirst p stop steps (moment_of d)
    first_of_all = record {
      made = made.early;
      node = is.about.node;
      apart = ap (λ (s : State). not (is_same s (lockstep p (node_in (at d.step) d.node).moves d.node))) made.state ∙ ap (λ (s : State). not (is_same d.state s)) lockstep_then ∙ ap not is.differs;
      none_before = before;
    }

    text_then : standing (names_of p.program) d.node d.moves d.state d.lockstep ≡ node_text p (at d.step) d.node
    text_then =
        ap (λ (t : ℕ). standing (names_of p.program) d.node t d.state d.lockstep) (sym moves_then)
        ∙ ap (λ (s : State). standing (names_of p.program) d.node (node_in (at d.step) d.node).moves s d.lockstep) (sym made.state)
        ∙ ap (standing (names_of p.program) d.node (node_in (at d.step) d.node).moves (node_in (at d.step) d.node).state) (sym lockstep_then)

  -- the first difference that is found is the first one
  pub first_found : (first : Option Difference) → AreAllCompared p (at (length steps)) pasts first → IsFirstDifference p stop steps (option_map moment_of first)
  first_found None is = never is
  first_found (Some d) is = first_of_all d is

  -- and its line says so
  pub line_found : (first : Option Difference) → AreAllCompared p (at (length steps)) pasts first
      → difference_line (names_of p.program) first ≡ first_line p stop steps (option_map moment_of first)
  line_found None is = refl
  line_found (Some d) is = ap (λ x. codes "first difference after step " ++ (decimal d.step ++ (codes ": node " ++ (x ++ 10 ∷ [])))) (text_then d is)
