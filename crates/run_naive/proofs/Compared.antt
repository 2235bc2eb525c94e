-- How the first difference is found among moves.
use Rattle.std.proofs.Common.{◌≡◌, ℕ, zero, suc, ◌+◌, ◌<◌, ◌≤◌, ◌⊎◌, inl, inr, List, [], ◌∷◌, length, get_or, Option, Some, None, Bool, true, false, nat_le, if◌then◌else◌, refl, sym, ap, ◌∙◌, arith}
use Rattle.std.specs.Prelude.{option_map, slice_get}
use Rattle.std.proofs.lemmas.Bool.{cases_lt, leb-true, leb-false}
use Rattle.std.proofs.lemmas.Option.{get_or_from_slice_get, slice_get-get_or, slice_get_within}
use Rattle.rule_check.specs.declared.state.State.{State}
use Rattle.rounds_plan.specs.Lockstep.{lockstep}
use Rattle.rounds_plan.specs.Plans.{PlanView}
use Rattle.run_naive.specs.declared.node.Move.{Move}
use Rattle.run_naive.specs.declared.difference.Difference.{Difference}
use Rattle.run_naive.specs.Differences.{is_same}
use Rattle.run_naive.specs.Keeping.{AreCompared, Before, BeforeNode, IsAbout, IsLeast, agrees, difference_at, earlier, no_move, past_in, with_found, with_move}

past_end : {X : Type 0} (xs : List X) (i : ℕ) → slice_get xs i ≡ None → length xs ≤ i
past_end {X} [] i none = omega arith
past_end {X} (x ∷ xs) zero none = cc
past_end {X} (x ∷ xs) (suc i) none = (let rest = past_end xs i none in omega (arith, rest))

-- what is told of moves is told of fewer of them
pub compared_fewer : (p : PlanView) (pasts : List (List Move)) (Seen Fewer : ℕ → ℕ → Type 0) (first : Option Difference)
    → ((u i : ℕ) → Fewer u i → u < length p.network → i < length (past_in pasts u) → Seen u i) → AreCompared p pasts Seen first → AreCompared p pasts Fewer first
compared_fewer p pasts Seen Fewer None within is = λ u i fewer h there. is u i (within u i fewer h there) h there
compared_fewer p pasts Seen Fewer (Some d) within is = record {
  place = is.place;
  about = is.about;
  differs = is.differs;
  least = λ u i fewer h there apart. is.least u i (within u i fewer h there) h there apart;
}

module _ (p : PlanView) (pasts : List (List Move)) (Seen More : ℕ → ℕ → Type 0) (found : Difference) (place : ℕ) (about : IsAbout p pasts place found)
    (split : (u i : ℕ) → More u i → u < length p.network → i < length (past_in pasts u) → Seen u i ⊎ ((u ≡ found.node) × (i ≡ place))) where
  -- whether the move that is found led to the lockstep state
  same_agrees : (u i : ℕ) → u ≡ found.node → i ≡ place → agrees p pasts u i ≡ is_same found.state found.lockstep
  same_agrees u i here there =
      ap (λ (v : ℕ). agrees p pasts v i) here ∙ ap (λ (j : ℕ). agrees p pasts found.node j) there
      ∙ ap (λ (m : Move). is_same m.state (lockstep p (p.start + (place + 1)) found.node)) about.is
      ∙ ap (λ (c : ℕ). is_same found.state (lockstep p c found.node)) (sym about.moves)
      ∙ ap (is_same found.state) (sym about.lockstep)

  same_step : (u i : ℕ) → u ≡ found.node → i ≡ place → (get_or (past_in pasts u) i no_move).step ≡ found.step
  same_step u i here there =
      ap (λ (v : ℕ). (get_or (past_in pasts v) i no_move).step) here ∙ ap (λ (j : ℕ). (get_or (past_in pasts found.node) j no_move).step) there ∙ ap (λ (m : Move). m.step) about.is

  agreeing : (first : Option Difference) → is_same found.state found.lockstep ≡ true → AreCompared p pasts Seen first → AreCompared p pasts More first
  agreeing None same is = λ u i more h there. elim (split u i more h there) as (λ _. agrees p pasts u i ≡ true) [
    | inl seen ↦ is u i seen h there
    | inr new ↦ same_agrees u i new.0 new.1 ∙ same
  ]
  agreeing (Some d) same is = record {
    place = is.place;
    about = is.about;
    differs = is.differs;
    least = λ u i more h there apart. elim (split u i more h there) as (λ _. d.step ≤ (get_or (past_in pasts u) i no_move).step) [
      | inl seen ↦ is.least u i seen h there apart
      | inr new ↦ (let bad : true ≡ false = sym same ∙ sym (same_agrees u i new.0 new.1) ∙ apart in cc)
    ];
  }

  earliest : (known : Difference) (b : Bool) → nat_le known.step found.step ≡ b → is_same found.state found.lockstep ≡ false → IsLeast p pasts Seen known
      → IsLeast p pasts More (if b then known else found)
  earliest known true order apart is =
      let before : known.step ≤ found.step = leb-true known.step found.step order in
      record {
        place = is.place;
        about = is.about;
        differs = is.differs;
        least = λ u i more h there other. elim (split u i more h there) as (λ _. known.step ≤ (get_or (past_in pasts u) i no_move).step) [
          | inl seen ↦ is.least u i seen h there other
          | inr new ↦ omega (arith, before, same_step u i new.0 new.1)
        ];
      }
  earliest known false order apart is =
      let behind : found.step < known.step = leb-false known.step found.step order in
      record {
        place = place;
        about = about;
        differs = apart;
        least = λ u i more h there other. elim (split u i more h there) as (λ _. found.step ≤ (get_or (past_in pasts u) i no_move).step) [
          | inl seen ↦ (let old = is.least u i seen h there other in omega (arith, behind, old))
          | inr new ↦ omega (arith, same_step u i new.0 new.1)
        ];
      }

  differing : (first : Option Difference) → is_same found.state found.lockstep ≡ false → AreCompared p pasts Seen first → AreCompared p pasts More (Some (earlier first found))
  differing None apart is = record {
    place = place;
    about = about;
    differs = apart;
    least = λ u i more h there other. elim (split u i more h there) as (λ _. found.step ≤ (get_or (past_in pasts u) i no_move).step) [
      | inl seen ↦ (let bad : true ≡ false = sym (is u i seen h there) ∙ other in cc)
      | inr new ↦ omega (arith, same_step u i new.0 new.1)
    ];
  }
  differing (Some known) apart is = earliest known (nat_le known.step found.step) refl apart is

  by_case : (first : Option Difference) (b : Bool) → is_same found.state found.lockstep ≡ b → AreCompared p pasts Seen first
      → AreCompared p pasts More (if b then first else Some (earlier first found))
  by_case first true same is = agreeing first same is
  by_case first false apart is = differing first apart is

  -- one move more
  pub compared_more : (first : Option Difference) → AreCompared p pasts Seen first → AreCompared p pasts More (with_move first found)
  compared_more first is = by_case first (is_same found.state found.lockstep) refl is

module _ (p : PlanView) (pasts : List (List Move)) (index node moves : ℕ) (lockstep_state : State) (count : moves ≡ p.start + (index + 1)) (inside : node < length p.network)
    (known : lockstep_state ≡ lockstep p moves node) (first : Option Difference) (compared : AreCompared p pasts (BeforeNode index node) first) where
  earlier_or_here : (u i : ℕ) → BeforeNode index (node + 1) u i → BeforeNode index node u i ⊎ ((u ≡ node) × (i ≡ index))
  earlier_or_here u i (inl before) = inl (inl before)
  earlier_or_here u i (inr here) = elim (cases_lt u node) as (λ _. BeforeNode index node u i ⊎ ((u ≡ node) × (i ≡ index))) [
    | inl below ↦ inl (inr (here.0, below))
    | inr last ↦ inr (omega (arith, last, here.1), here.0)
  ]

  no_move_there : length (past_in pasts node) ≤ index → (u i : ℕ) → BeforeNode index (node + 1) u i → i < length (past_in pasts u) → BeforeNode index node u i
  no_move_there past u i before there = elim (earlier_or_here u i before) as (λ _. BeforeNode index node u i) [
    | inl old ↦ old
    | inr here ↦ absurd (omega (arith, past, there, here.1, ap (λ (v : ℕ). length (past_in pasts v)) here.0))
  ]

  -- the move at a place of a node more, where there is one
  pub compared_node : (o : Option Move) → slice_get (past_in pasts node) index ≡ o
      → AreCompared p pasts (BeforeNode index (node + 1)) (with_found first (option_map (difference_at node moves lockstep_state) o))
  compared_node None none =
      compared_fewer p pasts (BeforeNode index node) (BeforeNode index (node + 1)) first
      (λ u i before h there. no_move_there (past_end (past_in pasts node) index none) u i before there) compared
  compared_node (Some m) some =
      let there = slice_get_within (past_in pasts node) index m some in
      compared_more p pasts (BeforeNode index node) (BeforeNode index (node + 1)) (difference_at node moves lockstep_state m) index
      (record { node = inside; there = there; moves = count; is = get_or_from_slice_get (past_in pasts node) index m no_move some; lockstep = known })
      (λ u i before h within. earlier_or_here u i before) first compared

-- before the first node
pub compared_before : (p : PlanView) (pasts : List (List Move)) (index : ℕ) (first : Option Difference) → AreCompared p pasts (Before index) first → AreCompared p pasts (BeforeNode index 0) first
compared_before p pasts index first is =
    compared_fewer p pasts (Before index) (BeforeNode index 0) first
    (λ u i before h there. elim before as (λ _. i < index) [ inl old ↦ old | inr none ↦ absurd (omega (arith, none.1)) ]) is

-- behind the last one
pub compared_behind : (p : PlanView) (pasts : List (List Move)) (index nodes : ℕ) (first : Option Difference) → nodes ≡ length p.network
    → AreCompared p pasts (BeforeNode index nodes) first → AreCompared p pasts (Before (index + 1)) first
compared_behind p pasts index nodes first all is =
    compared_fewer p pasts (BeforeNode index nodes) (Before (index + 1)) first
    (λ u i before h there. elim (cases_lt i index) as (λ _. BeforeNode index nodes u i) [ inl old ↦ inl old | inr last ↦ inr (omega (arith, last, before), omega (arith, all, h)) ]) is
