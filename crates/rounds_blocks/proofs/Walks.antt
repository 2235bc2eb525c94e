-- A round that computes some batches only.
use Rattle.std.proofs.Common.{◌≡◌, ◌<◌, ◌≤◌, ◌⊎◌, inl, inr, ℕ, suc, List, [], ◌∷◌, length, All, refl, sym, ap, ◌∙◌, arith, subst, slice_index, slice_index_or, Bool, true, false}
use Rattle.std.specs.Global.{Vec}
use Rattle.std.specs.List.{Contains}
use Rattle.std.proofs.lemmas.List.{get_or_default}
use Rattle.std.proofs.lemmas.List.Elements.{All-append, All-contains, All-nil}
use Rattle.rule_check.specs.declared.state.State.{State}
use Rattle.rule_check.specs.Value.{Rules}
use Rattle.rule_check.specs.Rounds.{reads_round}
use Rattle.link_net.specs.Neighbours.{Neighbours, neighbour}
use Rattle.rounds_code.specs.Steps.{lane}
use Rattle.rounds_code.specs.Block.{column_words, state_at}
use Rattle.rounds_code.proofs.Nodes.{range_at}
use Rattle.rounds_blocks.specs.declared.batch.Batch.{Batch}
use Rattle.rounds_blocks.specs.declared.near.Near.{Near}
use Rattle.rounds_blocks.specs.declared.near.Near.TheVariants as nears_of
use Rattle.rounds_blocks.specs.Batches.{IsLayout, nodes_of}
use Rattle.rounds_blocks.specs.Nears.{IsDue, Sleeps, SleepNear, IsAmong, HaveNear}
use Rattle.rounds_blocks.specs.Rounds.{IsNext, round_from}
use Rattle.rounds_blocks.specs.Walks.{HasMoved, IsAsBefore, Moved, SleepersRest}
use Rattle.rounds_blocks.proofs.Ranges.{each_number}
use Rattle.rounds_blocks.proofs.Resting.{rests}
use Rattle.rounds_blocks.proofs.Words.{next_whole}

pub mark_cases : (b : Bool) → (b ≡ true) ⊎ (b ≡ false)
mark_cases true = inl refl
mark_cases false = inr refl

-- a batch is marked or not
pub due_cases : (due : List Bool) (i : ℕ) → IsDue due i ⊎ Sleeps due i
due_cases due i = mark_cases (slice_index_or due i false)

-- what holds of the nodes of each batch holds of all nodes
pub all_batches : (P : ℕ → Type 0) (batches : List Batch) → ((i : ℕ) (d : Batch) → i < length batches → All P (slice_index_or batches i d).nodes) → All P (nodes_of batches)
all_batches P [] each = All-nil P
all_batches P (b ∷ bs) each = All-append P b.nodes (nodes_of bs) (each 0 b (omega arith)) (all_batches P bs (λ i d h. each (suc i) d (omega (arith, h))))

-- columns that have a node's next state have its words
pub next_by_state : (rules : Rules) (network : Neighbours) (round : ℕ) (from to : List (Vec ℕ)) (u : ℕ) → length to ≤ 8 → state_at to u ≡ round_from rules network round (state_at from) u → IsNext rules network round from to u
next_by_state rules network round from to u few is = λ k inside.
    sym (range_at (lane (column_words to) u) 8 k 0 (omega (arith, few, inside)))
    ∙ ap (λ (s : State). slice_index s.words k) is

module _ (rules : Rules) (network : Neighbours) (batches : List Batch) (due : List Bool) (round : ℕ) (from old new : List (Vec ℕ))
    (few : length rules.fields ≤ 8) (wide : length old ≡ length rules.fields) (next_wide : length new ≡ length rules.fields)
    (layout : IsLayout network batches) (rest : SleepersRest rules network batches due from old)
    (done : (i : ℕ) (d : Batch) → i < length batches → IsDue due i → All (IsNext rules network round from new) (slice_index_or batches i d).nodes)
    (kept : (u : ℕ) → IsNext rules network round from old u → IsNext rules network round from new u) where
  all_here : (i : ℕ) (d : Batch) → i < length batches → (IsDue due i ⊎ Sleeps due i) → All (IsNext rules network round from new) (slice_index_or batches i d).nodes
  all_here i d h (inl is) = done i d h is
  all_here i d h (inr not) = λ k e inside.
      let u = slice_index_or (slice_index_or batches i d).nodes k e in
      kept u (next_by_state rules network round from old u (omega (arith, few, wide)) ((rest i d h not k e inside).next round))

  -- all nodes have their next states
  pub all_next : (u : ℕ) → u < length network → state_at new u ≡ round_from rules network round (state_at from) u
  all_next u inside =
      next_whole rules network round from new u next_wide
      (each_number (IsNext rules network round from new) (length network) (nodes_of batches) layout.once
      (all_batches (IsNext rules network round from new) batches (λ i d h. all_here i d h (due_cases due i))) u inside)

  sleepers_same : (i : ℕ) (d : Batch) → i < length batches → Sleeps due i → All (IsAsBefore from new) (slice_index_or batches i d).nodes
  sleepers_same i d h not = λ k e inside.
      let u = slice_index_or (slice_index_or batches i d).nodes k e in
      let here = rest i d h not k e inside in
      all_next u ((layout.each i d h).within k e inside) ∙ sym (here.next round) ∙ here.same

  module _ (changed : List Bool)
      (noted : (i : ℕ) (d : Batch) → i < length batches → Sleeps changed i → IsDue due i → All (IsAsBefore from new) (slice_index_or batches i d).nodes) where
    same_by : (i : ℕ) (d : Batch) → i < length batches → Sleeps changed i → (IsDue due i ⊎ Sleeps due i) → All (IsAsBefore from new) (slice_index_or batches i d).nodes
    same_by i d h still (inl is) = noted i d h still is
    same_by i d h still (inr not) = sleepers_same i d h not

    -- the nodes of a batch that did not change have the states from before
    pub same_batch : (i : ℕ) (d : Batch) → i < length batches → Sleeps changed i → All (IsAsBefore from new) (slice_index_or batches i d).nodes
    same_batch i d h still = same_by i d h still (due_cases due i)

    -- where no batch changed, all nodes have them
    pub same_all : ((i : ℕ) → i < length batches → Sleeps changed i) → (u : ℕ) → u < length network → state_at new u ≡ state_at from u
    same_all none u inside =
        each_number (IsAsBefore from new) (length network) (nodes_of batches) layout.once
        (all_batches (IsAsBefore from new) batches (λ i d h. same_batch i d h (none i h))) u inside

    same_among : (near : Near) (u : ℕ) (d : Batch) → length changed ≡ length batches → SleepNear changed near → IsAmong batches near u → IsAsBefore from new u
    same_among near u d count still among =
        All-contains (IsAsBefore from new) (slice_index_or batches among.home d).nodes u
        (same_batch among.home d among.stands.there (still among.home (omega (arith, among.stands.there, count)) among.listed))
        (among.stands.stands d)

    -- a batch near which nothing changed rests
    pub still_rest : (nears : List Near) (next : List Bool) → length changed ≡ length batches → HaveNear network batches nears → reads_round rules ≡ false
        → ((i : ℕ) (d : Near) → i < length batches → Sleeps next i → SleepNear changed (slice_index_or nears i d))
        → SleepersRest rules network batches next new from
    still_rest nears next count near unread awake i d h not = λ k e inside.
        let u = slice_index_or (slice_index_or batches i d).nodes k e in
        let here = slice_index_or nears i nears_of.Any in
        let still = awake i nears_of.Any h not in
        let are = near.each i d nears_of.Any h in
        let same : state_at new u ≡ state_at from u = same_among here u d count still (are.own k e inside) in
        record {
          same = sym same;
          next = λ later.
              sym same
              ∙ sym (rests rules network round later (state_at from) (state_at new) u unread (all_next u ((layout.each i d h).within k e inside)) same
              (λ j low. same_among here (neighbour network u j) d count still (are.neighbours k e inside j low)));
        }

-- a node of this batch moved
pub moved_here : (batches : List Batch) (from to : List (Vec ℕ)) (i : ℕ) (batch : Batch) → i < length batches → batch ≡ slice_index_or batches i batch
    → (u : ℕ) × Contains batch.nodes u × Moved from to u → HasMoved batches from to
moved_here batches from to i batch inside is found = record {
  node = found.0;
  home = i;
  stands = record {
    there = inside;
    stands = λ d. subst (λ (b : Batch). Contains b.nodes found.0) (is ∙ get_or_default batches i batch d inside) found.1;
  };
  moved = found.2;
}

-- the nodes of this batch, as they are looked at
pub same_here : (batches : List Batch) (from to : List (Vec ℕ)) (i : ℕ) (d batch : Batch) → i < length batches → batch ≡ slice_index_or batches i batch
    → All (IsAsBefore from to) batch.nodes → All (IsAsBefore from to) (slice_index_or batches i d).nodes
same_here batches from to i d batch inside is same = subst (λ (b : Batch). All (IsAsBefore from to) b.nodes) (is ∙ get_or_default batches i batch d inside) same
