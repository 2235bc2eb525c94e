-- What a group of slots and one batch change.
use Rattle.std.proofs.Common.{◌≡◌, ◌<◌, ◌≤◌, ◌+◌, ◌⊎◌, inl, inr, ℕ, List, [], ◌∷◌, ◌++◌, length, map, take, ap, sym, ◌∙◌, arith, slice_index, slice_index_or, append-nil}
use Rattle.std.specs.Global.{Vec}
use Rattle.std.proofs.lemmas.List.{take_more, length-take-le}
use Rattle.std.proofs.lemmas.Grind.{flat_map-append}
use Rattle.rule_check.specs.declared.state.Near.{Near}
use Rattle.rule_check.specs.Value.{Rules}
use Rattle.link_net.specs.Neighbours.{Neighbours, degree, AreRows}
use Rattle.rounds_code.specs.declared.slot.Slot.{Slot}
use Rattle.rounds_code.specs.Block.{Lane, IsSameNode, HasGathered, state_at, near_in, next_of, scattered}
use Rattle.rounds_blocks.specs.declared.batch.Batch.{Batch}
use Rattle.rounds_blocks.specs.Batches.{nodes_of}
use Rattle.rounds_plan.specs.Rounds.{nears_in, round_from}
use Rattle.rounds_blocks.specs.Gathered.{gathered_first, gathered}
use Rattle.rounds_blocks.proofs.Groups.{IsGroup, has_all, has_none, nears_next}
use Rattle.rounds_blocks.proofs.Sums.{nears_count, first_gathered, gathered_more, gathered_past, next_words}

module _ (rules own : Rules) (network : Neighbours) (round : ℕ) (from : List (Vec ℕ)) (same : own ≡ rules) where
  -- a lane after one group of slots more
  pub lane_step : (batch : Batch) (at behind count : ℕ) (group : List Slot) (none : Slot) (old new : List Lane) (i : ℕ) (d : Lane) → AreRows network → IsGroup network batch at behind count group
      → ((i : ℕ) (d : Lane) → IsSameNode (slice_index_or old i d) (slice_index_or new i d))
      → ((i : ℕ) (d : Lane) (nears : List Near) → i < count → length nears + length group ≤ 4294967295
      → HasGathered own nears (slice_index_or old i d) → HasGathered own (nears ++ map (near_in from i) group) (slice_index_or new i d))
      → ((i : ℕ) (d : Lane) → count ≤ i → slice_index_or new i d ≡ slice_index_or old i d)
      → slice_index_or old i d ≡ gathered_first rules network round from at (slice_index batch.nodes i) → i < length batch.nodes → ((i < count) ⊎ (count ≤ i))
      → slice_index_or new i d ≡ gathered_first rules network round from behind (slice_index batch.nodes i)
  lane_step batch at behind count group none old new i d whole is kept taken others here place (inl h) =
      let u = slice_index batch.nodes i in
      let front = take at (nears_in network (state_at from) u) in
      let far : behind ≤ degree network u = has_all network batch at behind count group is none i h in
      let long : length front ≡ at = length-take-le at (nears_in network (state_at from) u) (omega (arith, is.some, far, nears_count network (state_at from) u)) in
      gathered_more rules own network round from at behind u (slice_index_or old i d) (slice_index_or new i d) (front ++ map (near_in from i) group) same here (kept i d)
      (nears_next network batch at behind count group is none i from h)
      (taken i d front h (omega (arith, long, is.many, far, whole.degrees u)) (first_gathered rules own network round from at u (slice_index_or old i d) same here))
  lane_step batch at behind count group none old new i d whole is kept taken others here place (inr h) =
      others i d h ∙ here ∙ gathered_past rules network round from at behind (slice_index batch.nodes i) (has_none network batch at behind count group is none i h place) (omega (arith, is.some))

  -- the words that a batch writes
  pub batch_words : (old new : List (Vec ℕ)) (lanes : List Lane) (nodes places : List ℕ) (none : Vec ℕ) (k : ℕ)
      → places ≡ nodes
      → ((k : ℕ) (d : Vec ℕ) → k < length old → (slice_index_or new k d).items ≡ scattered places (map (λ node. slice_index (next_of own node).words k) lanes) (slice_index_or old k d).items)
      → length lanes ≡ length nodes → ((i : ℕ) (d : Lane) → i < length nodes → slice_index_or lanes i d ≡ gathered rules network round from (slice_index nodes i))
      → k < length old
      → (slice_index_or new k none).items ≡ scattered nodes (map (λ u. slice_index (round_from rules network round (state_at from) u).words k) nodes) (slice_index_or old k none).items
  batch_words old new lanes nodes places none k are words many lanes_are inside =
      let column = (slice_index_or old k none).items in
      words k none inside
      ∙ ap (λ (r : Rules). scattered places (map (λ (node : Lane). slice_index (next_of r node).words k) lanes) column) same
      ∙ ap (λ (ps : List ℕ). scattered ps (map (λ (node : Lane). slice_index (next_of rules node).words k) lanes) column) are
      ∙ ap (λ (ws : List ℕ). scattered nodes ws column) (next_words rules network round from lanes nodes k many lanes_are)

-- the nodes of one batch more
pub nodes_so_far : (batches : List Batch) (i : ℕ) (batch : Batch) → i < length batches → batch ≡ slice_index_or batches i batch → nodes_of (take (i + 1) batches) ≡ nodes_of (take i batches) ++ batch.nodes
nodes_so_far batches i batch inside is =
    let here = slice_index_or batches i batch in
    ap (λ (bs : List Batch). nodes_of bs) (take_more batches i batch inside)
    ∙ flat_map-append (λ (b : Batch). b.nodes) (take i batches) (here ∷ [])
    ∙ ap (λ (ns : List ℕ). nodes_of (take i batches) ++ ns) (append-nil here.nodes)
    ∙ ap (λ (b : Batch). nodes_of (take i batches) ++ b.nodes) (sym is)
