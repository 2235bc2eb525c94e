-- What holds of the nodes of marked batches.
use Rattle.std.proofs.Common.{◌≡◌, ◌<◌, ◌≤◌, ◌+◌, ◌⊎◌, ◌∙◌, inl, inr, ℕ, List, All, length, sym, subst, arith, slice_index_or}
use Rattle.std.proofs.lemmas.List.{get_or_default}
use Rattle.std.proofs.lemmas.Bool.{cases_lt}
use Rattle.std.proofs.lemmas.List.Elements.{All-weaker}
use Rattle.rounds_blocks.specs.declared.batch.Batch.{Batch}
use Rattle.rounds_blocks.specs.declared.share.Share.{Share}
use Rattle.rounds_blocks.specs.declared.task.Task.{Task}
use Rattle.rounds_blocks.specs.Nears.{IsDue}
use Rattle.rounds_blocks.specs.Walks.{HoldsOfDue}

module _ (P Q : ℕ → Type 0) (task : Task) (first at : ℕ) (weaker : (u : ℕ) → P u → Q u) (before : HoldsOfDue P task first at)
    (here : (d : Batch) → IsDue task.due.now at → All Q (slice_index_or task.batches.now at d).nodes) where
  due_at : (i : ℕ) (d : Batch) → first ≤ i → i < at + 1 → IsDue task.due.now i → ((i < at) ⊎ (at ≤ i)) → All Q (slice_index_or task.batches.now i d).nodes
  due_at i d low high is (inl h) = All-weaker P Q weaker (slice_index_or task.batches.now i d).nodes (before i d low h is)
  due_at i d low high is (inr h) =
      let same : i ≡ at = omega (arith, h, high) in
      subst (λ (j : ℕ). All Q (slice_index_or task.batches.now j d).nodes) (sym same) (here d (subst (IsDue task.due.now) same is))

  -- one batch more
  pub due_more : HoldsOfDue Q task first (at + 1)
  due_more i d low high is = due_at i d low high is (cases_lt i at)

-- the batches from one on after others
module _ (P Q : ℕ → Type 0) (task : Task) (first at behind : ℕ) (weaker : (u : ℕ) → P u → Q u) (before : HoldsOfDue P task first at) (next : HoldsOfDue Q task at behind) where
  joined_at : (i : ℕ) (d : Batch) → first ≤ i → i < behind → IsDue task.due.now i → ((i < at) ⊎ (at ≤ i)) → All Q (slice_index_or task.batches.now i d).nodes
  joined_at i d low high is (inl h) = All-weaker P Q weaker (slice_index_or task.batches.now i d).nodes (before i d low h is)
  joined_at i d low high is (inr h) = next i d h high is

  pub due_joined : HoldsOfDue Q task first behind
  due_joined i d low high is = joined_at i d low high is (cases_lt i at)

-- fewer batches
pub due_fewer : (P : ℕ → Type 0) (task : Task) (first at behind : ℕ) → behind ≤ at → HoldsOfDue P task first at → HoldsOfDue P task first behind
due_fewer P task first at behind few all = λ i d low high is. all i d low (omega (arith, high, few)) is

module _ (P Q : ℕ → Type 0) (task : Task) (shares : List Share) (n : ℕ) (share : Share) (inside : n < length shares) (is : share ≡ slice_index_or shares n share) (weaker : (u : ℕ) → P u → Q u)
    (before : (s : ℕ) (d : Share) → s < n → HoldsOfDue P task (slice_index_or shares s d).first (slice_index_or shares s d).behind)
    (here : HoldsOfDue Q task share.first share.behind) where
  share_at : (s : ℕ) (d : Share) → s < n + 1 → ((s < n) ⊎ (n ≤ s)) → HoldsOfDue Q task (slice_index_or shares s d).first (slice_index_or shares s d).behind
  share_at s d high (inl h) = λ i e low up marked. All-weaker P Q weaker (slice_index_or task.batches.now i e).nodes (before s d h i e low up marked)
  share_at s d high (inr h) =
      let same : n ≡ s = omega (arith, h, high) in
      subst (λ (j : ℕ). HoldsOfDue Q task (slice_index_or shares j d).first (slice_index_or shares j d).behind) same
      (subst (λ (x : Share). HoldsOfDue Q task x.first x.behind) (is ∙ get_or_default shares n share d inside) here)

  -- one share more
  pub shares_more : (s : ℕ) (d : Share) → s < n + 1 → HoldsOfDue Q task (slice_index_or shares s d).first (slice_index_or shares s d).behind
  shares_more s d high = share_at s d high (cases_lt s n)
