-- Spans of batches: how they are shown, and what is copied of them.
use Rattle.std.proofs.Common.{◌≡◌, ◌<◌, ◌≤◌, ◌+◌, ◌-◌, ◌⊎◌, inl, inr, ℕ, List, [], ◌∷◌, ◌++◌, length, All, refl, sym, ap, ◌∙◌, subst, arith, slice_index, slice_index_or, length-append}
use Rattle.std.proofs.Math.ListN.{get_or-append}
use Rattle.std.proofs.lemmas.List.{get_or-append_right}
use Rattle.std.proofs.lemmas.List.Elements.{All-contains}
use Rattle.std.proofs.lemmas.Bool.{cases_lt}
use Rattle.rounds_blocks.specs.declared.batch.Batch.{Batch}
use Rattle.rounds_blocks.specs.declared.spans.Span.{Span}
use Rattle.rounds_blocks.specs.declared.task.Task.{Task}
use Rattle.rounds_blocks.specs.Nears.{AreHomes, IsDue}
use Rattle.rounds_blocks.specs.Rounds.{HasWordInside}
use Rattle.rounds_blocks.specs.Spans.{IsInside, IsSpan, HaveSpans}
use Rattle.rounds_blocks.specs.Walks.{HoldsOfDue}

-- a span by the batches in which nodes stand
pub span_made : (nodes : ℕ) (batches : List Batch) (first : ℕ) (span : Span) (homes : List ℕ) → AreHomes batches nodes homes
    → span.behind ≤ length batches → span.low ≤ span.high → span.high ≤ nodes
    → ((i : ℕ) (d : Batch) → first ≤ i → i < span.behind → All (IsInside span.low span.high) (slice_index_or batches i d).nodes)
    → ((u : ℕ) → span.low ≤ u → u < span.high → IsInside first span.behind (slice_index homes u))
    → IsSpan nodes batches first span
span_made nodes batches first span homes are there order inside only between = record {
  there = there;
  order = order;
  inside = inside;
  only = only;
  home = λ u from below. slice_index homes u;
  between = between;
  stands = λ u from below. are u (omega (arith, below, inside));
}

-- nothing is said of no batches
pub no_span : (nodes : ℕ) (batches : List Batch) (first : ℕ) (span : Span) → span.behind ≡ 0 → span.low ≡ 0 → span.high ≡ 0 → IsSpan nodes batches first span
no_span nodes batches first span behind low high = record {
  there = omega (arith, behind);
  order = omega (arith, low);
  inside = omega (arith, high);
  only = λ i d from below. absurd (omega (arith, below, behind));
  home = λ u from below. u;
  between = λ u from below. absurd (omega (arith, below, high));
  stands = λ u from below. absurd (omega (arith, below, high));
}

module _ (nodes : ℕ) (batches : List Batch) (old new : List Span) (span : Span) (n : ℕ) (are : new ≡ old ++ span ∷ []) (count : length old ≡ n)
    (before : HaveSpans nodes batches old) (here : IsSpan nodes batches n span) where
  last_span : (e : Span) → slice_index_or new n e ≡ span
  last_span e =
      let first : length old ≡ n = count in
      let none_left : n - length old ≡ 0 = omega arith in
      ap (λ (xs : List Span). slice_index_or xs n e) are
      ∙ get_or-append_right old (span ∷ []) (length old) n e refl (omega arith)
      ∙ ap (λ (i : ℕ). slice_index_or (span ∷ []) i e) none_left

  span_at : (i : ℕ) (d : Span) → i < length new → ((i < n) ⊎ (n ≤ i)) → IsSpan nodes batches i (slice_index_or new i d)
  span_at i d high (inl h) =
      let low : i < length old = omega (arith, h, count) in
      subst (IsSpan nodes batches i) (sym (ap (λ (xs : List Span). slice_index_or xs i d) are ∙ get_or-append old (span ∷ []) d i low)) (before i d low)
  span_at i d high (inr h) =
      let same : n ≡ i = omega (arith, h, high, ap length are, length-append old (span ∷ []), count) in
      subst (λ (j : ℕ). IsSpan nodes batches j (slice_index_or new j d)) same (subst (IsSpan nodes batches n) (sym (last_span d)) here)

  -- one batch more
  pub spans_more : HaveSpans nodes batches new
  spans_more i d high = span_at i d high (cases_lt i n)

-- a batch of a list that has one
pub some_batch : (batches : List Batch) (i : ℕ) → i < length batches → Batch
some_batch [] i inside = absurd (omega (arith, inside))
some_batch (x ∷ xs) i inside = x

module _ (nodes : ℕ) (task : Task) (at behind : ℕ) (span : Span) (low : ℕ) (old new source : List ℕ) (word : ℕ → ℕ) (is : IsSpan nodes task.batches.now at span) (few : span.behind ≤ behind)
    (due : (i : ℕ) → at ≤ i → i < span.behind → IsDue task.due.now i) (long : length new ≡ length old) (long_source : length source ≡ length old)
    (copied : (u : ℕ) → span.low ≤ u → u < span.high → low ≤ u → u < low + length new → slice_index new (u - low) ≡ slice_index source (u - low))
    (kept : (u : ℕ) → (u < span.low) ⊎ (span.high ≤ u) → low ≤ u → slice_index new (u - low) ≡ slice_index old (u - low))
    (all : HoldsOfDue (HasWordInside low word source) task at behind) where
  -- the nodes of its batches have their words
  pub span_copied : HoldsOfDue (HasWordInside low word new) task at span.behind
  span_copied i d first high marked k e h after before =
      let u = slice_index_or (slice_index_or task.batches.now i d).nodes k e in
      let here = is.only i d first high k e h in
      copied u here.from here.below after before
      ∙ all i d first (omega (arith, high, few)) marked k e h after (omega (arith, before, long, long_source))

  inside_copied : (u : ℕ) → span.low ≤ u → u < span.high → HasWordInside low word new u
  inside_copied u from below after before =
      let i = is.home u from below in
      let between = is.between u from below in
      let stands = is.stands u from below in
      let d = some_batch task.batches.now i stands.there in
      copied u from below after before
      ∙ All-contains (HasWordInside low word source) (slice_index_or task.batches.now i d).nodes u
      (all i d between.from (omega (arith, between.below, few)) (due i between.from between.below)) (stands.stands d)
      after (omega (arith, before, long, long_source))

  kept_at : (u : ℕ) → HasWordInside low word old u → ((u < span.low) ⊎ (span.low ≤ u)) → ((u < span.high) ⊎ (span.high ≤ u)) → HasWordInside low word new u
  kept_at u here (inl less) high = λ after before. kept u (inl less) after ∙ here after (omega (arith, before, long))
  kept_at u here (inr from) (inl below) = inside_copied u from below
  kept_at u here (inr from) (inr high) = λ after before. kept u (inr high) after ∙ here after (omega (arith, before, long))

  -- and others keep them
  pub span_kept : (u : ℕ) → HasWordInside low word old u → HasWordInside low word new u
  span_kept u here = kept_at u here (cases_lt u span.low) (cases_lt u span.high)

not_inside : (low n u : ℕ) (P : Type 0) → (u < low) ⊎ (low + n ≤ u) → low ≤ u → u < low + n → P
not_inside low n u P (inl less) after before = absurd (omega (arith, less, after))
not_inside low n u P (inr more) after before = absurd (omega (arith, more, before))

-- of a span that has no node of a part, there is nothing to copy to it
pub apart_copied : (nodes : ℕ) (task : Task) (at : ℕ) (span : Span) (low : ℕ) (part : List ℕ) (word : ℕ → ℕ) → IsSpan nodes task.batches.now at span
    → ((u : ℕ) → span.low ≤ u → u < span.high → (u < low) ⊎ (low + length part ≤ u)) → HoldsOfDue (HasWordInside low word part) task at span.behind
apart_copied nodes task at span low part word is apart i d first high marked k e h after before =
    let u = slice_index_or (slice_index_or task.batches.now i d).nodes k e in
    let here = is.only i d first high k e h in
    not_inside low (length part) u (slice_index part (u - low) ≡ word u) (apart u here.from here.below) after before
