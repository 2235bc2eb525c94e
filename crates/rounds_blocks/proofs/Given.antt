-- What threads share, before and after a round.
use Rattle.std.proofs.Common.{◌≡◌, ◌<◌, ◌-◌, ℕ, suc, List, [], ◌∷◌, length, sym, ap, ◌∙◌, arith, slice_index, slice_index_or, slice_set, length-set, subst, All}
use Rattle.std.specs.Global.{Vec}
use Rattle.std.proofs.lemmas.List.{get_or-set_same}
use Rattle.rule_check.specs.Value.{Rules}
use Rattle.rounds_blocks.specs.declared.batch.Batch.{Batch}
use Rattle.rounds_blocks.specs.declared.share.Share.{Share}
use Rattle.rounds_blocks.specs.declared.task.Task.{Task}
use Rattle.rounds_blocks.specs.Nears.{IsDue}
use Rattle.rounds_code.specs.Steps.{lane}
use Rattle.rounds_code.specs.Block.{column_words, state_at}
use Rattle.rounds_blocks.specs.Rounds.{HasWordFrom, next_word, round_from}
use Rattle.rounds_blocks.specs.Spans.{IsInside}
use Rattle.rounds_blocks.specs.Walks.{AreInRanges, HasNext, IsLeft, IsRange, IsSameShare, IsShared, LineUp}
use Rattle.rounds_blocks.proofs.Turns.{some_share}
use Rattle.rounds_blocks.proofs.Words.{column_lane}

-- ranges that follow one another, each as before
line_same : (low : ℕ) (old new : List Share) (high : ℕ) → length new ≡ length old → ((s : ℕ) (d : Share) → s < length old → IsSameShare (slice_index_or old s d) (slice_index_or new s d)) → LineUp low old high → LineUp low new high
line_same low [] [] high many same line = line
line_same low [] (y ∷ ys) high many same line = absurd (omega (arith, many))
line_same low (x ∷ xs) [] high many same line = absurd (omega (arith, many))
line_same low (x ∷ xs) (y ∷ ys) high many same line =
    let here = same 0 x (omega arith) in
    let rest = line_same x.high xs ys high (omega (arith, many)) (λ s d inside. same (suc s) d (omega (arith, inside))) line.2 in
    (here.low ∙ line.0, omega (arith, line.1, here.high), subst (λ (n : ℕ). LineUp n ys high) (sym here.high) rest)

-- a share that computed is the share of a range as before
range_same : (rules : Rules) (batches : List Batch) (old new : Share) → IsSameShare old new → IsRange rules batches old → IsRange rules batches new
range_same rules batches old new same is = record {
  inside = omega (arith, same.behind, is.inside);
  computes = same.computes ∙ is.computes;
  only = λ i d from below.
      subst (λ (low : ℕ). All (IsInside low new.high) (slice_index_or batches i d).nodes) (sym same.low)
      (subst (λ (high : ℕ). All (IsInside old.low high) (slice_index_or batches i d).nodes) (sym same.high)
      (is.only i d (omega (arith, from, same.first)) (omega (arith, below, same.behind))));
}

module _ (rules : Rules) (task : Task) (nodes : ℕ) (old new : List Share) (before after : List ℕ) (left : IsLeft task 0 old new before after) (were : AreInRanges rules nodes task.batches.now old) where
  covered_now : 0 < length new → (i : ℕ) → i < length task.batches.now → (s : ℕ) × IsShared new i s
  covered_now some i inside =
      let found = were.covered (omega (arith, some, left.many)) i inside in
      let s = found.0 in (
        s,
        record {
          there = omega (arith, found.1.there, left.many);
          from_first = λ d. omega (arith, found.1.from_first d, (left.same s d found.1.there).first);
          before_end = λ d. omega (arith, found.1.before_end d, (left.same s d found.1.there).behind);
        },
      )

  -- ranges in which threads worked are ranges as before
  pub ranges_after : AreInRanges rules nodes task.batches.now new
  ranges_after = record {
    each = λ s d inside.
        let there : s < length old = omega (arith, inside, left.many) in
        range_same rules task.batches.now (slice_index_or old s d) (slice_index_or new s d) (left.same s d there) (were.each s d there);
    line = line_same 0 old new nodes left.many left.same were.line;
    covered = covered_now;
  }

  -- the next words of the nodes of marked batches
  pub done_in : 0 < length old → (i : ℕ) (d : Batch) → i < length task.batches.now → IsDue task.due.now i
      → All (HasWordFrom 0 (next_word rules task.network.now task.round task.from.now) after) (slice_index_or task.batches.now i d).nodes
  done_in some i d inside is =
      let found = were.covered some i inside in
      let share = some_share old found.0 found.1.there in
      (left.written rules were.each).done found.0 share found.1.there i d (found.1.from_first share) (found.1.before_end share) is

module _ (rules : Rules) (task : Task) (old : List (Vec ℕ)) (column : Vec ℕ) (one : length old ≡ 1) where
  abbrev word : ℕ → ℕ
  word = next_word rules task.network.now task.round task.from.now

  some : 0 < length old
  some = omega (arith, one)

  first_only : (k : ℕ) → k < length (slice_set old 0 column) → 0 ≡ k
  first_only k inside = omega (arith, inside, one, length-set old 0 column)

  -- where the one column has a node's next word, the columns have its next state
  pub next_by : (u : ℕ) → HasWordFrom 0 word column.items u → HasNext rules task (slice_set old 0 column) u
  next_by u here k inside =
      let same : u ≡ u - 0 = omega arith in
      subst (λ (j : ℕ). lane (column_words (slice_set old 0 column)) u j ≡ slice_index (round_from rules task.network.now task.round (state_at task.from.now) u).words j) (first_only k inside)
      (column_lane (slice_set old 0 column) u 0 column (omega (arith, some, length-set old 0 column))
      ∙ ap (λ (c : Vec ℕ). slice_index c.items u) (get_or-set_same old 0 column column some)
      ∙ ap (slice_index column.items) same
      ∙ here (omega arith))

  -- and the other way
  pub word_by : (d : Vec ℕ) (u : ℕ) → HasNext rules task old u → HasWordFrom 0 word (slice_index_or old 0 d).items u
  word_by d u here from =
      let same : u - 0 ≡ u = omega arith in
      ap (slice_index (slice_index_or old 0 d).items) same ∙ sym (column_lane old u 0 d some) ∙ here 0 some
