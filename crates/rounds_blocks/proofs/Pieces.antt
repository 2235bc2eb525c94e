-- Words that are copied to parts of columns.
use Rattle.std.proofs.Common.{◌≡◌, ◌<◌, ◌≤◌, ◌+◌, ◌-◌, ◌⊎◌, inl, inr, ℕ, List, ◌++◌, length, refl, sym, ap, ◌∙◌, arith, drop, take, slice_index, slice_index_or}
use Rattle.std.proofs.lemmas.Bool.{cases_lt}
use Rattle.std.proofs.lemmas.List.{get_or_append_left, get_or-append_right, get_or-drop, get_or-take, get_or_past, length-append, length-drop, length-take-le}
use Rattle.rounds_blocks.specs.declared.share.Share.{Share}
use Rattle.rounds_blocks.specs.declared.task.Task.{Task}
use Rattle.rounds_blocks.specs.Rounds.{HasWord, HasWordInside}
use Rattle.rounds_blocks.specs.Walks.{IsCopied}

-- two parts, one after the other
module _ (word : ℕ → ℕ) (low : ℕ) (front others : List ℕ) (u : ℕ) where
  at_front : low ≤ u → u < low + length front → slice_index (front ++ others) (u - low) ≡ slice_index front (u - low)
  at_front from below = get_or_append_left front others 0 (u - low) (omega (arith, from, below))

  at_others : low + length front ≤ u → slice_index (front ++ others) (u - low) ≡ slice_index others (u - (low + length front))
  at_others from =
      let same : u - low - length front ≡ u - (low + length front) = omega arith in
      get_or-append_right front others (length front) (u - low) 0 refl (omega (arith, from)) ∙ ap (slice_index others) same

  -- what a whole has, its parts have
  pub inside_front : HasWordInside low word (front ++ others) u → HasWordInside low word front u
  inside_front here from below = sym (at_front from below) ∙ here from (omega (arith, below, length-append front others))

  pub inside_others : HasWordInside low word (front ++ others) u → HasWordInside (low + length front) word others u
  inside_others here from below = sym (at_others from) ∙ here (omega (arith, from)) (omega (arith, below, length-append front others))

  joined_at : HasWordInside low word front u → HasWordInside (low + length front) word others u → low ≤ u → u < low + length (front ++ others)
      → ((u < low + length front) ⊎ (low + length front ≤ u)) → slice_index (front ++ others) (u - low) ≡ word u
  joined_at first second from below (inl less) = at_front from less ∙ first from less
  joined_at first second from below (inr more) = at_others more ∙ second more (omega (arith, below, length-append front others))

  -- and what both have, the whole has
  pub inside_joined : HasWordInside low word front u → HasWordInside (low + length front) word others u → HasWordInside low word (front ++ others) u
  inside_joined first second from below = joined_at first second from below (cases_lt u (low + length front))

-- a part that begins where another one ends
pub begins_behind : (word : ℕ → ℕ) (low n m : ℕ) (part : List ℕ) (u : ℕ) → n ≡ m → HasWordInside (low + n) word part u → HasWordInside (low + m) word part u
begins_behind word low n m part u same here from below =
    let at : u - (low + n) ≡ u - (low + m) = omega (arith, same) in
    sym (ap (slice_index part) at) ∙ here (omega (arith, from, same)) (omega (arith, below, same))

-- two parts that are copied make a whole that is copied
module _ (task : Task) (shares : List Share) (field low : ℕ) (front others front' others' : List ℕ)
    (first : IsCopied task shares field low front front') (second : IsCopied task shares field (low + length front) others others') where
  pub copied_both : IsCopied task shares field low (front ++ others) (front' ++ others')
  copied_both = record {
    long = omega (arith, first.long, second.long, length-append front others, length-append front' others');
    copied = λ word d all s e inside i b from below is k h place.
        let u = slice_index_or (slice_index_or task.batches.now i b).nodes k h in
        inside_joined word low front' others' u (first.copied word d all s e inside i b from below is k h place)
        (begins_behind word low (length front) (length front') others' u (sym first.long) (second.copied word d all s e inside i b from below is k h place));
    kept = λ word d u all here.
        inside_joined word low front' others' u (first.kept word d u all (inside_front word low front others u here))
        (begins_behind word low (length front) (length front') others' u (sym first.long) (second.kept word d u all (inside_others word low front others u here)));
  }

-- a column is a part that begins with the first node
pub of_whole : (word : ℕ → ℕ) (column : List ℕ) (u : ℕ) → HasWord word column u → HasWordInside 0 word column u
of_whole word column u here from below =
    let at : u - 0 ≡ u = omega arith in
    ap (slice_index column) at ∙ here

pub to_whole : (word : ℕ → ℕ) (column : List ℕ) (u : ℕ) → u < length column → HasWordInside 0 word column u → HasWord word column u
to_whole word column u inside here =
    let at : u - 0 ≡ u = omega arith in
    sym (ap (slice_index column) at) ∙ here (omega arith) (omega (arith, inside))

past_at : (word : ℕ → ℕ) (before after : List ℕ) (u : ℕ) → length after ≡ length before → (HasWordInside 0 word before u → HasWordInside 0 word after u) → HasWord word before u
    → ((u < length after) ⊎ (length after ≤ u)) → HasWord word after u
past_at word before after u same keeps here (inl inside) = to_whole word after u inside (keeps (of_whole word before u here))
past_at word before after u same keeps here (inr past) =
    get_or_past after u 0 past ∙ sym (get_or_past before u 0 (omega (arith, past, same))) ∙ here

-- a column that keeps what it has inside keeps all: past its end there is nothing, before and after
pub whole_kept : (word : ℕ → ℕ) (before after : List ℕ) (u : ℕ) → length after ≡ length before → (HasWordInside 0 word before u → HasWordInside 0 word after u) → HasWord word before u → HasWord word after u
whole_kept word before after u same keeps here = past_at word before after u same keeps here (cases_lt u (length after))

-- a part of a column has its words
pub inside_slice : (word : ℕ → ℕ) (column : List ℕ) (low n u : ℕ) → length (take n (drop low column)) ≡ n → HasWord word column u → HasWordInside low word (take n (drop low column)) u
inside_slice word column low n u long here from below =
    let at : low + (u - low) ≡ u = omega (arith, from) in
    get_or-take n (drop low column) (u - low) 0 (omega (arith, from, below, long)) ∙ get_or-drop low column (u - low) 0 ∙ ap (slice_index column) at ∙ here

-- a part of a column that is inside has so many words
pub slice_long : (low n : ℕ) (column : List ℕ) → low + n ≤ length column → length (take n (drop low column)) ≡ n
slice_long low n column inside = length-take-le n (drop low column) (omega (arith, inside, length-drop low column))
