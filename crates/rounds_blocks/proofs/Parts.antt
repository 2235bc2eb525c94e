-- What is written to parts of a column.
use Rattle.std.proofs.Common.{◌≡◌, ◌<◌, ◌≤◌, ◌+◌, ◌-◌, ◌⊎◌, inl, inr, ℕ, zero, suc, List, [], ◌∷◌, ◌++◌, length, map, refl, sym, ap, ◌∙◌, arith, slice_index, slice_index_or, subst, All}
use Rattle.std.proofs.lemmas.Bool.{cases_lt}
use Rattle.std.proofs.lemmas.List.{get_or-map, get_or_append_left, get_or-append_right, length-append, length-map}
use Rattle.rule_check.specs.Value.{Rules}
use Rattle.rounds_code.specs.Block.{AreInPart, places_from, scattered}
use Rattle.rounds_blocks.specs.declared.batch.Batch.{Batch}
use Rattle.rounds_blocks.specs.declared.share.Share.{Share}
use Rattle.rounds_blocks.specs.declared.task.Task.{Task}
use Rattle.rounds_blocks.specs.Rounds.{HasWordFrom, next_word}
use Rattle.rounds_blocks.specs.Walks.{HoldsOfDue, IsLeft, IsPartWritten, IsRange, IsSameShare, IsWrittenBy, LineUp}
use Rattle.rounds_blocks.proofs.OneByOne.{both_parts}
use Rattle.rounds_blocks.proofs.Words.{scatter_kept, scatter_written}

-- the words of nodes are those of their places
words_from : (g : ℕ → ℕ) (low : ℕ) (nodes : List ℕ) → All (λ u. low ≤ u) nodes → map g nodes ≡ map (λ p. g (p + low)) (places_from low nodes)
words_from g low [] from = refl
words_from g low (u ∷ us) from =
    let here : low ≤ u = from 0 0 (omega arith) in
    let same : u ≡ u - low + low = omega (arith, here) in
    ap (λ v. g v ∷ map g us) same ∙ ap (λ ws. g (u - low + low) ∷ ws) (words_from g low us (λ k d h. from (suc k) d (omega (arith, h))))

module _ (g : ℕ → ℕ) (low : ℕ) (nodes part : List ℕ) (are : AreInPart low (length part) nodes) where
  abbrev subtract : ℕ → ℕ
  subtract u = u - low

  abbrev by_place : ℕ → ℕ
  by_place p = g (p + low)

  words : map g nodes ≡ map by_place (places_from low nodes)
  words = words_from g low nodes (λ k d h. (are k d h).0)

  within : All (λ p. p < length part) (places_from low nodes)
  within k d h =
      let inside : k < length nodes = omega (arith, h, length-map nodes subtract) in
      omega (arith, get_or-map subtract nodes k d d inside, (are k d inside).1)

  back : (u : ℕ) → low ≤ u → by_place (u - low) ≡ g u
  back u from =
      let same : u - low + low ≡ u = omega (arith, from) in
      ap g same

  -- a node that has its word keeps it
  pub part_kept : (u : ℕ) → HasWordFrom low g part u → HasWordFrom low g (scattered (places_from low nodes) (map g nodes) part) u
  part_kept u here from =
      ap (λ ws. slice_index (scattered (places_from low nodes) ws part) (u - low)) words
      ∙ scatter_kept by_place (places_from low nodes) part (u - low) within (here from ∙ sym (back u from))
      ∙ back u from

  -- and each of the nodes gets it
  pub part_written : All (HasWordFrom low g (scattered (places_from low nodes) (map g nodes) part)) nodes
  part_written i d inside from =
      let u = slice_index_or nodes i d in
      let many : i < length (places_from low nodes) = omega (arith, inside, length-map nodes subtract) in
      let there : slice_index_or (places_from low nodes) i d ≡ u - low = get_or-map subtract nodes i d d inside in
      ap (λ ws. slice_index (scattered (places_from low nodes) ws part) (u - low)) words
      ∙ ap (slice_index (scattered (places_from low nodes) (map by_place (places_from low nodes)) part)) (sym there)
      ∙ scatter_written by_place (places_from low nodes) part i d within many
      ∙ ap by_place there
      ∙ back u from

-- ranges that follow one another, from one number on and up to another
abbrev pub JoinTo : ℕ → List Share → ℕ → Type 0
JoinTo low [] high = low ≡ high
JoinTo low (share ∷ shares) high = (share.low ≡ low) × (low ≤ share.high) × JoinTo share.high shares high

-- one range more
pub joined_more : (low : ℕ) (shares : List Share) (high : ℕ) (share : Share) → JoinTo low shares high → share.low ≡ high → high ≤ share.high → JoinTo low (shares ++ share ∷ []) share.high
joined_more low [] high share same begins order = (begins ∙ sym same, omega (arith, same, order), refl)
joined_more low (s ∷ shares) high share joined begins order = (joined.0, joined.1, joined_more s.high shares high share joined.2 begins order)

-- they are not beyond a greater number
pub joined_line : (low : ℕ) (shares : List Share) (high nodes : ℕ) → JoinTo low shares high → high ≤ nodes → LineUp low shares nodes
joined_line low [] high nodes same fits = omega (arith, same, fits)
joined_line low (share ∷ shares) high nodes joined fits = (joined.0, joined.1, joined_line share.high shares high nodes joined.2 fits)

-- the ranges but the last one end where that begins
pub line_parts : (low : ℕ) (shares : List Share) (share : Share) (high : ℕ) → LineUp low (shares ++ share ∷ []) high → LineUp low shares share.low × (low ≤ share.low) × (share.low ≤ share.high) × (share.high ≤ high)
line_parts low [] share high line = (omega (arith, line.0), omega (arith, line.0), omega (arith, line.0, line.1), line.2)
line_parts low (x ∷ xs) share high line =
    let rest = line_parts x.high xs share high line.2 in
    ((line.0, line.1, rest.0), omega (arith, line.1, rest.1), rest.2, rest.3)

-- each range ends before the end of all
pub line_end : (low : ℕ) (shares : List Share) (high : ℕ) → LineUp low shares high → (s : ℕ) (d : Share) → s < length shares → (slice_index_or shares s d).high ≤ high
line_end low [] high line s d inside = absurd (omega (arith, inside))
line_end low (x ∷ xs) high line zero d inside = order x.high xs high line.2
  where
    order : (low : ℕ) (shares : List Share) (high : ℕ) → LineUp low shares high → low ≤ high
    order low [] high line = line
    order low (x ∷ xs) high line = omega (arith, line.1, order x.high xs high line.2)
line_end low (x ∷ xs) high line (suc s) d inside = line_end x.high xs high line.2 s d (omega (arith, inside))

-- a node of the first of two parts
in_front : (word : ℕ → ℕ) (front back : List ℕ) (u : ℕ) → u < length front → HasWordFrom 0 word front u → HasWordFrom 0 word (front ++ back) u
in_front word front back u low here from = get_or_append_left front back 0 (u - 0) (omega (arith, low)) ∙ here from

of_front : (word : ℕ → ℕ) (front back : List ℕ) (u : ℕ) → u < length front → HasWordFrom 0 word (front ++ back) u → HasWordFrom 0 word front u
of_front word front back u low here from = sym (get_or_append_left front back 0 (u - 0) (omega (arith, low))) ∙ here from

-- a node of the second, which begins with another number
there_is : (front back : List ℕ) (n u : ℕ) → length front ≡ n → n ≤ u → slice_index (front ++ back) (u - 0) ≡ slice_index back (u - n)
there_is front back n u long late =
    let same : u - 0 - n ≡ u - n = omega arith in
    get_or-append_right front back n (u - 0) 0 long (omega (arith, late)) ∙ ap (slice_index back) same

in_back : (word : ℕ → ℕ) (front back : List ℕ) (n u : ℕ) → length front ≡ n → n ≤ u → HasWordFrom n word back u → HasWordFrom 0 word (front ++ back) u
in_back word front back n u long late here from = there_is front back n u long late ∙ here late

of_back : (word : ℕ → ℕ) (front back : List ℕ) (n u : ℕ) → length front ≡ n → n ≤ u → HasWordFrom 0 word (front ++ back) u → HasWordFrom n word back u
of_back word front back n u long late here from = sym (there_is front back n u long late) ∙ here (omega arith)

module _ (rules : Rules) (batches : List Batch) (shares : List Share) (share : Share) (are : All (IsRange rules batches) (shares ++ share ∷ [])) where
  none_left : length shares - length shares ≡ 0
  none_left = omega arith

  at_first : (s : ℕ) (d : Share) → s < length shares → slice_index_or (shares ++ share ∷ []) s d ≡ slice_index_or shares s d
  at_first s d inside = get_or_append_left shares (share ∷ []) d s inside

  at_last : (d : Share) → slice_index_or (shares ++ share ∷ []) (length shares) d ≡ share
  at_last d = get_or-append_right shares (share ∷ []) (length shares) (length shares) d refl (omega arith) ∙ ap (λ (i : ℕ). slice_index_or (share ∷ []) i d) none_left

  -- the last share
  pub last_range : IsRange rules batches share
  last_range = subst (IsRange rules batches) (at_last share) (are (length shares) share (omega (arith, length-append shares (share ∷ []))))

  -- and those before it
  pub first_ranges : All (IsRange rules batches) shares
  first_ranges s d inside = subst (IsRange rules batches) (at_first s d inside) (are s d (omega (arith, length-append shares (share ∷ []), inside)))

module _ (rules : Rules) (task : Task) (shares : List Share) (share : Share) (there here there' here' : List ℕ) (high : ℕ) (long : length there ≡ share.low) (same : length there' ≡ length there)
    (line : LineUp 0 (shares ++ share ∷ []) high) (are : All (IsRange rules task.batches.now) (shares ++ share ∷ [])) where
  abbrev word : Rules → ℕ → ℕ
  word r = next_word r task.network.now task.round task.from.now

  abbrev after : List ℕ
  after = there' ++ here'

  long_after : length there' ≡ share.low
  long_after = same ∙ long

  many : length (shares ++ share ∷ []) ≡ length shares + 1
  many = length-append shares (share ∷ [])

  last_is : IsRange rules task.batches.now share
  last_is = last_range rules task.batches.now shares share are

  module _ (others : IsPartWritten rules task shares 0 there there') (last : IsWrittenBy task share here here') where
    done_first : (s : ℕ) (d : Share) → s < length shares → HoldsOfDue (HasWordFrom 0 (word rules) after) task (slice_index_or shares s d).first (slice_index_or shares s d).behind
    done_first s d inside i e from below is k f place =
        let nodes = (slice_index_or task.batches.now i e).nodes in
        let within = (first_ranges rules task.batches.now shares share are s d inside).only i e from below k f place in
        let ends = line_end 0 shares share.low (line_parts 0 shares share high line).0 s d inside in
        in_front (word rules) there' here' (slice_index_or nodes k f) (omega (arith, within.below, ends, long_after)) (others.done s d inside i e from below is k f place)

    written : HoldsOfDue (HasWordFrom share.low (word rules) here') task share.first share.behind
    written = subst (λ (r : Rules). HoldsOfDue (HasWordFrom share.low (word r) here') task share.first share.behind) last_is.computes last.done

    kept_last : (u : ℕ) → HasWordFrom share.low (word rules) here u → HasWordFrom share.low (word rules) here' u
    kept_last = subst (λ (r : Rules). (u : ℕ) → HasWordFrom share.low (word r) here u → HasWordFrom share.low (word r) here' u) last_is.computes last.kept

    done_last : HoldsOfDue (HasWordFrom 0 (word rules) after) task share.first share.behind
    done_last i e from below is k f place =
        let nodes = (slice_index_or task.batches.now i e).nodes in
        in_back (word rules) there' here' share.low (slice_index_or nodes k f) long_after (last_is.only i e from below k f place).from (written i e from below is k f place)

    done_at : (s : ℕ) (d : Share) → s < length (shares ++ share ∷ []) → ((s < length shares) ⊎ (length shares ≤ s))
        → HoldsOfDue (HasWordFrom 0 (word rules) after) task (slice_index_or (shares ++ share ∷ []) s d).first (slice_index_or (shares ++ share ∷ []) s d).behind
    done_at s d inside (inl h) = subst (λ (x : Share). HoldsOfDue (HasWordFrom 0 (word rules) after) task x.first x.behind) (sym (at_first rules task.batches.now shares share are s d h)) (done_first s d h)
    done_at s d inside (inr h) =
        let last_one : length shares ≡ s = omega (arith, h, inside, many) in
        subst (λ (x : Share). HoldsOfDue (HasWordFrom 0 (word rules) after) task x.first x.behind) (sym (at_last rules task.batches.now shares share are d) ∙ ap (λ (n : ℕ). slice_index_or (shares ++ share ∷ []) n d) last_one) done_last

    kept_at : (u : ℕ) → ((u < share.low) ⊎ (share.low ≤ u)) → HasWordFrom 0 (word rules) (there ++ here) u → HasWordFrom 0 (word rules) after u
    kept_at u (inl h) was = in_front (word rules) there' here' u (omega (arith, h, long_after)) (others.kept u (of_front (word rules) there here u (omega (arith, h, long)) was))
    kept_at u (inr h) was = in_back (word rules) there' here' share.low u long_after h (kept_last u (of_back (word rules) there here share.low u long h was))

    -- what all of them write
    pub all_written : IsPartWritten rules task (shares ++ share ∷ []) 0 (there ++ here) after
    all_written = record {
      done = λ s d inside. done_at s d inside (cases_lt s (length shares));
      kept = λ u was. kept_at u (cases_lt u share.low) was;
    }

one_same : (old new : Share) → IsSameShare old new → (k : ℕ) (d : Share) → k < 1 → IsSameShare (slice_index_or (old ∷ []) k d) (slice_index_or (new ∷ []) k d)
one_same old new same zero d inside = same
one_same old new same (suc k) d inside = absurd (omega (arith, inside))

-- what threads left of the last share, and of all others
pub left_all : (task : Task) (shares shares' : List Share) (share share' : Share) (there here there' here' : List ℕ) (high : ℕ) → length there ≡ share.low → length here' ≡ length here
    → LineUp 0 (shares ++ share ∷ []) high → IsSameShare share share' → IsWrittenBy task share here here' → IsLeft task 0 shares shares' there there'
    → IsLeft task 0 (shares ++ share ∷ []) (shares' ++ share' ∷ []) (there ++ here) (there' ++ here')
left_all task shares shares' share share' there here there' here' high long same_here line same last left = record {
  many = omega (arith, left.many, length-append shares (share ∷ []), length-append shares' (share' ∷ []));
  long = omega (arith, left.long, same_here, length-append there here, length-append there' here');
  same = both_parts (λ _ old new. IsSameShare old new) 0 shares (share ∷ []) shares' (share' ∷ []) left.many left.same (one_same share share' same);
  written = λ rules are. all_written rules task shares share there here there' here' high long left.long line are (left.written rules (first_ranges rules task.batches.now shares share are)) last;
}
