-- All pairs of n nodes as places that are numbered from 0.
use Rattle.std.specs.Prelude.{◌≡◌, ◌<◌, ◌≤◌, ◌+◌, ◌-◌, ◌*◌, ◌/◌, ◌%◌, ℕ, nat_lt, if◌then◌else◌}
use Rattle.net_text.specs.Listing.{Link}
use Rattle.net_random.specs.RandomNetworks.{pair_count}

-- Node i has n - 1 - i nodes above it. The pairs of node i and those of another node, which have as many pairs as are wanting, fill row i of a rectangle, so that no place of it is empty.
abbrev pub row_width : ℕ → ℕ
row_width n = 2 * ((n - 1) / 2) + 1

-- how many places the rectangle has: n / 2 rows
abbrev pub place_count : ℕ → ℕ
place_count n = (n / 2) * row_width n

-- the link at row i and column j: first come those of node i, then those of the other node of the row
abbrev pub link_in_row : ℕ → ℕ → ℕ → Link
link_in_row n i j =
    if nat_lt j (n - 1 - i) then (i, i + 1 + j, 1)
    else (2 * (n - 1) - row_width n - i, 2 * (n - 1) - row_width n - i + 1 + (j - (n - 1 - i)), 1)

-- The link at a place, row by row. Which pair has which place is a matter of order alone: each pair has one place, and each place below `place_count` is that of
-- one pair (`EachPairHasOnePlace`).
abbrev pub link_at : ℕ → ℕ → Link
link_at n k = link_in_row n (k / row_width n) (k % row_width n)

-- the link joins two of n nodes, the lesser one first, with weight 1
pub record JoinsPair (n : ℕ) (l : Link) : Type 0 where
  pub rises : l.0 < l.1
  pub within : l.1 < n
  pub weight : l.2 ≡ 1

-- the places are one to one with the pairs of n nodes
pub record ArePlacesOfPairs (n : ℕ) : Type 0 where
  -- there are as many places as pairs
  pub count : place_count n ≡ pair_count n
  -- at each place is the link of a pair
  pub joins : (k : ℕ) → k < place_count n → JoinsPair n (link_at n k)
  -- at two places are different links
  pub apart : (k m : ℕ) → k < place_count n → m < place_count n → link_at n k ≡ link_at n m → k ≡ m
  -- no pair is left out: the link of each is at a place
  pub all : (u w : ℕ) → u < w → w < n → (k : ℕ) × (k < place_count n) × (link_at n k ≡ (u, w, 1))

-- Each pair of different nodes has one place, and each place is that of one pair.
abbrev pub EachPairHasOnePlace : Type 0
EachPairHasOnePlace = (n : ℕ) → 1 ≤ n → ArePlacesOfPairs n
