-- Internal: links that are changed one by one. No public clause cites it.
use Rattle.std.specs.Prelude.{◌≡◌, ◌≤◌, ◌==◌, ℕ, Bool, not, ◌&&◌, ◌||◌, min, max, List}
use Rattle.std.specs.List.{list_any}
use Rattle.link_net.specs.Links.{joins, are_linked}
use Rattle.net_text.specs.Listing.{Link}
use Rattle.net_random.specs.RandomNetworks.{AreSimpleLinks}

-- the two ends, the lower one first
abbrev pub pair_of : Link → ℕ × ℕ
pair_of l = (min l.0 l.1, max l.0 l.1)

-- u and w are one of the pairs
abbrev pub has_pair : List (ℕ × ℕ) → ℕ → ℕ → Bool
has_pair pairs u w = list_any (λ p. u == p.0 && w == p.1) pairs

-- the pairs, the lower node first, are those that the links join
abbrev pub ArePairsOf : List Link → List (ℕ × ℕ) → Type 0
ArePairsOf links pairs = (u w : ℕ) → u ≤ w → has_pair pairs u w ≡ are_linked links u w

-- the link joins two different nodes that are none of the pairs
abbrev pub is_free : List (ℕ × ℕ) → Link → Bool
is_free pairs l = not (l.0 == l.1) && not (has_pair pairs (min l.0 l.1) (max l.0 l.1))

-- the pairs after a link is put in place of another one
abbrev pub ArePairsAfter : Link → Link → List (ℕ × ℕ) → List (ℕ × ℕ) → Type 0
ArePairsAfter here link before after = (u w : ℕ) → u ≤ w → has_pair after u w ≡ (joins u w link || (not (joins u w here) && has_pair before u w))

-- simple links between n nodes, and their pairs
pub record AreKnown (n : ℕ) (links : List Link) (pairs : List (ℕ × ℕ)) : Type 0 where
  pub simple : AreSimpleLinks n links
  pub known : ArePairsOf links pairs
