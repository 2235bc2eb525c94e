-- The order in which the links of a network are listed.
use Rattle.std.specs.Prelude.{◌≡◌, ◌<◌, ◌⊎◌, List}
use Rattle.std.specs.List.{AllByRecursion, AllPairs}
use Rattle.net_text.specs.Listing.{Link}

-- the first end of a link is lower than that of another one, or they are the same and the second end is lower
abbrev pub Precedes : Link → Link → Type 0
Precedes l m = (l.0 < m.0) ⊎ ((l.0 ≡ m.0) × (l.1 < m.1))

-- each link begins at the lesser of its ends, and precedes each one that stands after it
pub record AreInOrder (links : List Link) : Type 0 where
  pub lesser_first : AllByRecursion (λ l. l.0 < l.1) links
  pub rising : AllPairs Precedes links
