-- Internal: links that are drawn node by node. No public clause cites it.
use Rattle.std.specs.Prelude.{◌≡◌, ◌<◌, ◌==◌, ℕ, Bool, false, ◌||◌, List, [], ◌∷◌, ◌++◌, length, if◌then◌else◌}
use Rattle.std.specs.List.{list_any, AllByRecursion}
use Rattle.net_text.specs.Listing.{Link}
use Rattle.net_random.specs.RandomNetworks.{grown_count, AreSimpleLinks, AreLinkedBack}

-- the links that n nodes have so far
pub record IsGrown (each n : ℕ) (links : List Link) : Type 0 where
  pub count : length links ≡ grown_count each n
  pub simple : AreSimpleLinks n links
  pub back : AreLinkedBack each n links

-- the link from u to w
abbrev pub link_to : ℕ → ℕ → Link
link_to u w = (u, w, 1)

-- the number stands in the list
abbrev pub has : ℕ → List ℕ → Bool
has w xs = list_any (λ x. x == w) xs

-- some number stands twice
abbrev pub has_twice : List ℕ → Bool
has_twice [] = false
has_twice (x ∷ xs) = has x xs || has_twice xs

-- different numbers below u
pub record IsChoice (u : ℕ) (xs : List ℕ) : Type 0 where
  pub below : AllByRecursion (λ x. x < u) xs
  pub once : has_twice xs ≡ false

-- the numbers with one more, where it does not stand among them yet
abbrev pub with_choice : ℕ → List ℕ → List ℕ
with_choice x xs = if has x xs then xs else xs ++ x ∷ []
