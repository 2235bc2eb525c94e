-- Internal: rows that stand one after the other in one list. No public clause cites it.
use Rattle.std.specs.Prelude.{◌≡◌, ℕ, ◌+◌, List, length, map}
use Rattle.std.specs.List.{flat_map}
use Rattle.link_net.specs.Neighbours.{numbers_below}

-- the rows of the nodes below n, one after the other
abbrev pub ends_before : (ℕ → List ℕ) → ℕ → List ℕ
ends_before rows n = flat_map rows (numbers_below n)

-- where the row of each of n nodes begins, and last where they end
abbrev pub starts : (ℕ → List ℕ) → ℕ → List ℕ
starts rows n = map (λ u. length (ends_before rows u)) (numbers_below (n + 1))

-- the two lists hold the rows of the nodes below n
pub record HoldBelow (rows : ℕ → List ℕ) (n : ℕ) (offsets ends : List ℕ) : Type 0 where
  pub placed : offsets ≡ starts rows n
  pub filled : ends ≡ ends_before rows n
