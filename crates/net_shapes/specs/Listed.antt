-- Internal: the neighbours of a node of a shape that is not one of rows and columns. No public clause cites it.
use Rattle.std.specs.Prelude.{ℕ, ◌+◌, ◌-◌, ◌*◌, ◌/◌, ◌^◌, ◌==◌, min, List, [], ◌∷◌, ◌++◌, nat_lt, if◌then◌else◌}
use Rattle.std.specs.List.{range_with_len}
use Rattle.link_net.specs.Neighbours.{numbers_below}
use Rattle.net_shapes.specs.Ahead.{raised, when}
use Rattle.net_shapes.specs.Shapes.{digit}
use Rattle.net_shapes.specs.declared.shape.Shape.{Shape}

-- the children of node u of a tree of n nodes and arity k
abbrev pub children : ℕ → ℕ → ℕ → List ℕ
children n k u = range_with_len (u * k + 1) (min k (n - (u * k + 1)))

-- the numbers with 0 in place of a binary digit 1 of u, at one of these places, those of the last place first
abbrev pub lowered : ℕ → List ℕ → List ℕ
lowered u [] = []
lowered u (b ∷ bs) = lowered u bs ++ when (digit u b == 1) (u - 2 ^ b)

-- the neighbours of u, by rising number
abbrev pub listed : Shape → ℕ → List ℕ
listed (Shape.Star n) u = if u == 0 then range_with_len 1 (n - 1) else range_with_len 0 1
listed (Shape.Complete n) u = range_with_len 0 u ++ range_with_len (u + 1) (n - (u + 1))
listed (Shape.Bipartite l r) u = if nat_lt u l then range_with_len l r else range_with_len 0 l
listed (Shape.Tree n k) u = when (nat_lt 0 u) ((u - 1) / k) ++ children n k u
listed (Shape.Hypercube d) u = lowered u (numbers_below d) ++ raised u (numbers_below d)
listed s u = []
