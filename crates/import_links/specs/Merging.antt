-- Links of which several may join the same two nodes, made into one each.
use Rattle.std.specs.Prelude.{ℕ, Bool, List, [], ◌∷◌, map, filter, not, fold, min, max}
use Rattle.link_net.specs.Links.{joins}
use Rattle.net_text.specs.Listing.{Link}
use Rattle.import_links.specs.declared.kept.Kept.{Kept}
use Rattle.import_links.specs.declared.kept.Kept.TheVariants.{Least, Most, First}

-- the weight that is kept of two, of which the first came earlier
abbrev pub kept_of : Kept → ℕ → ℕ → ℕ
kept_of Least earlier later = min earlier later
kept_of Most earlier later = max earlier later
kept_of First earlier later = earlier

-- both links join the same two nodes, either way round
abbrev pub are_parallel : Link → Link → Bool
are_parallel l m = joins l.0 l.1 m

-- the links that join the same two nodes as l
abbrev pub parallel_to : Link → List Link → List Link
parallel_to l ls = filter (are_parallel l) ls

-- the links that do not
abbrev pub others_than : Link → List Link → List Link
others_than l ls = filter (λ m. not (are_parallel l m)) ls

-- l, with the weight that is kept of its own and of those of later links
abbrev pub with_kept : Kept → Link → List Link → Link
with_kept k l ls = (l.0, l.1, fold (kept_of k) l.2 (map (λ m. m.2) ls))

-- one link for each two nodes that links join: the first one, with the weight that is kept of all that join them
abbrev pub merged : Kept → List Link → List Link
merged k [] = []
merged k (l ∷ ls) = with_kept k l (parallel_to l ls) ∷ others_than l (merged k ls)
