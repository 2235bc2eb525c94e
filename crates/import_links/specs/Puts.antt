-- Links that are put one by one after those that were made, each entry under the two ends of its link.
use Rattle.std.specs.Prelude.{ℕ, ◌==◌, Bool, ◌&&◌, List, [], ◌∷◌, min, max, if◌then◌else◌}
use Rattle.net_text.specs.Listing.{Link}
use Rattle.import_links.specs.declared.kept.Kept.{Kept}
use Rattle.import_links.specs.Merging.{kept_of}

-- the two ends of a link, the lesser one first
abbrev pub ends : Link → ℕ × ℕ
ends l = (min l.0 l.1, max l.0 l.1)

-- both are the same two nodes
abbrev pub are_same : ℕ × ℕ → ℕ × ℕ → Bool
are_same p q = p.0 == q.0 && p.1 == q.1

-- the entries with one more link
abbrev pub put : Kept → Link → List ((ℕ × ℕ) × Link) → List ((ℕ × ℕ) × Link)
put k l [] = (ends l, l) ∷ []
put k l (e ∷ es) = if are_same (ends l) e.0 then (e.0, (e.1.0, e.1.1, kept_of k e.1.2 l.2)) ∷ es else e ∷ put k l es
