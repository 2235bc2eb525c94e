-- Both directions of each link, by which a reader finds links that stand twice and the neighbours of a node.
use Rattle.std.specs.Prelude.{ℕ, ◌==◌, ◌<◌, ◌≤◌, Bool, false, ◌&&◌, ◌||◌, List, [], ◌∷◌, length, slice_index_or}
use Rattle.std.specs.declared.cmp.Ordering.{Ordering}
use Rattle.std.specs.Ordering.{nat_cmp, ordering_then}

-- an arc: the node that it comes from, the node that it leads to, the weight
abbrev pub Arc : Type 0
Arc = ℕ × ℕ × ℕ

-- from each link the arc that it is, and the arc the other way round
abbrev pub arcs_of : List Arc → List Arc
arcs_of [] = []
arcs_of (l ∷ ls) = l ∷ (l.1, l.0, l.2) ∷ arcs_of ls

-- the arc leads from u to w
abbrev pub leads : ℕ → ℕ → Arc → Bool
leads u w a = (u == a.0) && (w == a.1)

-- both lead from the same node to the same node
abbrev pub same_arc : Arc → Arc → Bool
same_arc a b = leads a.0 a.1 b

-- by where they come from, and then by where they lead
abbrev pub arc_cmp : Arc → Arc → Ordering
arc_cmp a b = ordering_then (nat_cmp a.0 b.0) (nat_cmp a.1 b.1)

-- some arc leads as the one before it does
abbrev pub repeats_after : Arc → List Arc → Bool
repeats_after a [] = false
repeats_after a (b ∷ bs) = same_arc b a || repeats_after b bs

abbrev pub repeats : List Arc → Bool
repeats [] = false
repeats (a ∷ arcs) = repeats_after a arcs

-- arcs before place i come from below u, and those from place i on do not
pub record IsFirst (arcs : List Arc) (u i : ℕ) : Type 0 where
  pub bound : i ≤ length arcs
  pub before : (k : ℕ) (d : Arc) → k < i → (slice_index_or arcs k d).0 < u
  pub after : (k : ℕ) (d : Arc) → i ≤ k → k < length arcs → u ≤ (slice_index_or arcs k d).0
