-- Nodes that are reached level by level: those of each level are one link farther than those of the one before.
use Rattle.std.proofs.Common.{◌≡◌, ℕ, suc, ◌+◌, ◌<◌, ◌≤◌, List, [], ◌∷◌, ◌++◌, length, get_or, refl, sym, ap, subst, ◌∙◌, arith, length-append, inl, inr}
use Rattle.std.specs.Prelude.{Contains}
use Rattle.std.proofs.lemmas.Bool.{cases_lt}
use Rattle.std.proofs.lemmas.List.{get_or_default}
use Rattle.link_net.specs.Neighbours.{Neighbours}
use Rattle.net_facts.specs.Distances.{IsWithin, IsDistance}
use Rattle.net_facts.specs.Parts.{AreJoined, IsNeighbour, IsWay}
use Rattle.net_facts.specs.Reaching.{Grows, IsClosedBelow}
use Rattle.net_facts.proofs.Joins.{way_on, stays_in, still_in, old_at, new_at, old_or_new, is_in}

-- the nodes are those within so many links of u
pub record AreWithin (network : Neighbours) (u links : ℕ) (nodes : List ℕ) : Type 0 where
  pub inside : (w : ℕ) → Contains nodes w → IsWithin network u w links
  pub all : (w : ℕ) → IsWithin network u w links → Contains nodes w

-- a way with a link is a way without its last link, and that link
way_back : (network : Neighbours) (u w v : ℕ) (way : List ℕ) → IsNeighbour network u v → IsWay network v way w
    → (x : ℕ) × (front : List ℕ) × IsWay network u front x × (length front ≡ length way) × IsNeighbour network x w
way_back network u w v [] first is = (u, [], refl, refl, subst (IsNeighbour network u) is first)
way_back network u w v (x ∷ way) first is =
    let back = way_back network v w x way is.0 is.1 in
    (back.0, v ∷ back.1, (first, back.2), ap suc back.3, back.4)

-- u alone is within no link
pub alone_within : (network : Neighbours) (u : ℕ) (nodes : List ℕ) → Grows (λ v. v ≡ u) [] nodes → Contains nodes u → AreWithin network u 0 nodes
alone_within network u nodes grows has = record {
  inside = λ w in_nodes. elim (old_or_new (λ v. v ≡ u) [] nodes w grows in_nodes) [
    | inl none ↦ absurd (omega (arith, none.1))
    | inr same ↦ ([], sym same, omega arith)
  ];
  all = λ w within. only w within.0 within.1 within.2;
}
  where
    only : (w : ℕ) (way : List ℕ) → IsWay network u way w → length way ≤ 0 → Contains nodes w
    only w [] is short = subst (Contains nodes) is has
    only w (v ∷ way) is short = absurd (omega arith)

module _ (network : Neighbours) (u links : ℕ) (old later : List ℕ) (are : AreWithin network u links old) where
  -- with the neighbours of all nodes, they are those within one link more
  pub more_within : Grows (λ v. (x : ℕ) × Contains old x × IsNeighbour network x v) old later → IsClosedBelow network later (length old) → AreWithin network u (links + 1) later
  more_within grows closed = record {
    inside = λ w in_later. elim (old_or_new (λ v. (x : ℕ) × Contains old x × IsNeighbour network x v) old later w grows in_later) [
      | inl before ↦ (let within = are.inside w before in (within.0, within.1, omega (arith, within.2)))
      | inr new ↦
          (let within = are.inside new.0 new.1 in
          let size = length-append within.0 (w ∷ []) in
          (within.0 ++ w ∷ [], way_on network u new.0 w within.0 within.1 new.2, omega (arith, size, within.2)))
    ];
    all = λ w within. by_way w within.0 within.1 within.2;
  }
    where
      by_way : (w : ℕ) (way : List ℕ) → IsWay network u way w → length way ≤ links + 1 → Contains later w
      by_way w [] is short = still_in (λ v. (x : ℕ) × Contains old x × IsNeighbour network x v) old later w grows (are.all w ([], is, omega arith))
      by_way w (v ∷ way) is short =
          let back = way_back network u w v way is.0 is.1 in
          let x = back.0 in
          let has : Contains old x = are.all x (back.1, back.2, omega (arith, back.3)) in
          let i = has.0 in
          let at : get_or later i 0 ≡ x = old_at (λ v. (x : ℕ) × Contains old x × IsNeighbour network x v) old later i grows has.1 ∙ get_or_default old i 0 x has.1 ∙ has.2 in
          closed i w has.1 (subst (λ y. IsNeighbour network y w) (sym at) back.4)

  -- a node that is new is as far
  pub one_far : Grows (λ v. Contains old v → ⊥) old later → AreWithin network u (links + 1) later → length old < length later → (w : ℕ) × IsDistance network u w (links + 1)
  one_far fresh more grown =
      let w = get_or later (length old) 0 in
      let new : Contains old w → ⊥ = new_at (λ v. Contains old v → ⊥) old later (length old) fresh (omega arith) grown in
      let within = more.inside w (is_in later (length old) grown) in
      let least : (way : List ℕ) → IsWay network u way w → links + 1 ≤ length way = (λ way is. elim (cases_lt (length way) (links + 1)) [
        | inl short ↦ absurd (new (are.all w (way, is, omega arith)))
        | inr long ↦ long
      ]) in
      (w, record { way = (within.0, within.1, omega (arith, within.2, least within.0 within.1)); least = least })

  -- where no node is new, all that are joined with u are among them
  pub all_within : (Fits : ℕ → Type 0) → Grows Fits old later → length later ≡ length old → IsClosedBelow network later (length old) → Contains later u → (w : ℕ) → AreJoined network u w → IsWithin network u w links
  all_within Fits grows same closed has w joined =
      let in_later = stays_in network later (λ i v inside next. closed i v (omega arith) next) u w joined.0 joined.1 has in
      let i = in_later.0 in
      let below : i < length old = omega (arith, in_later.1) in
      are.inside w (i, below, get_or_default old i w 0 below ∙ sym (old_at Fits old later i grows below) ∙ get_or_default later i 0 w in_later.1 ∙ in_later.2)
