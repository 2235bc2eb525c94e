-- Shapes with too many links or neighbours: no links within the bounds have them.
use Rattle.std.proofs.Common.{◌≡◌, ℕ, ◌+◌, ◌-◌, ◌*◌, ◌/◌, ◌<◌, ◌≤◌, ◌==◌, ◌≢◌, Bool, true, false, not, Some, None, ◌||◌, ◌&&◌, nat_le, nat_lt, List, length, min, Ok, Err, refl, sym, ap, ◌∙◌, inl, inr, arith, zero, suc, if◌then◌else◌}
use Rattle.std.specs.List.{list_any, filter, range_with_len}
use Rattle.std.proofs.lemmas.Bool.{and_parts, cases_Bool}
use Rattle.std.proofs.lemmas.Bool.Decides.{nat_tests}
use Rattle.std.proofs.lemmas.Option.{same_Some}
use Rattle.std.proofs.lemmas.Nat.{div-mul-add, div_below}
use Rattle.link_net.specs.declared.fault.NetFault.TheVariants.{SelfLink, LinkTwice, TooManyLinks, TooManyNeighbours}
use Rattle.link_net.specs.Limits.{most_links, most_neighbours}
use Rattle.link_net.specs.Links.{is_self_link, has_link_twice, are_linked, linked_with}
use Rattle.link_net.specs.Neighbours.{numbers_below}
use Rattle.link_net.specs.Reading.{is_crowded}
use Rattle.net_text.specs.Listing.{Link, Listing, IsListing}
use Rattle.net_shapes.specs.declared.shape.Shape.{Shape}
use Rattle.net_shapes.specs.declared.fault.ShapeFault.{ShapeFault}
use Rattle.net_shapes.specs.declared.fault.ShapeFault.TheVariants as fault
use Rattle.net_shapes.specs.Shapes.{node_count, leads, shape_joins, HasShape, HasNone}
use Rattle.net_shapes.specs.Ahead.{ahead, links_ahead}
use Rattle.net_shapes.proofs.Ahead.{within, straight, once, linked}
use Rattle.net_shapes.proofs.Pairs.{same_count}
use Rattle.net_shapes.proofs.EachShape.{sound}
use Rattle.net_shapes.specs.Sizes.{is_from, has_size, link_count, neighbour_count, refusal_of}

-- what sound links pass
untold : (a b c d : Bool) (ls : List Link) → (if a then Err SelfLink else if b then Err LinkTwice else if c then Err TooManyLinks else if d then Err TooManyNeighbours else Ok ls) ≡ Ok ls
    → (a ≡ false) × (b ≡ false) × (c ≡ false) × (d ≡ false)
untold true b c d ls h = cc
untold false true c d ls h = cc
untold false false true d ls h = cc
untold false false false true ls h = cc
untold false false false false ls h = (refl, refl, refl, refl)

passes_all : (l : Listing) → IsListing l
    → (list_any is_self_link l.links ≡ false) × (has_link_twice l.links ≡ false) × (nat_lt most_links (length l.links) ≡ false) × (is_crowded l.nodes l.links ≡ false)
passes_all l is = untold (list_any is_self_link l.links) (has_link_twice l.links) (nat_lt most_links (length l.links)) (is_crowded l.nodes l.links) l.links is.is_sound

-- numbers in a row that all pass are kept
row_kept : (p : ℕ → Bool) (a k i m : ℕ) → i ≤ a → a + k ≤ i + m → ((x : ℕ) → a ≤ x → x < a + k → p x ≡ true) → k ≤ length (filter p (range_with_len i m))
row_kept p a zero i m low high all = omega arith
row_kept p a (suc k) i zero low high all = absurd (omega arith)
row_kept p a (suc k) i (suc m) low high all =
    elim (cases_Bool (i == a)) [
      | inl here ↦
          let is : i ≡ a = grind (arith, nat_tests) in
          let rest = row_kept p (a + 1) k (i + 1) m (omega arith) (omega arith) (λ x from to. all x (omega arith) (omega arith)) in
          rw (all i (omega arith) (omega arith)) (omega arith)
      | inr other ↦
          let later : i + 1 ≤ a = grind (arith, nat_tests) in
          let rest = row_kept p a (suc k) (i + 1) m later (omega arith) all in
          elim (cases_Bool (p i)) [
            | inl passes ↦ rw passes (omega arith)
            | inr fails ↦ rw fails rest
          ]
    ]

-- some number in a row passes
some_in : (p : ℕ → Bool) (u i m : ℕ) → i ≤ u → u < i + m → p u ≡ true → list_any p (range_with_len i m) ≡ true
some_in p u i zero low high h = absurd (omega arith)
some_in p u i (suc m) low high h =
    elim (cases_Bool (p i)) [
      | inl passes ↦ rw passes refl
      | inr fails ↦
          elim (cases_Bool (i == u)) [
            | inl here ↦ let is : i ≡ u = grind (arith, nat_tests) in let both = rw is at fails in absurd (clash (p u) h both)
            | inr other ↦ let later : i + 1 ≤ u = grind (arith, nat_tests) in rw fails (some_in p u (i + 1) m later (omega arith) h)
          ]
    ] where
      clash : (b : Bool) → b ≡ true → b ≡ false → ⊥
      clash true h k = cc
      clash false h k = cc

module _ (s : Shape) (list : Listing) (is : IsListing list) (has : HasShape s list) where
  not_many_links : has_size s ≡ true → most_links < link_count s → ⊥
  not_many_links size many =
      let made = sound s size in
      let (straight_list, once_list, few, sparse) = passes_all list is in
      let same = same_count (node_count s) list.links (links_ahead (ahead s) (numbers_below (node_count s))) (rw has.nodes at is.within) straight_list once_list
      (within (node_count s) (ahead s) (leads s) made.is_ahead) (straight (node_count s) (ahead s) (leads s) made.is_ahead) (once (node_count s) (ahead s) (leads s) made.is_ahead)
      (λ u w a b. has.links u w a b ∙ sym (linked (node_count s) (ahead s) (leads s) made.is_ahead u w a b)) in
      let count = made.count in
      absurd (grind (arith, nat_tests))

  -- a node with many in a row that the shape joins to it
  not_crowded : (u : ℕ) → u < node_count s → most_neighbours < length (filter (are_linked list.links u) (numbers_below (node_count s))) → ⊥
  not_crowded u low many =
      let same = has.nodes in
      let many_here : most_neighbours < length (linked_with list.nodes list.links u) = rw same many in
      let test : nat_lt most_neighbours (length (linked_with list.nodes list.links u)) ≡ true = grind (arith, nat_tests) in
      let crowded = some_in (λ v. nat_lt most_neighbours (length (linked_with list.nodes list.links v))) u 0 list.nodes (omega arith) (omega arith) test in
      clash (is_crowded list.nodes list.links) crowded (passes_all list is).3 where
        clash : (b : Bool) → b ≡ true → b ≡ false → ⊥
        clash true h k = cc
        clash false h k = cc

  no_row : (u a k : ℕ) → u < node_count s → a + k ≤ node_count s → most_neighbours < k → ((x : ℕ) → a ≤ x → x < a + k → shape_joins s u x ≡ true) → ⊥
  no_row u a k low inside many all =
      let kept = row_kept (are_linked list.links u) a k 0 (node_count s) (omega arith) (omega arith) (λ x from to. has.links u x low (omega arith) ∙ all x from to) in
      not_crowded u low (omega arith)

-- the children of the root of a tree, and those of node 1
root_child : (k x : ℕ) → 1 ≤ k → 1 ≤ x → x < 1 + k → (nat_lt 0 x && (x - 1) / k == 0) ≡ true
root_child k x some from to =
    let low = div_below (x - 1) k 1 (omega arith) (omega arith) in
    at ((x - 1) / k) low where
      at : (q : ℕ) → q < 1 → (nat_lt 0 x && q == 0) ≡ true
      at q low = grind (arith, nat_tests)

child_of_1 : (k x : ℕ) → 1 ≤ k → k + 1 ≤ x → x < (k + 1) + k → (nat_lt 0 x && (x - 1) / k == 1) ≡ true
child_of_1 k x some from to =
    let split : x - 1 ≡ 1 * k + (x - 1 - k) = omega arith in
    let is : (x - 1) / k ≡ 1 = ap (λ m. m / k) split ∙ div-mul-add 1 k (x - 1 - k) (omega arith) in
    at ((x - 1) / k) is where
      at : (q : ℕ) → q ≡ 1 → (nat_lt 0 x && q == 1) ≡ true
      at q is = grind (arith, nat_tests)

either : (a b : Bool) → b ≡ true → (a || b) ≡ true
either true b h = refl
either false b h = h

both_kept : (p : ℕ → Bool) (a k n : ℕ) → p 0 ≡ true → 1 ≤ a → a + k ≤ n → ((x : ℕ) → a ≤ x → x < a + k → p x ≡ true) → 1 + k ≤ length (filter p (range_with_len 0 n))
both_kept p a k zero first low high all = absurd (omega arith)
both_kept p a k (suc n) first low high all = rw first (omega (arith, row_kept p a k 1 n low (omega arith) all))

crowded_none : (s : Shape) → has_size s ≡ true → most_neighbours < neighbour_count s → (list : Listing) → IsListing list → HasShape s list → ⊥
crowded_none (Shape.Path n) size many list is has = absurd (omega arith)
crowded_none (Shape.Ring n) size many list is has = absurd (omega arith)
crowded_none (Shape.Star n) size many list is has =
    no_row (Shape.Star n) list is has 0 1 (n - 1) (omega arith) (omega arith) many (λ x from to. grind (arith, nat_tests))
crowded_none (Shape.Grid w h) size many list is has = absurd (omega arith)
crowded_none (Shape.DiagonalGrid w h true) size many list is has = absurd (omega arith)
crowded_none (Shape.DiagonalGrid w h false) size many list is has = absurd (omega arith)
crowded_none (Shape.Torus w h true) size many list is has = absurd (omega arith)
crowded_none (Shape.Torus w h false) size many list is has = absurd (omega arith)
crowded_none (Shape.Complete n) size many list is has =
    no_row (Shape.Complete n) list is has 0 1 (n - 1) (omega arith) (omega arith) many (λ x from to. grind (arith, nat_tests))
crowded_none (Shape.Bipartite l r) size many list is has =
    let (sides, small) = and_parts (nat_le 1 l && nat_le 1 r) _ size in
    let (left, right) = and_parts (nat_le 1 l) (nat_le 1 r) sides in
    let some_left : 1 ≤ l = grind (arith, nat_tests) in
    let some_right : 1 ≤ r = grind (arith, nat_tests) in
    elim (cases_Bool (nat_lt most_neighbours r)) [
      | inl more ↦
          no_row (Shape.Bipartite l r) list is has 0 l r (omega arith) (omega arith) (grind (arith, nat_tests)) (λ x from to. grind (arith, nat_tests))
      | inr fewer ↦
          let few : r ≤ most_neighbours = grind (arith, nat_tests) in
          no_row (Shape.Bipartite l r) list is has l 0 l (omega arith) (omega arith) (omega arith) (λ x from to. grind (arith, nat_tests))
    ]
crowded_none (Shape.Tree n k) size many list is has =
    let (sized, wide) = and_parts (is_from 1 n) (nat_le 1 k) size in
    let some : 1 ≤ k = grind (arith, nat_tests) in
    elim (cases_Bool (nat_lt most_neighbours (min k (n - 1)))) [
      | inl root ↦
          let many_children : most_neighbours < min k (n - 1) = grind (arith, nat_tests) in
          no_row (Shape.Tree n k) list is has 0 1 (min k (n - 1)) (omega arith) (omega arith) many_children
          (λ x from to. either (leads (Shape.Tree n k) 0 x) (leads (Shape.Tree n k) x 0) (root_child k x some from (omega arith)))
      | inr not_root ↦
          let few_children : min k (n - 1) ≤ most_neighbours = grind (arith, nat_tests) in
          let many_more : most_neighbours < 1 + min k (n - 1 - k) = omega arith in
          let parent : shape_joins (Shape.Tree n k) 1 0 ≡ true = first k some in
          let kept = both_kept (are_linked list.links 1) (k + 1) (min k (n - 1 - k)) n
          (has.links 1 0 (omega arith) (omega arith) ∙ parent) (omega arith) (omega arith)
          (λ x from to. has.links 1 x (omega arith) (omega arith) ∙ either (leads (Shape.Tree n k) 1 x) (leads (Shape.Tree n k) x 1) (child_of_1 k x some from (omega arith))) in
          not_crowded (Shape.Tree n k) list is has 1 (omega arith) (omega arith)
    ] where
      first : (k : ℕ) → 1 ≤ k → ((nat_lt 0 1 && (1 - 1) / k == 0) || (nat_lt 0 0 && (0 - 1) / k == 1)) ≡ true
      first k some = rw (root_child k 1 some (omega arith) (omega arith)) refl
crowded_none (Shape.Hypercube d) size many list is has = let low : d ≤ 16 = grind (arith, nat_tests) in absurd (omega arith)

-- no links within the bounds have a shape of a size that it can have and of too many links or neighbours
pub none_has : (s : Shape) → has_size s ≡ true → (nat_lt most_links (link_count s) || nat_lt most_neighbours (neighbour_count s)) ≡ true → HasNone s
none_has s size many list is has =
    elim (cases_Bool (nat_lt most_links (link_count s))) [
      | inl links ↦ not_many_links s list is has size (grind (arith, nat_tests))
      | inr few ↦ crowded_none s size (grind (arith, nat_tests)) list is has
    ]

told : (s : Shape) (f : ShapeFault) (a b c : Bool) → (if not a then Some fault.NodeCount else if b then Some fault.TooManyLinks else if c then Some fault.TooManyNeighbours else None) ≡ Some f → f ≢ fault.NodeCount
    → (a ≡ true) × ((b || c) ≡ true)
told s f true true c h other = (refl, refl)
told s f true false true h other = (refl, refl)
told s f true false false h other = cc
told s f false b c h other = absurd (other (sym (same_Some fault.NodeCount f h)))

pub refused_none : (s : Shape) (f : ShapeFault) → refusal_of s ≡ Some f → f ≢ fault.NodeCount → HasNone s
refused_none s f h other =
    let t = told s f (has_size s) (nat_lt most_links (link_count s)) (nat_lt most_neighbours (neighbour_count s)) h other in
    none_has s t.0 t.1
