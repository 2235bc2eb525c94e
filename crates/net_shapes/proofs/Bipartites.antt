-- Complete bipartite networks.
use Rattle.std.proofs.Common.{◌≡◌, ℕ, ◌+◌, ◌-◌, ◌*◌, ◌<◌, ◌≤◌, ◌||◌, ◌&&◌, true, nat_le, nat_lt, List, length, max, arith, zero, suc, inl, inr, if◌then◌else◌}
use Rattle.std.specs.List.{range_with_len}
use Rattle.std.proofs.lemmas.Bool.{and_parts, cases_Bool}
use Rattle.std.proofs.lemmas.Bool.Decides.{nat_tests}
use Rattle.std.proofs.lemmas.List.FromFn.{length-range_with_len}
use Rattle.link_net.specs.Limits.{most_nodes, most_neighbours}
use Rattle.net_shapes.specs.declared.shape.Shape.{Shape}
use Rattle.net_shapes.specs.Shapes.{leads}
use Rattle.net_shapes.specs.Sizes.{has_size}
use Rattle.net_shapes.specs.Ahead.{links_ahead, ahead}
use Rattle.net_shapes.proofs.Ahead.{IsAhead, has}
use Rattle.net_shapes.proofs.Counts.{one_more}
use Rattle.net_shapes.proofs.Rows.{has_row, once_row}
use Rattle.net_shapes.proofs.Sound.{IsSound}

module _ (l r : ℕ) where
  bipartite_ahead : IsAhead (l + r) (ahead (Shape.Bipartite l r)) (leads (Shape.Bipartite l r))
  bipartite_ahead = record {
    member = λ u w low. rw (has_row w l (if nat_lt u l then r else 0)) (grind (arith, nat_tests));
    once = λ u low. once_row l (if nat_lt u l then r else 0);
    one_way = λ u w a b led. grind (arith, nat_tests);
  }

  -- the other side of a node
  opposite : ℕ → List ℕ
  opposite u = range_with_len (if nat_lt u l then l else 0) (if nat_lt u l then r else l)

  opposite_few : (u : ℕ) → max l r ≤ most_neighbours → length (opposite u) ≤ most_neighbours
  unfolding opposite
  opposite_few u few = rw (length-range_with_len (if nat_lt u l then l else 0) (if nat_lt u l then r else l)) (grind (arith, nat_tests))

  opposite_holds : (u w : ℕ) → u < l + r → w < l + r → (leads (Shape.Bipartite l r) u w || leads (Shape.Bipartite l r) w u) ≡ true → has w (opposite u) ≡ true
  unfolding opposite
  opposite_holds u w a b joined = rw (has_row w (if nat_lt u l then l else 0) (if nat_lt u l then r else l)) (grind (arith, nat_tests))

  -- how many links lead from k nodes
  links_from : (a k : ℕ) → a + k ≡ l + r → length (links_ahead (ahead (Shape.Bipartite l r)) (range_with_len a k)) ≡ (l - a) * r
  links_from a zero whole = let none : l - a ≡ 0 = omega arith in rw none (omega arith)
  links_from a (suc k) whole =
      let rest = links_from (a + 1) k (omega arith) in
      let both = one_more (ahead (Shape.Bipartite l r)) a k in
      let count = length-range_with_len l (if nat_lt a l then r else 0) in
      joined (length (links_ahead (ahead (Shape.Bipartite l r)) (range_with_len a (suc k)))) (length (links_ahead (ahead (Shape.Bipartite l r)) (range_with_len (a + 1) k))) a rest (omega arith) where
        joined : (total left a : ℕ) → left ≡ (l - (a + 1)) * r → total ≡ (if nat_lt a l then r else 0) + left → total ≡ (l - a) * r
        joined total left a rest whole =
            elim (cases_Bool (nat_lt a l)) [
              | inl low ↦
                  let below : a < l = grind (arith, nat_tests) in
                  let step : l - a ≡ suc (l - (a + 1)) = omega arith in
                  let whole_here = rw low at whole in
                  rw step (omega arith)
              | inr high ↦
                  let above : l ≤ a = grind (arith, nat_tests) in
                  let fewer : l - (a + 1) ≡ 0 = omega arith in
                  let none : l - a ≡ 0 = omega arith in
                  let whole_here = rw high at whole in
                  let nothing = rw fewer at rest in
                  rw none (omega arith)
            ]

pub bipartite_sound : (l r : ℕ) → has_size (Shape.Bipartite l r) ≡ true → IsSound (Shape.Bipartite l r)
bipartite_sound l r f =
    let (sides, few) = and_parts (nat_le 1 l && nat_le 1 r) (nat_le (l + r) most_nodes) f in
    let (a, b) = and_parts (nat_le 1 l) (nat_le 1 r) sides in
    let some : 1 ≤ l = grind (arith, nat_tests) in
    let small : l + r ≤ most_nodes = grind (arith, nat_tests) in
    let whole : l - 0 ≡ l = omega arith in
    let total = rw whole at (links_from l r 0 (l + r) (omega arith)) in
    record {
      some = omega arith;
      small = small;
      is_ahead = bipartite_ahead l r;
      has_few = λ bound. record { near = opposite l r; few = λ u below. opposite_few l r u bound; holds = opposite_holds l r };
      count = total;
    }
