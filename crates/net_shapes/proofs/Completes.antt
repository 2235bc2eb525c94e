-- Complete networks.
use Rattle.std.proofs.Common.{◌≡◌, ℕ, ◌+◌, ◌-◌, ◌*◌, ◌<◌, ◌≤◌, ◌||◌, nat_lt, true, List, ◌++◌, map, length, length-append, arith, zero, suc}
use Rattle.std.specs.List.{range_with_len}
use Rattle.std.proofs.lemmas.Bool.Decides.{nat_tests}
use Rattle.std.proofs.lemmas.List.{length-map}
use Rattle.std.proofs.lemmas.List.FromFn.{length-range_with_len}
use Rattle.link_net.specs.Limits.{most_neighbours}
use Rattle.net_shapes.specs.declared.shape.Shape.{Shape}
use Rattle.net_shapes.specs.Shapes.{leads}
use Rattle.net_shapes.specs.Sizes.{has_size}
use Rattle.net_shapes.specs.Ahead.{link_to, links_ahead, ahead}
use Rattle.net_shapes.proofs.Ahead.{IsAhead, has}
use Rattle.net_shapes.proofs.Lists.{has-append}
use Rattle.net_shapes.proofs.Rows.{has_row, once_row}
use Rattle.net_shapes.proofs.Sound.{IsSound, sizes}

module _ (n : ℕ) where
  complete_ahead : IsAhead n (ahead (Shape.Complete n)) (leads (Shape.Complete n))
  complete_ahead = record {
    member = λ u w low. rw (has_row w (u + 1) (n - (u + 1))) (grind (arith, nat_tests));
    once = λ u low. once_row (u + 1) (n - (u + 1));
    one_way = λ u w a b led. grind (arith, nat_tests);
  }

  -- all nodes but one
  others : ℕ → List ℕ
  others u = range_with_len 0 u ++ range_with_len (u + 1) (n - (u + 1))

  others_few : (u : ℕ) → u < n → n - 1 ≤ most_neighbours → length (others u) ≤ most_neighbours
  unfolding others
  others_few u low few =
      let both = length-append (range_with_len 0 u) (range_with_len (u + 1) (n - (u + 1))) in
      let first = length-range_with_len 0 u in
      let second = length-range_with_len (u + 1) (n - (u + 1)) in
      omega arith

  others_hold : (u w : ℕ) → u < n → w < n → (nat_lt u w || nat_lt w u) ≡ true → has w (others u) ≡ true
  unfolding others
  others_hold u w a b joined =
      rw (has-append w (range_with_len 0 u) (range_with_len (u + 1) (n - (u + 1))), has_row w 0 u, has_row w (u + 1) (n - (u + 1)))
      (grind (arith, nat_tests))

  -- how many links lead from the last k nodes
  links_from : (a k : ℕ) → a + k ≡ n → 2 * length (links_ahead (ahead (Shape.Complete n)) (range_with_len a k)) + k ≡ k * k
  links_from a zero whole = omega arith
  links_from a (suc k) whole =
      let rest = links_from (a + 1) k (omega arith) in
      let both = length-append (map (link_to a) (ahead (Shape.Complete n) a)) (links_ahead (ahead (Shape.Complete n)) (range_with_len (a + 1) k)) in
      let here = length-map (ahead (Shape.Complete n) a) (link_to a) in
      let count = length-range_with_len (a + 1) (n - (a + 1)) in
      omega arith

square : (n : ℕ) → 1 ≤ n → n * (n - 1) + n ≡ n * n
square zero some = omega arith
square (suc n) some = let down : suc n - 1 ≡ n = omega arith in rw down (omega arith)

pub complete_sound : (n : ℕ) → has_size (Shape.Complete n) ≡ true → IsSound (Shape.Complete n)
complete_sound n f =
    let (low, high) = sizes 1 n f in
    let total = links_from n 0 n (omega arith) in
    let formula = square n low in
    record {
      some = low;
      small = high;
      is_ahead = complete_ahead n;
      has_few = λ bound. record { near = others n; few = λ u below. others_few n u below bound; holds = others_hold n };
      count = omega arith;
    }
