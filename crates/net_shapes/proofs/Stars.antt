-- Stars.
use Rattle.std.proofs.Common.{◌≡◌, ℕ, ◌-◌, ◌<◌, ◌≤◌, true, ◌||◌, nat_lt, List, [], ◌∷◌, length, refl, arith, zero, suc}
use Rattle.std.specs.List.{range_with_len}
use Rattle.std.proofs.lemmas.Bool.Decides.{nat_tests}
use Rattle.std.proofs.lemmas.List.FromFn.{length-range_with_len}
use Rattle.link_net.specs.Limits.{most_neighbours}
use Rattle.net_shapes.specs.declared.shape.Shape.{Shape}
use Rattle.net_shapes.specs.Shapes.{leads}
use Rattle.net_shapes.specs.Sizes.{has_size}
use Rattle.net_shapes.specs.Ahead.{ahead}
use Rattle.net_shapes.proofs.Ahead.{IsAhead, has}
use Rattle.net_shapes.proofs.Counts.{one_above, all_but_first}
use Rattle.net_shapes.proofs.Lists.{has_when, once_when}
use Rattle.net_shapes.proofs.Rows.{has_row}
use Rattle.net_shapes.proofs.Sound.{IsSound, sizes}

-- the nodes that are linked with u
star_near : ℕ → ℕ → List ℕ
star_near n zero = range_with_len 1 (n - 1)
star_near n (suc u) = 0 ∷ []

module _ (n : ℕ) where
  star_ahead : IsAhead n (ahead (Shape.Star n)) (leads (Shape.Star n))
  star_ahead = record {
    member = λ u w low. rw (has_when (nat_lt 0 u) 0 w) (grind (arith, nat_tests));
    once = λ u low. once_when (nat_lt 0 u) 0;
    one_way = λ u w a b led. grind (arith, nat_tests);
  }

  near_few : (u : ℕ) → n - 1 ≤ most_neighbours → length (star_near n u) ≤ most_neighbours
  unfolding star_near
  near_few zero few = rw (length-range_with_len 1 (n - 1)) few
  near_few (suc u) few = omega arith

  near_holds : (u w : ℕ) → u < n → w < n → (leads (Shape.Star n) u w || leads (Shape.Star n) w u) ≡ true → has w (star_near n u) ≡ true
  unfolding star_near
  near_holds zero w a b joined = rw (has_row w 1 (n - 1)) (grind (arith, nat_tests))
  near_holds (suc u) w a b joined = grind (arith, nat_tests)

pub star_sound : (n : ℕ) → has_size (Shape.Star n) ≡ true → IsSound (Shape.Star n)
star_sound n f =
    let (low, high) = sizes 1 n f in
    record {
      some = low;
      small = high;
      is_ahead = star_ahead n;
      has_few = λ bound. record { near = star_near n; few = λ u below. near_few n u bound; holds = near_holds n };
      count = all_but_first (ahead (Shape.Star n)) n low refl (λ u from. one_above u 0 from);
    }
