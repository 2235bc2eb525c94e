-- Paths.
use Rattle.std.proofs.Common.{ℕ, ◌+◌, ◌-◌, nat_lt, [], ◌∷◌, arith, true, ◌≡◌}
use Rattle.std.proofs.lemmas.Bool.Decides.{nat_tests}
use Rattle.net_shapes.specs.declared.shape.Shape.{Shape}
use Rattle.net_shapes.specs.Shapes.{leads}
use Rattle.net_shapes.specs.Sizes.{has_size}
use Rattle.net_shapes.specs.Ahead.{ahead}
use Rattle.net_shapes.proofs.Ahead.{IsAhead}
use Rattle.net_shapes.proofs.Counts.{length_when, all_but_last}
use Rattle.net_shapes.proofs.Few.{HasFew}
use Rattle.net_shapes.proofs.Lists.{has_when, once_when}
use Rattle.net_shapes.proofs.Sound.{IsSound, sizes}

module _ (n : ℕ) where
  path_ahead : IsAhead n (ahead (Shape.Path n)) (leads (Shape.Path n))
  path_ahead = record {
    member = λ u w low. rw (has_when (nat_lt (u + 1) n) (u + 1) w) (grind (arith, nat_tests));
    once = λ u low. once_when (nat_lt (u + 1) n) (u + 1);
    one_way = λ u w a b led. grind (arith, nat_tests);
  }

  path_few : HasFew n (leads (Shape.Path n))
  path_few = record {
    near = λ u. (u + 1) ∷ (u - 1) ∷ [];
    few = λ u low. omega arith;
    holds = λ u w a b joined. grind (arith, nat_tests);
  }

  pub path_sound : has_size (Shape.Path n) ≡ true → IsSound (Shape.Path n)
  path_sound f =
      let (low, high) = sizes 1 n f in
      record {
        some = low;
        small = high;
        is_ahead = path_ahead;
        has_few = λ bound. path_few;
        count = all_but_last (ahead (Shape.Path n)) n 0 n (omega arith) (λ u. length_when (nat_lt (u + 1) n) (u + 1));
      }
