-- Trees.
use Rattle.std.proofs.Common.{◌≡◌, ℕ, ◌+◌, ◌-◌, ◌*◌, ◌/◌, ◌<◌, ◌≤◌, ◌==◌, ◌||◌, ◌&&◌, true, false, nat_le, nat_lt, List, ◌++◌, length, length-append, min, ap, inl, inr, refl, arith, zero, suc}
use Rattle.std.specs.List.{range_with_len}
use Rattle.std.proofs.Math.Nat.{div-le_self}
use Rattle.std.proofs.lemmas.Bool.{and_parts, cases_Bool}
use Rattle.std.proofs.lemmas.Bool.Decides.{nat_tests}
use Rattle.std.proofs.lemmas.Nat.{div-add-mod', mod_below}
use Rattle.std.proofs.lemmas.List.FromFn.{length-range_with_len}
use Rattle.link_net.specs.Limits.{most_neighbours}
use Rattle.net_shapes.specs.declared.shape.Shape.{Shape}
use Rattle.net_shapes.specs.Shapes.{leads}
use Rattle.net_shapes.specs.Sizes.{has_size, tree_neighbours, is_from}
use Rattle.net_shapes.specs.Ahead.{when, ahead}
use Rattle.net_shapes.proofs.Ahead.{IsAhead, has}
use Rattle.net_shapes.proofs.Counts.{one_above, all_but_first}
use Rattle.net_shapes.proofs.Lists.{has-append, has_when, once_when, short_when}
use Rattle.net_shapes.proofs.Rows.{has_row}
use Rattle.net_shapes.proofs.Sound.{IsSound, sizes}

module _ (n k : ℕ) (some : 1 ≤ k) where
  tree_ahead : IsAhead n (ahead (Shape.Tree n k)) (leads (Shape.Tree n k))
  tree_ahead = record {
    member = λ u w low. let up = div-le_self (u - 1) k in rw (has_when (nat_lt 0 u) ((u - 1) / k) w) (lower u w ((u - 1) / k) low up);
    once = λ u low. once_when (nat_lt 0 u) ((u - 1) / k);
    one_way = λ u w a b led. back u w ((u - 1) / k) ((w - 1) / k) (div-le_self (u - 1) k) (div-le_self (w - 1) k) led;
  } where
    lower : (u w p : ℕ) → u < n → p ≤ u - 1 → (nat_lt 0 u && w == p) ≡ (nat_lt w n && (nat_lt 0 u && p == w))
    lower u w p low up = grind (arith, nat_tests)

    back : (u w p q : ℕ) → p ≤ u - 1 → q ≤ w - 1 → (nat_lt 0 u && p == w) ≡ true → (nat_lt 0 w && q == u) ≡ false
    back u w p q up down led = grind (arith, nat_tests)

  -- the parent and the children of a node
  family : ℕ → List ℕ
  family u = when (nat_lt 0 u) ((u - 1) / k) ++ range_with_len (u * k + 1) (min k (n - (u * k + 1)))

  family_few : (u : ℕ) → tree_neighbours n k ≤ most_neighbours → length (family u) ≤ most_neighbours
  unfolding family
  family_few zero few = rw (length-range_with_len (0 * k + 1) (min k (n - (0 * k + 1)))) (omega arith)
  family_few (suc u) few =
      let both = length-append (when (nat_lt 0 (suc u)) ((suc u - 1) / k)) (range_with_len (suc u * k + 1) (min k (n - (suc u * k + 1)))) in
      let up = short_when (nat_lt 0 (suc u)) ((suc u - 1) / k) in
      let down = length-range_with_len (suc u * k + 1) (min k (n - (suc u * k + 1))) in
      omega arith

  -- whose parent u is
  pub is_child : (u w : ℕ) → 0 < w → w < n → (w - 1) / k ≡ u → (u * k + 1 ≤ w) × (w < u * k + 1 + min k (n - (u * k + 1)))
  is_child u w positive low parent =
      let whole = div-add-mod' (w - 1) k in
      let left = mod_below (w - 1) k (omega arith) in
      let same : (w - 1) / k * k ≡ u * k = ap (λ p. p * k) parent in
      (omega arith, omega arith)

  family_holds : (u w : ℕ) → u < n → w < n → (leads (Shape.Tree n k) u w || leads (Shape.Tree n k) w u) ≡ true → has w (family u) ≡ true
  unfolding family
  family_holds u w a b joined =
      rw (
        has-append w (when (nat_lt 0 u) ((u - 1) / k)) (range_with_len (u * k + 1) (min k (n - (u * k + 1)))),
        has_when (nat_lt 0 u) ((u - 1) / k) w,
        has_row w (u * k + 1) (min k (n - (u * k + 1))),
      )
      (either ((u - 1) / k) ((w - 1) / k) (u * k + 1) (min k (n - (u * k + 1))) (is_child u w) joined) where
        either : (p q first count : ℕ) → (0 < w → w < n → q ≡ u → (first ≤ w) × (w < first + count))
            → ((nat_lt 0 u && p == w) || (nat_lt 0 w && q == u)) ≡ true → ((nat_lt 0 u && w == p) || (nat_le first w && nat_lt w (first + count))) ≡ true
        either p q first count child h =
            elim (cases_Bool (nat_lt 0 w && q == u)) [
              | inl down ↦
                  let positive : 0 < w = grind (arith, nat_tests) in
                  let parent : q ≡ u = grind (arith, nat_tests) in
                  let placed = child positive b parent in
                  grind (arith, nat_tests)
              | inr not_down ↦ grind (arith, nat_tests)
            ]

pub tree_sound : (n k : ℕ) → has_size (Shape.Tree n k) ≡ true → IsSound (Shape.Tree n k)
tree_sound n k f =
    let (size, wide) = and_parts (is_from 1 n) (nat_le 1 k) f in
    let (low, high) = sizes 1 n size in
    let some : 1 ≤ k = grind (arith, nat_tests) in
    record {
      some = low;
      small = high;
      is_ahead = tree_ahead n k some;
      has_few = λ bound. record { near = family n k some; few = λ u below. family_few n k some u bound; holds = family_holds n k some };
      count = all_but_first (ahead (Shape.Tree n k)) n low refl (λ u from. one_above u ((u - 1) / k) from);
    }
