-- Links that leave each node with few neighbours, and are few.
use Rattle.std.proofs.Common.{◌≡◌, ℕ, ◌+◌, ◌<◌, ◌≤◌, ◌==◌, Bool, true, false, ◌||◌, nat_lt, List, [], ◌∷◌, length, refl, inl, inr, arith, zero, suc}
use Rattle.std.specs.List.{list_any, filter, range_with_len}
use Rattle.std.proofs.lemmas.Bool.{cases_Bool}
use Rattle.std.proofs.lemmas.Bool.Decides.{nat_tests}
use Rattle.link_net.specs.Limits.{most_nodes, most_links, most_neighbours}
use Rattle.link_net.specs.Links.{are_linked, linked_with}
use Rattle.link_net.specs.Neighbours.{numbers_below}
use Rattle.link_net.specs.Reading.{is_crowded}
use Rattle.net_text.specs.Listing.{IsListing}
use Rattle.net_shapes.specs.Ahead.{links_ahead}
use Rattle.net_shapes.proofs.Ahead.{has, IsAhead, within, straight, once, linked}

-- a test that passes less keeps no more
filter_le : (p q : ℕ → Bool) (a k : ℕ) → ((x : ℕ) → a ≤ x → x < a + k → p x ≡ true → q x ≡ true)
    → length (filter p (range_with_len a k)) ≤ length (filter q (range_with_len a k))
filter_le p q a zero h = omega arith
filter_le p q a (suc k) h =
    let rest = filter_le p q (a + 1) k (λ x low high e. h x (omega arith) (omega arith) e) in
    elim (cases_Bool (p a)) [
      | inl passes ↦ rw (passes, h a (omega arith) (omega arith) passes) (omega arith)
      | inr fails ↦
          elim (cases_Bool (q a)) [
            | inl more ↦ rw (fails, more) (omega arith)
            | inr none ↦ rw (fails, none) rest
          ]
    ]

either_le : (p q : ℕ → Bool) (xs : List ℕ) → length (filter (λ w. p w || q w) xs) ≤ length (filter p xs) + length (filter q xs)
either_le p q [] = omega arith
either_le p q (x ∷ xs) =
    elim (cases_Bool (p x)) [
      | inl a ↦
          elim (cases_Bool (q x)) [
            | inl b ↦ rw (a, b) (omega (arith, either_le p q xs))
            | inr b ↦ rw (a, b) (omega (arith, either_le p q xs))
          ]
      | inr a ↦
          elim (cases_Bool (q x)) [
            | inl b ↦ rw (a, b) (omega (arith, either_le p q xs))
            | inr b ↦ rw (a, b) (omega (arith, either_le p q xs))
          ]
    ]

-- a number stands at most once in a row of numbers
past : (x a k : ℕ) → x < a → length (filter (λ w. w == x) (range_with_len a k)) ≡ 0
past x a zero low = refl
past x a (suc k) low =
    let other : (a == x) ≡ false = grind (arith, nat_tests) in
    rw other (past x (a + 1) k (omega arith))

once_in : (x a k : ℕ) → length (filter (λ w. w == x) (range_with_len a k)) ≤ 1
once_in x a zero = omega arith
once_in x a (suc k) =
    elim (cases_Bool (a == x)) [
      | inl here ↦
          let is : x ≡ a = grind (arith, nat_tests) in
          rw here (omega (arith, past x (a + 1) k (omega arith)))
      | inr other ↦ rw other (once_in x (a + 1) k)
    ]

nothing : (xs : List ℕ) → length (filter (λ w. false) xs) ≡ 0
nothing [] = refl
nothing (x ∷ xs) = nothing xs

-- no more numbers stand in a list than it has
few_in : (near : List ℕ) (a k : ℕ) → length (filter (λ w. has w near) (range_with_len a k)) ≤ length near
few_in [] a k = omega (arith, nothing (range_with_len a k))
few_in (x ∷ near) a k = omega (arith, either_le (λ w. w == x) (λ w. has w near) (range_with_len a k), once_in x a k, few_in near a k)

none_of : (p : ℕ → Bool) (a k : ℕ) → ((u : ℕ) → a ≤ u → u < a + k → p u ≡ false) → list_any p (range_with_len a k) ≡ false
none_of p a zero h = refl
none_of p a (suc k) h = rw (h a (omega arith) (omega arith)) (none_of p (a + 1) k (λ u low high. h u (omega arith) (omega arith)))

-- who may be joined with a node, and how many these are
pub record HasFew (n : ℕ) (leads : ℕ → ℕ → Bool) : Type 0 where
  pub near : ℕ → List ℕ
  pub few : (u : ℕ) → u < n → length (near u) ≤ most_neighbours
  pub holds : (u w : ℕ) → u < n → w < n → (leads u w || leads w u) ≡ true → has w (near u) ≡ true

module _ (n : ℕ) (next : ℕ → List ℕ) (leads : ℕ → ℕ → Bool) (is : IsAhead n next leads) (at : HasFew n leads) where
  short : (u : ℕ) → u < n → length (linked_with n (links_ahead next (numbers_below n)) u) ≤ most_neighbours
  short u low =
      let kept = filter_le (are_linked (links_ahead next (numbers_below n)) u) (λ w. has w (at.near u)) 0 n
      (λ w a b e. at.holds u w low (omega arith) (rw (linked n next leads is u w low (omega arith)) at e)) in
      omega (arith, kept, few_in (at.near u) 0 n, at.few u low)

  uncrowded : is_crowded n (links_ahead next (numbers_below n)) ≡ false
  uncrowded = none_of _ 0 n (λ u a b. below (length (linked_with n (links_ahead next (numbers_below n)) u)) (short u (omega arith))) where
    below : (k : ℕ) → k ≤ most_neighbours → nat_lt most_neighbours k ≡ false
    below k le = grind (arith, nat_tests)

  pub is_listing : 1 ≤ n → n ≤ most_nodes → length (links_ahead next (numbers_below n)) ≤ most_links → IsListing (record { nodes = n; links = links_ahead next (numbers_below n) })
  is_listing some small count =
      let less : nat_lt most_links (length (links_ahead next (numbers_below n))) ≡ false = grind (arith, nat_tests) in
      record {
        some = some;
        small = small;
        within = within n next leads is;
        is_sound = rw (straight n next leads is, once n next leads is, less, uncrowded) refl;
      }
