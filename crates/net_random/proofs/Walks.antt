-- Nodes that are linked back reach node 0.
use Rattle.std.proofs.Common.{◌≡◌, ℕ, ◌+◌, ◌<◌, ◌≤◌, ◌==◌, Bool, true, List, [], ◌∷◌, length, refl, inl, inr, arith, zero, suc}
use Rattle.std.specs.List.{filter, range_with_len}
use Rattle.std.proofs.lemmas.Bool.{cases_Bool}
use Rattle.std.proofs.lemmas.Bool.Decides.{nat_tests}
use Rattle.link_net.specs.Links.{are_linked}
use Rattle.net_text.specs.Listing.{Link}
use Rattle.net_random.specs.RandomNetworks.{AreLinkedBack, is_walk, AllReach}

-- a number of a row that passes a test, where some does
some_in : (p : ℕ → Bool) (a k : ℕ) → 1 ≤ length (filter p (range_with_len a k)) → (w : ℕ) × (w < a + k) × (p w ≡ true)
some_in p a zero some = absurd (omega arith)
some_in p a (suc k) some =
    elim (cases_Bool (p a)) [
      | inl here ↦ (a, omega arith, here)
      | inr later ↦
          let rest : 1 ≤ length (filter p (range_with_len (a + 1) k)) = rw later at some in
          let (w, low, passes) = some_in p (a + 1) k rest in
          (w, omega arith, passes)
    ]

module _ (each n : ℕ) (links : List Link) (some : 1 ≤ each) (back : AreLinkedBack each n links) where
  -- one link after another leads to smaller numbers, at most k times
  reach : (k u : ℕ) → u ≤ k → u < n → (walk : List ℕ) × (is_walk links u walk ≡ true)
  reach zero u few low = let first : (u == 0) ≡ true = grind (arith, nat_tests) in ([], first)
  reach (suc k) u few low =
      elim (cases_Bool (u == 0)) [
        | inl first ↦ ([], first)
        | inr other ↦
            let above : 1 ≤ u = grind (arith, nat_tests) in
            let count = back u low in
            let (w, less, linked) = some_in (are_linked links u) 0 u (omega arith) in
            let (walk, walked) = reach k w (omega arith) (omega arith) in
            (w ∷ walk, rw (linked, walked) refl)
      ]

  pub all_reach : AllReach n links
  all_reach u low = reach u u (omega arith) low
