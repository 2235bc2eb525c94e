-- Numbers that are drawn, one by one.
use Rattle.std.proofs.Common.{◌≡◌, ℕ, suc, ◌+◌, ◌-◌, ◌<◌, ◌≤◌, List, [], ◌∷◌, ◌++◌, ap, sym, ◌∙◌, append_assoc, arith}
use Rattle.std.proofs.lemmas.List.{append-nil}
use Rattle.rand_core.specs.Stream.{Stream}
use Rattle.rand.specs.Uniform.{canon, usize_between}
use Rattle.net_initial.specs.Draws.{values_from}

module _ (done whole : List ℕ) (n i low high : ℕ) (s : Stream) (before : done ++ values_from (n - i) low high s ≡ whole) where
  -- one more
  pub values_more : (x : ℕ) (t : Stream) → i < n → (x, t) ≡ usize_between canon low high s → (done ++ x ∷ []) ++ values_from (n - (i + 1)) low high t ≡ whole
  values_more x t less h =
      let k = n - (i + 1) in
      let e : n - i ≡ suc k = omega arith in
      append_assoc done (x ∷ []) (values_from k low high t)
      ∙ ap (λ v. done ++ v) (ap (λ (p : ℕ × Stream). p.0 ∷ values_from k low high p.1) h ∙ sym (ap (λ m. values_from m low high s) e))
      ∙ before

  -- all of them
  pub values_end : n ≤ i → done ≡ whole
  values_end past =
      let e : n - i ≡ 0 = omega arith in
      sym (append-nil done) ∙ ap (λ m. done ++ values_from m low high s) (sym e) ∙ before
