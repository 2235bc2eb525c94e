-- Sequences in which equal elements are followed by equal ones.
use Rattle.std.proofs.Common.{◌≡◌, ℕ, zero, suc, ◌+◌, ◌-◌, ◌*◌, ◌≤◌, refl, sym, ap, ◌∙◌, arith}
use Rattle.std.proofs.Math.Nat.{mul-le-mul_left}

-- a multiple is no less
no_less : (m q : ℕ) → 1 ≤ q → m ≤ m * q
no_less m q some = omega (arith, mul-le-mul_left m some)

module _ {X : Type 0} (f : ℕ → X) (start : ℕ) (more : (a b : ℕ) → start ≤ a → start ≤ b → f a ≡ f b → f (a + 1) ≡ f (b + 1)) where
  -- so many places on they are equal too
  pub so_many_on : (k a b c d : ℕ) → a + k ≡ c → b + k ≡ d → start ≤ a → start ≤ b → f a ≡ f b → f c ≡ f d
  so_many_on zero a b c d one other late later same =
      let here : c ≡ a = omega arith in
      let there : b ≡ d = omega arith in
      ap f here ∙ same ∙ ap f there
  so_many_on (suc k) a b c d one other late later same =
      let here : c ≡ a + k + 1 = omega arith in
      let there : b + k + 1 ≡ d = omega arith in
      ap f here ∙ more (a + k) (b + k) (omega arith) (omega arith) (so_many_on k a b (a + k) (b + k) refl refl late later same) ∙ ap f there

  -- what comes again does so after each multiple
  multiple : (k e q : ℕ) → start ≤ e → f e ≡ f (e + q) → f e ≡ f (e + k * q)
  multiple zero e q late same =
      let none : e ≡ e + zero * q = omega arith in
      ap f none
  multiple (suc k) e q late same =
      let sum : e + k * q + q ≡ e + suc k * q = omega arith in
      same ∙ so_many_on q e (e + k * q) (e + q) (e + suc k * q) refl sum late (omega arith) (multiple k e q late same)

  -- what comes again does so after each period that another element has
  pub carried : (m n e q : ℕ) → start ≤ m → start ≤ e → 1 ≤ q → f m ≡ f (m + n) → f e ≡ f (e + q) → f e ≡ f (e + n)
  carried m n e q late later some one other =
      let t = e + m * q in
      let big : m ≤ m * q = no_less m q some in
      let here : m + (t - m) ≡ t = omega arith in
      let there : m + n + (t - m) ≡ t + n = omega arith in
      let back : f e ≡ f t = multiple m e q later other in
      back
      ∙ so_many_on (t - m) m (m + n) t (t + n) here there late (omega arith) one
      ∙ sym (so_many_on n e t (e + n) (t + n) refl refl later (omega arith) back)
