use Rattle.std.proofs.Common.{◌≡◌, ◌∙◌, ◌<◌, ◌+◌, ◌-◌, ◌++◌, ℕ, suc, List, [], ◌∷◌, ap, append_assoc, arith, sym}
use Rattle.std.specs.List.{range_with_len}
use Rattle.run_counts.proofs.values.states_of.Goals as goal

range_left : (k n : ℕ) → k < n → range_with_len k (n - k) ≡ k ∷ range_with_len (k + 1) (n - (k + 1))
range_left k n inside =
    let left : n - k ≡ suc (n - (k + 1)) = omega (arith, inside) in
    ap (λ (m : ℕ). range_with_len k m) left

pub loop-state-preserved : goal.loop-state-preserved
loop-state-preserved c =
    let l = c.loop-state in
    let k = l.state in
    let n = c.args.states in
    let rest = range_with_len (k + 1) (n - (k + 1)) in
    ap (λ (xs : List ℕ). xs ++ rest) c.in_ok-push.ensures.items
    ∙ append_assoc l.keys.items (k ∷ []) rest
    ∙ sym (ap (λ (xs : List ℕ). l.keys.items ++ xs) (range_left k n c.loop-state-test.true))
    ∙ l.invariant
