use Rattle.std.proofs.Common.{◌≡◌, ◌∙◌, ◌<◌, ◌+◌, ◌-◌, ℕ, suc, ◌∷◌, List, ap, arith, sym}
use Rattle.std.specs.List.{range_with_len}
use Rattle.run_picture.specs.Keys.{key_from}
use Rattle.run_picture.specs.Shades.{KeyView, state_count}
use Rattle.run_picture.proofs.key.state_key.Goals as goal

range_left : (k n : ℕ) → k < n → range_with_len k (n - k) ≡ k ∷ range_with_len (k + 1) (n - (k + 1))
range_left k n inside =
    let left : n - k ≡ suc (n - (k + 1)) = omega (arith, inside) in
    ap (λ (m : ℕ). range_with_len k m) left

pub loop-state-preserved : goal.loop-state-preserved
loop-state-preserved c =
    let l = c.loop-state in
    let k = l.state in
    let n = state_count c.args.styles.now in
    let rest = range_with_len (k + 1) (n - (k + 1)) in
    let inside : k < n = omega (arith, c.loop-state-test.true, c.state_count-state-end.ensures.count) in
    ap (λ (key : KeyView). key_from key rest) c.in_ok-add.ensures
    ∙ sym (ap (λ (xs : List ℕ). key_from l.key xs) (range_left k n inside))
    ∙ l.invariant
