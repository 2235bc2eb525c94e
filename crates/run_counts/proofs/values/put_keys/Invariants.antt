use Rattle.std.proofs.Common.{◌≡◌, ◌++◌, ℕ, drop, map}
use Rattle.run_counts.proofs.values.put_keys.Given as goal

abbrev pub invariant-loop-count : goal.invariant-loop-count
invariant-loop-count l = l.keys.items ++ map (λ (c : ℕ × ℕ). c.0) (drop l.count-index l.counts) ≡ l.initial.keys.items ++ map (λ (c : ℕ × ℕ). c.0) l.counts
