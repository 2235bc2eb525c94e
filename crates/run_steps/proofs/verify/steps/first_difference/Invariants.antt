use Rattle.std.proofs.Common.{◌≡◌, ◌<◌, ℕ, slice_index, Some}
use Rattle.run_steps.specs.verify.Given.{value_given}
use Rattle.run_steps.proofs.verify.steps.first_difference.Given as goal

abbrev pub invariant-loop-field : goal.invariant-loop-field
invariant-loop-field l = (k v : ℕ) → k < l.field → value_given l.given k ≡ Some v → slice_index l.state.words k ≡ v
