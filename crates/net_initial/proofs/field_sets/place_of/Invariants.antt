use Rattle.std.proofs.Common.{◌≡◌, ◌<◌, ℕ, Less, slice_index_or, nat_cmp}
use Rattle.std.specs.Cmp.Lexicographic.{slice_cmp}
use Rattle.link_net.specs.declared.field_set.FieldSet.{FieldSet}
use Rattle.net_initial.proofs.field_sets.place_of.Given as goal

abbrev pub invariant-loop-place : goal.invariant-loop-place
invariant-loop-place l = (k : ℕ) (d : FieldSet) → k < l.place → slice_cmp nat_cmp (slice_index_or l.sets k d).name l.name ≡ Less
