-- The order of the field sets of a file.
use Rattle.std.specs.Prelude.{List, map}
use Rattle.std.specs.Ordering.{nat_cmp}
use Rattle.std.specs.Cmp.Lexicographic.{slice_cmp}
use Rattle.std.specs.List.Sorted.{IsStrictlySortedBy}
use Rattle.link_net.specs.declared.field_set.FieldSet.{FieldSet}

-- each name's bytes are below those of the names after it, so no name stands twice
abbrev pub AreRising : List FieldSet → Type 0
AreRising sets = IsStrictlySortedBy (slice_cmp nat_cmp) (map (λ s. s.name) sets)
