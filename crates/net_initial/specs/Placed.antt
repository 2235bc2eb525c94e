-- Internal: a set among sets by rising names. No public clause cites it.
use Rattle.std.specs.Prelude.{List, [], ◌∷◌}
use Rattle.std.specs.Ordering.{nat_cmp, match_ordering}
use Rattle.std.specs.Cmp.Lexicographic.{slice_cmp}
use Rattle.link_net.specs.declared.field_set.FieldSet.{FieldSet}

-- the sets with this one at its place, over the one of its name
abbrev pub put_set : FieldSet → List FieldSet → List FieldSet
put_set s [] = s ∷ []
put_set s (t ∷ ts) = match_ordering (slice_cmp nat_cmp s.name t.name) (s ∷ t ∷ ts) (s ∷ ts) (t ∷ put_set s ts)
