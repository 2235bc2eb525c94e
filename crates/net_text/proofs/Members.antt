-- A table that is made key by key.
use Rattle.std.proofs.Common.{◌≡◌, ℕ, List, [], ◌∷◌, map, Ordering, Less, Equal, Greater, String, Global, string_bytes, nat_cmp, refl, ap, ◌∙◌, ◌+◌, ◌<◌, length, get_or, take, zero, suc, arith}
use Rattle.std.specs.Cmp.Lexicographic.{slice_cmp}
use Rattle.std.specs.String.{string_cmp}
use Rattle.std.specs.Ordering.{match_ordering, ordering_reverse}
use Rattle.std.specs.List.{AllByRecursion}
use Rattle.std.specs.List.Sorted.{IsStrictlySortedBy}
use Rattle.std.proofs.lemmas.Cmp.{nat_list_cmp_total}
use Rattle.link_net.specs.declared.field_set.FieldSet.{FieldSet}
use Rattle.link_net.specs.Names.{AreRising}
use Rattle.std.specs.BTreeMap.{insert_entry}
use Rattle.toml.specs.declared.value.Value.{Value}
use Rattle.toml.specs.Data.{array, member}
use Rattle.toml.specs.View.{view, items_of, members_view}
use Rattle.toml.proofs.Views.{Entry}
use Rattle.net_text.specs.Written.{put_member, pair_data, sets_members}

match_members : (o : Ordering) (a b c : List Entry) → members_view (match_ordering o a b c) ≡ match_ordering o (members_view a) (members_view b) (members_view c)
match_members Less a b c = refl
match_members Equal a b c = refl
match_members Greater a b c = refl

-- an insert into a map, as members
pub members-put : (k : String Global) (v : Value) (es : List Entry) → members_view (insert_entry string_cmp es k v) ≡ put_member (string_bytes k) (view v) (members_view es)
members-put k v [] = refl
members-put k v (e ∷ es) = match_members (string_cmp k e.0) _ _ _ ∙ rw (members-put k v es)

name_at : (p : List ℕ → Type 0) (ss : List FieldSet) (i : ℕ) (d : FieldSet) → AllByRecursion p (map (λ s. s.name) ss) → i < length ss → p (get_or ss i d).name
name_at p [] i d all low = absurd (omega arith)
name_at p (s ∷ ss) zero d all low = all.0
name_at p (s ∷ ss) (suc i) d all low = name_at p ss i d all.1 (omega arith)

-- one more field set, whose name is above those before it
pub sets-put : (sets : List FieldSet) (i : ℕ) (d : FieldSet) → i < length sets → AreRising sets
    → put_member (get_or sets i d).name (array (items_of (map pair_data (get_or sets i d).pairs))) (sets_members (take i sets)) ≡ sets_members (take (i + 1) sets)
unfolding IsStrictlySortedBy
sets-put [] i d low rise = absurd (omega arith)
sets-put (s ∷ ss) zero d low rise = refl
sets-put (s ∷ ss) (suc i) d low rise =
    let on : suc i + 1 ≡ suc (i + 1) = omega arith in
    let below : slice_cmp nat_cmp s.name (get_or ss i d).name ≡ Less = name_at (λ k. slice_cmp nat_cmp s.name k ≡ Less) ss i d rise.0 (omega arith) in
    let above : slice_cmp nat_cmp (get_or ss i d).name s.name ≡ Greater = nat_list_cmp_total.antisymm (get_or ss i d).name s.name ∙ ap ordering_reverse below in
    rw (above, on) (ap (member s.name (array (items_of (map pair_data s.pairs)))) (sets-put ss i d (omega arith) rise.1))
