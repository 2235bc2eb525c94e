-- Names that differ, and names that are known.
use Rattle.std.proofs.Common.{◌≡◌, ◌≤◌, ℕ, zero, suc, length, arith, List, [], ◌∷◌, ◌++◌, refl, sym, ap, ◌∙◌}
use Rattle.std.specs.Prelude.{map, Option, Some, None, Bool, true, false, not, ◌||◌, if◌then◌else◌, slice_get}
use Rattle.std.specs.List.{list_any}
use Rattle.std.specs.Option.{option_or, option_map}
use Rattle.std.specs.Str.{bytes_eq}
use Rattle.std.proofs.lemmas.List.Folds.{list_any-append}
use Rattle.rule_check.specs.WellFormed.{is_among, has_twice}
use Rattle.rule_check.proofs.Twice.{seen_more, seen_none}
use Rattle.std.specs.Borrow.{Bor}
use Rattle.model_text.specs.declared.tree.Name.{Name}
use Rattle.model_text.specs.View.{name_of}
use Rattle.model_rules.specs.ScopeView.{named}
use Rattle.model_text.specs.Tree.{NameAt, ItemTree, ConstTree, StatesTree, FieldTree, LetTree, NextTree}
use Rattle.model_rules.specs.Models.{bare, fields_of}
use Rattle.model_rules.specs.declared.naming.NameKind.TheVariants as kind
use Rattle.model_rules.specs.Naming.{names_given, names_as, repeat_after, stray, place_at}
use Rattle.model_rules.proofs.Values.{neither}

-- no part of a choice that gives none gives one
pub none_first : {X : Type 0} (a b : Option X) → option_or a b ≡ None → a ≡ None
none_first None b h = refl
none_first (Some x) b h = absurd (cc)

pub none_second : {X : Type 0} (a b : Option X) → option_or a b ≡ None → b ≡ None
none_second None b h = h
none_second (Some x) b h = absurd (cc)

pub none_under : {X Y : Type 0} (f : X → Y) (a : Option X) → option_map f a ≡ None → a ≡ None
none_under f None h = refl
none_under f (Some x) h = absurd (cc)

pub both_false : (a b : Bool) → a ≡ false → b ≡ false → (a || b) ≡ false
both_false true b h g = h
both_false false b h g = g

or_swap : (a b : Bool) → (a || (b || false)) ≡ (b || a)
or_swap true true = refl
or_swap true false = refl
or_swap false true = refl
or_swap false false = refl

-- one name more
one_more : (before : List (List ℕ)) (name q : List ℕ) → is_among (before ++ name ∷ []) q ≡ (bytes_eq name q || is_among before q)
one_more before name q =
    list_any-append (λ x. bytes_eq x q) before (name ∷ []) ∙ or_swap (is_among before q) (bytes_eq name q)

-- a name that stands before is a repeat
if_repeat : (c : Bool) (at : ℕ) (rest : Option ℕ) → (if c then Some at else rest) ≡ None → (c ≡ false) × (rest ≡ None)
if_repeat true at rest h = absurd (cc)
if_repeat false at rest h = (refl, h)

none_repeats : (before : List (List ℕ)) (ns : List NameAt) → repeat_after before ns ≡ None → (list_any (is_among before) (bare ns) || has_twice (bare ns)) ≡ false
none_repeats before [] h = refl
none_repeats before (n ∷ ns) h =
    let e = if_repeat (is_among before n.name) n.at (repeat_after (before ++ n.name ∷ []) ns) h in
    sym (seen_more (is_among before) (is_among (before ++ n.name ∷ [])) n.name (bare ns) (λ q. one_more before n.name q) e.0)
    ∙ none_repeats (before ++ n.name ∷ []) ns e.1

pub distinct : (ns : List NameAt) → repeat_after [] ns ≡ None → has_twice (bare ns) ≡ false
distinct ns h = sym (seen_none (is_among []) (bare ns) (λ q. refl)) ∙ none_repeats [] ns h

-- none of the names is a stray
if_stray : (c : Bool) (at : ℕ) (rest : Option ℕ) → (if c then rest else Some at) ≡ None → (c ≡ true) × (rest ≡ None)
if_stray true at rest h = (refl, h)
if_stray false at rest h = absurd (cc)

pub none_strays : (names : List (List ℕ)) (ns : List NameAt) → stray names ns ≡ None → list_any (λ x. not (is_among names x)) (bare ns) ≡ false
none_strays names [] h = refl
none_strays names (n ∷ ns) h =
    let e = if_stray (is_among names n.name) n.at (stray names ns) h in
    both_false (not (is_among names n.name)) (list_any (λ x. not (is_among names x)) (bare ns)) (ap not e.0) (none_strays names ns e.1)

-- the names of the fields
pub field_names : (items : List ItemTree) → bare (names_as kind.Field items) ≡ fields_of items
field_names [] = refl
field_names (ConstTree n body ∷ items) = field_names items
field_names (StatesTree n members ∷ items) = field_names items
field_names (FieldTree n states initial ∷ items) = ap (λ ns. n.name ∷ ns) (field_names items)
field_names (LetTree n parameters body ∷ items) = field_names items
field_names (NextTree n body ∷ items) = field_names items

-- what holds of names holds of those after
among_behind : (ms ns : List NameAt) (x : List ℕ) → is_among (bare (ms ++ ns)) x ≡ false → is_among (bare ns) x ≡ false
among_behind [] ns x h = h
among_behind (m ∷ ms) ns x h = among_behind ms ns x (neither (bytes_eq m.name x) (is_among (bare (ms ++ ns)) x) h).1

twice_behind : (ms ns : List NameAt) → has_twice (bare (ms ++ ns)) ≡ false → has_twice (bare ns) ≡ false
twice_behind [] ns h = h
twice_behind (m ∷ ms) ns h = twice_behind ms ns (neither (is_among (bare (ms ++ ns)) m.name) (has_twice (bare (ms ++ ns))) h).1

no_field_among : (items : List ItemTree) (x : List ℕ) → is_among (bare (names_given items)) x ≡ false → is_among (fields_of items) x ≡ false
no_field_among [] x h = refl
no_field_among (ConstTree n body ∷ items) x h = no_field_among items x (neither (bytes_eq n.name x) (is_among (bare (names_given items)) x) h).1
no_field_among (StatesTree n members ∷ items) x h =
    no_field_among items x (among_behind members (names_given items) x (neither (bytes_eq n.name x) (is_among (bare (members ++ names_given items)) x) h).1)
no_field_among (FieldTree n states initial ∷ items) x h =
    let e = neither (bytes_eq n.name x) (is_among (bare (names_given items)) x) h in
    both_false (bytes_eq n.name x) (is_among (fields_of items) x) e.0 (no_field_among items x e.1)
no_field_among (LetTree n parameters body ∷ items) x h = no_field_among items x (neither (bytes_eq n.name x) (is_among (bare (names_given items)) x) h).1
no_field_among (NextTree n body ∷ items) x h = no_field_among items x h

-- where all names differ, those of the fields do
pub fields_differ : (items : List ItemTree) → has_twice (bare (names_given items)) ≡ false → has_twice (fields_of items) ≡ false
fields_differ [] h = refl
fields_differ (ConstTree n body ∷ items) h = fields_differ items (neither (is_among (bare (names_given items)) n.name) (has_twice (bare (names_given items))) h).1
fields_differ (StatesTree n members ∷ items) h =
    fields_differ items (twice_behind members (names_given items) (neither (is_among (bare (members ++ names_given items)) n.name) (has_twice (bare (members ++ names_given items))) h).1)
fields_differ (FieldTree n states initial ∷ items) h =
    let e = neither (is_among (bare (names_given items)) n.name) (has_twice (bare (names_given items))) h in
    both_false (is_among (fields_of items) n.name) (has_twice (fields_of items)) (no_field_among items n.name e.0) (fields_differ items e.1)
fields_differ (LetTree n parameters body ∷ items) h = fields_differ items (neither (is_among (bare (names_given items)) n.name) (has_twice (bare (names_given items))) h).1
fields_differ (NextTree n body ∷ items) h = fields_differ items h

-- where there is no name at a place, there are no more
pub none_there : (ns : List NameAt) (k : ℕ) → place_at ns k ≡ None → length ns ≤ k
none_there [] k h = omega arith
none_there (n ∷ ns) zero h = absurd (cc)
none_there (n ∷ ns) (suc k) h = let e = none_there ns k h in omega arith

-- the name at a place, by where it lies in memory
pub nth_of : (ns : List Name) (k : ℕ) → place_at (map name_of ns) k ≡ option_map (λ n. n.at) (slice_get ns k)
nth_of [] k = refl
nth_of (n ∷ ns) zero = refl
nth_of (n ∷ ns) (suc k) = nth_of ns k

pub nth_named : (ns : List (Bor Name)) (k : ℕ) → place_at (named ns) k ≡ option_map (λ n. n.now.at) (slice_get ns k)
nth_named [] k = refl
nth_named (n ∷ ns) zero = refl
nth_named (n ∷ ns) (suc k) = nth_named ns k
