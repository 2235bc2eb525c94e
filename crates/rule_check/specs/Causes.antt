-- Why a program is refused, with the items at fault. Items are counted from 0, in the text's order.
use Rattle.std.specs.Prelude.{ℕ, ◌+◌, ◌<◌, ◌≤◌, ◌≡◌, Bool, false, not, List, [], ◌∷◌, ◌++◌, length, take, Option, Some, None, IsSome, IsSomeAnd, slice_get, string_bytes}
use Rattle.std.specs.List.{filter_map, find, position_from}
use Rattle.std.specs.Option.{option_and_then}
use Rattle.rule_lang.specs.Tree.{Tree, NumberTree, OwnTree, IdTree, DegreeTree, RoundTree, NearTree, NearIdTree, NearWeightTree, InfixTree, NotTree, OverTree, ChoiceTree, ItemTree, FieldTree, NextTree}
use Rattle.rule_check.specs.declared.cause.CheckCause.{CheckCause}
use Rattle.rule_check.specs.declared.cause.CheckCause.TheVariants.{TooManyFields, FieldTwice, NextTwice, UnknownTarget, UnknownName, NeighbourOutside, NestedAggregate, TooManyAggregates}
use Rattle.rule_check.specs.declared.fault.CheckFault.{CheckFault}
use Rattle.rule_check.specs.declared.fault.CheckFault.TheVariants as fault
use Rattle.rule_check.specs.Value.{Next, names_of}
use Rattle.rule_check.specs.WellFormed.{has_twice, is_among, is_unknown, looks_outside, nests, all_parts}
use Rattle.rule_check.specs.Items.{fields_of, nexts_of, rules_of}

-- the fault of which this is a cause
abbrev pub fault_of : CheckCause → CheckFault
fault_of (TooManyFields item) = fault.TooManyFields
fault_of (FieldTwice item earlier) = fault.FieldTwice
fault_of (NextTwice item earlier) = fault.NextTwice
fault_of (UnknownTarget item) = fault.UnknownName
fault_of (UnknownName item name) = fault.UnknownName
fault_of (NeighbourOutside item) = fault.NeighbourOutside
fault_of (NestedAggregate item) = fault.NestedAggregate
fault_of (TooManyAggregates item) = fault.TooManyAggregates

-- the name of a `field` item
abbrev pub declared_name : ItemTree → Option (List ℕ)
declared_name (FieldTree name value) = Some name
declared_name (NextTree name body) = None

-- the name of a `next` item
abbrev pub assigned_name : ItemTree → Option (List ℕ)
assigned_name (FieldTree name value) = None
assigned_name (NextTree name body) = Some name

-- the name that the item with this number has in this way
abbrev pub name_at : (ItemTree → Option (List ℕ)) → List ItemTree → ℕ → Option (List ℕ)
name_at naming items k = option_and_then naming (slice_get items k)

-- the item has a name in this way, an earlier one has the same, and the names of the items before it differ
abbrev pub IsRepeat : (ItemTree → Option (List ℕ)) → List ItemTree → ℕ → ℕ → Type 0
IsRepeat naming items item earlier =
    (earlier < item) × IsSome (name_at naming items item) × (name_at naming items earlier ≡ name_at naming items item)
    × (has_twice (filter_map naming (take item items)) ≡ false)

-- a `next` item with this property
abbrev pub is_next : (Next → Bool) → ItemTree → Bool
is_next property (FieldTree name value) = false
is_next property (NextTree name body) = property (record { name = name; body = body })

-- the number of the first `next` item with this property
abbrev pub first_next : (Next → Bool) → List ItemTree → Option ℕ
first_next property items = position_from (is_next property) 0 items

-- a `next` item of which this holds
abbrev pub IsNextWith : (Next → Type 0) → ItemTree → Type 0
IsNextWith P (FieldTree name value) = ⊥
IsNextWith P (NextTree name body) = P (record { name = name; body = body })

-- the item with this number is such an item
abbrev pub IsNextAt : List ItemTree → ℕ → (Next → Type 0) → Type 0
IsNextAt items k P = IsSomeAnd (slice_get items k) (IsNextWith P)

-- the names in an expression, from the left
abbrev pub names_in : Tree → List (List ℕ)
names_in (NumberTree n) = []
names_in (OwnTree name) = name ∷ []
names_in IdTree = []
names_in DegreeTree = []
names_in RoundTree = []
names_in (NearTree name) = name ∷ []
names_in NearIdTree = []
names_in NearWeightTree = []
names_in (InfixTree op a b) = names_in a ++ names_in b
names_in (NotTree e) = names_in e
names_in (OverTree agg e) = names_in e
names_in (ChoiceTree a b c) = names_in a ++ (names_in b ++ names_in c)

-- a name is none of these
abbrev pub is_foreign : List (List ℕ) → List ℕ → Bool
is_foreign names name = not (is_among names name)

-- the first name in an expression, from the left, that is none of these
abbrev pub first_foreign : List (List ℕ) → Tree → Option (List ℕ)
first_foreign names e = find (is_foreign names) (names_in e)

-- What is named is so. The ninth `field` item: 8 stand in the items before it, 9 with it. The first item with the name of an earlier one.
-- The first `next` item with a name that is no field's: its own, or one in its expression, and then the first there.
-- The first `next` item that looks at the neighbour outside an aggregate, or nests aggregates.
-- The item that brings the aggregates of the expressions from at most 16 to more than 16.
abbrev pub IsCause : List ItemTree → CheckCause → Type 0
IsCause items (TooManyFields item) = (length (fields_of (take item items)) ≡ 8) × (length (fields_of (take (item + 1) items)) ≡ 9)
IsCause items (FieldTwice item earlier) = IsRepeat declared_name items item earlier
IsCause items (NextTwice item earlier) = IsRepeat assigned_name items item earlier
IsCause items (UnknownTarget item) =
    let names = names_of (rules_of items) in
    (first_next (is_unknown names) items ≡ Some item) × IsNextAt items item (λ n. is_among names n.name ≡ false)
IsCause items (UnknownName item name) =
    let names = names_of (rules_of items) in
    (first_next (is_unknown names) items ≡ Some item) × IsNextAt items item (λ n. first_foreign names n.body ≡ Some (string_bytes name))
IsCause items (NeighbourOutside item) = first_next (λ n. looks_outside n.body) items ≡ Some item
IsCause items (NestedAggregate item) = first_next (λ n. nests n.body) items ≡ Some item
IsCause items (TooManyAggregates item) = (length (all_parts (nexts_of (take item items))) ≤ 16) × (16 < length (all_parts (nexts_of (take (item + 1) items))))
