-- Which programs are well formed.
use Rattle.std.specs.Prelude.{ℕ, ◌≡◌, ◌≤◌, All, Bool, true, false, not, ◌||◌, List, [], ◌∷◌, length, map, Option, Some, None, nat_lt, if◌then◌else◌}
use Rattle.std.specs.List.{list_any, flat_map}
use Rattle.std.specs.Str.{bytes_eq}
use Rattle.rule_lang.specs.Tree.{Tree, NumberTree, OwnTree, IdTree, DegreeTree, RoundTree, NearTree, NearIdTree, NearWeightTree, InfixTree, NotTree, OverTree, ChoiceTree, depth, IsName}
use Rattle.rule_lang.specs.Tokens.{IsWord}
use Rattle.rule_check.specs.declared.fault.CheckFault.{CheckFault}
use Rattle.rule_check.specs.declared.fault.CheckFault.TheVariants.{TooManyFields, FieldTwice, NextTwice, UnknownName, NeighbourOutside, NestedAggregate, TooManyAggregates}
use Rattle.rule_check.specs.Value.{Rules, Next, Part, parts, names_of}

-- a name is one of these
abbrev pub is_among : List (List ℕ) → List ℕ → Bool
is_among names name = list_any (λ x. bytes_eq x name) names

-- some name stands twice
abbrev pub has_twice : List (List ℕ) → Bool
has_twice [] = false
has_twice (x ∷ xs) = is_among xs x || has_twice xs

-- a name in the expression is not declared
abbrev pub names_unknown : List (List ℕ) → Tree → Bool
names_unknown names (NumberTree n) = false
names_unknown names (OwnTree name) = not (is_among names name)
names_unknown names IdTree = false
names_unknown names DegreeTree = false
names_unknown names RoundTree = false
names_unknown names (NearTree name) = not (is_among names name)
names_unknown names NearIdTree = false
names_unknown names NearWeightTree = false
names_unknown names (InfixTree op a b) = names_unknown names a || names_unknown names b
names_unknown names (NotTree e) = names_unknown names e
names_unknown names (OverTree agg e) = names_unknown names e
names_unknown names (ChoiceTree a b c) = names_unknown names a || (names_unknown names b || names_unknown names c)

-- a neighbour is named outside of an aggregate
abbrev pub looks_outside : Tree → Bool
looks_outside (NumberTree n) = false
looks_outside (OwnTree name) = false
looks_outside IdTree = false
looks_outside DegreeTree = false
looks_outside RoundTree = false
looks_outside (NearTree name) = true
looks_outside NearIdTree = true
looks_outside NearWeightTree = true
looks_outside (InfixTree op a b) = looks_outside a || looks_outside b
looks_outside (NotTree e) = looks_outside e
looks_outside (OverTree agg e) = false
looks_outside (ChoiceTree a b c) = looks_outside a || (looks_outside b || looks_outside c)

-- an aggregate stands in an aggregate
abbrev pub nests : Tree → Bool
nests (NumberTree n) = false
nests (OwnTree name) = false
nests IdTree = false
nests DegreeTree = false
nests RoundTree = false
nests (NearTree name) = false
nests NearIdTree = false
nests NearWeightTree = false
nests (InfixTree op a b) = nests a || nests b
nests (NotTree e) = nests e
nests (OverTree agg e) = nat_lt 0 (length (parts e))
nests (ChoiceTree a b c) = nests a || (nests b || nests c)

-- the names of a program's next items, in order
abbrev pub next_names : Rules → List (List ℕ)
next_names rules = map (λ n. n.name) rules.nexts

-- the aggregates of all expressions, in the text's order
abbrev pub all_parts : List Next → List Part
all_parts nexts = flat_map (λ n. parts n.body) nexts

-- a next item is for no field, or has a name in its expression that is no field's
abbrev pub is_unknown : List (List ℕ) → Next → Bool
is_unknown names next = not (is_among names next.name) || names_unknown names next.body

-- the first fault of a program, if it has one
abbrev pub first_fault : Rules → Option CheckFault
first_fault rules =
    if nat_lt 8 (length rules.fields) then Some TooManyFields else
    (if has_twice (names_of rules) then Some FieldTwice else
    (if has_twice (next_names rules) then Some NextTwice else
    (if list_any (is_unknown (names_of rules)) rules.nexts then Some UnknownName else
    (if list_any (λ n. looks_outside n.body) rules.nexts then Some NeighbourOutside else
    (if list_any (λ n. nests n.body) rules.nexts then Some NestedAggregate else
    (if nat_lt 16 (length (all_parts rules.nexts)) then Some TooManyAggregates else None))))))

-- a field's name is a letter, then letters, digits and `_`, and no reserved word
abbrev pub IsFieldName : List ℕ → Type 0
IsFieldName name = IsWord name × IsName name

-- a program without a fault, its fields' names words that are not reserved, none of its expressions deeper than 64
pub record IsWellFormed (rules : Rules) : Type 0 where
  pub few_fields : length rules.fields ≤ 8
  pub fields_differ : has_twice (names_of rules) ≡ false
  pub nexts_differ : has_twice (next_names rules) ≡ false
  pub known : list_any (is_unknown (names_of rules)) rules.nexts ≡ false
  pub inside : list_any (λ n. looks_outside n.body) rules.nexts ≡ false
  pub flat : list_any (λ n. nests n.body) rules.nexts ≡ false
  pub few_aggregates : length (all_parts rules.nexts) ≤ 16
  pub shallow : All (λ n. depth n.body ≤ 64) rules.nexts
  pub names : All IsFieldName (names_of rules)
