-- What a program has to be, so that it is read and accepted.
use Rattle.std.specs.Prelude.{ℕ, ◌≡◌, ◌≤◌, nat_lt, false, List, length, Option, Some, None, if◌then◌else◌}
use Rattle.std.specs.List.{AllByRecursion}
use Rattle.rule_lang.specs.Tree.{Tree, ItemTree, FieldTree, NextTree, depth}
use Rattle.rule_lang.specs.Canonical.{program_text}
use Rattle.rule_check.specs.Items.{rules_of, nexts_of}
use Rattle.rule_check.specs.WellFormed.{names_unknown, looks_outside, nests, all_parts, first_fault}
use Rattle.model_rules.specs.declared.fault.Cause.{Cause}
use Rattle.model_rules.specs.declared.fault.Cause.TheVariants as cause

-- an expression that a program with these fields may have: it has no other names, names no neighbour outside of an
-- aggregate, and has no aggregate in an aggregate
pub record IsAllowed (names : List (List ℕ)) (body : Tree) : Type 0 where
  pub known : names_unknown names body ≡ false
  pub inside : looks_outside body ≡ false
  pub flat : nests body ≡ false

-- why a program with these fields may not have an expression, if it may not: it has a name that is no field's, or else names a
-- neighbour outside of an aggregate, or else has an aggregate in an aggregate
abbrev pub form_cause : List (List ℕ) → Tree → Option Cause
form_cause names body =
    if names_unknown names body then Some cause.UnknownName else
    (if looks_outside body then Some cause.NeighbourOutside else
    (if nests body then Some cause.NestedAggregate else None))

-- an expression that a next value may have
pub record IsFit (names : List (List ℕ)) (body : Tree) : Type 0 where
  pub allowed : IsAllowed names body
  pub shallow : depth body ≤ 64

-- an item of a program with these fields, whatever its name is
abbrev pub IsFitRule : List (List ℕ) → ItemTree → Type 0
IsFitRule names (FieldTree name value) = Unit {0}
IsFitRule names (NextTree name body) = IsFit names body

-- no more than 16 aggregates, and no more than 65,536 bytes
pub record IsWithin (items : List ItemTree) : Type 0 where
  pub few_aggregates : length (all_parts (nexts_of items)) ≤ 16
  pub short : length (program_text items) ≤ 65536

-- The checker of programs finds no fault in these items, none is deeper than 64, and their text has no more than 65,536
-- bytes.
pub record IsAccepted (items : List ItemTree) : Type 0 where
  pub faultless : first_fault (rules_of items) ≡ None
  pub shallow : AllByRecursion (λ n. depth n.body ≤ 64) (nexts_of items)
  pub short : length (program_text items) ≤ 65536

-- why a program may not have these items, if it may not: there are more than 16 aggregates, or else more than 65,536 bytes
abbrev pub size_cause : List ItemTree → Option Cause
size_cause items =
    if nat_lt 16 (length (all_parts (nexts_of items))) then Some cause.TooManyAggregates else
    (if nat_lt 65536 (length (program_text items)) then Some cause.TooLong else None)
