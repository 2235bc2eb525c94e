-- What is wrong with the items of a model once its constants, states and lets are known: the first fault, found the way that the expander
-- goes, for clauses of private functions. As relations the faults of items are told in Faulty.
use Rattle.std.specs.Prelude.{ℕ, List, [], ◌∷◌, ◌++◌, Option, Some, None, if◌then◌else◌}
use Rattle.std.specs.List.{filter_map}
use Rattle.std.specs.Option.{option_or}
use Rattle.rule_lang.specs.Tree.{ItemTree as RuleTree, FieldTree as FieldRule, NextTree as NextRule}
use Rattle.model_text.specs.Tree.{Tree, NameAt, ItemTree, ConstTree, StatesTree, FieldTree, LetTree, NextTree}
use Rattle.model_rules.specs.declared.fault.Cause.{Cause}
use Rattle.model_rules.specs.declared.fault.Cause.TheVariants as cause
use Rattle.model_rules.specs.declared.fault.ExpandFault.{ExpandFault}
use Rattle.model_rules.specs.Terms.{lowered}
use Rattle.model_rules.specs.Frames.{Frame}
use Rattle.model_rules.specs.Models.{is_state}
use Rattle.model_rules.specs.TermFor.{term_for}
use Rattle.model_rules.specs.FirstFaults.{told_at}
use Rattle.model_rules.specs.Constants.{amount_in}
use Rattle.model_rules.specs.Amounts.{value_fault, body_fault}
use Rattle.model_rules.specs.Bounds.{form_cause, size_cause}

-- the place of the name with which an item begins
abbrev pub name_place : ItemTree → ℕ
name_place (ConstTree n body) = n.at
name_place (StatesTree n members) = n.at
name_place (FieldTree n states initial) = n.at
name_place (LetTree n parameters body) = n.at
name_place (NextTree n body) = n.at

-- the rule of an item, where this is known: a field with the number that its expression is, a next value with its expression with
-- all lets put in; the other items have none
abbrev pub rule_for : Frame → ItemTree → Option RuleTree
rule_for frame (ConstTree n body) = None
rule_for frame (StatesTree n members) = None
rule_for frame (FieldTree n states initial) = Some (FieldRule n.name (amount_in (term_for frame initial)))
rule_for frame (LetTree n parameters body) = None
rule_for frame (NextTree n body) = Some (NextRule n.name (lowered (term_for frame body)))

-- an initial value is none of the states that its field has in a model
abbrev pub state_cause : List ItemTree → Option NameAt → ℕ → Option Cause
state_cause model states v = if is_state model states v then None else Some cause.NoState

-- The first fault of the expression of a field, at the place of its name: one of a constant, or else that the number is none of its
-- states.
abbrev pub field_fault : List ItemTree → Frame → List (List ℕ) → Option NameAt → Tree → ℕ → Option ExpandFault
field_fault model frame later states initial at =
    option_or (value_fault frame later initial at) (told_at at (state_cause model states (amount_in (term_for frame initial))))

-- The first fault of the expression of a next value, at the place of its name: one of the expression or its depth, or else that a
-- program with these fields may not have it.
abbrev pub next_fault : Frame → List (List ℕ) → Tree → ℕ → Option ExpandFault
next_fault frame later body at =
    option_or (body_fault frame later body at) (told_at at (form_cause frame.fields (lowered (term_for frame body))))

-- the first fault of the rule of an item of a model, if it has one
abbrev pub rule_fault : List ItemTree → Frame → List (List ℕ) → ItemTree → Option ExpandFault
rule_fault model frame later (ConstTree n body) = None
rule_fault model frame later (StatesTree n members) = None
rule_fault model frame later (FieldTree n states initial) = field_fault model frame later states initial n.at
rule_fault model frame later (LetTree n parameters body) = None
rule_fault model frame later (NextTree n body) = next_fault frame later body n.at

-- the rules of these items, in order
abbrev pub rules_made : Frame → List ItemTree → List RuleTree
rules_made frame items = filter_map (rule_for frame) items

-- The first fault of an item after these others: one of its rule, or else, at the place of its name, that the rules up to its own have
-- too many aggregates or bytes.
abbrev pub item_fault : List ItemTree → Frame → List (List ℕ) → List ItemTree → ItemTree → Option ExpandFault
item_fault model frame later before item =
    option_or (rule_fault model frame later item) (told_at (name_place item) (size_cause (rules_made frame (before ++ item ∷ []))))

-- the first fault of the items after these others: that of the first item that has one
abbrev pub items_fault : List ItemTree → Frame → List (List ℕ) → List ItemTree → List ItemTree → Option ExpandFault
items_fault model frame later before [] = None
items_fault model frame later before (item ∷ items) =
    option_or (item_fault model frame later before item) (items_fault model frame later (before ++ item ∷ []) items)
