-- The first faults of the expressions of items, found the way that the expander goes; as relations they are told in Faulty.
use Rattle.std.specs.Prelude.{ℕ, nat_lt, false, List, Option, Some, None, if◌then◌else◌}
use Rattle.std.specs.Option.{option_or}
use Rattle.rule_lang.specs.Tree.{depth}
use Rattle.model_text.specs.Tree.{Tree}
use Rattle.model_rules.specs.declared.fault.Cause.{Cause}
use Rattle.model_rules.specs.declared.fault.Cause.TheVariants as cause
use Rattle.model_rules.specs.declared.fault.ExpandFault.{ExpandFault}
use Rattle.model_rules.specs.Terms.{TermTree, lowered}
use Rattle.model_rules.specs.Frames.{Frame}
use Rattle.model_rules.specs.TermFor.{term_for}
use Rattle.model_rules.specs.Constants.{amount_cause}
use Rattle.model_rules.specs.FirstFaults.{told_at, fault_in}
use Rattle.model_rules.specs.Parts.{parts_in, bounded_fault}

-- the expression that a term is has a depth of more than 64
abbrev pub depth_cause : TermTree → Option Cause
depth_cause t = if nat_lt 64 (depth (lowered t)) then Some cause.TooDeep else None

-- The first fault of an expression outside of aggregates, of the item at a place: that more than 65,536 parts are made up to the first
-- fault that it has by itself, or else that one.
abbrev pub expression_fault : Frame → List (List ℕ) → Tree → ℕ → Option ExpandFault
expression_fault frame later tree at = bounded_fault 65536 (parts_in frame later false tree) at (fault_in frame later false tree)

-- The first fault of an expression that has to be a constant, of the item at a place: one of the expression, or else that it is no
-- constant.
abbrev pub value_fault : Frame → List (List ℕ) → Tree → ℕ → Option ExpandFault
value_fault frame later tree at = option_or (expression_fault frame later tree at) (told_at at (amount_cause (term_for frame tree)))

-- The first fault of the expression of a let or of a next value, of the item at a place: one of the expression, or else that it is
-- deeper than 64 with all lets put in.
abbrev pub body_fault : Frame → List (List ℕ) → Tree → ℕ → Option ExpandFault
body_fault frame later tree at = option_or (expression_fault frame later tree at) (told_at at (depth_cause (term_for frame tree)))
