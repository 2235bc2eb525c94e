-- Internal: what the searches for causes give. No public clause cites it.
use Rattle.std.specs.Prelude.{ℕ, List, Option, None, if◌then◌else◌}
use Rattle.rule_lang.specs.Tree.{ItemTree, FieldTree, NextTree}
use Rattle.rule_check.specs.declared.well_formed.ItemKind.{ItemKind}
use Rattle.rule_check.specs.declared.well_formed.ItemKind.TheVariants as kind
use Rattle.rule_check.specs.WellFormed.{is_among}
use Rattle.rule_check.specs.Causes.{declared_name, assigned_name, first_foreign}

-- the name of an item of this kind
abbrev pub naming_of : ItemKind → ItemTree → Option (List ℕ)
naming_of kind.Field item = declared_name item
naming_of kind.Next item = assigned_name item

-- the first name in a next item's expression that is none of these, where its own is one
abbrev pub foreign_of : List (List ℕ) → ItemTree → Option (List ℕ)
foreign_of names (FieldTree name value) = None
foreign_of names (NextTree name body) = if is_among names name then first_foreign names body else None
