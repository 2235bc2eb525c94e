-- The program that a list of items says.
use Rattle.std.specs.Prelude.{List, [], ◌∷◌}
use Rattle.rule_lang.specs.Tree.{ItemTree, FieldTree, NextTree}
use Rattle.rule_check.specs.declared.parts.Field.{Field}
use Rattle.rule_check.specs.Value.{Rules, Next}

-- the field items
abbrev pub fields_of : List ItemTree → List Field
fields_of [] = []
fields_of (FieldTree name value ∷ items) = record { name = name; opening = value } ∷ fields_of items
fields_of (NextTree name body ∷ items) = fields_of items

-- the next items
abbrev pub nexts_of : List ItemTree → List Next
nexts_of [] = []
nexts_of (FieldTree name value ∷ items) = nexts_of items
nexts_of (NextTree name body ∷ items) = record { name = name; body = body } ∷ nexts_of items

-- the program of a text's items
abbrev pub rules_of : List ItemTree → Rules
rules_of items = record { fields = fields_of items; nexts = nexts_of items }
