-- Rules with how much they are.
use Rattle.std.specs.Prelude.{◌≡◌, length}
use Rattle.rule_lang.specs.View.{items_of}
use Rattle.rule_lang.specs.Canonical.{program_text}
use Rattle.rule_check.specs.Items.{nexts_of}
use Rattle.rule_check.specs.WellFormed.{all_parts}
use Rattle.model_rules.specs.declared.expansion.Expansion.{Expansion}
use Rattle.model_rules.specs.Bounds.{IsWithin}

-- the rules are within the bounds, and their aggregates and bytes are counted
pub record IsCounted (e : Expansion) : Type 0 where
  pub aggregates : e.aggregates ≡ length (all_parts (nexts_of (items_of e.rules.items)))
  pub bytes : e.bytes ≡ length (program_text (items_of e.rules.items))
  pub within : IsWithin (items_of e.rules.items)
