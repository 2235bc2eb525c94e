use Rattle.std.proofs.Common.{◌≡◌, List, ℕ, drop}
use Rattle.rule_check.specs.Value.{Here}
use Rattle.model_text.specs.View.{items_of}
use Rattle.model_rules.specs.Meaning.{Worths}
use Rattle.model_rules.specs.Models.{Setting, told}
use Rattle.model_rules.specs.Definitions.{definition_of}
use Rattle.model_rules.proofs.define.definition.Given as goal

abbrev pub invariant-loop-item : goal.invariant-loop-item
invariant-loop-item l =
    record {
      same : (given : Setting) (worths : Worths) (here : Here) (xs : List ℕ) → told (items_of (drop l.item-index l.items)) given worths here l.name xs ≡ told (items_of l.items) given worths here l.name xs;
      first : definition_of (items_of (drop l.item-index l.items)) l.name ≡ definition_of (items_of l.items) l.name;
    }
