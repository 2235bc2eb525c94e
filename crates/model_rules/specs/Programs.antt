-- The program that a model is expanded to.
use Rattle.std.specs.Prelude.{List, []}
use Rattle.rule_lang.specs.Tree.{ItemTree as RuleTree}
use Rattle.model_text.specs.Tree.{ItemTree}
use Rattle.model_rules.specs.Models.{GivenTree}
use Rattle.model_rules.specs.Definitions.{frame_in, settled, seed_first}
use Rattle.model_rules.specs.Faults.{rules_made}

-- The program of a model of which the caller sets these constants: for each field and each next value its rule, in the model's order,
-- where all constants, states and lets are known.
abbrev pub program_made : List ItemTree → List GivenTree → List RuleTree
program_made items values = rules_made (frame_in items (settled items values (seed_first items values)) []) items
