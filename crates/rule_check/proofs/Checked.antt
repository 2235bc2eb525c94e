-- A program that passes the tests is well formed.
use Rattle.std.proofs.Common.{◌≡◌, ◌≤◌, List, [], ◌∷◌, length, flat_map, ◌∙◌, None}
use Rattle.std.specs.Prelude.{false}
use Rattle.std.specs.List.{list_any, AllByRecursion}
use Rattle.std.proofs.lemmas.List.Elements.{All-from_recursion}
use Rattle.std.proofs.lemmas.Bool.{le-ltb}
use Rattle.rule_lang.specs.Tokens.{IsTok}
use Rattle.rule_lang.specs.Tree.{ItemTree, FieldTree, NextTree, IsItem, depth, spell_item}
use Rattle.rule_lang.specs.Program.{IsProgram}
use Rattle.rule_check.specs.Value.{Rules, names_of}
use Rattle.rule_check.specs.WellFormed.{first_fault, has_twice, next_names, is_unknown, looks_outside, nests, all_parts}
use Rattle.rule_check.specs.WellFormed.{IsWellFormed, IsFieldName}
use Rattle.rule_check.specs.Items.{rules_of, fields_of, nexts_of}
use Rattle.rule_check.proofs.Booleans.{away}
use Rattle.rule_check.proofs.Lists.{all_behind}

shallow_nexts : (items : List ItemTree) → AllByRecursion IsItem items → AllByRecursion (λ n. depth n.body ≤ 64) (nexts_of items)
shallow_nexts [] h = tt
shallow_nexts (FieldTree name value ∷ items) h = shallow_nexts items h.1
shallow_nexts (NextTree name body ∷ items) h = (h.0.2, shallow_nexts items h.1)

-- the name of a field item is a word that is not reserved
word_names : (items : List ItemTree) → AllByRecursion IsItem items → AllByRecursion IsTok (flat_map spell_item items) → AllByRecursion IsFieldName (names_of (rules_of items))
word_names [] each toks = tt
word_names (FieldTree name value ∷ items) each toks = ((toks.1.0, each.0), word_names items each.1 toks.1.1.1.1.1)
word_names (NextTree name body ∷ items) each toks = word_names items each.1 (all_behind IsTok (spell_item (NextTree name body)) (flat_map spell_item items) toks)

-- the tests that `check` makes
pub record Passes (items : List ItemTree) : Type 0 where
  pub few_fields : length (fields_of items) ≤ 8
  pub fields_differ : has_twice (names_of (rules_of items)) ≡ false
  pub nexts_differ : has_twice (next_names (rules_of items)) ≡ false
  pub known : list_any (is_unknown (names_of (rules_of items))) (nexts_of items) ≡ false
  pub inside : list_any (λ n. looks_outside n.body) (nexts_of items) ≡ false
  pub flat : list_any (λ n. nests n.body) (nexts_of items) ≡ false
  pub few_aggregates : length (all_parts (nexts_of items)) ≤ 16

pub well_formed : (items : List ItemTree) → IsProgram items → Passes items → IsWellFormed (rules_of items)
well_formed items whole p = record {
  few_fields = p.few_fields;
  fields_differ = p.fields_differ;
  nexts_differ = p.nexts_differ;
  known = p.known;
  inside = p.inside;
  flat = p.flat;
  few_aggregates = p.few_aggregates;
  shallow = All-from_recursion _ (nexts_of items) (shallow_nexts items whole.0);
  names = All-from_recursion _ (names_of (rules_of items)) (word_names items whole.0 whole.1);
}

-- a well-formed program has no fault
pub no_fault : (rules : Rules) → IsWellFormed rules → first_fault rules ≡ None
no_fault rules well =
    away _ _ _ (le-ltb 8 (length rules.fields) well.few_fields)
    ∙ away _ _ _ well.fields_differ
    ∙ away _ _ _ well.nexts_differ
    ∙ away _ _ _ well.known
    ∙ away _ _ _ well.inside
    ∙ away _ _ _ well.flat
    ∙ away _ _ _ (le-ltb 16 (length (all_parts rules.nexts)) well.few_aggregates)
