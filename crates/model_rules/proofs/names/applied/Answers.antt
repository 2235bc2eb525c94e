use Rattle.std.proofs.Common.{◌≡◌, ◌+◌, ◌∙◌, sym, ap, List, subst}
use Rattle.std.specs.Prelude.{length, Option, Some, None, ◌||◌, IfErr, IfOk, OnOk}
use Rattle.std.specs.List.{list_any}
use Rattle.model_rules.specs.declared.fault.Cause.{Cause}
use Rattle.model_rules.specs.declared.scope.Known.{Known}
use Rattle.model_rules.specs.TermView.{term_of, terms_of}
use Rattle.model_rules.specs.TermFor.{let_term}
use Rattle.model_rules.specs.Terms.{TermTree, looks, filled}
use Rattle.model_rules.specs.Frames.{KnownTree}
use Rattle.model_rules.specs.ScopeView.{known_of, knowns_of, later_of}
use Rattle.model_rules.specs.Refusals.{parts_left, let_for, put_cause, apply_cause}
use Rattle.model_rules.specs.FirstFaults.{IsFirst, told_at}
use Rattle.model_rules.specs.Parts.{unless_wrong, let_parts, bounded}
use Rattle.model_rules.proofs.names.applied.Goals as goal

pub returns-in-Some : goal.returns-in-Some
returns-in-Some c =
    let name = c.args.name.now in
    let lets = knowns_of c.args.scope.now.lets.items in
    let later = later_of c.args.scope.now in
    let count = length c.args.arguments.now in
    let terms = terms_of c.args.arguments.now in
    let within = c.args.inside || list_any looks (terms_of c.args.arguments.now) in
    let known = known_of c.in-Some.known.now in
    let found : let_for lets name ≡ Some known = subst (λ (ls : List Known). let_for (knowns_of ls) name ≡ Some known) c.deref.ensures.value c.in-Some.ensures.found in
    let same : apply_cause (let_for lets name) later name count within ≡ put_cause known count within = ap (λ (o : Option KnownTree). apply_cause o later name count within) found in
    let term : let_term (let_for lets name) terms ≡ filled terms known.term = ap (λ (o : Option KnownTree). let_term o terms) found in
    record {
      exact = subst (λ (x : TermTree). IfOk c.put_in.result (λ t. term_of t ≡ x)) (sym term) c.put_in.ensures.exact;
      item = c.put_in.ensures.item;
      at_once = λ cause h. c.put_in.ensures.at_once cause (sym same ∙ h);
      faultless = subst (λ (o : Option Cause). OnOk c.put_in.result (o ≡ None)) (sym same) c.put_in.ensures.faultless;
      taken = subst (λ (o : Option KnownTree). OnOk c.put_in.result (parts_left c.put_in.new.room + unless_wrong (apply_cause o later name count within) (let_parts o terms) ≡ parts_left c.args.room.now)) (sym found) c.put_in.ensures.taken;
      refused = subst (λ (o : Option KnownTree). IfErr c.put_in.result (IsFirst (bounded c.args.room.now (unless_wrong (apply_cause o later name count within) (let_parts o terms)) (told_at c.args.at (apply_cause o later name count within))))) (sym found) c.put_in.ensures.refused;
    }
