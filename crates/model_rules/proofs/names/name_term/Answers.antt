use Rattle.std.proofs.Common.{◌≡◌, ℕ, ◌+◌, ◌∙◌, sym, ap, List, subst, [], false, rules}
use Rattle.std.specs.Prelude.{map, string_bytes, Option, Some, None, ◌||◌, IfErr, IfOk, OnOk}
use Rattle.rule_check.specs.WellFormed.{is_among}
use Rattle.model_rules.specs.declared.fault.Cause.{Cause}
use Rattle.model_rules.specs.declared.scope.Known.{Known}
use Rattle.model_rules.specs.Terms.{TermTree, filled}
use Rattle.model_rules.specs.TermView.{term_of}
use Rattle.model_rules.specs.TermFor.{let_term, named_term}
use Rattle.model_rules.specs.Frames.{KnownTree}
use Rattle.model_rules.specs.ScopeView.{frame_of, known_of, knowns_of, later_of}
use Rattle.model_rules.specs.Refusals.{parts_left, let_for, put_cause, apply_cause, name_cause}
use Rattle.model_rules.specs.FirstFaults.{IsFirst, told_at}
use Rattle.model_rules.specs.Parts.{filled_parts, unless_wrong, let_parts, name_parts, bounded}
use Rattle.model_rules.proofs.Refused.{name_let, parts_let, term_let}
use Rattle.model_rules.proofs.names.name_term.Goals as goal

pub returns-in-Some-let_of : goal.returns-in-Some-let_of
returns-in-Some-let_of c =
    let scope = c.args.scope.now in
    let name = c.args.name.now in
    let known = known_of c.in-Some-let_of.known.now in
    let parameters : is_among (map string_bytes c.args.scope.now.parameters.items) c.args.name.now ≡ false = search rules in
    let fields : is_among (map string_bytes c.args.scope.now.fields.items) c.args.name.now ≡ false = search rules in
    let found : let_for (knowns_of scope.lets.items) name ≡ Some known = subst (λ (ls : List Known). let_for (knowns_of ls) name ≡ Some known) c.deref-3.ensures.value c.in-Some-let_of.ensures.found in
    let same : name_cause (frame_of scope) (later_of scope) name c.args.inside ≡ put_cause known 0 (c.args.inside || false) =
    name_let (frame_of scope) (later_of scope) name c.args.inside parameters fields ∙ ap (λ (o : Option KnownTree). apply_cause o (later_of scope) name 0 (c.args.inside || false)) found in
    let much : name_parts (frame_of scope) name ≡ filled_parts [] known.term =
    parts_let (frame_of scope) name parameters fields ∙ ap (λ (o : Option KnownTree). let_parts o []) found in
    let term : named_term (frame_of scope) name ≡ filled [] known.term =
    term_let (frame_of scope) name parameters fields ∙ ap (λ (o : Option KnownTree). let_term o []) found in
    record {
      exact = subst (λ (x : TermTree). IfOk c.put_in.result (λ t. term_of t ≡ x)) (sym term) c.put_in.ensures.exact;
      item = c.put_in.ensures.item;
      at_once = λ cause h. c.put_in.ensures.at_once cause (sym same ∙ h);
      faultless = subst (λ (o : Option Cause). OnOk c.put_in.result (o ≡ None)) (sym same) c.put_in.ensures.faultless;
      taken =
          subst (λ (n : ℕ). OnOk c.put_in.result (parts_left c.put_in.new.room + unless_wrong (name_cause (frame_of scope) (later_of scope) name c.args.inside) n ≡ parts_left c.args.room.now)) (sym much)
          (subst (λ (o : Option Cause). OnOk c.put_in.result (parts_left c.put_in.new.room + unless_wrong o (filled_parts [] known.term) ≡ parts_left c.args.room.now)) (sym same) c.put_in.ensures.taken);
      refused =
          subst (λ (n : ℕ). IfErr c.put_in.result (IsFirst (bounded c.args.room.now (unless_wrong (name_cause (frame_of scope) (later_of scope) name c.args.inside) n) (told_at c.args.at (name_cause (frame_of scope) (later_of scope) name c.args.inside))))) (sym much)
          (subst (λ (o : Option Cause). IfErr c.put_in.result (IsFirst (bounded c.args.room.now (unless_wrong o (filled_parts [] known.term)) (told_at c.args.at o)))) (sym same) c.put_in.ensures.refused);
    }
