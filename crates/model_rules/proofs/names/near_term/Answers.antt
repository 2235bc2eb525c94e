use Rattle.std.proofs.Common.{◌≡◌, ℕ, ◌+◌, ◌∙◌, sym, ap, true, List, subst, false, rules}
use Rattle.std.specs.Prelude.{map, string_bytes, Option, Some, None, IfErr, IfOk, OnOk}
use Rattle.rule_check.specs.WellFormed.{is_among}
use Rattle.model_rules.specs.declared.fault.Cause.{Cause}
use Rattle.model_rules.specs.declared.scope.Known.{Known}
use Rattle.model_rules.specs.Terms.{TermTree, seen_near}
use Rattle.model_rules.specs.TermView.{term_of}
use Rattle.model_rules.specs.TermFor.{near_let_term, near_named_term}
use Rattle.model_rules.specs.Frames.{KnownTree}
use Rattle.model_rules.specs.ScopeView.{frame_of, known_of, knowns_of, later_of}
use Rattle.model_rules.specs.Refusals.{parts_left, let_for, seen_cause, near_let_cause, near_cause}
use Rattle.model_rules.specs.FirstFaults.{IsFirst, told_at}
use Rattle.model_rules.specs.Parts.{size, unless_wrong, seen_parts, near_parts, bounded}
use Rattle.model_rules.proofs.Refused.{near_let, parts_near_let, near_term_let}
use Rattle.model_rules.proofs.names.near_term.Goals as goal

pub returns-in-Some-let_of : goal.returns-in-Some-let_of
returns-in-Some-let_of c =
    let scope = c.args.scope.now in
    let name = c.args.name.now in
    let known = known_of c.in-Some-let_of.known.now in
    let fields : is_among (map string_bytes c.args.scope.now.fields.items) c.args.name.now ≡ false = search rules in
    let within : c.args.inside ≡ true = search rules in
    let found : let_for (knowns_of scope.lets.items) name ≡ Some known = subst (λ (ls : List Known). let_for (knowns_of ls) name ≡ Some known) c.deref-2.ensures.value c.in-Some-let_of.ensures.found in
    let same : near_cause (frame_of scope) (later_of scope) name c.args.inside ≡ seen_cause known =
    near_let (frame_of scope) (later_of scope) name c.args.inside within fields ∙ ap (λ (o : Option KnownTree). near_let_cause o (later_of scope) name) found in
    let much : near_parts (frame_of scope) name ≡ size (seen_near known.term) =
    parts_near_let (frame_of scope) name fields ∙ ap (λ (o : Option KnownTree). seen_parts o) found in
    let term : near_named_term (frame_of scope) name ≡ seen_near known.term =
    near_term_let (frame_of scope) name fields ∙ ap (λ (o : Option KnownTree). near_let_term o) found in
    record {
      exact = subst (λ (x : TermTree). IfOk c.seen_let.result (λ t. term_of t ≡ x)) (sym term) c.seen_let.ensures.exact;
      item = c.seen_let.ensures.item;
      at_once = λ cause h. c.seen_let.ensures.at_once cause (sym same ∙ h);
      faultless = subst (λ (o : Option Cause). OnOk c.seen_let.result (o ≡ None)) (sym same) c.seen_let.ensures.faultless;
      taken =
          subst (λ (n : ℕ). OnOk c.seen_let.result (parts_left c.seen_let.new.room + unless_wrong (near_cause (frame_of scope) (later_of scope) name c.args.inside) n ≡ parts_left c.args.room.now)) (sym much)
          (subst (λ (o : Option Cause). OnOk c.seen_let.result (parts_left c.seen_let.new.room + unless_wrong o (size (seen_near known.term)) ≡ parts_left c.args.room.now)) (sym same) c.seen_let.ensures.taken);
      refused =
          subst (λ (n : ℕ). IfErr c.seen_let.result (IsFirst (bounded c.args.room.now (unless_wrong (near_cause (frame_of scope) (later_of scope) name c.args.inside) n) (told_at c.args.at (near_cause (frame_of scope) (later_of scope) name c.args.inside))))) (sym much)
          (subst (λ (o : Option Cause). IfErr c.seen_let.result (IsFirst (bounded c.args.room.now (unless_wrong o (size (seen_near known.term))) (told_at c.args.at o)))) (sym same) c.seen_let.ensures.refused);
    }
