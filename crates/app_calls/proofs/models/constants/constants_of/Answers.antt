use Rattle.std.proofs.Common.{◌≡◌, ◌∙◌, ◌+◌, ◌<◌, ◌++◌, ◌∷◌, [], List, length, get_or, refl, sym, ap, subst, arith, rules}
use Rattle.std.specs.Prelude.{string_bytes}
use Rattle.std.proofs.lemmas.List.{map_push}
use Rattle.report_text.specs.Lines.{lines_of}
use Rattle.model_rules.specs.Models.{GivenTree}
use Rattle.model_rules.specs.ScopeView.{givens_of}
use Rattle.model_rules.specs.declared.scope.Given.{Given}
use Rattle.app_calls.specs.Constants.{line_feeds, name_line}
use Rattle.app_calls.proofs.NameLines.{AreSetTo, set_all, set_next}
use Rattle.app_calls.proofs.models.constants.constants_of.Goals as goal

tree_of : Given → GivenTree
tree_of g = record { name = string_bytes g.name; value = g.value }

one_more : (given : List Given) (g : Given) → givens_of (given ++ g ∷ []) ≡ givens_of given ++ tree_of g ∷ []
unfolding tree_of
one_more given g = map_push _ given g

pub loop-value-preserved : goal.loop-value-preserved
unfolding tree_of
loop-value-preserved c =
    let l = c.loop-value in
    let names = c.args.names.now in
    let values = c.args.values.now in
    let s = l.invariant.set in
    let inside : l.value-index < length values = c.loop-value-test.true in
    let feeds : line_feeds l.rest.now + l.value-index ≡ length values = s.feeds in
    let some : 0 < line_feeds l.rest.now = omega (arith, feeds, inside) in
    let g : Given = record { name = c.in_ok-name.name; value = get_or values l.value-index 0 } in
    let line : lines_of l.rest.now ≡ name_line (tree_of g) ∷ lines_of c.first_name.result.1.now = rw c.in_ok-name.ensures.ok (c.first_name.ensures.line some) in
    let next = set_next names values (givens_of l.constants.items) l.rest.now l.value-index (tree_of g) c.first_name.result.1.now s inside refl line (c.first_name.ensures.feeds some) in
    let put : givens_of c.push.new.self.items ≡ givens_of l.constants.items ++ tree_of g ∷ [] = ap givens_of c.in_ok-push.ensures.items ∙ one_more l.constants.items g in
    record {
      text = search rules;
      set = subst (λ (gs : List GivenTree). AreSetTo names values gs c.first_name.result.1.now (l.value-index + 1)) (sym put) next;
    }

pub returns : goal.returns
returns c =
    let l = c.loop-value in
    record { set = set_all c.args.names.now c.args.values.now (givens_of l.constants.items) l.rest.now l.value-index l.invariant.set (omega (arith, c.loop-value-test.false)) }
