use Rattle.std.proofs.Common.{◌∙◌, ap}
use Rattle.std.specs.Prelude.{zip}
use Rattle.std.specs.List.{filter}
use Rattle.std.proofs.lemmas.Result.{IfOk-weaker}
use Rattle.rule_lang.specs.View.{items_of}
use Rattle.rule_cuts.specs.Operations.{can_pass}
use Rattle.rule_cuts.proofs.Noted.{are_cuttable}
use Rattle.rule_cuts.proofs.Placed.{one_each}
use Rattle.rule_cuts.proofs.cuttable.cuttable_in.Goals as goal

pub returns : goal.returns
returns c =
    let text = c.args.text.now in
    let items = items_of c.args.items.now in
    let all = c.in_ok-operations.operations.items in
    let at = c.in_ok-places.places.items in
    record {
      noted =
          IfOk-weaker c.cuttable_among.result _ _ (λ v is short program.
          let places = c.in_ok-places.ensures.listed program.tokens short program.words in
          are_cuttable c.args.limits.now text items all at v.items c.in_ok-operations.ensures.all c.in_ok-operations.ensures.ranges places (one_each text at items program places)
          (is ∙ ap (λ os. filter (λ p. can_pass c.args.limits.now p.0) (zip os c.deref-2.result.now)) c.deref.ensures.value ∙ ap (λ ats. filter (λ p. can_pass c.args.limits.now p.0) (zip all ats)) c.deref-2.ensures.value))
          c.cuttable_among.ensures.exact;
    }
