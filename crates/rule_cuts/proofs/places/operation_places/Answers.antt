use Rattle.std.proofs.Common.{◌∙◌, ap, subst}
use Rattle.std.specs.Prelude.{IfSome}
use Rattle.std.proofs.lemmas.Result.{IfOk-weaker}
use Rattle.rule_lang.specs.View.{StandIn}
use Rattle.rule_cuts.specs.Places.{places_in as places_in_lem}
use Rattle.rule_cuts.proofs.Placed.{are_places}
use Rattle.rule_cuts.proofs.places.operation_places.Goals as goal

pub returns-in-Some-clause-listed : goal.returns-in-Some-clause-listed
returns-in-Some-clause-listed c =
    let text = c.args.text.now in
    let stand : StandIn text c.in-Some.lexemes.items = subst (λ found. IfSome found (λ v. StandIn text v.items)) c.in-Some.is c.in_ok-found.ensures.stand in
    IfOk-weaker c.places_in.result _ _ (λ v is tokens short words. are_places text v.items c.in-Some.lexemes.items stand (is ∙ ap places_in_lem c.deref.ensures.value)) c.places_in.ensures.places
