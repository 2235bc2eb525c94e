use Rattle.std.proofs.Common.{◌≡◌, ◌∙◌, false, length, nat_lt, is_some, sym, ap, rules}
use Rattle.link_net.specs.Limits.{most_links}
use Rattle.link_net.specs.Links.{is_self_link}
use Rattle.link_net.proofs.DraftRefusals.{self_refusal, twice_refusal, many_refusal}
use Rattle.link_net.proofs.Places.{none_from_place}
use Rattle.link_net.proofs.Refusals.{crowded_refusal}
use Rattle.link_net.proofs.link_causes.link_cause.Goals as goal

pub returns-in-Some-clause-agrees : goal.returns-in-Some-clause-agrees
returns-in-Some-clause-agrees c = self_refusal c.args.nodes c.args.links.now c.in-Some.link (sym c.in-Some.ensures)

pub returns-in-Some-2-clause-agrees : goal.returns-in-Some-2-clause-agrees
returns-in-Some-2-clause-agrees c =
    let straight = none_from_place is_self_link c.args.links.now (sym c.in_default.ensures) in
    twice_refusal c.args.nodes c.args.links.now straight (sym c.in_ok-pair.ensures.some ∙ ap is_some c.in-Some-2.is)

pub returns-then-count-gt-MOST_LINKS-clause-agrees : goal.returns-then-count-gt-MOST_LINKS-clause-agrees
returns-then-count-gt-MOST_LINKS-clause-agrees c =
    let straight = none_from_place is_self_link c.args.links.now (sym c.in_default.ensures) in
    many_refusal c.args.nodes c.args.links.now straight (sym c.in_ok-pair.ensures.some ∙ ap is_some c.in_default-2.is) c.if-count-gt-MOST_LINKS.true

pub crowded_node-requires-clause-straight : goal.crowded_node-requires-clause-straight
crowded_node-requires-clause-straight c = none_from_place is_self_link c.args.links.now (sym c.in_default.ensures)

pub returns-clause-agrees : goal.returns-clause-agrees
returns-clause-agrees c =
    let straight = none_from_place is_self_link c.args.links.now (sym c.in_default.ensures) in
    let few : nat_lt most_links (length c.args.links.now) ≡ false = search rules in
    c.in_ok-cause.ensures.agrees ∙ sym (crowded_refusal c.args.nodes c.args.links.now straight (sym c.in_ok-pair.ensures.some ∙ ap is_some c.in_default-2.is) few)
