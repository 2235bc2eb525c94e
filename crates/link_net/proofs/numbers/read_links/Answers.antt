use Rattle.std.proofs.Common.{◌≡◌, ◌+◌, ◌∙◌, pos, Some, option_map, map, drop, get_or, refl, sym}
use Rattle.std.proofs.lemmas.Result.{err_from_is_err_and}
use Rattle.std.proofs.lemmas.List.{drop_more}
use Rattle.link_net.specs.Reading.{placed, all_placed}
use Rattle.link_net.specs.Tables.{settled}
use Rattle.link_net.proofs.LinkSteps.{all_placed-step, all_placed-stop, all_placed-end, ends_below, AllWithin-push}
use Rattle.link_net.proofs.Steps.{none_from_ok_or}
use Rattle.link_net.proofs.numbers.read_links.Goals as goal

pub loop-item-preserved : goal.loop-item-preserved
loop-item-preserved c =
    let i = c.loop-item.item-index in
    let xs = c.args.draft.now in
    let x = get_or xs i (pos 0, pos 0, pos 0) in
    let is_link : option_map settled (placed c.args.last x) ≡ Some c.in_ok-link.link = sym c.read_link.ensures ∙ c.in_ok-link.ensures.ok_part in
    let before = rw (drop_more xs i (pos 0, pos 0, pos 0) c.loop-item-test.true) at c.loop-item.invariant.0 in
    let after = all_placed-step (option_map (map settled) (all_placed c.args.last xs)) c.loop-item.links.items c.args.last x (drop (i + 1) xs) c.in_ok-link.link is_link before in
    (rw c.in_ok-push.ensures.items after, rw c.in_ok-push.ensures.items (AllWithin-push (c.args.last + 1) c.loop-item.links.items c.in_ok-link.link c.loop-item.invariant.1 (ends_below c.args.last x c.in_ok-link.link is_link)))

pub returns-in_err-link-clause-answer : goal.returns-in_err-link-clause-answer
returns-in_err-link-clause-answer c =
    let i = c.loop-item.item-index in
    let xs = c.args.draft.now in
    let x = get_or xs i (pos 0, pos 0, pos 0) in
    let p = err_from_is_err_and c.from_residual-in_err-link.result c.from_residual-in_err-link.ensures.1 in
    let none = none_from_ok_or c.read_link.result _ c.in_err-link.field-0.0 c.in_err-link.ensures.value in
    let before = rw (drop_more xs i (pos 0, pos 0, pos 0) c.loop-item-test.true) at c.loop-item.invariant.0 in
    let stop = all_placed-stop (option_map (map settled) (all_placed c.args.last xs)) c.loop-item.links.items c.args.last x (drop (i + 1) xs) (sym c.read_link.ensures ∙ none.0) before in
    rw (p.1, p.2, none.1) (λ other. rw stop refl)

pub returns-clause-answer : goal.returns-clause-answer
returns-clause-answer c =
    let xs = c.args.draft.now in
    rw (all_placed-end (option_map (map settled) (all_placed c.args.last xs)) c.loop-item.links.items c.args.last c.loop-item.item-index xs c.loop-item-test.false c.loop-item.invariant.0) refl
