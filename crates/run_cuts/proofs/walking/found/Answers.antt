use Rattle.std.proofs.Common.{◌≡◌, ◌∙◌, List, ap, map}
use Rattle.std.specs.List.{enumerate_from, filter, flat_map}
use Rattle.run_cuts.specs.declared.operators.Operator.{Operator}
use Rattle.run_cuts.specs.declared.tally.Counted.{Counted}
use Rattle.run_cuts.specs.Operators.{operators_of}
use Rattle.run_cuts.specs.Cuts.{cuts_of, is_asked, occasions}
use Rattle.run_cuts.specs.Counting.{after_all, form_of, fresh, told_by}
use Rattle.run_cuts.proofs.Told.{occasions_few, told_all}
use Rattle.run_cuts.proofs.walking.found.Goals as goal

pub returns : goal.returns
returns c =
    let p = c.args.plan.now in
    let T = c.args.rounds in
    let below = c.args.below in
    let operators = c.in_ok-operators.operators.items in
    let asked : List Operator → List Counted = λ ops. map fresh (filter (λ x. is_asked below (form_of x.1.form)) (enumerate_from 0 ops)) in
    let all : c.in_ok-fresh.fresh.items ≡ asked operators = c.in_ok-fresh.ensures.asked ∙ ap asked c.deref.ensures.value in
    record {
      cuts =
          c.in_ok-cuts.ensures.told
          ∙ ap (flat_map told_by) (c.deref-2.ensures.value ∙ c.in_ok-counted.ensures.exact ∙ ap (map (after_all (occasions p T))) all)
          ∙ told_all (occasions p T) below 0 operators (λ op. occasions_few p T op c.nodes-nodes.ensures.whole.network c.requires.few)
          ∙ ap (cuts_of p T below) (c.in_ok-operators.ensures.all ∙ ap operators_of c.items.ensures.same);
    }
