use Rattle.std.proofs.Common.{sym}
use Rattle.std.specs.List.{list_any}
use Rattle.rule_lang.specs.View.{items_of}
use Rattle.rule_check.specs.declared.fault.CheckFault.TheVariants.{NeighbourOutside}
use Rattle.rule_check.specs.WellFormed.{looks_outside}
use Rattle.rule_check.specs.Items.{nexts_of}
use Rattle.rule_check.specs.Causes.{first_next}
use Rattle.rule_check.proofs.Searches.{any_next}
use Rattle.rule_check.proofs.Agreed.{holds, fails}
use Rattle.rule_check.proofs.diagnosis.outside.Goals as goal

pub returns-in-Some : goal.returns-in-Some
returns-in-Some c =
    let items = items_of c.args.items.now in
    record {
      agrees = holds (list_any (λ n. looks_outside n.body) (nexts_of items)) NeighbourOutside (first_next (λ n. looks_outside n.body) items) c.in-Some.item (any_next (λ n. looks_outside n.body) 0 items) (sym c.in-Some.ensures.exact);
      named = sym c.in-Some.ensures.exact;
    }

pub returns-in-None : goal.returns-in-None
returns-in-None c =
    let items = items_of c.args.items.now in
    record {
      agrees = fails (list_any (λ n. looks_outside n.body) (nexts_of items)) NeighbourOutside (first_next (λ n. looks_outside n.body) items) (any_next (λ n. looks_outside n.body) 0 items) (sym c.in-None.ensures.exact);
      named = tt;
    }
