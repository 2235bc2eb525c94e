-- The program of the run of some texts.
use Rattle.std.proofs.Common.{◌≡◌, List, ℕ, Option, Some, None, IfSome, ap, length, subst, sym, ◌∙◌}
use Rattle.std.specs.Prelude.{Ok}
use Rattle.rule_lang.specs.Tree.{ItemTree}
use Rattle.rule_lang.specs.Program.{HasProgram}
use Rattle.rule_lang.proofs.Once.{one_program}
use Rattle.rule_check.specs.Items.{rules_of}
use Rattle.rule_check.specs.Value.{Rules, names_of}
use Rattle.link_net.specs.Reading.{Description}
use Rattle.rounds_plan.specs.declared.fault.PlanFault.{PlanFault}
use Rattle.rounds_plan.specs.Plans.{PlanView, openings_of, plan_by, set_fault}
use Rattle.app_jobs.specs.Served.{HasResumed, IsResumedAs}
use Rattle.app_why.specs.Notes.{IsRunOf}

-- a plan has the program of which it is made
made_of : (rules : Rules) (d : Description) (fault : Option PlanFault) (p : PlanView) → plan_by rules d fault ≡ Ok p → p.program ≡ rules
made_of rules d None p is =
    let same : record { program = rules; network = d.network; phase = d.phase; opening = openings_of rules (length d.network) d.sets; start = 0 } ≡ p = cc in
    sym (ap (λ (q : PlanView). q.program) same)
made_of rules d (Some fault) p is = cc

-- a plan that goes on has the program of the other
goes_on_by : (base q : PlanView) (from : Option (List ℕ)) → IsResumedAs base from q → q.program ≡ base.program
goes_on_by base q None is = ap (λ (p : PlanView). p.program) is
goes_on_by base q (Some text) (c, report, early, is) = ap (λ (p : PlanView). p.program) is

-- the program of a plan of some texts is that of the program's text
program_is : (program network : List ℕ) (from : Option (List ℕ)) (q : PlanView) (items : List ItemTree) → HasResumed program network from q → HasProgram program items → q.program ≡ rules_of items
program_is program network from q items has reads =
    let plan = has.plan in
    goes_on_by has.base q from has.resumed
    ∙ made_of (rules_of plan.items) plan.description (set_fault (names_of (rules_of plan.items)) (length plan.description.network) plan.description.sets) has.base plan.plan
    ∙ ap rules_of (one_program program plan.items items plan.accepted.has.reads reads)

-- and so of the run of some texts, where there is one
pub run_of : (program : List ℕ) (network report : Option (List ℕ)) (run : Option PlanView) (items : List ItemTree) → IsRunOf program network report run → HasProgram program items → IfSome run (λ p. p.program ≡ rules_of items)
run_of program None report run items is reads = subst (λ (r : Option PlanView). IfSome r (λ p. p.program ≡ rules_of items)) (sym is) tt
run_of program (Some network) report run items (p, has, is) reads =
    subst (λ (r : Option PlanView). IfSome r (λ p. p.program ≡ rules_of items)) (sym is) (program_is program network report p items has reads)
