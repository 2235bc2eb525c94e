use Rattle.std.proofs.Common.{rules, ◌≡◌, None, IfOk, IfErr}
use Rattle.std.specs.Option.{option_map}
use Rattle.rounds_plan.specs.Starts.{IsSimplePlan}
use Rattle.rule_check.specs.WellFormed.{first_fault}
use Rattle.run_steps.specs.verify.Walks.{IsWalked, IsStopped}
use Rattle.run_steps.proofs.verify.Verdicts.{walked-found, stopped-refused, holds-accepted}
use Rattle.run_steps.proofs.verify.verifying.verify.Goals as goal

pub returns-clause-found : goal.returns-clause-found
returns-clause-found c =
    let plan = c.args.plan in
    let names = option_map (λ n. n.now) c.args.names in
    let is : IsSimplePlan plan = search rules in
    let sound : first_fault plan.program ≡ None = search rules in
    let walked : IfOk c.verify_on.result (IsWalked plan names c.args.text.now) = search rules in
    walked-found plan names is sound c.args.text.now c.verify_on.result walked

pub returns-clause-refused : goal.returns-clause-refused
returns-clause-refused c =
    let plan = c.args.plan in
    let names = option_map (λ n. n.now) c.args.names in
    let is : IsSimplePlan plan = search rules in
    let sound : first_fault plan.program ≡ None = search rules in
    let stopped : IfErr c.verify_on.result (IsStopped plan names c.args.text.now) = search rules in
    stopped-refused plan names is sound c.args.text.now c.verify_on.result stopped

pub returns-clause-accepted : goal.returns-clause-accepted
returns-clause-accepted c entries counts holds =
    let plan = c.args.plan in
    let names = option_map (λ n. n.now) c.args.names in
    let is : IsSimplePlan plan = search rules in
    let sound : first_fault plan.program ≡ None = search rules in
    let stopped : IfErr c.verify_on.result (IsStopped plan names c.args.text.now) = search rules in
    holds-accepted plan names is sound c.args.text.now c.verify_on.result entries counts stopped holds
