use Rattle.std.proofs.Common.{IfSome, ◌≡◌, ◌∙◌, ap, subst, sym}
use Rattle.std.specs.Prelude.{option_map}
use Rattle.rule_lang.specs.Program.{HasProgram}
use Rattle.rule_lang.specs.View.{items_of}
use Rattle.rule_check.specs.Items.{rules_of}
use Rattle.rule_check.specs.Value.{Rules}
use Rattle.app_why.specs.Given.{report_of}
use Rattle.app_why.specs.Notes.{AreLimits}
use Rattle.app_why.proofs.RunOf.{run_of}
use Rattle.app_why.proofs.notes.notes.Goals as goal

pub returns : goal.returns
returns c =
    let texts = c.args.texts.now in
    let text = texts.program.text.now in
    let run = c.in_ok-plan.plan in
    let limits = c.in_ok-limits.limits in
    let accepted = c.in-Ok.ensures.accepted in
    let reads : HasProgram text (items_of c.items-2.result.now) = subst (HasProgram text) (sym c.items-2.ensures.same) accepted.0.has.reads in
    let rules : c.in-Ok.program ≡ rules_of (items_of c.items-2.result.now) = accepted.1 ∙ ap rules_of (sym c.items-2.ensures.same) in
    let of_run = run_of text (option_map (λ named. named.text.now) texts.network) (report_of texts) run (items_of c.items-2.result.now) c.in_ok-plan.ensures.run reads in
    record {
      noted = (
        run,
        c.in_ok-plan.ensures.run,
        c.in_ok-cuts.ensures.noted accepted.0.has.short reads run
            (subst (λ (r : Rules). AreLimits r run limits) rules (c.in_ok-limits.ensures.limits (subst (λ (r : Rules). IfSome run (λ p. p.program ≡ r)) (sym rules) of_run))),
      );
    }
