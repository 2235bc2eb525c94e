use Rattle.std.proofs.Common.{◌∙◌, List, ap, subst, sym}
use Rattle.std.proofs.lemmas.Result.{IfOk-weaker}
use Rattle.rule_lang.specs.Tree.{ItemTree}
use Rattle.rule_lang.specs.Program.{HasProgram}
use Rattle.rule_lang.specs.View.{items_of}
use Rattle.rule_lang.proofs.Once.{one_program}
use Rattle.rule_cuts.specs.Cuttable.{AreCuttable, noted_places}
use Rattle.app_why.proofs.cut_notes.cut_note.Goals as goal

pub returns : goal.returns
returns c =
    let text = c.args.program.text.now in
    let found = c.in-Ok.ensures.read in
    let reads : HasProgram text (items_of c.items.result.now) = subst (HasProgram text) (sym c.items.ensures.same) found.1 in
    record {
      none =
          IfOk-weaker c.line_where.result _ _ (λ note none is items program of_plan. record {
            items = items;
            reads = program;
            limits = c.in_ok-limits.limits;
            bound = (of_plan, c.in_ok-limits.ensures.limits);
            noted = c.in_ok-noted.noted.items;
            cuttable = subst (λ (trees : List ItemTree). AreCuttable c.in_ok-limits.limits text trees c.in_ok-noted.noted.items) (one_program text (items_of c.items.result.now) items reads program)
                (c.in_ok-noted.ensures.noted found.0 reads);
            are = ap noted_places (sym (sym c.deref.ensures.value ∙ none is));
          }) c.line_where.ensures.none;
    }
