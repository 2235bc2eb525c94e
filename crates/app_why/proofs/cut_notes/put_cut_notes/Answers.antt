use Rattle.std.proofs.Common.{◌∙◌, ap}
use Rattle.std.proofs.lemmas.Result.{IfOk-weaker}
use Rattle.rule_lang.specs.View.{items_of}
use Rattle.rule_cuts.specs.Cuttable.{noted_places}
use Rattle.app_why.proofs.cut_notes.put_cut_notes.Goals as goal

pub returns : goal.returns
returns c = record {
  noted =
      IfOk-weaker c.places_of.result _ _ (λ v is short program run bound. record {
        items = items_of c.args.items.now;
        reads = program;
        limits = c.args.limits.now;
        bound = bound;
        noted = c.in_ok-noted.noted.items;
        cuttable = c.in_ok-noted.ensures.noted short program;
        are = is ∙ ap noted_places c.deref-2.ensures.value;
      }) c.places_of.ensures.exact;
}
