use Rattle.std.proofs.Common.{◌<◌, All, length, subst, sym}
use Rattle.rule_check.specs.Value.{Rules}
use Rattle.run_watch.proofs.Missing.{fields_there}
use Rattle.run_watch.proofs.watching.walk_text.Goals as goal

pub put_opening-requires : goal.put_opening-requires
put_opening-requires g c = record {
  fields =
      subst (λ (r : Rules). All (λ place. place < length r.fields) c.args.show.now.fields.now) (sym c.program.ensures.program)
      (fields_there c.args.plan.now c.args.span.now c.args.show.now c.requires.fits);
}

pub put_rounds-requires-clause-fields : goal.put_rounds-requires-clause-fields
put_rounds-requires-clause-fields g c κs within = fields_there c.args.plan.now c.args.span.now c.args.show.now c.requires.fits
