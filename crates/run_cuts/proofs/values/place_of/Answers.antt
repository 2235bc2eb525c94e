use Rattle.std.proofs.Common.{◌∙◌, sym}
use Rattle.std.proofs.lemmas.List.{length-map}
use Rattle.rule_check.specs.Value.{names_of}
use Rattle.run_cuts.proofs.Named.{place_none}
use Rattle.run_cuts.proofs.values.place_of.Goals as goal

pub returns-in-None : goal.returns-in-None
returns-in-None c =
    let p = c.args.program.now in
    record {
      exact =
          c.field_count.ensures.count
          ∙ sym (length-map p.fields (λ f. f.name))
          ∙ sym (place_none (names_of p) c.args.name.now c.field_index.result c.in-None.is c.field_index.ensures.index);
    }
