use Rattle.std.specs.Prelude.{min, sum}
use Rattle.std.proofs.Common.{◌≡◌, arith, ap, sym, subst}
use Rattle.rule_lang.specs.declared.tree.Agg.{Agg}
use Rattle.rule_check.specs.Table.{M, gather}
use Rattle.rule_ranges.specs.declared.range.Range.{Range}
use Rattle.rule_ranges.specs.Ranges.{IsWithin}
use Rattle.rule_ranges.proofs.Gathered.{least_within, most_within, total_within}
use Rattle.rule_ranges.proofs.aggregates.gathered_range.Goals as goal

pub returns-in-Total : goal.returns-in-Total
returns-in-Total c = record {
  within = λ values few each.
      subst (λ (agg : Agg). IsWithin c.at_most_number.result (gather agg values)) (sym c.in-Total.is)
      (c.at_most_number.ensures.within (min (sum values) M) (omega (arith, c.saturating_mul.ensures, total_within c.args.range c.args.degree values few each)));
}

pub returns-in-Least : goal.returns-in-Least
returns-in-Least c = record {
  within = λ values few each.
      subst (λ (agg : Agg). IsWithin record { least = c.args.range.least; most = M } (gather agg values)) (sym c.in-Least.is)
      record { from = least_within c.args.range values (omega arith) each; to = λ ends. absurd (omega (arith, ends)) };
}

pub returns-in-Most : goal.returns-in-Most
returns-in-Most c = record {
  within = λ values few each.
      subst (λ (agg : Agg). IsWithin c.at_most_number-in-Most.result (gather agg values)) (sym c.in-Most.is)
      record {
        from = omega (arith, ap (λ (r : Range). r.least) c.at_most_number-in-Most.ensures.exact);
        to = λ ends.
            let most : c.at_most_number-in-Most.result.most ≡ c.args.range.most = ap (λ (r : Range). r.most) c.at_most_number-in-Most.ensures.exact in
            omega (arith, most, most_within c.args.range values (omega (arith, most, ends)) each);
      };
}
