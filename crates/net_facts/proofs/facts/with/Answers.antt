use Rattle.std.proofs.Common.{subst}
use Rattle.net_facts.specs.declared.facts.Range.{Range}
use Rattle.net_facts.specs.Facts.{IsRangeOf}
use Rattle.net_facts.proofs.Ranges.{widened}
use Rattle.net_facts.proofs.facts.with.Goals as goal

pub returns-in-Some : goal.returns-in-Some
returns-in-Some c = record {
  range = λ numbers is.
      let later : Range = record { least = c.min.result; greatest = c.max.result } in
      widened numbers c.args.number c.in-Some.range later c.min.ensures c.max.ensures (subst (IsRangeOf numbers) c.in-Some.is is);
}
