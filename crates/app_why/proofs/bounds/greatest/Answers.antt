use Rattle.std.specs.Prelude.{All}
use Rattle.std.proofs.Common.{◌≤◌, arith, subst}
use Rattle.std.proofs.lemmas.List.{take_all}
use Rattle.std.proofs.lemmas.List.Elements.{All-more}
use Rattle.app_why.proofs.bounds.greatest.Goals as goal

pub loop-number-preserved : goal.loop-number-preserved
loop-number-preserved c =
    let numbers = c.args.numbers.now in
    record {
      first = omega (arith, c.max-greatest.ensures, c.loop-number.invariant.first);
      each = All-more (λ number. number ≤ c.max-greatest.result) numbers c.loop-number.number-index 0 c.loop-number-test.true
          (λ k d inside. omega (arith, c.max-greatest.ensures, c.loop-number.invariant.each k d inside)) (omega (arith, c.max-greatest.ensures));
    }

pub returns-clause-each : goal.returns-clause-each
returns-clause-each c =
    subst (All (λ number. number ≤ c.loop-number.greatest)) (take_all c.loop-number.number-index c.args.numbers.now (omega arith)) c.loop-number.invariant.each
