use Rattle.std.proofs.Common.{◌∙◌, ◌==◌, ℕ, ℤ, pos, Option, Some, None, sym, ap, length, get_or, arith, if◌then◌else◌}
use Rattle.std.proofs.lemmas.List.Sums.{fold_more}
use Rattle.net_initial.specs.Opened.{node_of, number_of}
use Rattle.net_initial.proofs.Tables.{refused, taken}
use Rattle.net_initial.proofs.table.put_pairs.Goals as goal

pub returns-then-not-put_pair-clause-fits : goal.returns-then-not-put_pair-clause-fits
returns-then-not-put_pair-clause-fits c =
    refused (length c.args.table.now) c.args.pairs.now c.loop-pair.pair-index (pos 0, pos 0) c.loop-pair.table c.put_pair.result c.loop-pair-test.true c.loop-pair.invariant.long c.loop-pair.invariant.fits c.loop-pair.invariant.given c.put_pair.ensures.fits c.if-not-put_pair.true

pub loop-pair-preserved : goal.loop-pair-preserved
loop-pair-preserved c =
    let ps = c.args.pairs.now in
    let i = c.loop-pair.pair-index in
    record {
      long = c.put_pair.auto.table ∙ c.loop-pair.invariant.long;
      fits = taken (length c.args.table.now) ps i (pos 0, pos 0) c.loop-pair.table c.put_pair.result c.loop-pair-test.true c.loop-pair.invariant.long c.loop-pair.invariant.fits c.loop-pair.invariant.given c.put_pair.ensures.fits c.if-not-put_pair.false;
      given = λ u h.
          c.put_pair.ensures.put c.if-not-put_pair.false u (omega (arith, c.loop-pair.invariant.long))
          ∙ ap (λ o. if node_of (get_or ps i (pos 0, pos 0)) == u then Some (number_of (get_or ps i (pos 0, pos 0)).1) else o) (c.loop-pair.invariant.given u h)
          ∙ sym (fold_more (λ (v : Option ℕ) (p : ℤ × ℤ). if node_of p == u then Some (number_of p.1) else v) None ps i (pos 0, pos 0) c.loop-pair-test.true);
    }
