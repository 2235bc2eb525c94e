use Rattle.std.proofs.Common.{All, length, sym, subst, arith}
use Rattle.std.proofs.lemmas.List.Elements.{All-push}
use Rattle.rounds_blocks.specs.Walks.{IsShare}
use Rattle.rounds_blocks.proofs.Covers.{covered_more}
use Rattle.rounds_blocks.proofs.sharing.shares_of.Goals as goal

pub loop-first-preserved : goal.loop-first-preserved
loop-first-preserved c =
    let l = c.loop-first in
    let n = length c.args.batches.now in
    let share = c.in_ok-share_of.field-0 in
    record {
      few = c.end_of-behind.ensures.few;
      each = λ nodes long. subst (All (IsShare c.args.code.now nodes n)) (sym c.in_ok-push.ensures.items)
          (All-push (IsShare c.args.code.now nodes n) l.shares.items share (l.invariant.each nodes long) (c.in_ok-share_of.ensures.share nodes n long c.end_of-behind.ensures.few));
      covered = covered_more l.shares.items c.push.new.self.items share l.first c.end_of-behind.result c.in_ok-push.ensures.items c.in_ok-share_of.ensures.first c.in_ok-share_of.ensures.behind l.invariant.covered;
    }

pub returns : goal.returns
returns c = record {
  shares = λ nodes long. record {
    each = c.loop-first.invariant.each nodes long;
    covered = λ some i inside. c.loop-first.invariant.covered i (omega (arith, inside, c.loop-first-test.false));
  };
}
