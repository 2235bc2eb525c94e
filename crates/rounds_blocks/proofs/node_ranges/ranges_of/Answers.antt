use Rattle.std.proofs.Common.{ℕ, List, All, sym, subst, ◌∙◌, arith, slice_index_or}
use Rattle.std.proofs.lemmas.List.Elements.{All-push}
use Rattle.rounds_blocks.specs.declared.share.Share.{Share}
use Rattle.rounds_blocks.specs.Spans.{IsInside}
use Rattle.rounds_blocks.specs.Walks.{IsRange}
use Rattle.rounds_blocks.proofs.Covers.{covered_more}
use Rattle.rounds_blocks.proofs.Parts.{JoinTo, joined_more, joined_line}
use Rattle.rounds_blocks.proofs.node_ranges.ranges_of.Goals as goal

pub loop-first-preserved : goal.loop-first-preserved
loop-first-preserved c =
    let l = c.loop-first in
    let batches = c.args.batches.now in
    let range = c.next_range-range.result in
    let share = c.in_ok-share_of_range.field-0 in
    let e = c.in_ok-share_of_range.ensures in
    let items = c.in_ok-push.ensures.items in
    let has = c.next_range-range.ensures.range (omega (arith, c.if-range-first.false)) in
    let is : IsRange c.args.code.now batches share = record {
      inside = omega (arith, has.there, e.behind);
      computes = e.rules;
      only = λ i d from below.
          subst (λ (low : ℕ). All (IsInside low share.high) (slice_index_or batches i d).nodes) (sym (e.low ∙ has.begins))
          (subst (λ (high : ℕ). All (IsInside l.low high) (slice_index_or batches i d).nodes) (sym e.high)
          (has.only i d (omega (arith, from, e.first)) (omega (arith, below, e.behind))));
    } in
    record {
      few = has.there;
      inside = has.inside;
      each = subst (All (IsRange c.args.code.now batches)) (sym items) (All-push (IsRange c.args.code.now batches) l.shares.items share l.invariant.each is);
      line =
          subst (λ (shares : List Share). JoinTo 0 shares range.high) (sym items)
          (subst (JoinTo 0 _) e.high (joined_more 0 l.shares.items l.low share l.invariant.line (e.low ∙ has.begins) (omega (arith, has.order, e.high))));
      covered = covered_more l.shares.items c.push.new.self.items share l.first range.behind items e.first e.behind l.invariant.covered;
    }

pub returns : goal.returns
returns c = record {
  ranges = record {
    each = c.loop-first.invariant.each;
    line = joined_line 0 c.loop-first.shares.items c.loop-first.low c.args.nodes c.loop-first.invariant.line c.loop-first.invariant.inside;
    covered = λ some i inside. c.loop-first.invariant.covered i (omega (arith, inside, c.loop-first-test.false));
  };
}
