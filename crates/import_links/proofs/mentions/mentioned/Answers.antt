use Rattle.std.proofs.Common.{◌+◌, take, drop, refl}
use Rattle.std.proofs.lemmas.Result.{err_from_is_err_and}
use Rattle.import_links.specs.Refusals.{IsFirstBadMention}
use Rattle.import_links.proofs.JoinSteps.{mentions_parted, mention_named, mention_left}
use Rattle.import_links.proofs.Refused.{refused_mention}
use Rattle.import_links.proofs.mentions.mentioned.Goals as goal

pub returns-in_err-number-clause-refused : goal.returns-in_err-number-clause-refused
returns-in_err-number-clause-refused c =
    let mentions = c.args.mentions.now in
    let i = c.loop-mention.mention-index in
    let p = err_from_is_err_and c.from_residual.result c.from_residual.ensures.1 in
    let bad : IsFirstBadMention c.args.most mentions c.in_err-number.field-0.0 = record {
      earlier = take i mentions;
      here = _;
      later = drop (i + 1) mentions;
      all = mentions_parted mentions i _ _ c.loop-mention-test.true refl;
      are_names = rw c.loop-mention.invariant.names at c.loop-mention.invariant.are;
      why = rw c.loop-mention.invariant.names at c.in_err-number.ensures.refused;
    } in
    rw (p.1, p.2) (refused_mention c.args.most mentions c.in_err-number.field-0.0 bad)

pub loop-mention-preserved : goal.loop-mention-preserved
loop-mention-preserved c =
    let mentions = c.args.mentions.now in
    let i = c.loop-mention.mention-index in
    let low = c.loop-mention-test.true in
    let names = c.loop-mention.names in
    let new = c.number.new.names in
    let is = c.in_ok-number.ensures.names in
    record {
      names = mention_named mentions i _ _ low refl names new c.loop-mention.invariant.names is;
      rest = mention_left mentions i _ _ low refl names new _ c.loop-mention.invariant.rest is;
      are = c.in_ok-number.ensures.are_names;
      few = c.in_ok-number.ensures.few c.loop-mention.invariant.few;
    }
