use Rattle.std.proofs.Common.{◌∙◌, ap, arith, slice_index}
use Rattle.rounds_blocks.proofs.Hubs.{others_end}
use Rattle.rounds_blocks.proofs.alone.first_alone.Goals as goal

pub returns-clause-alone : goal.returns-clause-alone
returns-clause-alone c =
    let second = c.second_degree-second in
    others_end c.args.network.now c.args.batch.now c.requires.batch second.result (second.ensures.exact ∙ ap (λ degrees. slice_index degrees 1) c.deref.ensures.value)
    (omega (arith, c.if-saturating_sub-lt-FEWEST_ALONE.false, c.saturating_sub.ensures, c.len-slots.ensures))
