use Rattle.std.proofs.Common.{◌++◌, sym, subst}
use Rattle.std.specs.Fork.{AcceptsAt, ChangesAt}
use Rattle.rounds_blocks.specs.InLine.{ChangesFrom}
use Rattle.rounds_blocks.proofs.OneByOne.{others_of, both_parts, of_parts}
use Rattle.rounds_blocks.proofs.line.+line.Goals as goal

pub each_from-beside-requires-clause-others : goal.each_from-beside-requires-clause-others
each_from-beside-requires-clause-others g t c κs within =
    let parts = c.split_at_mut-front in
    record { each = others_of (AcceptsAt g.F.Fn c.args.f.now) c.args.from parts.result.0.now parts.result.1.now (of_parts (AcceptsAt g.F.Fn c.args.f.now) c.args.from c.args.s.now parts.result.0.now parts.result.1.now parts.ensures.value c.requires.accepts.each) }

pub each_from-returns : goal.each_from-returns
each_from-returns g t c =
    let parts = c.split_at_mut-front in
    let beside = c.beside in
    let f = c.args.f.now in
    let both = both_parts (ChangesAt g.F.Fn f) c.args.from parts.result.0.now parts.result.1.now beside.new.front beside.new.others beside.auto.front beside.ensures.front.each beside.ensures.others.each in
    record {
      changes = subst (λ xs. ChangesFrom g.F.Fn f c.args.from xs (beside.new.front ++ beside.new.others)) (sym parts.ensures.value) (record { each = both });
    }
