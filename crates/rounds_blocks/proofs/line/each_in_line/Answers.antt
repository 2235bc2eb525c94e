use Rattle.std.proofs.Common.{◌≡◌, ◌+◌, refl, arith, subst, slice_index_or}
use Rattle.std.specs.Fork.{ChangesAt}
use Rattle.rounds_blocks.proofs.line.each_in_line.Goals as goal

pub returns : goal.returns
returns g c i d inside =
    let same : 0 + i ≡ i = omega arith in
    (refl, subst (λ n. ChangesAt g.F.Fn c.args.f.now n (slice_index_or c.args.s.now i d) (slice_index_or c.each_from.new.s i d)) same (c.each_from.ensures.changes.each i d inside))
