use Rattle.std.proofs.Common.{◌<◌, ◌≡◌, All, length, sym, subst, arith}
use Rattle.rounds_blocks.specs.Rounds.{HasWordInside}
use Rattle.rounds_blocks.proofs.Copies.{runs_copied, runs_kept}
use Rattle.rounds_blocks.proofs.copying.copy_batch.Goals as goal

pub returns-then-part-nodes-clause-copied : goal.returns-then-part-nodes-clause-copied
returns-then-part-nodes-clause-copied c = λ word there.
    let a = c.args in
    let within : All (λ u. u < length a.part.now) a.batch.now.nodes = λ k e h. omega (arith, c.requires.batch.within k e h, c.if-part-nodes.true, c.nodes.ensures.count) in
    let zero : a.low ≡ 0 = omega (arith, c.if-low-eq0.true) in
    runs_copied a.part.now c.copy.new.column a.source.now a.batch.now.nodes word a.low zero c.requires.long c.copy.auto.column within c.copy.ensures.exact there

pub returns-then-part-nodes-clause-kept : goal.returns-then-part-nodes-clause-kept
returns-then-part-nodes-clause-kept c = λ word u there.
    let a = c.args in
    let within : All (λ u. u < length a.part.now) a.batch.now.nodes = λ k e h. omega (arith, c.requires.batch.within k e h, c.if-part-nodes.true, c.nodes.ensures.count) in
    let zero : a.low ≡ 0 = omega (arith, c.if-low-eq0.true) in
    runs_kept a.part.now c.copy.new.column a.source.now a.batch.now.nodes word a.low zero c.requires.long c.copy.auto.column within c.copy.ensures.exact there u

pub returns-else-low-eq0-clause-copied : goal.returns-else-low-eq0-clause-copied
returns-else-low-eq0-clause-copied c = λ word there.
    let a = c.args in
    subst (All (HasWordInside a.low word c.copy_nodes.new.part)) c.as_slice.ensures.exact
    (c.copy_nodes.ensures.copied word (subst (All (HasWordInside a.low word a.source.now)) (sym c.as_slice.ensures.exact) there))

pub returns-else-low-eq0-clause-kept : goal.returns-else-low-eq0-clause-kept
returns-else-low-eq0-clause-kept c = λ word u there here.
    c.copy_nodes.ensures.kept word u (subst (All (HasWordInside c.args.low word c.args.source.now)) (sym c.as_slice.ensures.exact) there) here
