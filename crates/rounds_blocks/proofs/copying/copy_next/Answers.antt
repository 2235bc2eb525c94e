use Rattle.std.proofs.Common.{arith, length, refl}
use Rattle.rounds_blocks.specs.Rounds.{HasWordInside}
use Rattle.rounds_blocks.proofs.Due.{due_more}
use Rattle.rounds_blocks.proofs.Together.{apart_copied, span_copied, span_kept}
use Rattle.rounds_blocks.proofs.copying.copy_next.Goals as goal

pub returns-then-is_apart-clause-copied : goal.returns-then-is_apart-clause-copied
returns-then-is_apart-clause-copied c = λ word all.
    let a = c.args in
    let nodes = length a.task.now.network.now in
    apart_copied nodes a.task.now a.at c.in-Some.span a.low a.part.now word (c.in-Some.ensures.span nodes a.task.now.batches.now c.requires.spans) (c.if-is_apart.ensures.apart refl)

pub returns-then-are_due-clause-copied : goal.returns-then-are_due-clause-copied
returns-then-are_due-clause-copied c = λ word all.
    let a = c.args in
    let e = c.in-Some.ensures in
    let nodes = length a.task.now.network.now in
    span_copied nodes a.task.now a.at a.behind c.in-Some.span a.low a.part.now c.copy_span.new.part a.source.now word
    (e.span nodes a.task.now.batches.now c.requires.spans) e.there.1 (c.if-are_due.ensures.due refl) c.copy_span.auto.part c.requires.long c.copy_span.ensures.copied c.copy_span.ensures.kept all

pub returns-then-are_due-clause-kept : goal.returns-then-are_due-clause-kept
returns-then-are_due-clause-kept c = λ word u all here.
    let a = c.args in
    let e = c.in-Some.ensures in
    let nodes = length a.task.now.network.now in
    span_kept nodes a.task.now a.at a.behind c.in-Some.span a.low a.part.now c.copy_span.new.part a.source.now word
    (e.span nodes a.task.now.batches.now c.requires.spans) e.there.1 (c.if-are_due.ensures.due refl) c.copy_span.auto.part c.requires.long c.copy_span.ensures.copied c.copy_span.ensures.kept all u here

pub returns-clause-copied : goal.returns-clause-copied
returns-clause-copied c = λ word all.
    let a = c.args in
    due_more (HasWordInside a.low word a.part.now) (HasWordInside a.low word c.copy_where.new.part) a.task.now a.at a.at
    (λ u. c.copy_where.ensures.kept word u (λ is d. all a.at d (omega arith) c.requires.there is))
    (λ i d low high is. absurd (omega (arith, low, high)))
    (λ d is. c.copy_where.ensures.copied word d is (all a.at d (omega arith) c.requires.there is))

pub returns-clause-kept : goal.returns-clause-kept
returns-clause-kept c = λ word u all here. c.copy_where.ensures.kept word u (λ is d. all c.args.at d (omega arith) c.requires.there is) here
