use Rattle.std.proofs.Common.{ℕ, List, [], ◌∷◌, ◌++◌, All, length, sym, subst, arith}
use Rattle.rounds_blocks.specs.declared.share.Share.{Share}
use Rattle.rounds_blocks.specs.Walks.{IsLeft, IsRange, LineUp}
use Rattle.rounds_blocks.proofs.Parts.{first_ranges, last_range, left_all, line_parts}
use Rattle.rounds_blocks.proofs.in_ranges.+ranges.Goals as goal

pub work_from-split_at_mut-there-requires : goal.work_from-split_at_mut-there-requires
work_from-split_at_mut-there-requires g t c =
    let share = c.in-Some.share in
    let n = length c.args.part.now in
    let parts = line_parts 0 c.pop.new.self.items share n (subst (λ (shares : List Share). LineUp 0 shares n) c.in-Some.ensures.items c.requires.line) in
    omega (arith, parts.2, parts.3)

pub work_from-work_both-requires-clause-task : goal.work_from-work_both-requires-clause-task
work_from-work_both-requires-clause-task g t c κs within =
    let share = c.in-Some.share in
    let task = c.requires.task in
    let batches = c.args.task.now.batches.now in
    (task.0, task.1, task.2, last_range task.0 batches c.pop.new.self.items share (subst (All (IsRange task.0 batches)) c.in-Some.ensures.items task.3))

pub work_from-work_both-requires-clause-others : goal.work_from-work_both-requires-clause-others
work_from-work_both-requires-clause-others g t c κs within =
    let share = c.in-Some.share in
    let task = c.requires.task in
    let batches = c.args.task.now.batches.now in
    (task.0, task.1, task.2, first_ranges task.0 batches c.pop.new.self.items share (subst (All (IsRange task.0 batches)) c.in-Some.ensures.items task.3))

pub work_from-work_both-requires-clause-part : goal.work_from-work_both-requires-clause-part
work_from-work_both-requires-clause-part g t c κs within =
    let share = c.in-Some.share in
    let n = length c.args.part.now in
    let parts = line_parts 0 c.pop.new.self.items share n (subst (λ (shares : List Share). LineUp 0 shares n) c.in-Some.ensures.items c.requires.line) in
    omega (arith, parts.2, parts.3, c.split_at_mut-there.ensures.back_len)

pub work_from-work_both-requires-clause-line : goal.work_from-work_both-requires-clause-line
work_from-work_both-requires-clause-line g t c κs within =
    let share = c.in-Some.share in
    let n = length c.args.part.now in
    let parts = line_parts 0 c.pop.new.self.items share n (subst (λ (shares : List Share). LineUp 0 shares n) c.in-Some.ensures.items c.requires.line) in
    subst (LineUp 0 c.pop.new.self.items) (sym c.split_at_mut-there.ensures.front_len) parts.0

pub work_from-returns-in-Some-clause-left : goal.work_from-returns-in-Some-clause-left
work_from-returns-in-Some-clause-left g t c =
    let a = c.args in
    let task = a.task.now in
    let share = c.in-Some.share in
    let others = c.pop.new.self.items in
    let new = c.work_both.new in
    let parts = c.split_at_mut-there in
    let n = length a.part.now in
    let after = new.there ++ new.here in
    let line = subst (λ (shares : List Share). LineUp 0 shares n) c.in-Some.ensures.items c.requires.line in
    subst (λ (shares : List Share). IsLeft task 0 a.shares.now.items shares a.part.now after) (sym c.put_back.ensures.items)
    (subst (λ (shares : List Share). IsLeft task 0 shares (new.shares.items ++ new.share ∷ []) a.part.now after) (sym c.in-Some.ensures.items)
    (subst (λ (words : List ℕ). IsLeft task 0 (others ++ share ∷ []) (new.shares.items ++ new.share ∷ []) words after) (sym parts.ensures.value)
    (left_all task others new.shares.items share new.share parts.result.0.now parts.result.1.now new.there new.here n parts.ensures.front_len c.work_both.auto.here line
    c.work_both.ensures.same c.work_both.ensures.written c.work_both.ensures.left)))
