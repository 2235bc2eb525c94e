use Rattle.std.proofs.Common.{◌≡◌, ◌++◌, ◌∷◌, [], true, arith}
use Rattle.run_schedule.specs.Walks.{WalkView, is_open}
use Rattle.run_schedule.proofs.Walking.{walk-more}
use Rattle.run_schedule.proofs.walk.Walk.make.Goals as goal

pub invariant_of-self-2 : goal.invariant_of-self-2
invariant_of-self-2 c =
    let was : WalkView = record { world = c.self.inside.world; still = c.self.inside.still; limit = c.self.inside.limit; steps = c.self.inside.steps.items } in
    let free : is_open was c.args.step ≡ true = cc in
    let items : c.push.new.self.items ≡ c.self.inside.steps.items ++ c.args.step ∷ [] = c.in_ok-push.ensures.items in
    rw (c.step.ensures.after, items) (walk-more was c.args.step c.self.invariant free (omega arith))
