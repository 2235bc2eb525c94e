use Rattle.std.proofs.Common.{arith, ap, length, subst, ℕ, All}
use Rattle.rounds_blocks.specs.Nears.{IsWithin}
use Rattle.rounds_blocks.proofs.activity.Activity.look.Goals as goal

pub wake-requires-clause-within : goal.wake-requires-clause-within
wake-requires-clause-within c =
    let active = c.requires.activity.1 in
    subst (λ (n : ℕ). All (IsWithin n) c.args.self.now.nears.now)
    (omega (arith, active.changes, ap length c.deref-2.ensures.value, c.note-moved.auto.changed, c.deref_mut.ensures.len)) active.near.within
