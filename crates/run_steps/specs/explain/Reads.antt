-- Slots that were read.
use Rattle.std.specs.Prelude.{ℕ}
use Rattle.unison_world.specs.declared.step.Answer.{Answer}
use Rattle.unison_world.specs.declared.step.Answer.TheVariants.{Already}

-- one for the answer to a read of a slot that was read before
abbrev pub one_if_read : Answer → ℕ
one_if_read Already = 1
one_if_read answer = 0
