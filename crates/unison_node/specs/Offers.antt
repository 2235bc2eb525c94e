-- What a desk answers to a register that it is offered, and what the offer changes.
use Rattle.std.specs.Prelude.{ℕ, Option, Some, None, length, nat_le, if◌then◌else◌}
use Rattle.rule_check.specs.declared.state.State.{State}
use Rattle.rule_check.specs.Value.{Rules}
use Rattle.phase_register.specs.declared.register.Look.{Look}
use Rattle.phase_register.specs.declared.register.Look.TheVariants.{Behind, Level, Ahead}
use Rattle.unison_node.specs.declared.desk.Seat.{Seat}
use Rattle.unison_node.specs.declared.desk.Offer.{Offer}
use Rattle.unison_node.specs.declared.desk.Offer.TheVariants as offer
use Rattle.unison_node.specs.Desks.{DeskView, has_mark, taken_in}

-- the state that a look gives
abbrev pub given : Look → Option State
given Behind = None
given (Level s) = Some s
given (Ahead s) = Some s

-- the answer where the slot is free, by the state that the look gave
abbrev pub answer_given : Option State → Offer
answer_given None = offer.Behind
answer_given (Some s) = offer.Taken

-- the answer: no such slot, else already marked, else by the look
abbrev pub answer_to : DeskView → ℕ → Look → Offer
answer_to desk slot look =
    if nat_le (length desk.marks) slot then offer.NoSlot else if has_mark desk slot then offer.Already else answer_given (given look)

-- the desk where the slot is free, by the state that the look gave
abbrev pub after_given : Rules → Seat → ℕ → ℕ → ℕ → DeskView → Option State → DeskView
after_given rules seat slot nid weight desk None = desk
after_given rules seat slot nid weight desk (Some s) = taken_in rules seat slot (record { id = nid; weight = weight; state = s }) desk

-- the desk after the offer
abbrev pub after_offer : Rules → Seat → ℕ → ℕ → ℕ → DeskView → Look → DeskView
after_offer rules seat slot nid weight desk look =
    if nat_le (length desk.marks) slot then desk else if has_mark desk slot then desk else after_given rules seat slot nid weight desk (given look)
