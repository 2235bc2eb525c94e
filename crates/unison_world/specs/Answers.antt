-- The answer to a read, by what the desk answers.
use Rattle.unison_node.specs.declared.desk.Offer.{Offer}
use Rattle.unison_node.specs.declared.desk.Offer.TheVariants as offer
use Rattle.unison_world.specs.declared.step.Answer.{Answer}
use Rattle.unison_world.specs.declared.step.Answer.TheVariants.{Taken, Behind, Already, NoSlot}

-- each answer of a desk is the count machine's of the same name
abbrev pub answer_from : Offer → Answer
answer_from offer.Taken = Taken
answer_from offer.Behind = Behind
answer_from offer.Already = Already
answer_from offer.NoSlot = NoSlot
