use Rattle.rule_cuts.proofs.limits.field_range.Goals as goal

pub returns-in-None : goal.returns-in-None
returns-in-None c = record { within = λ state each. c.anything.ensures.within _ }
