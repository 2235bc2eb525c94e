use Rattle.rule_cuts.proofs.limits.word_range.Goals as goal

pub returns-in-None : goal.returns-in-None
returns-in-None c = record { within = λ words each. c.anything.ensures.within _ }
