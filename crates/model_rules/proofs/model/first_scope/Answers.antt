use Rattle.model_rules.proofs.model.first_scope.Goals as goal

pub returns-clause-of : goal.returns-clause-of
returns-clause-of c = record { draws = c.in_ok-draws.ensures.exact; fields = c.in_ok-fields.ensures.exact; later = c.in_ok-later.ensures.exact }
