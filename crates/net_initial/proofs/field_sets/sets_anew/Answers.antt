use Rattle.net_initial.proofs.Kept.{kept_rise}
use Rattle.net_initial.proofs.field_sets.sets_anew.Goals as goal

pub opened_sets-requires-clause-rising : goal.opened_sets-requires-clause-rising
opened_sets-requires-clause-rising c = rw (c.as_slice.ensures.value, c.in_ok-kept.ensures.kept) (kept_rise c.args.cleared.now c.args.sets.now c.requires.rising)

pub returns-clause-opened : goal.returns-clause-opened
returns-clause-opened c = rw (c.as_slice.ensures.value, c.in_ok-kept.ensures.kept) at c.opened_sets.ensures.opened

pub returns-clause-defined : goal.returns-clause-defined
returns-clause-defined c = rw (c.as_slice.ensures.value, c.in_ok-kept.ensures.kept) at c.opened_sets.ensures.defined

pub returns-clause-refused : goal.returns-clause-refused
returns-clause-refused c = rw (c.as_slice.ensures.value, c.in_ok-kept.ensures.kept) at c.opened_sets.ensures.refused
