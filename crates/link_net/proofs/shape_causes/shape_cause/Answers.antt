use Rattle.toml.specs.View.{table_view}
use Rattle.link_net.proofs.Refusals.{draft_none, first_fault, later_fault}
use Rattle.link_net.proofs.shape_causes.shape_cause.Goals as goal

pub returns-in-Some-clause-agrees : goal.returns-in-Some-clause-agrees
returns-in-Some-clause-agrees c = rw (draft_none (table_view c.args.table.now)) (first_fault _ _ _ _ c.in-Some.ensures.agrees)

pub returns-in-Some-links_cause-clause-agrees : goal.returns-in-Some-links_cause-clause-agrees
returns-in-Some-links_cause-clause-agrees c = rw (draft_none (table_view c.args.table.now)) (later_fault _ _ _ _ c.in_default.ensures.agrees (first_fault _ _ _ _ c.in-Some-links_cause.ensures.agrees))

pub returns-in-Some-phase_cause-clause-agrees : goal.returns-in-Some-phase_cause-clause-agrees
returns-in-Some-phase_cause-clause-agrees c =
    rw (draft_none (table_view c.args.table.now))
    (later_fault _ _ _ _ c.in_default.ensures.agrees (later_fault _ _ _ _ c.in_default-links_cause.ensures.agrees (first_fault _ _ _ _ c.in-Some-phase_cause.ensures.agrees)))

pub returns-clause-agrees : goal.returns-clause-agrees
returns-clause-agrees c =
    rw (draft_none (table_view c.args.table.now))
    (later_fault _ _ _ _ c.in_default.ensures.agrees (later_fault _ _ _ _ c.in_default-links_cause.ensures.agrees (later_fault _ _ _ _ c.in_default-phase_cause.ensures.agrees c.in_ok-cause.ensures.agrees)))
