use Rattle.std.proofs.Common.{refl}
use Rattle.rule_check.specs.Value.{names_of}
use Rattle.rounds_plan.proofs.Names.{name_known}
use Rattle.run_counts.proofs.columns.name_at.Goals as goal

pub returns : goal.returns
returns c = record { name = name_known (λ n. n.now) (names_of c.args.program.now) c.args.place c.field_name.result _ c.unwrap_or.result refl c.unwrap_or.ensures c.field_name.ensures.name }
