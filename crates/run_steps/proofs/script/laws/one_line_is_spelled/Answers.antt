use Rattle.std.proofs.Common.{◌≡◌, Result, Ok, sym, ◌∙◌}
use Rattle.link_net.proofs.Simples.{network_simple}
use Rattle.run_steps.specs.declared.script.line.Line.{Line}
use Rattle.run_steps.specs.declared.script.fault.StepTextFault.{StepTextFault}
use Rattle.run_steps.specs.script.Spelled.{OneLineIsSpelled}
use Rattle.run_steps.proofs.script.Spellings.{spelled-read}
use Rattle.run_steps.proofs.script.laws.one_line_is_spelled.Goals as goal

once : OneLineIsSpelled
once network names words one other whole a b =
    let simple = network_simple network whole in
    let same : ◌≡◌ {A = Result Line StepTextFault} (Ok one) (Ok other) = sym (spelled-read network names 0 simple words one a) ∙ spelled-read network names 0 simple words other b in
    cc

pub returns : goal.returns
returns c = record { one = once }
