use Rattle.std.proofs.Common.{ap, ◌∙◌}
use Rattle.net_patterns.specs.RunSteps.{pattern_in}
use Rattle.net_patterns.proofs.RunGrammar.{says_answer, answer_one}
use Rattle.net_patterns.proofs.RoundTrip.{reads_plain, reads_rows, reads_runs, reads_states}
use Rattle.net_patterns.proofs.pattern.read_pattern.Goals as goal

pub returns-clause-answer : goal.returns-clause-answer
returns-clause-answer c = says_answer (λ v. v.items) c.args.bytes.now c.read_either.result c.read_either.ensures

pub returns-clause-one : goal.returns-clause-one
returns-clause-one c = answer_one (λ v. v.items) c.args.bytes.now c.read_either.result c.read_either.ensures

pub returns-clause-reads_runs : goal.returns-clause-reads_runs
returns-clause-reads_runs c =
    λ frame spans is order same.
    rw (ap pattern_in same ∙ reads_runs frame spans is order) at c.read_either.ensures

pub returns-clause-reads_plain : goal.returns-clause-reads_plain
returns-clause-reads_plain c =
    λ comment spans is order same.
    rw (ap pattern_in same ∙ reads_plain comment spans is order) at c.read_either.ensures

pub returns-clause-reads_rows : goal.returns-clause-reads_rows
returns-clause-reads_rows c =
    λ spans order some same.
    rw (ap pattern_in same ∙ reads_rows spans order some) at c.read_either.ensures

pub returns-clause-reads_states : goal.returns-clause-reads_states
returns-clause-reads_states c =
    λ frame spans is order same.
    rw (ap pattern_in same ∙ reads_states frame spans is order) at c.read_either.ensures
