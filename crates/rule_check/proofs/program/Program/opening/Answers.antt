use Rattle.std.proofs.Common.{ap, ◌∙◌, map, replicate}
use Rattle.std.specs.Prelude.{slice_index}
use Rattle.rule_check.specs.Value.{updated, opening_of}
use Rattle.rule_check.proofs.Programs.{state_from}
use Rattle.rule_check.proofs.Rest.{rest_of_opening}
use Rattle.rule_check.proofs.program.Program.opening.Goals as goal

pub returns-clause-exact : goal.returns-clause-exact
returns-clause-exact c =
    ap state_from
    (c.opening_words.ensures.exact
    ∙ ap (λ fs. updated (λ v w. v) (map (λ f. f.opening) fs) (replicate 8 0)) c.deref.ensures.value)
    ∙ ap opening_of c.self.view_is

pub returns-clause-rest_is_zero : goal.returns-clause-rest_is_zero
returns-clause-rest_is_zero c = λ k past. ap (λ s. slice_index s.words k) (returns-clause-exact c) ∙ rest_of_opening c.args.self.now k past
