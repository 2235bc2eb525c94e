-- The words that the rules' code leaves are those of the next state.
use Rattle.std.proofs.Common.{ap, ◌∙◌, sym, subst, map, arith, ◌≤◌, length}
use Rattle.std.specs.Prelude.{All, slice_index}
use Rattle.rule_check.specs.Value.{updated, cleared, alone, here_at, next_at}
use Rattle.rule_check.specs.Machine.{frame}
use Rattle.rule_check.specs.Gathering.{finished, finished_word, numbered}
use Rattle.rule_check.specs.Loops.{written}
use Rattle.rule_check.specs.Shapes.{rule_shape, IsRule}
use Rattle.rule_check.specs.Compiled.{decoded}
use Rattle.rule_check.specs.Fields.{field_names}
use Rattle.rule_check.proofs.Programs.{finish_words_are, finished_all, rules_ok, state_from}
use Rattle.rule_check.proofs.Rest.{rest_of_finished}
use Rattle.rule_check.proofs.program.Program.finish_on.Goals as goal

pub finish_words-requires : goal.finish_words-requires
finish_words-requires c = record { run = subst (All IsRule) (sym c.deref.ensures.value) (rules_ok c.self.inside c.self.invariant) }

pub returns-clause-exact : goal.returns-clause-exact
returns-clause-exact c =
    let a = c.args in
    let p = c.self.inside in
    let f = frame a.node.now.id a.node.now.degree a.node.now.round a.node.now.own.now (alone a.node.now.id a.node.now.own.now) a.sums.now.words in
    let long : 8 ≤ length c.clear_words.new.words = omega (arith, c.clear_words.array_long) in
    let fields = c.len.ensures ∙ p.fields.ok.0 in
    ap state_from
    (c.finish_words.ensures.exact
    ∙ ap (λ rs. written f (map rule_shape rs) c.clear_words.new.words) c.deref.ensures.value
    ∙ finish_words_are p c.self.invariant f c.clear_words.new.words long
    ∙ ap (updated (finished_word (field_names p.fields.items) f (numbered 0 (decoded p).nexts)) (field_names p.fields.items)) (c.clear_words.ensures.exact ∙ ap (λ n. cleared n a.node.now.own.now.words) fields))
    ∙ ap (λ v. finished v a.node.now.round a.node.now.id a.node.now.degree a.node.now.own.now a.sums.now) c.self.view_is

pub returns-clause-completes : goal.returns-clause-completes
returns-clause-completes c = λ nears whole sums.
    let a = c.args in
    let v = a.self.now in
    returns-clause-exact c
    ∙ ap (finished v a.node.now.round a.node.now.id a.node.now.degree a.node.now.own.now) sums
    ∙ finished_all v a.node.now.round a.node.now.id a.node.now.degree a.node.now.own.now nears
    ∙ ap (λ degree. next_at v (here_at v a.node.now.round a.node.now.id degree a.node.now.own.now nears)) (sym whole)

pub returns-clause-rest_is_zero : goal.returns-clause-rest_is_zero
returns-clause-rest_is_zero c = λ k past.
    let a = c.args in
    ap (λ s. slice_index s.words k) (returns-clause-exact c) ∙ rest_of_finished a.self.now a.node.now.round a.node.now.id a.node.now.degree a.node.now.own.now a.sums.now k past
