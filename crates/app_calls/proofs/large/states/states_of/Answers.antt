use Rattle.std.proofs.Common.{◌≡◌, ◌∙◌, ◌++◌, ◌∷◌, [], ◌<◌, ℕ, List, ap, arith, drop, length, take, sym}
use Rattle.rule_check.specs.declared.state.State.{State}
use Rattle.rounds_walk.specs.part_rounds.States.{node_words, state_of}
use Rattle.app_calls.proofs.StateWords.{behind_node, left_more, states_more}
use Rattle.app_calls.proofs.large.states.states_of.Goals as goal

pub loop-node-preserved : goal.loop-node-preserved
loop-node-preserved c =
    let l = c.loop-node in
    let fields = c.args.fields in
    let words = c.args.words.now in
    let inside : l._node < c.args.nodes = omega (arith, c.loop-node-test.true) in
    let left = left_more c.args.nodes l._node fields (length l.rest.now) inside l.invariant.left in
    let front : c.split_at.result.0.now ≡ node_words fields words l._node = c.split_at.ensures.front ∙ ap (take fields) l.invariant.rest in
    let more : c.push.new.self.items ≡ l.states.items ++ state_of c.split_at.result.0.now ∷ [] = c.in_ok-push.ensures.items ∙ ap (λ (s : State). l.states.items ++ s ∷ []) c.state_of.ensures.state in
    record {
      rest = c.split_at.ensures.back ∙ ap (drop fields) l.invariant.rest ∙ behind_node fields l._node words;
      left = omega (arith, left, c.split_at.ensures.back_len);
      states = more ∙ ap (λ (w : List ℕ). l.states.items ++ state_of w ∷ []) front
          ∙ ap (λ (s : List State). s ++ state_of (node_words fields words l._node) ∷ []) l.invariant.states
          ∙ sym (states_more fields l._node words);
    }
