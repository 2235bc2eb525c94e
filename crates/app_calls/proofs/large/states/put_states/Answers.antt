use Rattle.std.proofs.Common.{◌≡◌, ◌∙◌, ◌+◌, ◌-◌, ◌*◌, ◌++◌, ◌<◌, ℕ, List, [], ap, arith, drop, get_or, length, take, sym}
use Rattle.std.proofs.lemmas.List.{drop-drop, length-append}
use Rattle.app_calls.specs.Words.{words_in}
use Rattle.app_calls.proofs.StateWords.{left_more, put_more, words_more}
use Rattle.app_calls.proofs.large.states.put_states.Goals as goal

pub loop-state-preserved : goal.loop-state-preserved
loop-state-preserved c =
    let l = c.loop-state in
    let fields = c.args.fields in
    let states = c.args.states.now in
    let old = c.args.words.now in
    let i = l.state-index in
    let inside : i < length states = omega (arith, c.loop-state-test.true) in
    let front = words_in fields (take i states) in
    let here = take fields (get_or states i (record { words = [] })).words in
    let more : words_in fields (take (i + 1) states) ≡ front ++ here = words_more fields i states (record { words = [] }) inside in
    let put : c.put_state.new.words ≡ take l.first l.words ++ here ++ drop (l.first + fields) l.words = c.put_state.ensures.put in
    let left : length old - l.first ≡ (length states - i) * fields = omega (arith, l.invariant.left) in
    let rest = left_more (length states) i fields (length old - l.first) inside left in
    let count = c.put_state.ensures.count in
    record {
      words = put
          ∙ ap (λ (w : List ℕ). take l.first w ++ here ++ drop (l.first + fields) w) l.invariant.words
          ∙ put_more front (drop l.first old) here l.first fields l.invariant.front
          ∙ ap (λ (w : List ℕ). w ++ drop fields (drop l.first old)) (sym more)
          ∙ ap (λ (w : List ℕ). words_in fields (take (i + 1) states) ++ w) (drop-drop fields l.first old ∙ ap (λ k. drop k old) (omega arith));
      front = ap length more ∙ length-append front here ∙ omega (arith, l.invariant.front, count);
      left = omega (arith, l.invariant.left, left, rest);
    }
