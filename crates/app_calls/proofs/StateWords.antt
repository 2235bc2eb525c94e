-- States and their words, one node more.
use Rattle.std.proofs.Common.{◌≡◌, ◌∙◌, ℕ, suc, ◌+◌, ◌-◌, ◌*◌, ◌<◌, List, [], ◌∷◌, ◌++◌, length, take, drop, get_or, ap, sym, arith}
use Rattle.std.proofs.Math.Nat.{suc-mul}
use Rattle.std.proofs.Math.Seq.{take-suc, take-append_seam, drop-append-add}
use Rattle.std.proofs.lemmas.Grind.{flat_map-append}
use Rattle.std.proofs.lemmas.List.{append-nil, drop-drop}
use Rattle.std.proofs.lemmas.List.FromFn.{map-range_with_len_more}
use Rattle.rule_check.specs.declared.state.State.{State}
use Rattle.app_calls.specs.Words.{words_in}
use Rattle.rounds_walk.specs.part_rounds.States.{node_words, state_of, states_of}

-- what is left is the words of one node, and what is left after them
pub left_more : (n i fields left : ℕ) → i < n → left ≡ (n - i) * fields → left ≡ fields + (n - (i + 1)) * fields
left_more n i fields left inside is =
    let more : n - i ≡ suc (n - (i + 1)) = omega arith in
    let step : suc (n - (i + 1)) * fields ≡ (n - (i + 1)) * fields + fields = suc-mul (n - (i + 1)) fields in
    let here : left ≡ suc (n - (i + 1)) * fields = is ∙ ap (λ k. k * fields) more in
    omega (arith, here, step)

-- the words after those of a node
pub behind_node : (fields i : ℕ) (words : List ℕ) → drop fields (drop (i * fields) words) ≡ drop ((i + 1) * fields) words
behind_node fields i words =
    let more : i + 1 ≡ suc i = omega arith in
    let place : (i + 1) * fields ≡ i * fields + fields = ap (λ k. k * fields) more ∙ suc-mul i fields in
    drop-drop fields (i * fields) words ∙ ap (λ k. drop k words) (omega (arith, place))

-- the states of one node more
pub states_more : (fields i : ℕ) (words : List ℕ) → states_of fields (i + 1) words ≡ states_of fields i words ++ state_of (node_words fields words i) ∷ []
states_more fields i words = map-range_with_len_more (λ u. state_of (node_words fields words u)) 0 i i (omega arith)

-- the words of one state more
pub words_more : (fields i : ℕ) (states : List State) (d : State) → i < length states
    → words_in fields (take (i + 1) states) ≡ words_in fields (take i states) ++ take fields (get_or states i d).words
words_more fields i states d inside =
    let more : i + 1 ≡ suc i = omega arith in
    let f = λ (state : State). take fields state.words in
    ap (λ k. words_in fields (take k states)) more
    ∙ ap (words_in fields) (take-suc states i d inside)
    ∙ flat_map-append f (take i states) (get_or states i d ∷ [])
    ∙ ap (λ l. words_in fields (take i states) ++ l) (append-nil (f (get_or states i d)))

-- what stands in front of a place, and after so many more, where the front has this length
pub put_more : (front back here : List ℕ) (first fields : ℕ) → length front ≡ first → take first (front ++ back) ++ here ++ drop (first + fields) (front ++ back) ≡ (front ++ here) ++ drop fields back
put_more front back here first fields is =
    let before : take first (front ++ back) ≡ front = ap (λ k. take k (front ++ back)) (sym is) ∙ take-append_seam front back in
    let behind : drop (first + fields) (front ++ back) ≡ drop fields back = ap (λ k. drop (k + fields) (front ++ back)) (sym is) ∙ drop-append-add front back fields in
    ap (λ l. l ++ here ++ drop (first + fields) (front ++ back)) before
    ∙ ap (λ l. front ++ here ++ l) behind
