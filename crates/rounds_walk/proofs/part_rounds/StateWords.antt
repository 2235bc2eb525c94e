-- States and their words, one node more.
use Rattle.std.proofs.Common.{◌≡◌, ◌∙◌, ℕ, suc, ◌+◌, ◌*◌, ◌<◌, List, [], ◌∷◌, ◌++◌, length, map, take, drop, ap, sym, arith, zero-add, Bool, cond}
use Rattle.std.specs.List.{count_by, sum_by}
use Rattle.std.proofs.Math.Nat.{suc-mul}
use Rattle.std.proofs.Math.Seq.{take-append_seam, drop-append-add}
use Rattle.std.proofs.lemmas.Grind.{flat_map-append}
use Rattle.std.proofs.lemmas.List.{append-nil, drop-drop, map-id}
use Rattle.std.proofs.lemmas.List.FromFn.{get_or-map-range_with_len, map-range_with_len_more, sum_by-map-range_with_len_more}
use Rattle.rule_check.specs.declared.state.State.{State}
use Rattle.link_net.specs.Neighbours.{numbers_below}
use Rattle.rounds_plan.specs.Configs.{blank}
use Rattle.rounds_plan.specs.Lockstep.{state_in}
use Rattle.rounds_walk.specs.part_rounds.States.{node_words, state_of, states_of, words_in}

-- the state of a node
pub state_there : (fields nodes u : ℕ) (words : List ℕ) → u < nodes → state_in (states_of fields nodes words) u ≡ state_of (node_words fields words u)
state_there fields nodes u words inside = get_or-map-range_with_len (λ v. state_of (node_words fields words v)) 0 nodes u u blank inside (zero-add u)

-- the words after those of a node
pub behind_node : (fields i : ℕ) (words : List ℕ) → drop fields (drop (i * fields) words) ≡ drop ((i + 1) * fields) words
behind_node fields i words =
    let more : i + 1 ≡ suc i = omega arith in
    let place : (i + 1) * fields ≡ i * fields + fields = ap (λ k. k * fields) more ∙ suc-mul i fields in
    drop-drop fields (i * fields) words ∙ ap (λ k. drop k words) (omega (arith, place))

-- the words of the state of one node more
pub words_more : (fields i : ℕ) (state : ℕ → State) → words_in fields (map state (numbers_below (i + 1))) ≡ words_in fields (map state (numbers_below i)) ++ take fields (state i).words
words_more fields i state =
    let f = λ (s : State). take fields s.words in
    ap (words_in fields) (map-range_with_len_more state 0 i i (zero-add i))
    ∙ flat_map-append f (map state (numbers_below i)) (state i ∷ [])
    ∙ ap (λ l. words_in fields (map state (numbers_below i)) ++ l) (append-nil (f (state i)))

-- what stands in front of a place, and after so many more, where the front has this length
pub put_more : (front back here : List ℕ) (first fields : ℕ) → length front ≡ first → take first (front ++ back) ++ here ++ drop (first + fields) (front ++ back) ≡ (front ++ here) ++ drop fields back
put_more front back here first fields is =
    let before : take first (front ++ back) ≡ front = ap (λ k. take k (front ++ back)) (sym is) ∙ take-append_seam front back in
    let behind : drop (first + fields) (front ++ back) ≡ drop fields back = ap (λ k. drop (k + fields) (front ++ back)) (sym is) ∙ drop-append-add front back fields in
    ap (λ l. l ++ here ++ drop (first + fields) (front ++ back)) before
    ∙ ap (λ l. front ++ here ++ l) behind

-- how many numbers pass, with one more
pub count_more : (p : ℕ → Bool) (i : ℕ) → count_by p (numbers_below (i + 1)) ≡ count_by p (numbers_below i) + cond (p i) 1 0
count_more p i =
    let one = λ (n : ℕ). cond (p n) 1 0 in
    ap (sum_by one) (sym (map-id (numbers_below (i + 1))))
    ∙ sum_by-map-range_with_len_more one (λ n. n) 0 i i (zero-add i)
    ∙ ap (λ xs. sum_by one xs + cond (p i) 1 0) (map-id (numbers_below i))
