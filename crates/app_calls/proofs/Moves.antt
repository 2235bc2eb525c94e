-- The plan that opens with the states of some words, and its round.
use Rattle.std.proofs.Common.{◌≡◌, ◌∙◌, ℕ, zero, suc, ◌+◌, ◌-◌, ◌*◌, ◌≤◌, ◌<◌, false, not, eqb, nat_lt, List, [], ◌∷◌, ◌++◌, length, drop, replicate, Ok, refl, ap, arith, zero-add}
use Rattle.std.specs.List.{list_any}
use Rattle.std.proofs.lemmas.Bool.Decides.{nat_tests}
use Rattle.std.proofs.Math.Seq.{drop-append-add}
use Rattle.std.proofs.lemmas.List.{drop-replicate, length-take}
use Rattle.std.proofs.lemmas.List.Folds.{list_any_none}
use Rattle.std.proofs.lemmas.List.FromFn.{get_or-map-range_with_len, length-map-range_with_len}
use Rattle.rule_check.specs.declared.state.State.{State}
use Rattle.rule_check.specs.Value.{Rules}
use Rattle.link_net.specs.Neighbours.{Neighbours}
use Rattle.rounds_plan.specs.Starts.{is_stray, start_of}
use Rattle.rounds_plan.specs.Configs.{most_rounds}
use Rattle.rounds_plan.specs.Lockstep.{lockstep, lockstep_config, lockstep_states, rounds_of}
use Rattle.rounds_plan.specs.Plans.{PlanView}
use Rattle.app_calls.specs.Lists.{given_weights}
use Rattle.rounds_walk.specs.part_rounds.States.{node_words, state_of, states_of}
use Rattle.app_calls.specs.LargeAnswers.{HasSpan, words_plan}

no_words : (n : ℕ) → list_any (λ w. not (eqb w 0)) (replicate n 0) ≡ false
no_words zero = refl
no_words (suc n) = no_words n

-- a state that is made of so many words has nothing after them
plain_state : (fields : ℕ) (words : List ℕ) → length words ≤ fields → is_stray fields (state_of words) ≡ false
plain_state fields words few =
    let zeros : List ℕ = replicate (8 - length words) 0 in
    let more : fields ≡ length words + (fields - length words) = omega (arith, few) in
    let behind : drop fields (words ++ zeros) ≡ replicate (8 - length words - (fields - length words)) 0 =
    ap (λ k. drop k (words ++ zeros)) more ∙ drop-append-add words zeros (fields - length words) ∙ drop-replicate (fields - length words) (8 - length words) 0 in
    ap (list_any (λ w. not (eqb w 0))) behind ∙ no_words (8 - length words - (fields - length words))

-- and so in all of them
plain_states : (fields nodes : ℕ) (words : List ℕ) → list_any (is_stray fields) (states_of fields nodes words) ≡ false
plain_states fields nodes words =
    list_any_none (is_stray fields) (states_of fields nodes words) (λ u d inside.
    let f = λ (v : ℕ). state_of (node_words fields words v) in
    let low : u < nodes = omega (arith, inside, length-map-range_with_len f 0 nodes) in
    let short : length (node_words fields words u) ≤ fields = omega (arith, length-take fields (drop (u * fields) words)) in
    ap (is_stray fields) (get_or-map-range_with_len f 0 nodes u u d low (zero-add u)) ∙ plain_state fields (node_words fields words u) short)

-- there is a plan that opens with them
pub plan_there : (program : Rules) (rows : Neighbours) (words : List ℕ) (start : ℕ) → 1 ≤ length rows → start ≤ most_rounds
    → start_of program rows (states_of (length program.fields) (length rows) words) start ≡ Ok (words_plan program rows words start)
plan_there program rows words start some early =
    let fields = length program.fields in
    let opening = states_of fields (length rows) words in
    let count : length opening ≡ length rows = length-map-range_with_len (λ u. state_of (node_words fields words u)) 0 (length rows) in
    let node : eqb (length rows) 0 ≡ false = grind (arith, nat_tests) in
    let each : not (eqb (length opening) (length rows)) ≡ false = grind (arith, nat_tests) in
    let plain : list_any (is_stray fields) opening ≡ false = plain_states fields (length rows) words in
    let within : nat_lt most_rounds start ≡ false = grind (arith, nat_tests) in
    rw (node, each, plain, within) refl

-- and it has the round
pub round_there : (p : PlanView) (t : ℕ) → p.start ≤ t → t ≤ most_rounds → rounds_of p t ≡ Ok (lockstep_config p t)
round_there p t late few =
    let within : nat_lt most_rounds t ≡ false = grind (arith, nat_tests) in
    let after : nat_lt t p.start ≡ false = grind (arith, nat_tests) in
    rw (within, after) refl

-- whose states are as many as there are nodes
pub round_count : (p : PlanView) (t n : ℕ) (states : List State) → states ≡ lockstep_states p t n → length states ≡ n
round_count p t n states is = ap length is ∙ length-map-range_with_len (lockstep p t) 0 n

-- the weights, where none are given and where some are
pub no_weights : (neighbours weights : List ℕ) → length weights ≡ 0 → given_weights neighbours weights ≡ replicate (length neighbours) 1
no_weights neighbours [] none = refl
no_weights neighbours (w ∷ weights) none = absurd (omega (arith, none))

pub some_weights : (neighbours weights : List ℕ) → 0 < length weights → given_weights neighbours weights ≡ weights
some_weights neighbours [] some = absurd (omega (arith, some))
some_weights neighbours (w ∷ weights) some = refl

-- each plan that starts there has the round
pub span_there : (start t : ℕ) → start ≤ t → t ≤ most_rounds → HasSpan start t
span_there start t late there = λ p same. (lockstep_config p t, round_there p t (omega (arith, same, late)) there)

-- states of as many nodes as there are rows, and as many fields as the program has
pub as_opening : (program : Rules) (rows : Neighbours) (words : List ℕ) (f n : ℕ) (opening : List State) → opening ≡ states_of f n words → f ≡ length program.fields → n ≡ length rows
    → opening ≡ states_of (length program.fields) (length rows) words
as_opening program rows words f n opening is fields nodes = is ∙ ap (λ (k : ℕ). states_of k n words) fields ∙ ap (λ (k : ℕ). states_of (length program.fields) k words) nodes
