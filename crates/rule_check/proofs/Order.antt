-- The order of the neighbours plays no part in the next state.
use Rattle.std.proofs.Common.{◌≡◌, ℕ, List, length, refl, sym, ap, ◌∙◌, map, Option, Some, None, IsPermutation}
use Rattle.std.specs.Option.{option_map_or}
use Rattle.std.proofs.lemmas.List.Sorted.{IsPermutation-map, length_permutation}
use Rattle.rule_lang.specs.Tree.{Tree, NumberTree, OwnTree, IdTree, DegreeTree, RoundTree, NearTree, NearIdTree, NearWeightTree, InfixTree, NotTree, OverTree, ChoiceTree}
use Rattle.rule_check.specs.declared.state.State.{State}
use Rattle.rule_check.specs.declared.state.Near.{Near}
use Rattle.rule_check.specs.Table.{operate, gather}
use Rattle.rule_check.specs.Machine.{negated, picked}
use Rattle.rule_check.specs.Value.{Rules, Here, here_at, alone, value, names_of, cleared, body_for, next_word, next_at, next_state}
use Rattle.rule_check.proofs.Gathers.{gather-permuted}
use Rattle.rule_check.proofs.Lists.{map_same}
use Rattle.rule_check.proofs.Written.{updated_same}

-- the value of an expression doesn't depend on the order of the neighbours
value-permuted : (here : Here) (nears : List Near) → IsPermutation here.nears nears → (e : Tree) (near : Near) → value here e near ≡ value (record here { nears = nears }) e near
value-permuted here nears moved (NumberTree n) near = refl
value-permuted here nears moved (OwnTree name) near = refl
value-permuted here nears moved IdTree near = refl
value-permuted here nears moved DegreeTree near = refl
value-permuted here nears moved RoundTree near = refl
value-permuted here nears moved (NearTree name) near = refl
value-permuted here nears moved NearIdTree near = refl
value-permuted here nears moved NearWeightTree near = refl
value-permuted here nears moved (InfixTree op a b) near =
    let there = record here { nears = nears } in
    ap (λ x. operate op x (value here b near)) (value-permuted here nears moved a near)
    ∙ ap (operate op (value there a near)) (value-permuted here nears moved b near)
value-permuted here nears moved (NotTree e) near = ap negated (value-permuted here nears moved e near)
value-permuted here nears moved (OverTree agg e) near =
    let there = record here { nears = nears } in
    ap (gather agg) (map_same (value here e) (value there e) here.nears (value-permuted here nears moved e))
    ∙ gather-permuted agg (map (value there e) here.nears) (map (value there e) nears) (IsPermutation-map (value there e) here.nears nears moved)
value-permuted here nears moved (ChoiceTree a b c) near =
    let there = record here { nears = nears } in
    ap (λ x. picked x (value here b near) (value here c near)) (value-permuted here nears moved a near)
    ∙ ap (λ y. picked (value there a near) y (value here c near)) (value-permuted here nears moved b near)
    ∙ ap (picked (value there a near) (value there b near)) (value-permuted here nears moved c near)

each_option : (f g : Tree → ℕ) (o : Option Tree) (w : ℕ) → ((e : Tree) → f e ≡ g e) → option_map_or f o w ≡ option_map_or g o w
each_option f g None w same = refl
each_option f g (Some e) w same = same e

abbrev state_from : List ℕ → State
state_from words = record { words = words }

-- permuted neighbours lead to one state
pub next_state-permuted : (rules : Rules) (round id : ℕ) (own : State) (xs ys : List Near) → IsPermutation xs ys → next_state rules round id own xs ≡ next_state rules round id own ys
next_state-permuted rules round id own xs ys moved =
    let here = here_at rules round id (length xs) own xs in
    let there = here_at rules round id (length xs) own ys in
    ap state_from (updated_same (next_word rules here) (next_word rules there) (names_of rules) (cleared (length rules.fields) own.words)
    (λ name w. each_option (λ body. value here body (alone id own)) (λ body. value there body (alone id own)) (body_for rules.nexts name) w (λ body. value-permuted here ys moved body (alone id own))))
    ∙ ap (λ degree. next_at rules (here_at rules round id degree own ys)) (sym (length_permutation xs ys moved))
