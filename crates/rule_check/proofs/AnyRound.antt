-- The number of the round plays no part where it is not read.
use Rattle.std.proofs.Common.{◌≡◌, ℕ, List, [], ◌∷◌, length, refl, ap, ◌∙◌, None, Some}
use Rattle.std.specs.Prelude.{Bool, true, false, ◌||◌, if◌then◌else◌, Option}
use Rattle.std.specs.List.{list_any}
use Rattle.std.specs.Str.{bytes_eq}
use Rattle.std.specs.Option.{option_map_or, option_or}
use Rattle.rule_lang.specs.Tree.{Tree, NumberTree, OwnTree, IdTree, DegreeTree, RoundTree, NearTree, NearIdTree, NearWeightTree, InfixTree, NotTree, OverTree, ChoiceTree}
use Rattle.rule_check.specs.declared.state.State.{State}
use Rattle.rule_check.specs.declared.state.Near.{Near}
use Rattle.rule_check.specs.Table.{operate, gather}
use Rattle.rule_check.specs.Machine.{negated, picked}
use Rattle.rule_check.specs.Value.{Rules, Next, Here, here_at, alone, value, names_of, cleared, body_for, next_word, next_state}
use Rattle.rule_check.specs.Rounds.{names_round, reads_round}
use Rattle.rule_check.proofs.Booleans.{neither}
use Rattle.rule_check.proofs.Lists.{map_same}
use Rattle.rule_check.proofs.Programs.{state_from}
use Rattle.rule_check.proofs.Written.{updated_same}

-- an expression without `round` has one value in all rounds
value-any_round : (here : Here) (round : ℕ) (e : Tree) → names_round e ≡ false → (near : Near) → value here e near ≡ value (record here { round = round }) e near
value-any_round here round (NumberTree n) h near = refl
value-any_round here round (OwnTree name) h near = refl
value-any_round here round IdTree h near = refl
value-any_round here round DegreeTree h near = refl
value-any_round here round RoundTree h near = cc
value-any_round here round (NearTree name) h near = refl
value-any_round here round NearIdTree h near = refl
value-any_round here round NearWeightTree h near = refl
value-any_round here round (InfixTree op a b) h near =
    let there = record here { round = round } in
    let n = neither (names_round a) (names_round b) h in
    ap (λ x. operate op x (value here b near)) (value-any_round here round a n.0 near)
    ∙ ap (operate op (value there a near)) (value-any_round here round b n.1 near)
value-any_round here round (NotTree e) h near = ap negated (value-any_round here round e h near)
value-any_round here round (OverTree agg e) h near =
    ap (gather agg) (map_same (value here e) (value (record here { round = round }) e) here.nears (value-any_round here round e h))
value-any_round here round (ChoiceTree a b c) h near =
    let there = record here { round = round } in
    let n = neither (names_round a) (names_round b || names_round c) h in
    let m = neither (names_round b) (names_round c) n.1 in
    ap (λ x. picked x (value here b near) (value here c near)) (value-any_round here round a n.0 near)
    ∙ ap (λ y. picked (value there a near) y (value here c near)) (value-any_round here round b m.0 near)
    ∙ ap (picked (value there a near) (value there b near)) (value-any_round here round c m.1 near)

-- two ways to value one expression more
one_more : (f g : Tree → ℕ) (o : Option Tree) (b : Bool) (e : Tree) (w : ℕ) → option_map_or f o w ≡ option_map_or g o w → f e ≡ g e → option_map_or f (option_or o (if b then Some e else None)) w ≡ option_map_or g (option_or o (if b then Some e else None)) w
one_more f g None true e w others same = same
one_more f g None false e w others same = refl
one_more f g (Some d) b e w others same = others

-- nor has a field's expression
body-any_round : (here : Here) (round : ℕ) (near : Near) (nexts : List Next) → list_any (λ n. names_round n.body) nexts ≡ false → (name : List ℕ) (w : ℕ) → option_map_or (λ body. value here body near) (body_for nexts name) w ≡ option_map_or (λ body. value (record here { round = round }) body near) (body_for nexts name) w
body-any_round here round near [] h name w = refl
body-any_round here round near (next ∷ nexts) h name w =
    let n = neither (names_round next.body) (list_any (λ n. names_round n.body) nexts) h in
    one_more (λ body. value here body near) (λ body. value (record here { round = round }) body near) (body_for nexts name) (bytes_eq name next.name) next.body w
    (body-any_round here round near nexts n.1 name w)
    (value-any_round here round next.body n.0 near)

-- the steps from two rounds lead to one state
pub next_state-any_round : (rules : Rules) (one other id : ℕ) (own : State) (nears : List Near) → reads_round rules ≡ false → next_state rules one id own nears ≡ next_state rules other id own nears
next_state-any_round rules one other id own nears h =
    let here = here_at rules one id (length nears) own nears in
    let there = here_at rules other id (length nears) own nears in
    ap state_from (updated_same (next_word rules here) (next_word rules there) (names_of rules) (cleared (length rules.fields) own.words) (body-any_round here other (alone id own) rules.nexts h))
