-- The value of an expression by its aggregates' values.
use Rattle.std.proofs.Common.{◌≡◌, ℕ, ◌+◌, List, [], ◌++◌, length, refl, sym, ap, ◌∙◌, append_assoc, drop, map, add-zero}
use Rattle.std.specs.Prelude.{slice_index}
use Rattle.rule_lang.specs.Tree.{Tree, NumberTree, OwnTree, IdTree, DegreeTree, RoundTree, NearTree, NearIdTree, NearWeightTree, InfixTree, NotTree, OverTree, ChoiceTree}
use Rattle.rule_check.specs.Value.{parts, Here, value, gathered_at}
use Rattle.rule_check.specs.Machine.{frame, negated, picked}
use Rattle.rule_check.specs.Code.{value_with}
use Rattle.std.proofs.lemmas.List.{map-append, get_or-drop}
use Rattle.rule_check.specs.declared.state.Near.{Near}
use Rattle.rule_check.specs.Table.{operate}
use Rattle.rule_check.proofs.Lists.{map_length, seam}

-- an expression has its value where its aggregates' values stand at number k
pub value_is_with : (here : Here) (near : Near) (e : Tree) (k : ℕ) (sums rest : List ℕ) → drop k sums ≡ map (gathered_at here) (parts e) ++ rest → value here e near ≡ value_with here.names (frame here.id here.degree here.round here.own near sums) e k
value_is_with here near (NumberTree n) k sums rest h = refl
value_is_with here near (OwnTree name) k sums rest h = refl
value_is_with here near IdTree k sums rest h = refl
value_is_with here near DegreeTree k sums rest h = refl
value_is_with here near RoundTree k sums rest h = refl
value_is_with here near (NearTree name) k sums rest h = refl
value_is_with here near NearIdTree k sums rest h = refl
value_is_with here near NearWeightTree k sums rest h = refl
value_is_with here near (InfixTree op a b) k sums rest h =
    let f = gathered_at here in
    let split : drop k sums ≡ map f (parts a) ++ (map f (parts b) ++ rest) = h ∙ ap (λ m. m ++ rest) (map-append f (parts a) (parts b)) ∙ append_assoc (map f (parts a)) (map f (parts b)) rest in
    let at_b = seam (map f (parts a)) (map f (parts b) ++ rest) sums (length (parts a)) k (map_length f (parts a)) split in
    let va = value_is_with here near a k sums (map f (parts b) ++ rest) split in
    let vb = value_is_with here near b (k + length (parts a)) sums rest at_b in
    ap (λ x. operate op x (value here b near)) va ∙ ap (λ y. operate op (value_with here.names (frame here.id here.degree here.round here.own near sums) a k) y) vb
value_is_with here near (NotTree e) k sums rest h = ap negated (value_is_with here near e k sums rest h)
value_is_with here near (OverTree agg e) k sums rest h =
    ap (λ s. slice_index s 0) (sym h) ∙ get_or-drop k sums 0 0 ∙ ap (λ n. slice_index sums n) (add-zero k)
value_is_with here near (ChoiceTree a b c) k sums rest h =
    let f = gathered_at here in
    let frame' = frame here.id here.degree here.round here.own near sums in
    let split : drop k sums ≡ map f (parts a) ++ (map f (parts b ++ parts c) ++ rest) = h ∙ ap (λ m. m ++ rest) (map-append f (parts a) (parts b ++ parts c)) ∙ append_assoc (map f (parts a)) (map f (parts b ++ parts c)) rest in
    let at_b = seam (map f (parts a)) (map f (parts b ++ parts c) ++ rest) sums (length (parts a)) k (map_length f (parts a)) split in
    let split_b : drop (k + length (parts a)) sums ≡ map f (parts b) ++ (map f (parts c) ++ rest) = at_b ∙ ap (λ m. m ++ rest) (map-append f (parts b) (parts c)) ∙ append_assoc (map f (parts b)) (map f (parts c)) rest in
    let at_c = seam (map f (parts b)) (map f (parts c) ++ rest) sums (length (parts b)) (k + length (parts a)) (map_length f (parts b)) split_b in
    let va = value_is_with here near a k sums (map f (parts b ++ parts c) ++ rest) split in
    let vb = value_is_with here near b (k + length (parts a)) sums (map f (parts c) ++ rest) split_b in
    let vc = value_is_with here near c (k + length (parts a) + length (parts b)) sums rest at_c in
    ap (λ x. picked x (value here b near) (value here c near)) va
    ∙ ap (λ y. picked (value_with here.names frame' a k) y (value here c near)) vb
    ∙ ap (λ z. picked (value_with here.names frame' a k) (value_with here.names frame' b (k + length (parts a))) z) vc

-- what an expression without aggregates is at a neighbour doesn't depend on the other neighbours
pub value_apart : (here : Here) (nears : List Near) (near : Near) (e : Tree) → parts e ≡ [] → value (record here { nears = nears }) e near ≡ value here e near
value_apart here nears near e none =
    value_is_with (record here { nears = nears }) near e 0 [] [] (ap (λ ps. map (gathered_at (record here { nears = nears })) ps ++ []) (sym none))
    ∙ sym (value_is_with here near e 0 [] [] (ap (λ ps. map (gathered_at here) ps ++ []) (sym none)))
