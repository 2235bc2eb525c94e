-- No aggregate stands in an aggregate.
use Rattle.std.proofs.Common.{◌≡◌, List, [], ◌∷◌, ◌++◌, length, refl, arith}
use Rattle.std.specs.Prelude.{false, ◌||◌, nat_lt}
use Rattle.rule_check.specs.WellFormed.{nests, all_parts}
use Rattle.rule_lang.specs.Tree.{Tree, NumberTree, OwnTree, IdTree, DegreeTree, RoundTree, NearTree, NearIdTree, NearWeightTree, InfixTree, NotTree, OverTree, ChoiceTree}
use Rattle.rule_check.specs.Value.{parts, Next, Part}
use Rattle.std.specs.List.{list_any, AllByRecursion}
use Rattle.std.proofs.lemmas.Bool.{ltb-false}
use Rattle.rule_check.proofs.Lists.{all_append}
use Rattle.rule_check.proofs.Booleans.{neither}

-- no aggregate stands in an aggregate
abbrev pub IsFlat : Part → Type 0
IsFlat part = parts part.body ≡ []

-- nor in any of these
abbrev pub AreFlat : List Part → Type 0
AreFlat ps = AllByRecursion IsFlat ps

-- an expression without aggregates
pub none_from_length : (ps : List Part) → nat_lt 0 (length ps) ≡ false → ps ≡ []
none_from_length [] h = refl
none_from_length (x ∷ xs) h = absurd (omega (arith, ltb-false 0 (length (x ∷ xs)) h))

-- the aggregates of an expression that nests none
flat_from_nests : (e : Tree) → nests e ≡ false → AreFlat (parts e)
flat_from_nests (NumberTree n) h = tt
flat_from_nests (OwnTree name) h = tt
flat_from_nests IdTree h = tt
flat_from_nests DegreeTree h = tt
flat_from_nests RoundTree h = tt
flat_from_nests (NearTree name) h = tt
flat_from_nests NearIdTree h = tt
flat_from_nests NearWeightTree h = tt
flat_from_nests (InfixTree op a b) h =
    let n = neither (nests a) (nests b) h in all_append IsFlat (parts a) (parts b) (flat_from_nests a n.0) (flat_from_nests b n.1)
flat_from_nests (NotTree e) h = flat_from_nests e h
flat_from_nests (OverTree agg e) h = (none_from_length (parts e) h, tt)
flat_from_nests (ChoiceTree a b c) h =
    let n = neither (nests a) (nests b || nests c) h in
    let m = neither (nests b) (nests c) n.1 in
    all_append IsFlat (parts a) (parts b ++ parts c) (flat_from_nests a n.0) (all_append IsFlat (parts b) (parts c) (flat_from_nests b m.0) (flat_from_nests c m.1))

-- and of all expressions
pub flat_from_all : (nexts : List Next) → list_any (λ n. nests n.body) nexts ≡ false → AreFlat (all_parts nexts)
flat_from_all [] h = tt
flat_from_all (n ∷ ns) h =
    let g = neither (nests n.body) (list_any (λ n. nests n.body) ns) h in
    all_append IsFlat (parts n.body) (all_parts ns) (flat_from_nests n.body g.0) (flat_from_all ns g.1)
