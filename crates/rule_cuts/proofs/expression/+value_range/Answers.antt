use Rattle.std.specs.Prelude.{ℕ, ◌≡◌, ◌≤◌, ◌⊎◌, List, map}
use Rattle.std.proofs.Common.{ap, arith, get_or, inl, inr, string_bytes, sym, subst}
use Rattle.std.proofs.lemmas.List.{length-map}
use Rattle.std.proofs.lemmas.List.Elements.{All-map}
use Rattle.rule_lang.specs.declared.tree.Expr.{Expr}
use Rattle.rule_lang.specs.Tree.{Tree, OwnTree, NearTree}
use Rattle.rule_lang.specs.View.{tree_of}
use Rattle.rule_check.specs.Table.{M}
use Rattle.rule_check.specs.declared.state.Near.{Near}
use Rattle.rule_check.specs.declared.state.State.{State}
use Rattle.rule_check.specs.Value.{Here, names_of, place, value, word}
use Rattle.rule_ranges.specs.Ranges.{IsWithin}
use Rattle.rule_cuts.specs.Bounded.{HoldsWithin}
use Rattle.rule_cuts.proofs.Gathered.{gather_word, operate_word}
use Rattle.rule_cuts.proofs.expression.+value_range.Goals as goal

pub returns-in-Infix-clause-word : goal.returns-in-Infix-clause-word
returns-in-Infix-clause-word t c = λ here near inside beside.
    let left = c.in-Infix.left.value in
    let right = c.in-Infix.right.value in
    subst (λ (e : Expr). value here (tree_of e) near ≤ M) (sym c.in-Infix.is)
    (operate_word c.in-Infix.op (value here (tree_of left) near) (value here (tree_of right) near)
    (subst (λ (e : Expr). value here (tree_of e) near ≤ M) c.deref.ensures (c.value_range.ensures.word here near inside beside))
    (subst (λ (e : Expr). value here (tree_of e) near ≤ M) c.deref-in-Infix.ensures (c.value_range-in-Infix.ensures.word here near inside beside)))

pub returns-in-Over-clause-within : goal.returns-in-Over-clause-within
returns-in-Over-clause-within t c = λ here near inside beside.
    let body = c.in-Over.part.value in
    let range = c.value_range-in-Over.result in
    subst (λ (e : Expr). IsWithin c.gathered_range.result (value here (tree_of e) near)) (sym c.in-Over.is)
    (c.gathered_range.ensures.within (map (value here (tree_of body)) here.nears)
    (omega (arith, length-map here.nears (value here (tree_of body)), inside.few))
    (All-map (IsWithin range) (value here (tree_of body)) here.nears
    (λ k d within. subst (λ (e : Expr). IsWithin range (value here (tree_of e) (get_or here.nears k d))) c.deref-in-Over.ensures (c.value_range-in-Over.ensures.within here _ inside (inside.nears k d within)))))

pub returns-in-Over-clause-word : goal.returns-in-Over-clause-word
returns-in-Over-clause-word t c = λ here near inside beside.
    let body = c.in-Over.part.value in
    subst (λ (e : Expr). value here (tree_of e) near ≤ M) (sym c.in-Over.is)
    (gather_word c.in-Over.agg (map (value here (tree_of body)) here.nears)
    (omega (arith, length-map here.nears (value here (tree_of body)), inside.few))
    (All-map (λ v. v ≤ M) (value here (tree_of body)) here.nears
    (λ k d within. subst (λ (e : Expr). value here (tree_of e) (get_or here.nears k d) ≤ M) c.deref-in-Over.ensures (c.value_range-in-Over.ensures.word here _ inside (inside.nears k d within)))))

-- a field's value, of the node or of a neighbour
as_trees : (e own beside : Expr) → ((e ≡ own) ⊎ (e ≡ beside)) → (tree_of e ≡ tree_of own) ⊎ (tree_of e ≡ tree_of beside)
as_trees e own beside (inl is) = inl (ap tree_of is)
as_trees e own beside (inr is) = inr (ap tree_of is)

own_or_near : (P : ℕ → Type 0) (here : Here) (near : Near) (e : Tree) (name : List ℕ) → P (word here.names here.own name) → P (word here.names near.state name)
    → ((e ≡ OwnTree name) ⊎ (e ≡ NearTree name)) → P (value here e near)
own_or_near P here near e name own beside (inl is) = subst (λ (e : Tree). P (value here e near)) (sym is) own
own_or_near P here near e name own beside (inr is) = subst (λ (e : Tree). P (value here e near)) (sym is) beside

pub returns-in-Own : goal.returns-in-Own
returns-in-Own t c =
    let limits = c.args.limits.now in
    let name = string_bytes c.in-Own.name in
    let range = c.field_range.result in
    let form = as_trees c.args.expr.now (Expr.Own c.in-Own.name) (Expr.Near c.in-Own.name) c.in-Own.is in
    let lies : (here : Here) (state : State) → here.names ≡ names_of limits.program.now → HoldsWithin limits state → IsWithin range (word here.names state name) =
    λ here state names holds.
    subst (λ (ns : List (List ℕ)). IsWithin range (word ns state name)) (sym names)
    (subst (λ (n : List ℕ). IsWithin range (word (names_of limits.program.now) state n)) c.as_str.ensures.value (c.field_range.ensures.within state holds.ranges.within)) in
    record {
      within = λ here near inside beside.
          own_or_near (IsWithin range) here near (tree_of c.args.expr.now) name (lies here here.own inside.names inside.words) (lies here near.state inside.names beside.words) form;
      word = λ here near inside beside.
          own_or_near (λ v. v ≤ M) here near (tree_of c.args.expr.now) name (inside.words.values (place here.names name)) (beside.words.values (place here.names name)) form;
    }
