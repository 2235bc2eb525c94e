-- What the searches for the first next item with a property find.
use Rattle.std.proofs.Common.{◌≡◌, ℕ, ◌+◌, ◌<◌, List, [], ◌∷◌, ◌++◌, length, zero, suc, Option, Some, None, is_some, IsSomeAnd, slice_get, get_or, drop, refl, sym, ap, ◌∙◌, subst, arith, add-one, cond, not, find, Bor}
use Rattle.std.specs.Prelude.{Bool, true, false, ◌||◌}
use Rattle.std.specs.Option.{option_or, option_copied}
use Rattle.std.specs.List.{list_any, position_from}
use Rattle.std.proofs.lemmas.List.Folds.{find-append}
use Rattle.rule_lang.specs.declared.tree.Item.{Item}
use Rattle.rule_lang.specs.Tree.{Tree, NumberTree, OwnTree, IdTree, DegreeTree, RoundTree, NearTree, NearIdTree, NearWeightTree, InfixTree, NotTree, OverTree, ChoiceTree, ItemTree, FieldTree, NextTree}
use Rattle.rule_lang.specs.View.{item_of, items_of}
use Rattle.rule_check.specs.Value.{Next}
use Rattle.rule_check.specs.WellFormed.{is_among, names_unknown}
use Rattle.rule_check.specs.Items.{nexts_of}
use Rattle.rule_check.specs.Causes.{is_next, is_foreign, names_in, first_foreign}

some_step : (b : Bool) (k : ℕ) (o : Option ℕ) → is_some (cond b (Some k) o) ≡ (b || is_some o)
some_step true k o = refl
some_step false k o = refl

-- there is a first next item with a property where some next item has it
pub any_next : (property : Next → Bool) (k : ℕ) (items : List ItemTree) → is_some (position_from (is_next property) k items) ≡ list_any property (nexts_of items)
any_next property k [] = refl
any_next property k (FieldTree name value ∷ items) = any_next property (k + 1) items
any_next property k (NextTree name body ∷ items) =
    some_step (property (record { name = name; body = body })) k (position_from (is_next property) (k + 1) items)
    ∙ ap (λ b. property (record { name = name; body = body }) || b) (any_next property (k + 1) items)

-- an element that passes, by its distance from the first place
record Passing {X : Type 0} (test : X → Bool) (i : ℕ) (xs : List X) (k : ℕ) : Type 0 where
  past : ℕ
  place : i + past ≡ k
  within : past < length xs
  passes : IsSomeAnd (slice_get xs past) (λ x. test x ≡ true)

passing_by : {X : Type 0} (test : X → Bool) (i : ℕ) (x : X) (xs : List X) (k : ℕ) (b : Bool) → test x ≡ b → cond b (Some i) (position_from test (i + 1) xs) ≡ Some k → (position_from test (i + 1) xs ≡ Some k → Passing test (i + 1) xs k) → Passing test i (x ∷ xs) k
passing_by test i x xs k true is e later =
    let same : i ≡ k = cc in
    record { past = zero; place = omega arith; within = omega arith; passes = is }
passing_by test i x xs k false is e later =
    let h : Passing test (i + 1) xs k = later e in
    record { past = suc h.past; place = omega arith; within = omega arith; passes = h.passes }

passing : {X : Type 0} (test : X → Bool) (i : ℕ) (xs : List X) (k : ℕ) → position_from test i xs ≡ Some k → Passing test i xs k
passing test i [] k e = absurd (cc)
passing test i (x ∷ xs) k e = passing_by test i x xs k (test x) refl e (passing test (i + 1) xs k)

-- the element that is found passes the test
pub record Found {X : Type 0} (test : X → Bool) (xs : List X) (k : ℕ) : Type 0 where
  pub within : k < length xs
  pub passes : IsSomeAnd (slice_get xs k) (λ x. test x ≡ true)

pub found : {X : Type 0} (test : X → Bool) (xs : List X) (k : ℕ) → position_from test 0 xs ≡ Some k → Found test xs k
found test xs k e =
    let h : Passing test 0 xs k = passing test 0 xs k e in
    let same : h.past ≡ k = omega arith in
    record { within = omega arith; passes = subst (λ j. IsSomeAnd (slice_get xs j) (λ x. test x ≡ true)) same h.passes }

-- an item as a tree, at its place
pub tree_at : (items : List Item) (k : ℕ) (d : Item) → k < length items → slice_get (items_of items) k ≡ Some (item_of (get_or items k d))
tree_at [] k d h = absurd (omega arith)
tree_at (item ∷ items) zero d h = refl
tree_at (item ∷ items) (suc k) d h = tree_at items k d (omega arith)

-- as many trees as items
pub tree_count : (items : List Item) → length (items_of items) ≡ length items
tree_count [] = refl
tree_count (item ∷ items) = ap suc (tree_count items)

dropped : {X : Type 0} (xs : List X) (k : ℕ) (x : X) → slice_get xs k ≡ Some x → drop k xs ≡ x ∷ drop (suc k) xs
dropped [] k x e = cc
dropped (y ∷ xs) zero x e = let same : y ≡ x = cc in ap (λ z. z ∷ xs) same
dropped (y ∷ xs) (suc k) x e = dropped xs k x e

-- what is left of a list begins with the element at its place
pub drop_at_place : {X : Type 0} (xs : List X) (k : ℕ) (x : X) → slice_get xs k ≡ Some x → drop k xs ≡ x ∷ drop (k + 1) xs
drop_at_place xs k x e = dropped xs k x e ∙ ap (λ j. x ∷ drop j xs) (sym (add-one k))

copied_or : (x y : Option (Bor (List ℕ))) → option_copied (option_or x y) ≡ option_or (option_copied x) (option_copied y)
copied_or None y = refl
copied_or (Some x) y = refl

-- a foreign name in two parts is looked for in the first, then in the second
pub foreign_of_two : (names xs ys : List (List ℕ)) (x y both : Option (Bor (List ℕ))) → both ≡ option_or x y → option_copied x ≡ find (is_foreign names) xs → option_copied y ≡ find (is_foreign names) ys → option_copied both ≡ find (is_foreign names) (xs ++ ys)
foreign_of_two names xs ys x y both is of_xs of_ys =
    ap option_copied is
    ∙ copied_or x y
    ∙ ap (λ o. option_or o (option_copied y)) of_xs
    ∙ ap (option_or (find (is_foreign names) xs)) of_ys
    ∙ sym (find-append (is_foreign names) xs ys)

some_or : (x y : Option (List ℕ)) → is_some (option_or x y) ≡ (is_some x || is_some y)
some_or None y = refl
some_or (Some x) y = refl

some_where : (b : Bool) (name : List ℕ) → is_some (cond b (Some name) None) ≡ b
some_where true name = refl
some_where false name = refl

foreign_in_two : (names xs ys : List (List ℕ)) (a b : Bool) → is_some (find (is_foreign names) xs) ≡ a → is_some (find (is_foreign names) ys) ≡ b → is_some (find (is_foreign names) (xs ++ ys)) ≡ (a || b)
foreign_in_two names xs ys a b of_xs of_ys =
    ap is_some (find-append (is_foreign names) xs ys)
    ∙ some_or (find (is_foreign names) xs) (find (is_foreign names) ys)
    ∙ ap (λ t. t || is_some (find (is_foreign names) ys)) of_xs
    ∙ ap (λ t. a || t) of_ys

-- an expression has a first foreign name where it has some
pub some_foreign : (names : List (List ℕ)) (e : Tree) → is_some (first_foreign names e) ≡ names_unknown names e
some_foreign names (NumberTree n) = refl
some_foreign names (OwnTree name) = some_where (not (is_among names name)) name
some_foreign names IdTree = refl
some_foreign names DegreeTree = refl
some_foreign names RoundTree = refl
some_foreign names (NearTree name) = some_where (not (is_among names name)) name
some_foreign names NearIdTree = refl
some_foreign names NearWeightTree = refl
some_foreign names (InfixTree op a b) =
    foreign_in_two names (names_in a) (names_in b) (names_unknown names a) (names_unknown names b) (some_foreign names a) (some_foreign names b)
some_foreign names (NotTree e) = some_foreign names e
some_foreign names (OverTree agg e) = some_foreign names e
some_foreign names (ChoiceTree a b c) =
    foreign_in_two names (names_in a) (names_in b ++ names_in c) (names_unknown names a) (names_unknown names b || names_unknown names c) (some_foreign names a)
    (foreign_in_two names (names_in b) (names_in c) (names_unknown names b) (names_unknown names c) (some_foreign names b) (some_foreign names c))
