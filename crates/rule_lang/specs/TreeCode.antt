-- A tree is stored as its postfix spelling, from which it is built again; an item as its name, number and spelling.
use Rattle.std.specs.Prelude.{ℕ, zero, suc, ◌≡◌, List, [], ◌∷◌, ◌++◌, refl}
use Rattle.std.proofs.Common.{sym, ap, ◌∙◌, append_assoc, append-nil}
use Rattle.std.specs.Coded.{Coded, code_by, coded×, coded_list, coded_ℕ}
use Rattle.rule_lang.specs.declared.tree.Op.{Op}
use Rattle.rule_lang.specs.declared.tree.Op.TheVariants.{Plus, Minus, Times, Quot, Rem, BitAnd, BitOr, BitXor, Equal, Differ, Less, LessEq, Greater, GreaterEq, Min, Max}
use Rattle.rule_lang.specs.declared.tree.Agg.{Agg}
use Rattle.rule_lang.specs.declared.tree.Agg.TheVariants.{Total, Least, Most, Count, Some1, Every}
use Rattle.rule_lang.specs.Tree.{Tree, NumberTree, OwnTree, IdTree, DegreeTree, RoundTree, NearTree, NearIdTree, NearWeightTree, InfixTree, NotTree, OverTree, ChoiceTree, ItemTree, FieldTree, NextTree}

-- operators and aggregates as numbers, and back
abbrev pub op_number : Op → ℕ
op_number Plus = 0
op_number Minus = 1
op_number Times = 2
op_number Quot = 3
op_number Rem = 4
op_number BitAnd = 5
op_number BitOr = 6
op_number BitXor = 7
op_number Equal = 8
op_number Differ = 9
op_number Less = 10
op_number LessEq = 11
op_number Greater = 12
op_number GreaterEq = 13
op_number Min = 14
op_number Max = 15

-- element k, or d
abbrev pub nth : {A : Type 0} → List A → ℕ → A → A
nth [] k d = d
nth (x ∷ xs) zero d = x
nth (x ∷ xs) (suc k) d = nth xs k d

abbrev pub numbered_op : ℕ → Op
numbered_op k = nth (Plus ∷ Minus ∷ Times ∷ Quot ∷ Rem ∷ BitAnd ∷ BitOr ∷ BitXor ∷ Equal ∷ Differ ∷ Less ∷ LessEq ∷ Greater ∷ GreaterEq ∷ Min ∷ Max ∷ []) k Plus

abbrev pub agg_number : Agg → ℕ
agg_number Total = 0
agg_number Least = 1
agg_number Most = 2
agg_number Count = 3
agg_number Some1 = 4
agg_number Every = 5

abbrev pub numbered_agg : ℕ → Agg
numbered_agg k = nth (Total ∷ Least ∷ Most ∷ Count ∷ Some1 ∷ Every ∷ []) k Total

op_again : (op : Op) → numbered_op (op_number op) ≡ op
op_again Plus = refl
op_again Minus = refl
op_again Times = refl
op_again Quot = refl
op_again Rem = refl
op_again BitAnd = refl
op_again BitOr = refl
op_again BitXor = refl
op_again Equal = refl
op_again Differ = refl
op_again Less = refl
op_again LessEq = refl
op_again Greater = refl
op_again GreaterEq = refl
op_again Min = refl
op_again Max = refl

agg_again : (agg : Agg) → numbered_agg (agg_number agg) ≡ agg
agg_again Total = refl
agg_again Least = refl
agg_again Most = refl
agg_again Count = refl
agg_again Some1 = refl
agg_again Every = refl

-- one word of a spelling: its kind, a number and a name
abbrev pub Word : Type 0
Word = ℕ × (ℕ × List ℕ)

-- a tree in postfix form
abbrev pub spelling : Tree → List Word
spelling (NumberTree n) = (0, (n, [])) ∷ []
spelling (OwnTree name) = (1, (0, name)) ∷ []
spelling IdTree = (2, (0, [])) ∷ []
spelling DegreeTree = (3, (0, [])) ∷ []
spelling RoundTree = (4, (0, [])) ∷ []
spelling (NearTree name) = (5, (0, name)) ∷ []
spelling NearIdTree = (6, (0, [])) ∷ []
spelling NearWeightTree = (7, (0, [])) ∷ []
spelling (InfixTree op a b) = spelling a ++ (spelling b ++ (8, (op_number op, [])) ∷ [])
spelling (NotTree e) = spelling e ++ (9, (0, [])) ∷ []
spelling (OverTree agg e) = spelling e ++ (10, (agg_number agg, [])) ∷ []
spelling (ChoiceTree a b c) = spelling a ++ (spelling b ++ (spelling c ++ (11, (0, [])) ∷ []))

-- the last one, two or three trees built, made one
abbrev pub on_tree : (Tree → Tree) → List Tree → List Tree
on_tree f [] = []
on_tree f (a ∷ ts) = f a ∷ ts

abbrev pub on_two_trees : (Tree → Tree → Tree) → List Tree → List Tree
on_two_trees f [] = []
on_two_trees f (b ∷ []) = []
on_two_trees f (b ∷ a ∷ ts) = f a b ∷ ts

abbrev pub on_three_trees : (Tree → Tree → Tree → Tree) → List Tree → List Tree
on_three_trees f [] = []
on_three_trees f (c ∷ []) = []
on_three_trees f (c ∷ b ∷ []) = []
on_three_trees f (c ∷ b ∷ a ∷ ts) = f a b c ∷ ts

-- one word read, over the trees built so far
abbrev pub build_word : ℕ → ℕ → List ℕ → List Tree → List Tree
build_word kind n name ts =
    nth ((NumberTree n ∷ ts) ∷ (OwnTree name ∷ ts) ∷ (IdTree ∷ ts) ∷ (DegreeTree ∷ ts) ∷ (RoundTree ∷ ts) ∷ (NearTree name ∷ ts) ∷ (NearIdTree ∷ ts) ∷ (NearWeightTree ∷ ts) ∷ on_two_trees (InfixTree (numbered_op n)) ts ∷ on_tree NotTree ts ∷ on_tree (OverTree (numbered_agg n)) ts ∷ on_three_trees ChoiceTree ts ∷ []) kind ts

-- all words read
abbrev pub build : List Word → List Tree → List Tree
build [] ts = ts
build (w ∷ ws) ts = build ws (build_word w.0 w.1.0 w.1.1 ts)

abbrev pub first_tree : List Tree → Tree
first_tree [] = IdTree
first_tree (t ∷ ts) = t

-- a spelling builds its tree
build-spelling : (t : Tree) (rest : List Word) (ts : List Tree) → build (spelling t ++ rest) ts ≡ build rest (t ∷ ts)
build-spelling (NumberTree n) rest ts = refl
build-spelling (OwnTree name) rest ts = refl
build-spelling IdTree rest ts = refl
build-spelling DegreeTree rest ts = refl
build-spelling RoundTree rest ts = refl
build-spelling (NearTree name) rest ts = refl
build-spelling NearIdTree rest ts = refl
build-spelling NearWeightTree rest ts = refl
build-spelling (InfixTree op a b) rest ts =
    ap (λ w. build w ts) (append_assoc (spelling a) (spelling b ++ (8, (op_number op, [])) ∷ []) rest)
    ∙ build-spelling a ((spelling b ++ (8, (op_number op, [])) ∷ []) ++ rest) ts
    ∙ ap (λ w. build w (a ∷ ts)) (append_assoc (spelling b) ((8, (op_number op, [])) ∷ []) rest)
    ∙ build-spelling b ((8, (op_number op, [])) ∷ rest) (a ∷ ts)
    ∙ ap (λ o. build rest (InfixTree o a b ∷ ts)) (op_again op)
build-spelling (NotTree e) rest ts =
    ap (λ w. build w ts) (append_assoc (spelling e) ((9, (0, [])) ∷ []) rest) ∙ build-spelling e ((9, (0, [])) ∷ rest) ts
build-spelling (OverTree agg e) rest ts =
    ap (λ w. build w ts) (append_assoc (spelling e) ((10, (agg_number agg, [])) ∷ []) rest)
    ∙ build-spelling e ((10, (agg_number agg, [])) ∷ rest) ts
    ∙ ap (λ g. build rest (OverTree g e ∷ ts)) (agg_again agg)
build-spelling (ChoiceTree a b c) rest ts =
    let last : List Word = (11, (0, [])) ∷ [] in
    ap (λ w. build w ts) (append_assoc (spelling a) (spelling b ++ (spelling c ++ last)) rest)
    ∙ build-spelling a ((spelling b ++ (spelling c ++ last)) ++ rest) ts
    ∙ ap (λ w. build w (a ∷ ts)) (append_assoc (spelling b) (spelling c ++ last) rest)
    ∙ build-spelling b ((spelling c ++ last) ++ rest) (a ∷ ts)
    ∙ ap (λ w. build w (b ∷ a ∷ ts)) (append_assoc (spelling c) last rest)
    ∙ build-spelling c (last ++ rest) (b ∷ a ∷ ts)

pub again : (t : Tree) → first_tree (build (spelling t) []) ≡ t
again t = ap (λ w. first_tree (build w [])) (sym (append-nil (spelling t))) ∙ ap first_tree (build-spelling t [] [])

abbrev pub coded_tree : Coded Tree
coded_tree = code_by (List Word) (coded_list (coded× coded_ℕ (coded× coded_ℕ (coded_list coded_ℕ)))) spelling (λ ws. first_tree (build ws [])) again

-- an item: its kind, its name, its number and the spelling of its expression
abbrev pub ItemWord : Type 0
ItemWord = ℕ × (List ℕ × (ℕ × List Word))

abbrev pub item_word : ItemTree → ItemWord
item_word (FieldTree name n) = (0, (name, (n, [])))
item_word (NextTree name body) = (1, (name, (0, spelling body)))

abbrev pub item_by_kind : ℕ → List ℕ → ℕ → List Word → ItemTree
item_by_kind zero name n ws = FieldTree name n
item_by_kind (suc k) name n ws = NextTree name (first_tree (build ws []))

abbrev pub word_item : ItemWord → ItemTree
word_item w = item_by_kind w.0 w.1.0 w.1.1.0 w.1.1.1

pub item_again : (i : ItemTree) → word_item (item_word i) ≡ i
item_again (FieldTree name n) = refl
item_again (NextTree name body) = ap (NextTree name) (again body)

abbrev pub coded_item : Coded ItemTree
coded_item = code_by ItemWord (coded× coded_ℕ (coded× (coded_list coded_ℕ) (coded× coded_ℕ (coded_list (coded× coded_ℕ (coded× coded_ℕ (coded_list coded_ℕ))))))) item_word word_item item_again
