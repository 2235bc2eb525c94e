-- The products and totals of a program stand in its text in their order.
use Rattle.std.proofs.Common.{◌≡◌, ◌≢◌, ℕ, List, [], ◌∷◌, ◌++◌, map, refl, sym, ap, ◌∙◌, true, false}
use Rattle.std.specs.Prelude.{Bool, codes, flat_map, if◌then◌else◌}
use Rattle.std.specs.List.{AllByRecursion}
use Rattle.std.specs.Str.{bytes_eq}
use Rattle.std.proofs.lemmas.List.{append-nil, map-append}
use Rattle.std.proofs.lemmas.Grind.{flat_map-append}
use Rattle.std.proofs.lemmas.Slice.Eq.{bytes_eq-Decides}
use Rattle.rule_lang.specs.declared.tree.Op.{Op}
use Rattle.rule_lang.specs.declared.tree.Op.TheVariants.{Plus, Minus, Times, Quot, Rem, BitAnd, BitOr, BitXor, Equal, Differ, Less, LessEq, Greater, GreaterEq, Min, Max}
use Rattle.rule_lang.specs.declared.tree.Agg.{Agg}
use Rattle.rule_lang.specs.declared.tree.Agg.TheVariants as agg
use Rattle.rule_lang.specs.declared.token.Sign.TheVariants as sign
use Rattle.rule_lang.specs.Tokens.{Tok, WordTok, SignTok}
use Rattle.rule_lang.specs.Tree.{Tree, NumberTree, OwnTree, IdTree, DegreeTree, RoundTree, NearTree, NearIdTree, NearWeightTree, InfixTree, NotTree, OverTree, ChoiceTree, ItemTree, FieldTree, NextTree, HasTree, HasNames, IsItem, IsName, spell, spell_item, op_token, agg_word}
use Rattle.rule_cuts.specs.Operations.{OperationTree, operations, infix_operations, aggregate_operations, operations_of}
use Rattle.rule_cuts.specs.Places.{Kind, IsTotal, kind_of, token_kinds}

-- the kinds of operations, and those of tokens
abbrev kinds : List OperationTree → List Kind
kinds os = map kind_of os

abbrev shown : List Tok → List Kind
shown ts = flat_map token_kinds ts

joined : (xs ys : List Tok) → shown (xs ++ ys) ≡ shown xs ++ shown ys
joined xs ys = flat_map-append token_kinds xs ys

different : (w r : List ℕ) → w ≢ r → bytes_eq w r ≡ false
different w r apart = elim (bytes_eq w r) as (λ b. bytes_eq w r ≡ b → b ≡ false) [ true ↦ (λ same. absurd (apart ((bytes_eq-Decides w r).0 same))) | false ↦ (λ same. refl) ] refl

-- a name is no `total`
name_none : (w : List ℕ) → IsName w → token_kinds (WordTok w) ≡ []
name_none w name = ap (λ (b : Bool). if b then IsTotal ∷ [] else []) (different w (codes "total") name.1.1.1.1.1.1.1.0)

one_infix : (op : Op) (a b : Tree) → token_kinds (op_token op) ≡ kinds (infix_operations op a b)
one_infix Plus a b = refl
one_infix Minus a b = refl
one_infix Times a b = refl
one_infix Quot a b = refl
one_infix Rem a b = refl
one_infix BitAnd a b = refl
one_infix BitOr a b = refl
one_infix BitXor a b = refl
one_infix Equal a b = refl
one_infix Differ a b = refl
one_infix Less a b = refl
one_infix LessEq a b = refl
one_infix Greater a b = refl
one_infix GreaterEq a b = refl
one_infix Min a b = refl
one_infix Max a b = refl

one_aggregate : (g : Agg) (e : Tree) → token_kinds (WordTok (agg_word g)) ≡ kinds (aggregate_operations g e)
one_aggregate agg.Total e = refl
one_aggregate agg.Least e = refl
one_aggregate agg.Most e = refl
one_aggregate agg.Count e = refl
one_aggregate agg.Some1 e = refl
one_aggregate agg.Every e = refl

-- those of an expression
in_tree : (e : Tree) → HasNames e → shown (spell e) ≡ kinds (operations e)
in_tree (NumberTree n) names = refl
in_tree (OwnTree name) names = ap (λ (ks : List Kind). ks ++ []) (name_none name names)
in_tree IdTree names = refl
in_tree DegreeTree names = refl
in_tree RoundTree names = refl
in_tree (NearTree name) names = refl
in_tree NearIdTree names = refl
in_tree NearWeightTree names = refl
in_tree (InfixTree op a b) names =
    joined (spell a) (op_token op ∷ (spell b ++ SignTok sign.Close ∷ []))
    ∙ ap (λ (ks : List Kind). shown (spell a) ++ (token_kinds (op_token op) ++ ks)) (joined (spell b) (SignTok sign.Close ∷ []) ∙ append-nil (shown (spell b)))
    ∙ ap (λ (ks : List Kind). ks ++ (token_kinds (op_token op) ++ shown (spell b))) (in_tree a names.0)
    ∙ ap (λ (ks : List Kind). kinds (operations a) ++ (ks ++ shown (spell b))) (one_infix op a b)
    ∙ ap (λ (ks : List Kind). kinds (operations a) ++ (kinds (infix_operations op a b) ++ ks)) (in_tree b names.1)
    ∙ ap (λ (ks : List Kind). kinds (operations a) ++ ks) (sym (map-append kind_of (infix_operations op a b) (operations b)))
    ∙ sym (map-append kind_of (operations a) (infix_operations op a b ++ operations b))
in_tree (NotTree a) names = in_tree a names
in_tree (OverTree g a) names =
    ap (λ (ks : List Kind). ks ++ shown (spell a)) (one_aggregate g a)
    ∙ ap (λ (ks : List Kind). kinds (aggregate_operations g a) ++ ks) (in_tree a names)
    ∙ sym (map-append kind_of (aggregate_operations g a) (operations a))
in_tree (ChoiceTree a b c) names =
    joined (spell a) (WordTok (codes "then") ∷ (spell b ++ (WordTok (codes "else") ∷ spell c)))
    ∙ ap (λ (ks : List Kind). shown (spell a) ++ ks) (joined (spell b) (WordTok (codes "else") ∷ spell c))
    ∙ ap (λ (ks : List Kind). ks ++ (shown (spell b) ++ shown (spell c))) (in_tree a names.0)
    ∙ ap (λ (ks : List Kind). kinds (operations a) ++ (ks ++ shown (spell c))) (in_tree b names.1)
    ∙ ap (λ (ks : List Kind). kinds (operations a) ++ (kinds (operations b) ++ ks)) (in_tree c names.2)
    ∙ ap (λ (ks : List Kind). kinds (operations a) ++ ks) (sym (map-append kind_of (operations b) (operations c)))
    ∙ sym (map-append kind_of (operations a) (operations b ++ operations c))

-- those of items
in_items : (items : List ItemTree) → AllByRecursion IsItem items → shown (flat_map spell_item items) ≡ kinds (operations_of items)
in_items [] each = refl
in_items (FieldTree name n ∷ items) each =
    joined (spell_item (FieldTree name n)) (flat_map spell_item items)
    ∙ ap (λ (ks : List Kind). (ks ++ []) ++ shown (flat_map spell_item items)) (name_none name each.0)
    ∙ in_items items each.1
in_items (NextTree name body ∷ items) each =
    joined (spell_item (NextTree name body)) (flat_map spell_item items)
    ∙ ap (λ (ks : List Kind). (ks ++ shown (spell body ++ SignTok sign.Semicolon ∷ [])) ++ shown (flat_map spell_item items)) (name_none name each.0.0)
    ∙ ap (λ (ks : List Kind). ks ++ shown (flat_map spell_item items)) (joined (spell body) (SignTok sign.Semicolon ∷ []) ∙ append-nil (shown (spell body)) ∙ in_tree body each.0.1)
    ∙ ap (λ (ks : List Kind). kinds (operations body) ++ ks) (in_items items each.1)
    ∙ sym (map-append kind_of (operations body) (operations_of items))

pub stand_in_order : (tokens : List Tok) (items : List ItemTree) → HasTree tokens items → shown tokens ≡ kinds (operations_of items)
stand_in_order tokens items tree = ap shown tree.spelling ∙ in_items items tree.each
