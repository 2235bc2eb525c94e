-- The operators of a program stand in its text in their order.
use Rattle.std.proofs.Common.{◌≡◌, ◌≢◌, ℕ, List, [], ◌∷◌, ◌++◌, map, refl, sym, ap, ◌∙◌, true, false}
use Rattle.std.specs.Prelude.{Bool, codes, flat_map, if◌then◌else◌}
use Rattle.std.specs.List.{AllByRecursion}
use Rattle.std.specs.Str.{bytes_eq}
use Rattle.std.proofs.lemmas.List.{append-nil, map-append}
use Rattle.std.proofs.lemmas.Grind.{flat_map-append}
use Rattle.std.proofs.lemmas.Slice.Eq.{bytes_eq-Decides}
use Rattle.rule_lang.specs.declared.tree.Op.{Op}
use Rattle.rule_lang.specs.declared.tree.Op.TheVariants.{Plus, Minus, Times, Quot, Rem, BitAnd, BitOr, BitXor, Equal, Differ, Less, LessEq, Greater, GreaterEq, Min, Max}
use Rattle.rule_lang.specs.declared.tree.Agg.{Agg}
use Rattle.rule_lang.specs.declared.tree.Agg.TheVariants as agg
use Rattle.rule_lang.specs.declared.token.Sign.TheVariants as sign
use Rattle.rule_lang.specs.Tokens.{Tok, WordTok, SignTok}
use Rattle.rule_lang.specs.Tree.{Tree, NumberTree, OwnTree, IdTree, DegreeTree, RoundTree, NearTree, NearIdTree, NearWeightTree, InfixTree, NotTree, OverTree, ChoiceTree, ItemTree, FieldTree, NextTree, HasTree, HasNames, IsItem, IsName, spell, spell_item, op_token, agg_word}
use Rattle.run_cuts.specs.declared.cut.Kind.{Kind}
use Rattle.run_cuts.specs.declared.cut.Kind.TheVariants.{Total}
use Rattle.run_cuts.specs.Operators.{OperatorTree, operators, infix_operators, aggregate_operators, operators_of}
use Rattle.run_cuts.specs.Cuts.{kind_of}
use Rattle.run_cuts.specs.Symbols.{token_kinds}

-- the kinds of operators, and those of tokens
abbrev kinds : List OperatorTree → List Kind
kinds os = map (λ o. kind_of o.form) os

abbrev shown : List Tok → List Kind
shown ts = flat_map token_kinds ts

joined : (xs ys : List Tok) → shown (xs ++ ys) ≡ shown xs ++ shown ys
joined xs ys = flat_map-append token_kinds xs ys

different : (w r : List ℕ) → w ≢ r → bytes_eq w r ≡ false
different w r apart = elim (bytes_eq w r) as (λ b. bytes_eq w r ≡ b → b ≡ false) [ true ↦ (λ same. absurd (apart ((bytes_eq-Decides w r).0 same))) | false ↦ (λ same. refl) ] refl

-- a name is no `total`
name_none : (w : List ℕ) → IsName w → token_kinds (WordTok w) ≡ []
name_none w name = ap (λ (b : Bool). if b then Total ∷ [] else []) (different w (codes "total") name.1.1.1.1.1.1.1.0)

one_infix : (within : Bool) (op : Op) (a b : Tree) → token_kinds (op_token op) ≡ kinds (infix_operators within op a b)
one_infix within Plus a b = refl
one_infix within Minus a b = refl
one_infix within Times a b = refl
one_infix within Quot a b = refl
one_infix within Rem a b = refl
one_infix within BitAnd a b = refl
one_infix within BitOr a b = refl
one_infix within BitXor a b = refl
one_infix within Equal a b = refl
one_infix within Differ a b = refl
one_infix within Less a b = refl
one_infix within LessEq a b = refl
one_infix within Greater a b = refl
one_infix within GreaterEq a b = refl
one_infix within Min a b = refl
one_infix within Max a b = refl

one_aggregate : (within : Bool) (g : Agg) (e : Tree) → token_kinds (WordTok (agg_word g)) ≡ kinds (aggregate_operators within g e)
one_aggregate within agg.Total e = refl
one_aggregate within agg.Least e = refl
one_aggregate within agg.Most e = refl
one_aggregate within agg.Count e = refl
one_aggregate within agg.Some1 e = refl
one_aggregate within agg.Every e = refl

-- those of an expression
in_tree : (within : Bool) (e : Tree) → HasNames e → shown (spell e) ≡ kinds (operators within e)
in_tree within (NumberTree n) names = refl
in_tree within (OwnTree name) names = ap (λ (ks : List Kind). ks ++ []) (name_none name names)
in_tree within IdTree names = refl
in_tree within DegreeTree names = refl
in_tree within RoundTree names = refl
in_tree within (NearTree name) names = refl
in_tree within NearIdTree names = refl
in_tree within NearWeightTree names = refl
in_tree within (InfixTree op a b) names =
    joined (spell a) (op_token op ∷ (spell b ++ SignTok sign.Close ∷ []))
    ∙ ap (λ (ks : List Kind). shown (spell a) ++ (token_kinds (op_token op) ++ ks)) (joined (spell b) (SignTok sign.Close ∷ []) ∙ append-nil (shown (spell b)))
    ∙ ap (λ (ks : List Kind). ks ++ (token_kinds (op_token op) ++ shown (spell b))) (in_tree within a names.0)
    ∙ ap (λ (ks : List Kind). kinds (operators within a) ++ (ks ++ shown (spell b))) (one_infix within op a b)
    ∙ ap (λ (ks : List Kind). kinds (operators within a) ++ (kinds (infix_operators within op a b) ++ ks)) (in_tree within b names.1)
    ∙ ap (λ (ks : List Kind). kinds (operators within a) ++ ks) (sym (map-append (λ o. kind_of o.form) (infix_operators within op a b) (operators within b)))
    ∙ sym (map-append (λ o. kind_of o.form) (operators within a) (infix_operators within op a b ++ operators within b))
in_tree within (NotTree a) names = in_tree within a names
in_tree within (OverTree g a) names =
    ap (λ (ks : List Kind). ks ++ shown (spell a)) (one_aggregate within g a)
    ∙ ap (λ (ks : List Kind). kinds (aggregate_operators within g a) ++ ks) (in_tree true a names)
    ∙ sym (map-append (λ o. kind_of o.form) (aggregate_operators within g a) (operators true a))
in_tree within (ChoiceTree a b c) names =
    joined (spell a) (WordTok (codes "then") ∷ (spell b ++ (WordTok (codes "else") ∷ spell c)))
    ∙ ap (λ (ks : List Kind). shown (spell a) ++ ks) (joined (spell b) (WordTok (codes "else") ∷ spell c))
    ∙ ap (λ (ks : List Kind). ks ++ (shown (spell b) ++ shown (spell c))) (in_tree within a names.0)
    ∙ ap (λ (ks : List Kind). kinds (operators within a) ++ (ks ++ shown (spell c))) (in_tree within b names.1)
    ∙ ap (λ (ks : List Kind). kinds (operators within a) ++ (kinds (operators within b) ++ ks)) (in_tree within c names.2)
    ∙ ap (λ (ks : List Kind). kinds (operators within a) ++ ks) (sym (map-append (λ o. kind_of o.form) (operators within b) (operators within c)))
    ∙ sym (map-append (λ o. kind_of o.form) (operators within a) (operators within b ++ operators within c))

-- those of items
in_items : (items : List ItemTree) → AllByRecursion IsItem items → shown (flat_map spell_item items) ≡ kinds (operators_of items)
in_items [] each = refl
in_items (FieldTree name n ∷ items) each =
    joined (spell_item (FieldTree name n)) (flat_map spell_item items)
    ∙ ap (λ (ks : List Kind). (ks ++ []) ++ shown (flat_map spell_item items)) (name_none name each.0)
    ∙ in_items items each.1
in_items (NextTree name body ∷ items) each =
    joined (spell_item (NextTree name body)) (flat_map spell_item items)
    ∙ ap (λ (ks : List Kind). (ks ++ shown (spell body ++ SignTok sign.Semicolon ∷ [])) ++ shown (flat_map spell_item items)) (name_none name each.0.0)
    ∙ ap (λ (ks : List Kind). ks ++ shown (flat_map spell_item items)) (joined (spell body) (SignTok sign.Semicolon ∷ []) ∙ append-nil (shown (spell body)) ∙ in_tree false body each.0.1)
    ∙ ap (λ (ks : List Kind). kinds (operators false body) ++ ks) (in_items items each.1)
    ∙ sym (map-append (λ o. kind_of o.form) (operators false body) (operators_of items))

pub stand_in_order : (tokens : List Tok) (items : List ItemTree) → HasTree tokens items → shown tokens ≡ kinds (operators_of items)
stand_in_order tokens items tree = ap shown tree.spelling ∙ in_items items tree.each
