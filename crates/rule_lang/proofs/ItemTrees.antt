-- Items: what is read is spelled so, and what is spelled so is read.
use Rattle.std.proofs.Common.{◌≡◌, ℕ, List, ◌∷◌, ◌++◌, Option, Some, refl, subst, codes, append_assoc}
use Rattle.rule_lang.specs.declared.token.Sign.TheVariants as sign
use Rattle.rule_lang.specs.declared.keyword.Keyword.{Keyword}
use Rattle.rule_lang.specs.declared.keyword.Keyword.TheVariants as word
use Rattle.rule_lang.specs.Keywords.{keyword_of}
use Rattle.rule_lang.specs.Tokens.{Tok, WordTok, NumberTok, SignTok}
use Rattle.rule_lang.specs.Tree.{Tree, ItemTree, FieldTree, NextTree, spell, spell_item, IsName, IsItem}
use Rattle.rule_lang.specs.Reading.{semicolon_at, assign_at, number_at, name_at, expr_at, field_at, next_at, item_only, item_at}
use Rattle.rule_lang.proofs.Words.{keyword_word, word_keyword}
use Rattle.rule_lang.proofs.SingleTokens.{some_of, name_is, assign_is, semicolon_is, number_is, name_reads}
use Rattle.rule_lang.proofs.Trees.{Parsed, expr_sound, expr_complete}

-- an item was read that has this spelling
pub record Itemed (ts : List Tok) (i : ItemTree) (rest : List Tok) : Type 0 where
  pub spelled : ts ≡ spell_item i ++ rest
  pub whole : IsItem i

itemed_at : (ts : List Tok) (x y : ItemTree × List Tok) → Some x ≡ Some y → Itemed ts x.0 x.1 → Itemed ts y.0 y.1
itemed_at ts x y e h = let q : x ≡ y = cc in subst (λ z. Itemed ts z.0 z.1) q h

field_itemed : (ts u1 u2 u3 rest : List Tok) (w : List ℕ) (n : ℕ) → ts ≡ WordTok w ∷ u1 → IsName w → u1 ≡ SignTok sign.Assign ∷ u2 → u2 ≡ NumberTok n ∷ u3 → u3 ≡ SignTok sign.Semicolon ∷ rest → Itemed (WordTok (codes "field") ∷ ts) (FieldTree w n) rest
field_itemed ts u1 u2 u3 rest w n e1 name e2 e3 e4 = record { spelled = rw (e1, e2, e3, e4) refl; whole = name }

field_sound : (ts : List Tok) (x : ItemTree × List Tok) → field_at ts ≡ Some x → Itemed (WordTok (codes "field") ∷ ts) x.0 x.1
unfolding field_at
field_sound ts x e =
    let a = some_of (name_at ts) _ x e in
    let b = some_of (assign_at a.0.1) _ x a.2 in
    let c = some_of (number_at b.0) _ x b.2 in
    let d = some_of (semicolon_at c.0.1) _ x c.2 in
    let n = name_is ts a.0.1 a.0.0 a.1 in
    itemed_at _ _ x d.2 (field_itemed ts a.0.1 b.0 c.0.1 d.0 a.0.0 c.0.0 n.0 n.1 (assign_is a.0.1 b.0 b.1) (number_is b.0 c.0.1 c.0.0 c.1) (semicolon_is c.0.1 d.0 d.1))

next_itemed : (ts u1 u2 u3 rest : List Tok) (w : List ℕ) (t : Tree) → ts ≡ WordTok w ∷ u1 → IsName w → u1 ≡ SignTok sign.Assign ∷ u2 → Parsed 64 u2 t u3 → u3 ≡ SignTok sign.Semicolon ∷ rest → Itemed (WordTok (codes "next") ∷ ts) (NextTree w t) rest
next_itemed ts u1 u2 u3 rest w t e1 name e2 p e4 = record { spelled = rw (e1, e2, p.spelled, e4) (simp append_assoc); whole = (name, p.names, p.deep) }

next_sound : (ts : List Tok) (x : ItemTree × List Tok) → next_at ts ≡ Some x → Itemed (WordTok (codes "next") ∷ ts) x.0 x.1
unfolding next_at
next_sound ts x e =
    let a = some_of (name_at ts) _ x e in
    let b = some_of (assign_at a.0.1) _ x a.2 in
    let c = some_of (expr_at 64 b.0) _ x b.2 in
    let d = some_of (semicolon_at c.0.1) _ x c.2 in
    let n = name_is ts a.0.1 a.0.0 a.1 in
    itemed_at _ _ x d.2 (next_itemed ts a.0.1 b.0 c.0.1 d.0 a.0.0 c.0.0 n.0 n.1 (assign_is a.0.1 b.0 b.1) (expr_sound 64 b.0 c.0 c.1) (semicolon_is c.0.1 d.0 d.1))

item_word : (w : List ℕ) (k : Option Keyword) → keyword_of w ≡ k → (ts : List Tok) (x : ItemTree × List Tok) → item_only k ts ≡ Some x → Itemed (WordTok w ∷ ts) x.0 x.1
item_word w (Some word.Field) k ts x e = rw (keyword_word w word.Field k) (field_sound ts x e)
item_word w (Some word.Next) k ts x e = rw (keyword_word w word.Next k) (next_sound ts x e)
item_word w _ k ts x e = cc

pub item_sound : (ts : List Tok) (x : ItemTree × List Tok) → item_at ts ≡ Some x → Itemed ts x.0 x.1
unfolding item_at
item_sound (WordTok w ∷ ts) x e = item_word w (keyword_of w) refl ts x e
item_sound _ x e = cc

field_again : (w : List ℕ) (n : ℕ) (rest : List Tok) → IsName w → item_at (spell_item (FieldTree w n) ++ rest) ≡ Some (FieldTree w n, rest)
unfolding item_at field_at assign_at number_at semicolon_at
field_again w n rest h = rw (word_keyword word.Field, name_reads w _ h) refl

next_complete : (ts u1 u2 u3 rest : List Tok) (w : List ℕ) (t : Tree) → name_at ts ≡ Some (w, u1) → assign_at u1 ≡ Some u2 → expr_at 64 u2 ≡ Some (t, u3) → semicolon_at u3 ≡ Some rest → next_at ts ≡ Some (NextTree w t, rest)
unfolding next_at
next_complete ts u1 u2 u3 rest w t e1 e2 e3 e4 = rw (e1, e2, e3, e4) refl

next_again : (w : List ℕ) (t : Tree) (rest : List Tok) → IsItem (NextTree w t) → item_at (spell_item (NextTree w t) ++ rest) ≡ Some (NextTree w t, rest)
unfolding item_at assign_at semicolon_at
next_again w t rest h =
    let tail : List Tok = SignTok sign.Semicolon ∷ rest in
    rw (word_keyword word.Next, append_assoc) (next_complete _ (SignTok sign.Assign ∷ (spell t ++ tail)) (spell t ++ tail) tail rest w t (name_reads w _ h.0) refl (expr_complete t 64 h.1 h.2 tail) refl)

pub item_complete : (i : ItemTree) (rest : List Tok) → IsItem i → item_at (spell_item i ++ rest) ≡ Some (i, rest)
item_complete (FieldTree w n) rest h = field_again w n rest h
item_complete (NextTree w t) rest h = next_again w t rest h
