-- Expressions: what is read is spelled so, and what is spelled so is read.
use Rattle.std.proofs.Common.{◌≡◌, ℕ, zero, suc, ◌≤◌, List, [], ◌∷◌, ◌++◌, Option, Some, None, refl, ap, subst, ◌∙◌, codes, arith, append_assoc}
use Rattle.rule_lang.specs.declared.tree.Op.{Op}
use Rattle.rule_lang.specs.declared.tree.Agg.{Agg}
use Rattle.rule_lang.specs.declared.tree.Agg.TheVariants.{Total, Least, Most, Count, Some1, Every}
use Rattle.rule_lang.specs.declared.token.Sign.TheVariants as sign
use Rattle.rule_lang.specs.declared.keyword.Keyword.{Keyword}
use Rattle.rule_lang.specs.declared.keyword.Keyword.TheVariants as word
use Rattle.rule_lang.specs.Keywords.{keyword_of, word_of}
use Rattle.rule_lang.specs.Tokens.{Tok, WordTok, NearTok, NumberTok, SignTok}
use Rattle.rule_lang.specs.Tree.{Tree, NumberTree, OwnTree, IdTree, DegreeTree, RoundTree, NearTree, NearIdTree, NearWeightTree, InfixTree, NotTree, OverTree, ChoiceTree, op_token, agg_word, spell, depth, HasNames, IsName}
use Rattle.rule_lang.specs.Reading.{Reads, close_at, then_at, else_at, op_at, agg_of, near_only, near_of, infix_at, choice_at, over_at, prefix_at, own_or_prefix_at, form_at, expr_at}
use Rattle.rule_lang.proofs.Words.{keyword_word, word_keyword, name_of_none, none_of_name}
use Rattle.rule_lang.proofs.SingleTokens.{some_of, close_is, then_is, else_is, op_at_is, agg_is, op_reads, then_reads, else_reads, close_reads}

-- an expression was read that has this spelling
pub record Parsed (d : ℕ) (ts : List Tok) (t : Tree) (rest : List Tok) : Type 0 where
  pub spelled : ts ≡ spell t ++ rest
  pub names : HasNames t
  pub deep : depth t ≤ d

abbrev pub Sound : ℕ → Reads Tree → Type 0
Sound d expr = (ts : List Tok) (x : Tree × List Tok) → expr ts ≡ Some x → Parsed d ts x.0 x.1

parsed_at : (d : ℕ) (ts : List Tok) (x y : Tree × List Tok) → Some x ≡ Some y → Parsed d ts x.0 x.1 → Parsed d ts y.0 y.1
parsed_at d ts x y e h = let q : x ≡ y = cc in subst (λ z. Parsed d ts z.0 z.1) q h

infix_parsed : (d : ℕ) (ts u1 u2 u3 rest : List Tok) (a b : Tree) (op : Op) → Parsed d ts a u1 → u1 ≡ op_token op ∷ u2 → Parsed d u2 b u3 → u3 ≡ SignTok sign.Close ∷ rest → Parsed (suc d) (SignTok sign.Open ∷ ts) (InfixTree op a b) rest
infix_parsed d ts u1 u2 u3 rest a b op pa eo pb ec = record {
  spelled = ap (λ l. SignTok sign.Open ∷ l) (pa.spelled ∙ rw (eo, pb.spelled, ec) (simp append_assoc));
  names = (pa.names, pb.names);
  deep = let h = pa.deep in let k = pb.deep in omega arith;
}

infix_sound : (d : ℕ) (expr : Reads Tree) → Sound d expr → (ts : List Tok) (x : Tree × List Tok) → infix_at expr ts ≡ Some x → Parsed (suc d) (SignTok sign.Open ∷ ts) x.0 x.1
unfolding infix_at
infix_sound d expr snd ts x e =
    let a = some_of (expr ts) _ x e in
    let op = some_of (op_at a.0.1) _ x a.2 in
    let b = some_of (expr op.0.1) _ x op.2 in
    let end = some_of (close_at b.0.1) _ x b.2 in
    parsed_at (suc d) (SignTok sign.Open ∷ ts) (InfixTree op.0.0 a.0.0 b.0.0, end.0) x end.2
    (infix_parsed d ts a.0.1 op.0.1 b.0.1 end.0 a.0.0 b.0.0 op.0.0 (snd ts a.0 a.1) (op_at_is a.0.1 op.0.1 op.0.0 op.1) (snd op.0.1 b.0 b.1) (close_is b.0.1 end.0 end.1))

choice_parsed : (d : ℕ) (ts u1 u2 u3 u4 rest : List Tok) (a b c : Tree) → Parsed d ts a u1 → u1 ≡ WordTok (codes "then") ∷ u2 → Parsed d u2 b u3 → u3 ≡ WordTok (codes "else") ∷ u4 → Parsed d u4 c rest → Parsed (suc d) (WordTok (codes "if") ∷ ts) (ChoiceTree a b c) rest
choice_parsed d ts u1 u2 u3 u4 rest a b c pa et pb ee pc = record {
  spelled = ap (λ l. WordTok (codes "if") ∷ l) (pa.spelled ∙ rw (et, pb.spelled, ee, pc.spelled) (simp append_assoc));
  names = (pa.names, pb.names, pc.names);
  deep = let h = pa.deep in let k = pb.deep in let m = pc.deep in omega arith;
}

choice_sound : (d : ℕ) (expr : Reads Tree) → Sound d expr → (ts : List Tok) (x : Tree × List Tok) → choice_at expr ts ≡ Some x → Parsed (suc d) (WordTok (codes "if") ∷ ts) x.0 x.1
unfolding choice_at
choice_sound d expr snd ts x e =
    let a = some_of (expr ts) _ x e in
    let t = some_of (then_at a.0.1) _ x a.2 in
    let b = some_of (expr t.0) _ x t.2 in
    let f = some_of (else_at b.0.1) _ x b.2 in
    let c = some_of (expr f.0) _ x f.2 in
    parsed_at (suc d) (WordTok (codes "if") ∷ ts) (ChoiceTree a.0.0 b.0.0 c.0.0, c.0.1) x c.2
    (choice_parsed d ts a.0.1 t.0 b.0.1 f.0 c.0.1 a.0.0 b.0.0 c.0.0 (snd ts a.0 a.1) (then_is a.0.1 t.0 t.1) (snd t.0 b.0 b.1) (else_is b.0.1 f.0 f.1) (snd f.0 c.0 c.1))

not_parsed : (d : ℕ) (ts rest : List Tok) (a : Tree) → Parsed d ts a rest → Parsed (suc d) (WordTok (codes "not") ∷ ts) (NotTree a) rest
not_parsed d ts rest a pa = record {
  spelled = ap (λ l. WordTok (codes "not") ∷ l) pa.spelled;
  names = pa.names;
  deep = let h = pa.deep in omega arith;
}

over_parsed : (d : ℕ) (ts rest : List Tok) (w : List ℕ) (agg : Agg) (a : Tree) → w ≡ agg_word agg → Parsed d ts a rest → Parsed (suc d) (WordTok w ∷ ts) (OverTree agg a) rest
over_parsed d ts rest w agg a e pa = record {
  spelled = let h = pa.spelled in cc;
  names = pa.names;
  deep = let h = pa.deep in omega arith;
}

over_sound : (d : ℕ) (expr : Reads Tree) → Sound d expr → (k : Keyword) (ts : List Tok) (x : Tree × List Tok) → over_at expr k ts ≡ Some x → Parsed (suc d) (WordTok (word_of k) ∷ ts) x.0 x.1
unfolding over_at
over_sound d expr snd k ts x e =
    let agg = some_of (agg_of k) _ x e in
    let a = some_of (expr ts) _ x agg.2 in
    parsed_at (suc d) _ _ x a.2 (over_parsed d ts a.0.1 (word_of k) agg.0 a.0.0 (agg_is k agg.0 agg.1) (snd ts a.0 a.1))

not_sound : (d : ℕ) (expr : Reads Tree) → Sound d expr → (ts : List Tok) (x : Tree × List Tok) → prefix_at expr word.Not ts ≡ Some x → Parsed (suc d) (WordTok (codes "not") ∷ ts) x.0 x.1
unfolding prefix_at
not_sound d expr snd ts x e =
    let a = some_of (expr ts) _ x e in
    parsed_at (suc d) _ _ x a.2 (not_parsed d ts a.0.1 a.0.0 (snd ts a.0 a.1))

leaf_parsed : (d : ℕ) (t : Tok) (tree : Tree) (rest : List Tok) (x : Tree × List Tok) → Some (tree, rest) ≡ Some x → spell tree ≡ t ∷ [] → HasNames tree → depth tree ≡ 1 → Parsed (suc d) (t ∷ rest) x.0 x.1
leaf_parsed d t tree rest x e s n one = parsed_at (suc d) _ (tree, rest) x e (record { spelled = rw s refl; names = n; deep = omega arith })

prefix_sound : (d : ℕ) (expr : Reads Tree) → Sound d expr → (k : Keyword) (ts : List Tok) (x : Tree × List Tok) → prefix_at expr k ts ≡ Some x → Parsed (suc d) (WordTok (word_of k) ∷ ts) x.0 x.1
unfolding prefix_at
prefix_sound d expr snd word.Id ts x e = leaf_parsed d _ IdTree ts x e refl tt refl
prefix_sound d expr snd word.Degree ts x e = leaf_parsed d _ DegreeTree ts x e refl tt refl
prefix_sound d expr snd word.Round ts x e = leaf_parsed d _ RoundTree ts x e refl tt refl
prefix_sound d expr snd word.Not ts x e = not_sound d expr snd ts x e
prefix_sound d expr snd word.If ts x e = choice_sound d expr snd ts x e
prefix_sound d expr snd k ts x e = over_sound d expr snd k ts x e

word_sound : (d : ℕ) (expr : Reads Tree) → Sound d expr → (w : List ℕ) (k : Option Keyword) → keyword_of w ≡ k → (ts : List Tok) (x : Tree × List Tok) → own_or_prefix_at expr k w ts ≡ Some x → Parsed (suc d) (WordTok w ∷ ts) x.0 x.1
word_sound d expr snd w None k ts x e = leaf_parsed d _ (OwnTree w) ts x e refl (name_of_none w k) refl
word_sound d expr snd w (Some h) k ts x e = rw (keyword_word w h k) (prefix_sound d expr snd h ts x e)

near_sound : (d : ℕ) (w : List ℕ) (k : Option Keyword) → keyword_of w ≡ k → (t : Tree) → near_only k w ≡ Some t → (spell t ≡ NearTok w ∷ []) × HasNames t × (depth t ≡ 1)
near_sound d w None k t e = let q : NearTree w ≡ t = cc in subst (λ z. (spell z ≡ NearTok w ∷ []) × HasNames z × (depth z ≡ 1)) q (refl, name_of_none w k, refl)
near_sound d w (Some word.Id) k t e = let q : NearIdTree ≡ t = cc in subst (λ z. (spell z ≡ NearTok w ∷ []) × HasNames z × (depth z ≡ 1)) q (rw (keyword_word w word.Id k) refl, tt, refl)
near_sound d w (Some word.Weight) k t e = let q : NearWeightTree ≡ t = cc in subst (λ z. (spell z ≡ NearTok w ∷ []) × HasNames z × (depth z ≡ 1)) q (rw (keyword_word w word.Weight k) refl, tt, refl)
near_sound d w (Some _) k t e = cc

form_sound : (d : ℕ) (expr : Reads Tree) → Sound d expr → (ts : List Tok) (x : Tree × List Tok) → form_at expr ts ≡ Some x → Parsed (suc d) ts x.0 x.1
unfolding form_at near_of
form_sound d expr snd [] x e = cc
form_sound d expr snd (NumberTok n ∷ ts) x e = leaf_parsed d _ (NumberTree n) ts x e refl tt refl
form_sound d expr snd (NearTok w ∷ ts) x e =
    let t = some_of (near_only (keyword_of w) w) _ x e in
    let p = near_sound d w (keyword_of w) refl t.0 t.1 in
    leaf_parsed d _ t.0 ts x t.2 p.0 p.1 p.2
form_sound d expr snd (WordTok w ∷ ts) x e = word_sound d expr snd w (keyword_of w) refl ts x e
form_sound d expr snd (SignTok sign.Open ∷ ts) x e = infix_sound d expr snd ts x e
form_sound d expr snd (SignTok _ ∷ ts) x e = cc

pub expr_sound : (d : ℕ) → Sound d (expr_at d)
unfolding expr_at
expr_sound zero ts x e = cc
expr_sound (suc d) ts x e = form_sound d (expr_at d) (expr_sound d) ts x e

-- the other way
infix_complete : (expr : Reads Tree) (ts u1 u2 u3 rest : List Tok) (a b : Tree) (op : Op) → expr ts ≡ Some (a, u1) → op_at u1 ≡ Some (op, u2) → expr u2 ≡ Some (b, u3) → close_at u3 ≡ Some rest → infix_at expr ts ≡ Some (InfixTree op a b, rest)
unfolding infix_at
infix_complete expr ts u1 u2 u3 rest a b op ea eo eb ec = rw (ea, eo, eb, ec) refl

choice_complete : (expr : Reads Tree) (ts u1 u2 u3 u4 rest : List Tok) (a b c : Tree) → expr ts ≡ Some (a, u1) → then_at u1 ≡ Some u2 → expr u2 ≡ Some (b, u3) → else_at u3 ≡ Some u4 → expr u4 ≡ Some (c, rest) → choice_at expr ts ≡ Some (ChoiceTree a b c, rest)
unfolding choice_at
choice_complete expr ts u1 u2 u3 u4 rest a b c ea et eb ee ec = rw (ea, et, eb, ee, ec) refl

over_complete : (expr : Reads Tree) (agg : Agg) (ts rest : List Tok) (a : Tree) → expr ts ≡ Some (a, rest) → form_at expr (WordTok (agg_word agg) ∷ ts) ≡ Some (OverTree agg a, rest)
unfolding form_at prefix_at over_at agg_of
over_complete expr Total ts rest a e = rw (word_keyword word.Total, e) refl
over_complete expr Least ts rest a e = rw (word_keyword word.Least, e) refl
over_complete expr Most ts rest a e = rw (word_keyword word.Most, e) refl
over_complete expr Count ts rest a e = rw (word_keyword word.Count, e) refl
over_complete expr Some1 ts rest a e = rw (word_keyword word.Any, e) refl
over_complete expr Every ts rest a e = rw (word_keyword word.All, e) refl

abbrev pub Complete : Reads Tree → Tree → Type 0
Complete expr t = (rest : List Tok) → expr (spell t ++ rest) ≡ Some (t, rest)

infix_again : (expr : Reads Tree) (op : Op) (a b : Tree) → Complete expr a → Complete expr b → Complete (form_at expr) (InfixTree op a b)
unfolding form_at
infix_again expr op a b ca cb rest =
    let tail : List Tok = spell b ++ (SignTok sign.Close ∷ rest) in
    rw (append_assoc, append_assoc) (infix_complete expr _ (op_token op ∷ tail) tail (SignTok sign.Close ∷ rest) rest a b op (ca (op_token op ∷ tail)) (op_reads op tail) (cb (SignTok sign.Close ∷ rest)) (close_reads rest))

choice_again : (expr : Reads Tree) (a b c : Tree) → Complete expr a → Complete expr b → Complete expr c → Complete (form_at expr) (ChoiceTree a b c)
unfolding form_at prefix_at
choice_again expr a b c ca cb cc' rest =
    let tail : List Tok = spell c ++ rest in
    let mid : List Tok = spell b ++ (WordTok (codes "else") ∷ tail) in
    rw (word_keyword word.If, append_assoc, append_assoc) (choice_complete expr _ (WordTok (codes "then") ∷ mid) mid (WordTok (codes "else") ∷ tail) tail rest a b c (ca (WordTok (codes "then") ∷ mid)) (then_reads mid) (cb (WordTok (codes "else") ∷ tail)) (else_reads tail) (cc' rest))

not_again : (expr : Reads Tree) (a : Tree) → Complete expr a → Complete (form_at expr) (NotTree a)
unfolding form_at prefix_at
not_again expr a ca rest = rw (word_keyword word.Not, ca rest) refl

own_again : (expr : Reads Tree) (w : List ℕ) → IsName w → Complete (form_at expr) (OwnTree w)
unfolding form_at
own_again expr w n rest = rw (none_of_name w n) refl

near_again : (expr : Reads Tree) (w : List ℕ) → IsName w → Complete (form_at expr) (NearTree w)
unfolding form_at near_of
near_again expr w n rest = rw (none_of_name w n) refl

own_leaf_again : (expr : Reads Tree) (n : ℕ) → Complete (form_at expr) (NumberTree n) × Complete (form_at expr) IdTree × Complete (form_at expr) DegreeTree × Complete (form_at expr) RoundTree
unfolding form_at prefix_at
own_leaf_again expr n = ((λ rest. refl), (λ rest. rw (word_keyword word.Id) refl), (λ rest. rw (word_keyword word.Degree) refl), (λ rest. rw (word_keyword word.Round) refl))

near_leaf_again : (expr : Reads Tree) → Complete (form_at expr) NearIdTree × Complete (form_at expr) NearWeightTree
unfolding form_at near_of
near_leaf_again expr = ((λ rest. rw (word_keyword word.Id) refl), (λ rest. rw (word_keyword word.Weight) refl))

pub expr_complete : (t : Tree) (d : ℕ) → HasNames t → depth t ≤ d → Complete (expr_at d) t
unfolding expr_at
expr_complete (NumberTree n) zero h k = absurd (omega arith)
expr_complete (OwnTree w) zero h k = absurd (omega arith)
expr_complete IdTree zero h k = absurd (omega arith)
expr_complete DegreeTree zero h k = absurd (omega arith)
expr_complete RoundTree zero h k = absurd (omega arith)
expr_complete (NearTree w) zero h k = absurd (omega arith)
expr_complete NearIdTree zero h k = absurd (omega arith)
expr_complete NearWeightTree zero h k = absurd (omega arith)
expr_complete (InfixTree op a b) zero h k = absurd (omega arith)
expr_complete (NotTree a) zero h k = absurd (omega arith)
expr_complete (OverTree agg a) zero h k = absurd (omega arith)
expr_complete (ChoiceTree a b c) zero h k = absurd (omega arith)
expr_complete (NumberTree n) (suc d) h k = (own_leaf_again (expr_at d) n).0
expr_complete (OwnTree w) (suc d) h k = own_again (expr_at d) w h
expr_complete IdTree (suc d) h k = (own_leaf_again (expr_at d) 0).1
expr_complete DegreeTree (suc d) h k = (own_leaf_again (expr_at d) 0).2
expr_complete RoundTree (suc d) h k = (own_leaf_again (expr_at d) 0).3
expr_complete (NearTree w) (suc d) h k = near_again (expr_at d) w h
expr_complete NearIdTree (suc d) h k = (near_leaf_again (expr_at d)).0
expr_complete NearWeightTree (suc d) h k = (near_leaf_again (expr_at d)).1
expr_complete (InfixTree op a b) (suc d) h k = infix_again (expr_at d) op a b (expr_complete a d h.0 (omega arith)) (expr_complete b d h.1 (omega arith))
expr_complete (NotTree a) (suc d) h k = not_again (expr_at d) a (expr_complete a d h (omega arith))
expr_complete (OverTree agg a) (suc d) h k = λ rest. over_complete (expr_at d) agg (spell a ++ rest) rest a (expr_complete a d h (omega arith) rest)
expr_complete (ChoiceTree a b c) (suc d) h k = choice_again (expr_at d) a b c (expr_complete a d h.0 (omega arith)) (expr_complete b d h.1 (omega arith)) (expr_complete c d h.2 (omega arith))
