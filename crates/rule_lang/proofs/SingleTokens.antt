-- Single tokens: what is read is spelled so, and what is spelled so is read.
use Rattle.std.proofs.Common.{◌≡◌, ℕ, List, [], ◌∷◌, Option, Some, None, refl, ap, subst, ◌∙◌, codes}
use Rattle.rule_lang.specs.declared.tree.Op.{Op}
use Rattle.rule_lang.specs.declared.tree.Op.TheVariants.{Plus, Minus, Times, Quot, Rem, BitAnd, BitOr, BitXor, Equal, Differ, Less, LessEq, Greater, GreaterEq, Min, Max}
use Rattle.rule_lang.specs.declared.tree.Agg.{Agg}
use Rattle.rule_lang.specs.declared.tree.Agg.TheVariants.{Total, Least, Most, Count, Some1, Every}
use Rattle.rule_lang.specs.declared.token.Sign.{Sign}
use Rattle.rule_lang.specs.declared.token.Sign.TheVariants as sign
use Rattle.rule_lang.specs.declared.keyword.Keyword.{Keyword}
use Rattle.rule_lang.specs.declared.keyword.Keyword.TheVariants as word
use Rattle.rule_lang.specs.Keywords.{keyword_of, word_of}
use Rattle.rule_lang.specs.Tokens.{Tok, WordTok, NumberTok, SignTok}
use Rattle.rule_lang.specs.Tree.{op_token, agg_word, IsName}
use Rattle.rule_lang.specs.Reading.{◌>>=◌, close_at, semicolon_at, assign_at, number_at, name_only, name_at, then_only, then_at, else_only, else_at, sign_op, word_op, op_of, op_at, agg_of}
use Rattle.rule_lang.proofs.Words.{keyword_word, word_keyword, name_of_none, none_of_name}

-- a step that gave something was given something
pub some_of : {A B : Type 0} (o : Option A) (f : A → Option B) (y : B) → (o >>= f) ≡ Some y → (x : A) × (o ≡ Some x) × (f x ≡ Some y)
some_of None f y e = cc
some_of (Some x) f y e = (x, refl, e)

pub same_pair : {A B : Type 0} {x y : A × B} → Some x ≡ Some y → (x.0 ≡ y.0) × (x.1 ≡ y.1)
same_pair {x = x} {y = y} e = let q : x ≡ y = cc in (ap (λ z. z.0) q, ap (λ z. z.1) q)

-- single tokens
pub close_is : (ts rest : List Tok) → close_at ts ≡ Some rest → ts ≡ SignTok sign.Close ∷ rest
unfolding close_at
close_is (SignTok sign.Close ∷ ts) rest e = cc
close_is _ rest e = cc

pub then_word : (k : Option Keyword) (ts rest : List Tok) → then_only k ts ≡ Some rest → (k ≡ Some word.Then) × (ts ≡ rest)
then_word (Some word.Then) ts rest e = (refl, cc)
then_word _ ts rest e = cc

pub then_is : (ts rest : List Tok) → then_at ts ≡ Some rest → ts ≡ WordTok (codes "then") ∷ rest
unfolding then_at
then_is (WordTok w ∷ ts) rest e =
    let p = then_word (keyword_of w) ts rest e in
    let q : w ≡ codes "then" = keyword_word w word.Then p.0 in
    let r : ts ≡ rest = p.1 in cc
then_is _ rest e = cc

pub else_word : (k : Option Keyword) (ts rest : List Tok) → else_only k ts ≡ Some rest → (k ≡ Some word.Else) × (ts ≡ rest)
else_word (Some word.Else) ts rest e = (refl, cc)
else_word _ ts rest e = cc

pub else_is : (ts rest : List Tok) → else_at ts ≡ Some rest → ts ≡ WordTok (codes "else") ∷ rest
unfolding else_at
else_is (WordTok w ∷ ts) rest e =
    let p = else_word (keyword_of w) ts rest e in
    let q : w ≡ codes "else" = keyword_word w word.Else p.0 in
    let r : ts ≡ rest = p.1 in cc
else_is _ rest e = cc

pub sign_op_is : (s : Sign) (op : Op) → sign_op s ≡ Some op → SignTok s ≡ op_token op
unfolding sign_op
sign_op_is sign.Plus op e = let q : Plus ≡ op = cc in ap op_token q
sign_op_is sign.Minus op e = let q : Minus ≡ op = cc in ap op_token q
sign_op_is sign.Star op e = let q : Times ≡ op = cc in ap op_token q
sign_op_is sign.Slash op e = let q : Quot ≡ op = cc in ap op_token q
sign_op_is sign.Percent op e = let q : Rem ≡ op = cc in ap op_token q
sign_op_is sign.Ampersand op e = let q : BitAnd ≡ op = cc in ap op_token q
sign_op_is sign.Bar op e = let q : BitOr ≡ op = cc in ap op_token q
sign_op_is sign.Caret op e = let q : BitXor ≡ op = cc in ap op_token q
sign_op_is sign.Equal op e = let q : Equal ≡ op = cc in ap op_token q
sign_op_is sign.Differ op e = let q : Differ ≡ op = cc in ap op_token q
sign_op_is sign.Less op e = let q : Less ≡ op = cc in ap op_token q
sign_op_is sign.LessEq op e = let q : LessEq ≡ op = cc in ap op_token q
sign_op_is sign.Greater op e = let q : Greater ≡ op = cc in ap op_token q
sign_op_is sign.GreaterEq op e = let q : GreaterEq ≡ op = cc in ap op_token q
sign_op_is _ op e = cc

pub word_op_is : (w : List ℕ) (k : Option Keyword) (op : Op) → keyword_of w ≡ k → word_op k ≡ Some op → WordTok w ≡ op_token op
word_op_is w (Some word.Min) op k e = let q : Min ≡ op = cc in ap WordTok (keyword_word w word.Min k) ∙ ap op_token q
word_op_is w (Some word.Max) op k e = let q : Max ≡ op = cc in ap WordTok (keyword_word w word.Max k) ∙ ap op_token q
word_op_is w _ op k e = cc

pub op_of_is : (t : Tok) (op : Op) → op_of t ≡ Some op → t ≡ op_token op
unfolding op_of
op_of_is (SignTok s) op e = sign_op_is s op e
op_of_is (WordTok w) op e = word_op_is w (keyword_of w) op refl e
op_of_is _ op e = cc

pub op_at_is : (ts rest : List Tok) (op : Op) → op_at ts ≡ Some (op, rest) → ts ≡ op_token op ∷ rest
unfolding op_at
op_at_is [] rest op e = cc
op_at_is (t ∷ ts) rest op e =
    let p = some_of (op_of t) _ (op, rest) e in
    let q = same_pair p.2 in
    let s : t ≡ op_token p.0 = op_of_is t p.0 p.1 in
    let u : op_token p.0 ≡ op_token op = ap op_token q.0 in cc

pub agg_is : (k : Keyword) (agg : Agg) → agg_of k ≡ Some agg → word_of k ≡ agg_word agg
unfolding agg_of
agg_is word.Total agg e = let q : Total ≡ agg = cc in ap agg_word q
agg_is word.Least agg e = let q : Least ≡ agg = cc in ap agg_word q
agg_is word.Most agg e = let q : Most ≡ agg = cc in ap agg_word q
agg_is word.Count agg e = let q : Count ≡ agg = cc in ap agg_word q
agg_is word.Any agg e = let q : Some1 ≡ agg = cc in ap agg_word q
agg_is word.All agg e = let q : Every ≡ agg = cc in ap agg_word q
agg_is _ agg e = cc

pub named : (v : List ℕ) (k : Option Keyword) → keyword_of v ≡ k → (ts rest : List Tok) (w : List ℕ) → name_only k v ts ≡ Some (w, rest) → (WordTok v ∷ ts ≡ WordTok w ∷ rest) × IsName w
named v None k ts rest w e = let q = same_pair e in let a : v ≡ w = q.0 in let b : ts ≡ rest = q.1 in (cc, subst IsName a (name_of_none v k))
named v (Some h) k ts rest w e = cc

pub name_is : (ts rest : List Tok) (w : List ℕ) → name_at ts ≡ Some (w, rest) → (ts ≡ WordTok w ∷ rest) × IsName w
unfolding name_at
name_is (WordTok v ∷ ts) rest w e = named v (keyword_of v) refl ts rest w e
name_is _ rest w e = cc

pub assign_is : (ts rest : List Tok) → assign_at ts ≡ Some rest → ts ≡ SignTok sign.Assign ∷ rest
unfolding assign_at
assign_is (SignTok sign.Assign ∷ ts) rest e = cc
assign_is _ rest e = cc

pub semicolon_is : (ts rest : List Tok) → semicolon_at ts ≡ Some rest → ts ≡ SignTok sign.Semicolon ∷ rest
unfolding semicolon_at
semicolon_is (SignTok sign.Semicolon ∷ ts) rest e = cc
semicolon_is _ rest e = cc

pub number_is : (ts rest : List Tok) (n : ℕ) → number_at ts ≡ Some (n, rest) → ts ≡ NumberTok n ∷ rest
unfolding number_at
number_is (NumberTok m ∷ ts) rest n e = let q = same_pair e in let a : m ≡ n = q.0 in let b : ts ≡ rest = q.1 in cc
number_is _ rest n e = cc

-- what is spelled so is read
pub op_reads : (op : Op) (ts : List Tok) → op_at (op_token op ∷ ts) ≡ Some (op, ts)
unfolding op_at op_of sign_op
op_reads Plus ts = refl
op_reads Minus ts = refl
op_reads Times ts = refl
op_reads Quot ts = refl
op_reads Rem ts = refl
op_reads BitAnd ts = refl
op_reads BitOr ts = refl
op_reads BitXor ts = refl
op_reads Equal ts = refl
op_reads Differ ts = refl
op_reads Less ts = refl
op_reads LessEq ts = refl
op_reads Greater ts = refl
op_reads GreaterEq ts = refl
op_reads Min ts = rw (word_keyword word.Min) refl
op_reads Max ts = rw (word_keyword word.Max) refl

pub then_reads : (ts : List Tok) → then_at (WordTok (codes "then") ∷ ts) ≡ Some ts
unfolding then_at
then_reads ts = rw (word_keyword word.Then) refl

pub else_reads : (ts : List Tok) → else_at (WordTok (codes "else") ∷ ts) ≡ Some ts
unfolding else_at
else_reads ts = rw (word_keyword word.Else) refl

pub close_reads : (ts : List Tok) → close_at (SignTok sign.Close ∷ ts) ≡ Some ts
unfolding close_at
close_reads ts = refl

pub name_reads : (w : List ℕ) (rest : List Tok) → IsName w → name_at (WordTok w ∷ rest) ≡ Some (w, rest)
unfolding name_at
name_reads w rest n = rw (none_of_name w n) refl
