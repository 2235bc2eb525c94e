-- Single tokens: what is read is spelled so, and what is spelled so is read.
use Rattle.std.proofs.Common.{◌≡◌, ℕ, ◌≤◌, ◌<◌, List, [], ◌∷◌, Option, Some, None, refl, sym, ap, subst, arith}
use Rattle.model_text.specs.declared.tree.Operator.{Operator}
use Rattle.model_text.specs.declared.tree.Operator.TheVariants.{Or, And, Equal, Differ, Less, LessEq, Greater, GreaterEq, BitOr, BitXor, BitAnd, Plus, Minus, Times, Quot, Rem}
use Rattle.model_text.specs.declared.tree.Decimal.{Decimal}
use Rattle.model_text.specs.declared.keyword.Keyword.TheVariants as word
use Rattle.model_text.specs.declared.token.Sign.{Sign}
use Rattle.model_text.specs.declared.token.Sign.TheVariants as sign
use Rattle.model_text.specs.Tokens.{Tok, KeywordTok, NameTok, NumberTok, DecimalTok, SignTok, Placed, placed}
use Rattle.model_text.specs.Tree.{NameAt}
use Rattle.model_text.specs.Grammar.{operator_token, operator_level, Comes, SpellsName, HasDecimal}
use Rattle.model_text.specs.Reading.{assign_at, semicolon_at, colon_at, comma_at, open_at, close_at, brace_open_at, brace_close_at, then_at, else_at, name_at, decimal_at, sign_operator, operator_of, operator_only, operator_at}
use Rattle.rule_lang.proofs.SingleTokens.{same_pair}

pub assign_is : (ts rest : List Placed) → assign_at ts ≡ Some rest → Comes (SignTok sign.Assign) ts rest
unfolding assign_at
assign_is (placed (SignTok sign.Assign) at ∷ ts) rest e = (at, cc)
assign_is _ rest e = cc

pub assign_reads : (ts rest : List Placed) → Comes (SignTok sign.Assign) ts rest → assign_at ts ≡ Some rest
unfolding assign_at
assign_reads ts rest c = rw c.1 refl

pub semicolon_is : (ts rest : List Placed) → semicolon_at ts ≡ Some rest → Comes (SignTok sign.Semicolon) ts rest
unfolding semicolon_at
semicolon_is (placed (SignTok sign.Semicolon) at ∷ ts) rest e = (at, cc)
semicolon_is _ rest e = cc

pub semicolon_reads : (ts rest : List Placed) → Comes (SignTok sign.Semicolon) ts rest → semicolon_at ts ≡ Some rest
unfolding semicolon_at
semicolon_reads ts rest c = rw c.1 refl

pub colon_is : (ts rest : List Placed) → colon_at ts ≡ Some rest → Comes (SignTok sign.Colon) ts rest
unfolding colon_at
colon_is (placed (SignTok sign.Colon) at ∷ ts) rest e = (at, cc)
colon_is _ rest e = cc

pub colon_reads : (ts rest : List Placed) → Comes (SignTok sign.Colon) ts rest → colon_at ts ≡ Some rest
unfolding colon_at
colon_reads ts rest c = rw c.1 refl

pub comma_is : (ts rest : List Placed) → comma_at ts ≡ Some rest → Comes (SignTok sign.Comma) ts rest
unfolding comma_at
comma_is (placed (SignTok sign.Comma) at ∷ ts) rest e = (at, cc)
comma_is _ rest e = cc

pub comma_reads : (ts rest : List Placed) → Comes (SignTok sign.Comma) ts rest → comma_at ts ≡ Some rest
unfolding comma_at
comma_reads ts rest c = rw c.1 refl

pub open_is : (ts rest : List Placed) → open_at ts ≡ Some rest → Comes (SignTok sign.Open) ts rest
unfolding open_at
open_is (placed (SignTok sign.Open) at ∷ ts) rest e = (at, cc)
open_is _ rest e = cc

pub open_reads : (ts rest : List Placed) → Comes (SignTok sign.Open) ts rest → open_at ts ≡ Some rest
unfolding open_at
open_reads ts rest c = rw c.1 refl

pub close_is : (ts rest : List Placed) → close_at ts ≡ Some rest → Comes (SignTok sign.Close) ts rest
unfolding close_at
close_is (placed (SignTok sign.Close) at ∷ ts) rest e = (at, cc)
close_is _ rest e = cc

pub close_reads : (ts rest : List Placed) → Comes (SignTok sign.Close) ts rest → close_at ts ≡ Some rest
unfolding close_at
close_reads ts rest c = rw c.1 refl

pub brace_open_is : (ts rest : List Placed) → brace_open_at ts ≡ Some rest → Comes (SignTok sign.BraceOpen) ts rest
unfolding brace_open_at
brace_open_is (placed (SignTok sign.BraceOpen) at ∷ ts) rest e = (at, cc)
brace_open_is _ rest e = cc

pub brace_open_reads : (ts rest : List Placed) → Comes (SignTok sign.BraceOpen) ts rest → brace_open_at ts ≡ Some rest
unfolding brace_open_at
brace_open_reads ts rest c = rw c.1 refl

pub brace_close_is : (ts rest : List Placed) → brace_close_at ts ≡ Some rest → Comes (SignTok sign.BraceClose) ts rest
unfolding brace_close_at
brace_close_is (placed (SignTok sign.BraceClose) at ∷ ts) rest e = (at, cc)
brace_close_is _ rest e = cc

pub brace_close_reads : (ts rest : List Placed) → Comes (SignTok sign.BraceClose) ts rest → brace_close_at ts ≡ Some rest
unfolding brace_close_at
brace_close_reads ts rest c = rw c.1 refl

pub then_is : (ts rest : List Placed) → then_at ts ≡ Some rest → Comes (KeywordTok word.Then) ts rest
unfolding then_at
then_is (placed (KeywordTok word.Then) at ∷ ts) rest e = (at, cc)
then_is _ rest e = cc

pub then_reads : (ts rest : List Placed) → Comes (KeywordTok word.Then) ts rest → then_at ts ≡ Some rest
unfolding then_at
then_reads ts rest c = rw c.1 refl

pub else_is : (ts rest : List Placed) → else_at ts ≡ Some rest → Comes (KeywordTok word.Else) ts rest
unfolding else_at
else_is (placed (KeywordTok word.Else) at ∷ ts) rest e = (at, cc)
else_is _ rest e = cc

pub else_reads : (ts rest : List Placed) → Comes (KeywordTok word.Else) ts rest → else_at ts ≡ Some rest
unfolding else_at
else_reads ts rest c = rw c.1 refl

pub name_is : (ts rest : List Placed) (n : NameAt) → name_at ts ≡ Some (n, rest) → SpellsName n ts rest
unfolding name_at
name_is (placed (NameTok w) at ∷ ts) rest n e =
    let q = same_pair e in
    let r : ts ≡ rest = q.1 in
    subst (λ m. SpellsName m (placed (NameTok w) at ∷ ts) rest) q.0 (ap (λ l. placed (NameTok w) at ∷ l) r)
name_is _ rest n e = cc

pub name_reads : (ts rest : List Placed) (n : NameAt) → SpellsName n ts rest → name_at ts ≡ Some (n, rest)
unfolding name_at
name_reads ts rest n e = rw e refl

-- a decimal and its token
pub record Decimaled (ts : List Placed) (d : Decimal) (rest : List Placed) : Type 0 where
  pub token : Tok
  pub comes : Comes token ts rest
  pub has : HasDecimal token d

pub decimal_is : (ts rest : List Placed) (d : Decimal) → decimal_at ts ≡ Some (d, rest) → Decimaled ts d rest
unfolding decimal_at
decimal_is (placed (NumberTok n) at ∷ ts) rest d e =
    let q = same_pair e in
    let r : ts ≡ rest = q.1 in
    record { token = NumberTok n; comes = (at, ap (λ l. placed (NumberTok n) at ∷ l) r); has = sym q.0 }
decimal_is (placed (DecimalTok f) at ∷ ts) rest d e =
    let q = same_pair e in
    let r : ts ≡ rest = q.1 in
    record { token = DecimalTok f; comes = (at, ap (λ l. placed (DecimalTok f) at ∷ l) r); has = sym q.0 }
decimal_is _ rest d e = cc

pub decimal_reads : (ts rest : List Placed) (d : Decimal) (token : Tok) → Comes token ts rest → HasDecimal token d → decimal_at ts ≡ Some (d, rest)
unfolding decimal_at
decimal_reads ts rest d (NumberTok n) c h = rw (c.1, h) refl
decimal_reads ts rest d (DecimalTok f) c h = rw (c.1, h) refl
decimal_reads ts rest d _ c h = absurd h

-- operators
sign_operator_is : (s : Sign) (o : Operator) → sign_operator s ≡ Some o → SignTok s ≡ operator_token o
unfolding sign_operator
sign_operator_is sign.Equal o e = let q : Equal ≡ o = cc in ap operator_token q
sign_operator_is sign.Differ o e = let q : Differ ≡ o = cc in ap operator_token q
sign_operator_is sign.Less o e = let q : Less ≡ o = cc in ap operator_token q
sign_operator_is sign.LessEq o e = let q : LessEq ≡ o = cc in ap operator_token q
sign_operator_is sign.Greater o e = let q : Greater ≡ o = cc in ap operator_token q
sign_operator_is sign.GreaterEq o e = let q : GreaterEq ≡ o = cc in ap operator_token q
sign_operator_is sign.Bar o e = let q : BitOr ≡ o = cc in ap operator_token q
sign_operator_is sign.Caret o e = let q : BitXor ≡ o = cc in ap operator_token q
sign_operator_is sign.Ampersand o e = let q : BitAnd ≡ o = cc in ap operator_token q
sign_operator_is sign.Plus o e = let q : Plus ≡ o = cc in ap operator_token q
sign_operator_is sign.Minus o e = let q : Minus ≡ o = cc in ap operator_token q
sign_operator_is sign.Star o e = let q : Times ≡ o = cc in ap operator_token q
sign_operator_is sign.Slash o e = let q : Quot ≡ o = cc in ap operator_token q
sign_operator_is sign.Percent o e = let q : Rem ≡ o = cc in ap operator_token q
sign_operator_is _ o e = cc

operator_of_is : (t : Tok) (o : Operator) → operator_of t ≡ Some o → t ≡ operator_token o
unfolding operator_of
operator_of_is (SignTok s) o e = sign_operator_is s o e
operator_of_is (KeywordTok word.Or) o e = let q : Or ≡ o = cc in ap operator_token q
operator_of_is (KeywordTok word.And) o e = let q : And ≡ o = cc in ap operator_token q
operator_of_is _ o e = cc

only_is : (t : Tok) (at : ℕ) (ts : List Placed) (o : Option Operator) → operator_of t ≡ o → (x : Operator × ℕ × List Placed) → operator_only o at ts ≡ Some x → placed t at ∷ ts ≡ placed (operator_token x.0) x.1 ∷ x.2
only_is t at ts None q x e = cc
only_is t at ts (Some o) q x e =
    let r : (o, at, ts) ≡ x = cc in
    subst (λ y. placed t at ∷ ts ≡ placed (operator_token y.0) y.1 ∷ y.2) r (ap (λ u. placed u at ∷ ts) (operator_of_is t o q))

pub operator_is : (ts : List Placed) (x : Operator × ℕ × List Placed) → operator_at ts ≡ Some x → ts ≡ placed (operator_token x.0) x.1 ∷ x.2
unfolding operator_at
operator_is [] x e = cc
operator_is (placed t at ∷ ts) x e = only_is t at ts (operator_of t) refl x e

pub operator_reads : (o : Operator) (at : ℕ) (ts : List Placed) → operator_at (placed (operator_token o) at ∷ ts) ≡ Some (o, at, ts)
unfolding operator_at operator_of sign_operator
operator_reads Or at ts = refl
operator_reads And at ts = refl
operator_reads Equal at ts = refl
operator_reads Differ at ts = refl
operator_reads Less at ts = refl
operator_reads LessEq at ts = refl
operator_reads Greater at ts = refl
operator_reads GreaterEq at ts = refl
operator_reads BitOr at ts = refl
operator_reads BitXor at ts = refl
operator_reads BitAnd at ts = refl
operator_reads Plus at ts = refl
operator_reads Minus at ts = refl
operator_reads Times at ts = refl
operator_reads Quot at ts = refl
operator_reads Rem at ts = refl

-- no operator opens a bracket
pub operator_no_open : (o : Operator) (at : ℕ) (ts : List Placed) → open_at (placed (operator_token o) at ∷ ts) ≡ None
unfolding open_at
operator_no_open Or at ts = refl
operator_no_open And at ts = refl
operator_no_open Equal at ts = refl
operator_no_open Differ at ts = refl
operator_no_open Less at ts = refl
operator_no_open LessEq at ts = refl
operator_no_open Greater at ts = refl
operator_no_open GreaterEq at ts = refl
operator_no_open BitOr at ts = refl
operator_no_open BitXor at ts = refl
operator_no_open BitAnd at ts = refl
operator_no_open Plus at ts = refl
operator_no_open Minus at ts = refl
operator_no_open Times at ts = refl
operator_no_open Quot at ts = refl
operator_no_open Rem at ts = refl

pub operator_low : (o : Operator) → operator_level o < 10
operator_low Or = omega arith
operator_low And = omega arith
operator_low Equal = omega arith
operator_low Differ = omega arith
operator_low Less = omega arith
operator_low LessEq = omega arith
operator_low Greater = omega arith
operator_low GreaterEq = omega arith
operator_low BitOr = omega arith
operator_low BitXor = omega arith
operator_low BitAnd = omega arith
operator_low Plus = omega arith
operator_low Minus = omega arith
operator_low Times = omega arith
operator_low Quot = omega arith
operator_low Rem = omega arith

-- no operator has the level of `not`
pub below_not : (o : Operator) → operator_level o ≤ 3 → operator_level o < 3
below_not Or h = omega arith
below_not And h = omega arith
below_not Equal h = omega arith
below_not Differ h = omega arith
below_not Less h = omega arith
below_not LessEq h = omega arith
below_not Greater h = omega arith
below_not GreaterEq h = omega arith
below_not BitOr h = omega arith
below_not BitXor h = omega arith
below_not BitAnd h = omega arith
below_not Plus h = omega arith
below_not Minus h = omega arith
below_not Times h = omega arith
below_not Quot h = omega arith
below_not Rem h = omega arith

-- neither an operator nor an opening bracket stands here
pub record Closed (ts : List Placed) : Type 0 where
  pub no_operator : operator_at ts ≡ None
  pub no_open : open_at ts ≡ None

pub close_closes : (ts rest : List Placed) → Comes (SignTok sign.Close) ts rest → Closed ts
unfolding operator_at operator_of sign_operator open_at
close_closes ts rest c = rw c.1 (record { no_operator = refl; no_open = refl })

pub comma_closes : (ts rest : List Placed) → Comes (SignTok sign.Comma) ts rest → Closed ts
unfolding operator_at operator_of sign_operator open_at
comma_closes ts rest c = rw c.1 (record { no_operator = refl; no_open = refl })

pub semicolon_closes : (ts rest : List Placed) → Comes (SignTok sign.Semicolon) ts rest → Closed ts
unfolding operator_at operator_of sign_operator open_at
semicolon_closes ts rest c = rw c.1 (record { no_operator = refl; no_open = refl })

pub colon_closes : (ts rest : List Placed) → Comes (SignTok sign.Colon) ts rest → Closed ts
unfolding operator_at operator_of sign_operator open_at
colon_closes ts rest c = rw c.1 (record { no_operator = refl; no_open = refl })

pub then_closes : (ts rest : List Placed) → Comes (KeywordTok word.Then) ts rest → Closed ts
unfolding operator_at operator_of sign_operator open_at
then_closes ts rest c = rw c.1 (record { no_operator = refl; no_open = refl })

pub else_closes : (ts rest : List Placed) → Comes (KeywordTok word.Else) ts rest → Closed ts
unfolding operator_at operator_of sign_operator open_at
else_closes ts rest c = rw c.1 (record { no_operator = refl; no_open = refl })
