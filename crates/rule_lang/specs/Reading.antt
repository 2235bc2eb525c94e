-- Internal: what the functions of the parser return, token by token: what they read at the front
-- of a token list, and the tokens after it. No public clause cites it; what a tree's tokens are stands in Tree.
use Rattle.std.specs.Prelude.{ℕ, zero, suc, List, [], ◌∷◌, Option, Some, None}
use Rattle.rule_lang.specs.declared.tree.Op.{Op}
use Rattle.rule_lang.specs.declared.tree.Op.TheVariants.{Plus, Minus, Times, Quot, Rem, BitAnd, BitOr, BitXor, Equal, Differ, Less, LessEq, Greater, GreaterEq, Min, Max}
use Rattle.rule_lang.specs.declared.tree.Agg.{Agg}
use Rattle.rule_lang.specs.declared.tree.Agg.TheVariants.{Total, Least, Most, Count, Some1, Every}
use Rattle.rule_lang.specs.declared.token.Sign.{Sign}
use Rattle.rule_lang.specs.declared.token.Sign.TheVariants as sign
use Rattle.rule_lang.specs.declared.keyword.Keyword.{Keyword}
use Rattle.rule_lang.specs.declared.keyword.Keyword.TheVariants as word
use Rattle.rule_lang.specs.Keywords.{keyword_of}
use Rattle.rule_lang.specs.Tokens.{Tok, WordTok, NearTok, NumberTok, SignTok}
use Rattle.rule_lang.specs.Tree.{Tree, NumberTree, OwnTree, IdTree, DegreeTree, RoundTree, NearTree, NearIdTree, NearWeightTree, InfixTree, NotTree, OverTree, ChoiceTree, ItemTree, FieldTree, NextTree}

-- the next step, where this one read something
infixl 10 ◌>>=◌
abbrev pub ◌>>=◌ : {A B : Type 0} → Option A → (A → Option B) → Option B
None >>= f = None
(Some x) >>= f = f x

-- something read, and the tokens after it
abbrev pub Reads : Type 0 → Type 0
Reads A = List Tok → Option (A × List Tok)

-- single tokens
unfoldable pub close_at : List Tok → Option (List Tok)
close_at (SignTok sign.Close ∷ ts) = Some ts
close_at _ = None

unfoldable pub semicolon_at : List Tok → Option (List Tok)
semicolon_at (SignTok sign.Semicolon ∷ ts) = Some ts
semicolon_at _ = None

unfoldable pub assign_at : List Tok → Option (List Tok)
assign_at (SignTok sign.Assign ∷ ts) = Some ts
assign_at _ = None

unfoldable pub number_at : Reads ℕ
number_at (NumberTok n ∷ ts) = Some (n, ts)
number_at _ = None

-- a word that no keyword has
abbrev pub name_only : Option Keyword → List ℕ → List Tok → Option (List ℕ × List Tok)
name_only None w ts = Some (w, ts)
name_only (Some k) w ts = None

unfoldable pub name_at : Reads (List ℕ)
name_at (WordTok w ∷ ts) = name_only (keyword_of w) w ts
name_at _ = None

-- the word `then`
abbrev pub then_only : Option Keyword → List Tok → Option (List Tok)
then_only (Some word.Then) ts = Some ts
then_only _ ts = None

unfoldable pub then_at : List Tok → Option (List Tok)
then_at (WordTok w ∷ ts) = then_only (keyword_of w) ts
then_at _ = None

-- the word `else`
abbrev pub else_only : Option Keyword → List Tok → Option (List Tok)
else_only (Some word.Else) ts = Some ts
else_only _ ts = None

unfoldable pub else_at : List Tok → Option (List Tok)
else_at (WordTok w ∷ ts) = else_only (keyword_of w) ts
else_at _ = None

-- the operator of a sign, of a keyword, of a token
unfoldable pub sign_op : Sign → Option Op
sign_op sign.Plus = Some Plus
sign_op sign.Minus = Some Minus
sign_op sign.Star = Some Times
sign_op sign.Slash = Some Quot
sign_op sign.Percent = Some Rem
sign_op sign.Ampersand = Some BitAnd
sign_op sign.Bar = Some BitOr
sign_op sign.Caret = Some BitXor
sign_op sign.Equal = Some Equal
sign_op sign.Differ = Some Differ
sign_op sign.Less = Some Less
sign_op sign.LessEq = Some LessEq
sign_op sign.Greater = Some Greater
sign_op sign.GreaterEq = Some GreaterEq
sign_op _ = None

abbrev pub word_op : Option Keyword → Option Op
word_op (Some word.Min) = Some Min
word_op (Some word.Max) = Some Max
word_op _ = None

unfoldable pub op_of : Tok → Option Op
op_of (SignTok s) = sign_op s
op_of (WordTok w) = word_op (keyword_of w)
op_of _ = None

unfoldable pub op_at : Reads Op
op_at [] = None
op_at (t ∷ ts) = do
  op ← op_of t
  Some (op, ts)

-- the aggregate of a keyword
unfoldable pub agg_of : Keyword → Option Agg
agg_of word.Total = Some Total
agg_of word.Least = Some Least
agg_of word.Most = Some Most
agg_of word.Count = Some Count
agg_of word.Any = Some Some1
agg_of word.All = Some Every
agg_of _ = None

-- the form of a neighbour: a field, its number or the weight of the link to it
abbrev pub near_only : Option Keyword → List ℕ → Option Tree
near_only None w = Some (NearTree w)
near_only (Some word.Id) w = Some NearIdTree
near_only (Some word.Weight) w = Some NearWeightTree
near_only (Some _) w = None

unfoldable pub near_of : List ℕ → Option Tree
near_of w = near_only (keyword_of w) w

-- what follows an opening bracket, where expr reads the parts
unfoldable pub infix_at : Reads Tree → Reads Tree
infix_at expr ts = do
  a ← expr ts
  op ← op_at a.1
  b ← expr op.1
  rest ← close_at b.1
  Some (InfixTree op.0 a.0 b.0, rest)

-- what follows `if`
unfoldable pub choice_at : Reads Tree → Reads Tree
choice_at expr ts = do
  a ← expr ts
  t ← then_at a.1
  b ← expr t
  e ← else_at b.1
  c ← expr e
  Some (ChoiceTree a.0 b.0 c.0, c.1)

-- what follows the word of an aggregate
unfoldable pub over_at : Reads Tree → Keyword → Reads Tree
over_at expr k ts = do
  agg ← agg_of k
  a ← expr ts
  Some (OverTree agg a.0, a.1)

-- what follows a keyword
unfoldable pub prefix_at : Reads Tree → Keyword → Reads Tree
prefix_at expr word.Id ts = Some (IdTree, ts)
prefix_at expr word.Degree ts = Some (DegreeTree, ts)
prefix_at expr word.Round ts = Some (RoundTree, ts)
prefix_at expr word.Not ts = do
  a ← expr ts
  Some (NotTree a.0, a.1)
prefix_at expr word.If ts = choice_at expr ts
prefix_at expr k ts = over_at expr k ts

-- what follows a word: nothing after a name
abbrev pub own_or_prefix_at : Reads Tree → Option Keyword → List ℕ → Reads Tree
own_or_prefix_at expr None w ts = Some (OwnTree w, ts)
own_or_prefix_at expr (Some k) w ts = prefix_at expr k ts

-- an expression whose parts expr reads
unfoldable pub form_at : Reads Tree → Reads Tree
form_at expr [] = None
form_at expr (NumberTok n ∷ ts) = Some (NumberTree n, ts)
form_at expr (NearTok w ∷ ts) = do
  t ← near_of w
  Some (t, ts)
form_at expr (WordTok w ∷ ts) = own_or_prefix_at expr (keyword_of w) w ts
form_at expr (SignTok sign.Open ∷ ts) = infix_at expr ts
form_at expr (SignTok _ ∷ ts) = None

-- an expression of at most this depth
unfoldable pub expr_at : ℕ → Reads Tree
expr_at zero ts = None
expr_at (suc d) ts = form_at (expr_at d) ts

-- what follows `field` or `next`
unfoldable pub field_at : Reads ItemTree
field_at ts = do
  name ← name_at ts
  rest ← assign_at name.1
  value ← number_at rest
  end ← semicolon_at value.1
  Some (FieldTree name.0 value.0, end)

unfoldable pub next_at : Reads ItemTree
next_at ts = do
  name ← name_at ts
  rest ← assign_at name.1
  body ← expr_at 64 rest
  end ← semicolon_at body.1
  Some (NextTree name.0 body.0, end)

-- what follows the first word of an item
abbrev pub item_only : Option Keyword → Reads ItemTree
item_only (Some word.Field) ts = field_at ts
item_only (Some word.Next) ts = next_at ts
item_only _ ts = None

-- an item
unfoldable pub item_at : Reads ItemTree
item_at (WordTok w ∷ ts) = item_only (keyword_of w) ts
item_at _ = None
