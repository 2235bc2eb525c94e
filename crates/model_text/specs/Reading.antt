-- Internal: what the functions of the parser return, token by token: what they read at the front of a token list, and
-- the tokens after it. No public clause cites it; what a tree's tokens are stands in Grammar.
use Rattle.std.specs.Prelude.{ℕ, zero, suc, List, [], ◌∷◌, ◌++◌, Option, Some, None, nat_le, nat_lt, if◌then◌else◌}
use Rattle.model_text.specs.declared.tree.Operator.{Operator}
use Rattle.model_text.specs.declared.tree.Operator.TheVariants.{Or, And, Equal, Differ, Less, LessEq, Greater, GreaterEq, BitOr, BitXor, BitAnd, Plus, Minus, Times, Quot, Rem}
use Rattle.model_text.specs.declared.tree.Decimal.{Decimal}
use Rattle.model_text.specs.declared.keyword.Keyword.{Keyword}
use Rattle.model_text.specs.declared.keyword.Keyword.TheVariants as word
use Rattle.model_text.specs.declared.token.Sign.{Sign}
use Rattle.model_text.specs.declared.token.Sign.TheVariants as sign
use Rattle.model_text.specs.declared.expect.Ending.{Ending}
use Rattle.model_text.specs.declared.expect.Ending.TheVariants as ending
use Rattle.model_text.specs.Tokens.{Tok, KeywordTok, NameTok, NearTok, NearIdTok, NearWeightTok, NumberTok, DecimalTok, SignTok, Placed, placed}
use Rattle.model_text.specs.Tree.{Tree, NumberTree, NothingTree, NameTree, IdTree, DegreeTree, RoundTree, NearTree, NearIdTree, NearWeightTree, InfixTree, NotTree, ParensTree, IfTree, CasesTree, CallTree, ApplyTree, ChanceTree, ChanceOfTree, ArmTree, OneArm, ElseArm, ArgumentTree, NoArgument, OneArgument, NameAt, ItemTree, ConstTree, StatesTree, FieldTree, LetTree, NextTree}
use Rattle.model_text.specs.Grammar.{operator_level, is_chain, depth}

-- the next step, where this one read something
infixl 10 ◌>>=◌
abbrev pub ◌>>=◌ : {A B : Type 0} → Option A → (A → Option B) → Option B
None >>= f = None
(Some x) >>= f = f x

-- something read, and the tokens after it
abbrev pub Reads : Type 0 → Type 0
Reads A = List Placed → Option (A × List Placed)

-- single tokens
unfoldable pub assign_at : List Placed → Option (List Placed)
assign_at (placed (SignTok sign.Assign) at ∷ ts) = Some ts
assign_at _ = None

unfoldable pub semicolon_at : List Placed → Option (List Placed)
semicolon_at (placed (SignTok sign.Semicolon) at ∷ ts) = Some ts
semicolon_at _ = None

unfoldable pub colon_at : List Placed → Option (List Placed)
colon_at (placed (SignTok sign.Colon) at ∷ ts) = Some ts
colon_at _ = None

unfoldable pub comma_at : List Placed → Option (List Placed)
comma_at (placed (SignTok sign.Comma) at ∷ ts) = Some ts
comma_at _ = None

unfoldable pub open_at : List Placed → Option (List Placed)
open_at (placed (SignTok sign.Open) at ∷ ts) = Some ts
open_at _ = None

unfoldable pub close_at : List Placed → Option (List Placed)
close_at (placed (SignTok sign.Close) at ∷ ts) = Some ts
close_at _ = None

unfoldable pub brace_open_at : List Placed → Option (List Placed)
brace_open_at (placed (SignTok sign.BraceOpen) at ∷ ts) = Some ts
brace_open_at _ = None

unfoldable pub brace_close_at : List Placed → Option (List Placed)
brace_close_at (placed (SignTok sign.BraceClose) at ∷ ts) = Some ts
brace_close_at _ = None

unfoldable pub then_at : List Placed → Option (List Placed)
then_at (placed (KeywordTok word.Then) at ∷ ts) = Some ts
then_at _ = None

unfoldable pub else_at : List Placed → Option (List Placed)
else_at (placed (KeywordTok word.Else) at ∷ ts) = Some ts
else_at _ = None

unfoldable pub name_at : Reads NameAt
name_at (placed (NameTok w) at ∷ ts) = Some (record { name = w; at = at }, ts)
name_at _ = None

unfoldable pub decimal_at : Reads Decimal
decimal_at (placed (NumberTok n) at ∷ ts) = Some (record { numerator = n; places = 0 }, ts)
decimal_at (placed (DecimalTok d) at ∷ ts) = Some (d, ts)
decimal_at _ = None

-- the operator of a sign, of a reserved word, of a token
unfoldable pub sign_operator : Sign → Option Operator
sign_operator sign.Equal = Some Equal
sign_operator sign.Differ = Some Differ
sign_operator sign.Less = Some Less
sign_operator sign.LessEq = Some LessEq
sign_operator sign.Greater = Some Greater
sign_operator sign.GreaterEq = Some GreaterEq
sign_operator sign.Bar = Some BitOr
sign_operator sign.Caret = Some BitXor
sign_operator sign.Ampersand = Some BitAnd
sign_operator sign.Plus = Some Plus
sign_operator sign.Minus = Some Minus
sign_operator sign.Star = Some Times
sign_operator sign.Slash = Some Quot
sign_operator sign.Percent = Some Rem
sign_operator _ = None

unfoldable pub operator_of : Tok → Option Operator
operator_of (SignTok s) = sign_operator s
operator_of (KeywordTok word.Or) = Some Or
operator_of (KeywordTok word.And) = Some And
operator_of _ = None

-- an operator, its place and the tokens after it
abbrev pub operator_only : Option Operator → ℕ → List Placed → Option (Operator × ℕ × List Placed)
operator_only None at ts = None
operator_only (Some o) at ts = Some (o, at, ts)

unfoldable pub operator_at : List Placed → Option (Operator × ℕ × List Placed)
operator_at [] = None
operator_at (placed t at ∷ ts) = operator_only (operator_of t) at ts

-- what follows an opening bracket, where expr reads parts from a level on
unfoldable pub parens_at : (ℕ → Reads Tree) → ℕ → Reads Tree
parens_at expr at ts = do
  a ← expr 0 ts
  rest ← close_at a.1
  Some (ParensTree at a.0, rest)

-- what follows `if`
unfoldable pub if_at : (ℕ → Reads Tree) → ℕ → Reads Tree
if_at expr at ts = do
  a ← expr 0 ts
  t ← then_at a.1
  b ← expr 0 t
  e ← else_at b.1
  c ← expr 0 e
  Some (IfTree at a.0 b.0 c.0, c.1)

-- what follows `not`
unfoldable pub not_at : (ℕ → Reads Tree) → ℕ → ℕ → Reads Tree
not_at expr level at ts = if nat_lt 3 level then None else (expr 3 ts >>= λ a. Some (NotTree at a.0, a.1))

-- what follows `cases`, where arms reads the arms and the closing brace
unfoldable pub cases_at : Reads ArmTree → ℕ → Reads Tree
cases_at arms at ts = do
  rest ← brace_open_at ts
  a ← arms rest
  Some (CasesTree at a.0, a.1)

-- what follows a name: brackets, or nothing of the same expression
unfoldable pub named_at : Reads ArgumentTree → List ℕ → ℕ → Reads Tree
named_at arguments w at (placed (SignTok sign.Open) p ∷ ts) = arguments ts >>= λ a. Some (ApplyTree w at a.0, a.1)
named_at arguments w at ts = Some (NameTree w at, ts)

-- what follows `chance` or `chance_of`
unfoldable pub chance_at : Reads Decimal
chance_at ts = do
  rest ← open_at ts
  d ← decimal_at rest
  end ← close_at d.1
  Some (d.0, end)

-- what follows a reserved word
unfoldable pub keyword_at : (ℕ → Reads Tree) → Reads ArmTree → Reads ArgumentTree → ℕ → Keyword → ℕ → Reads Tree
keyword_at expr arms arguments level word.Nothing at ts = Some (NothingTree at, ts)
keyword_at expr arms arguments level word.Id at ts = Some (IdTree at, ts)
keyword_at expr arms arguments level word.Degree at ts = Some (DegreeTree at, ts)
keyword_at expr arms arguments level word.Round at ts = Some (RoundTree at, ts)
keyword_at expr arms arguments level word.Not at ts = not_at expr level at ts
keyword_at expr arms arguments level word.If at ts = if_at expr at ts
keyword_at expr arms arguments level word.Cases at ts = cases_at arms at ts
keyword_at expr arms arguments level word.Chance at ts = chance_at ts >>= λ d. Some (ChanceTree at d.0, d.1)
keyword_at expr arms arguments level word.ChanceOf at ts = chance_at ts >>= λ d. Some (ChanceOfTree at d.0, d.1)
keyword_at expr arms arguments level (word.Function f) at ts = (open_at ts >>= arguments) >>= λ a. Some (CallTree f at a.0, a.1)
keyword_at expr arms arguments level _ at ts = None

-- an expression up to its first operator, whose parts expr, arms and arguments read
unfoldable pub form_at : (ℕ → Reads Tree) → Reads ArmTree → Reads ArgumentTree → ℕ → Reads Tree
form_at expr arms arguments level [] = None
form_at expr arms arguments level (placed (NumberTok n) at ∷ ts) = Some (NumberTree n at, ts)
form_at expr arms arguments level (placed (NameTok w) at ∷ ts) = named_at arguments w at ts
form_at expr arms arguments level (placed (NearTok w) at ∷ ts) = Some (NearTree w at, ts)
form_at expr arms arguments level (placed NearIdTok at ∷ ts) = Some (NearIdTree at, ts)
form_at expr arms arguments level (placed NearWeightTok at ∷ ts) = Some (NearWeightTree at, ts)
form_at expr arms arguments level (placed (KeywordTok k) at ∷ ts) = keyword_at expr arms arguments level k at ts
form_at expr arms arguments level (placed (SignTok sign.Open) at ∷ ts) = parens_at expr at ts
form_at expr arms arguments level (placed _ at ∷ ts) = None

-- the operators of this level and above that follow a left part, and their right parts; no more than so many
abbrev pub ended_at : ℕ → Tree → Option (Operator × ℕ × List Placed) → Reads Tree
ended_at level left None ts = Some (left, ts)
ended_at level left (Some x) ts = if nat_lt (operator_level x.0) level then Some (left, ts) else None

abbrev pub joined_at : (ℕ → Reads Tree) → (Tree → Reads Tree) → ℕ → Tree → Option (Operator × ℕ × List Placed) → Reads Tree
joined_at expr more level left None ts = Some (left, ts)
joined_at expr more level left (Some x) ts =
    if nat_lt (operator_level x.0) level then Some (left, ts)
    else if is_chain left x.0 then None
    else (expr (suc (operator_level x.0)) x.2 >>= λ b. more (InfixTree x.0 x.1 left b.0) b.1)

unfoldable pub more_at : (ℕ → Reads Tree) → ℕ → ℕ → Tree → Reads Tree
more_at expr zero level left ts = ended_at level left (operator_at ts) ts
more_at expr (suc joins) level left ts = joined_at expr (more_at expr joins level) level left (operator_at ts) ts

-- arms, to the closing brace
unfoldable pub value_at : (ℕ → Reads Tree) → Reads Tree
value_at expr ts = do
  c ← colon_at ts
  v ← expr 0 c
  s ← semicolon_at v.1
  Some (v.0, s)

unfoldable pub else_arm_at : (ℕ → Reads Tree) → Reads ArmTree
else_arm_at expr ts = do
  v ← value_at expr ts
  end ← brace_close_at v.1
  Some (ElseArm v.0, end)

unfoldable pub one_arm_at : (ℕ → Reads Tree) → Reads ArmTree → Reads ArmTree
one_arm_at expr arms ts = do
  t ← expr 0 ts
  v ← value_at expr t.1
  r ← arms v.1
  Some (OneArm t.0 v.0 r.0, r.1)

abbrev pub arm_by : (ℕ → Reads Tree) → Reads ArmTree → Option (List Placed) → Reads ArmTree
arm_by expr arms None ts = one_arm_at expr arms ts
arm_by expr arms (Some rest) ts = else_arm_at expr rest

unfoldable pub arm_at : (ℕ → Reads Tree) → Reads ArmTree → Reads ArmTree
arm_at expr arms ts = arm_by expr arms (else_at ts) ts

-- arguments, to the closing bracket
unfoldable pub argument_at : (ℕ → Reads Tree) → Reads ArgumentTree → Reads ArgumentTree
argument_at expr more ts = do
  a ← expr 0 ts
  r ← more a.1
  Some (OneArgument a.0 r.0, r.1)

abbrev pub first_by : (ℕ → Reads Tree) → Reads ArgumentTree → Option (List Placed) → Reads ArgumentTree
first_by expr more None ts = argument_at expr more ts
first_by expr more (Some rest) ts = Some (NoArgument, rest)

unfoldable pub first_at : (ℕ → Reads Tree) → Reads ArgumentTree → Reads ArgumentTree
first_at expr more ts = first_by expr more (close_at ts) ts

unfoldable pub next_at : (ℕ → Reads Tree) → Reads ArgumentTree → Reads ArgumentTree
next_at expr more (placed (SignTok sign.Close) at ∷ ts) = Some (NoArgument, ts)
next_at expr more (placed (SignTok sign.Comma) at ∷ ts) = argument_at expr more ts
next_at expr more _ = None

-- an expression whose operators have this level at least, arms, and arguments, nested so deep at most
unfoldable mutual
  pub expr_at : ℕ → ℕ → Reads Tree
  expr_at zero level ts = None
  expr_at (suc d) level ts = form_at (expr_at d) (arms_at d) (arguments_at d) level ts >>= λ a. more_at (expr_at d) d level a.0 a.1

  pub arms_at : ℕ → Reads ArmTree
  arms_at zero ts = None
  arms_at (suc d) ts = arm_at (expr_at d) (arms_at d) ts

  pub arguments_at : ℕ → Reads ArgumentTree
  arguments_at zero ts = None
  arguments_at (suc d) ts = first_at (expr_at d) (others_at d) ts

  pub others_at : ℕ → Reads ArgumentTree
  others_at zero ts = None
  others_at (suc d) ts = next_at (expr_at d) (others_at d) ts

-- the bracket that ends a list of names
unfoldable pub ending_at : Ending → List Placed → Option (List Placed)
ending_at ending.Round ts = close_at ts
ending_at ending.Brace ts = brace_close_at ts

-- the name after a comma, where a comma stands
abbrev pub another_by : Option (List Placed) → Option (Option NameAt)
another_by None = Some None
another_by (Some rest) = name_at rest >>= λ n. Some (Some n.0)

unfoldable pub another_at : List Placed → Option (Option NameAt)
another_at ts = another_by (comma_at ts)

-- names after names, each after a comma, to the closing bracket
unfoldable pub names_at : Ending → List NameAt → Reads (List NameAt)
names_at e names (placed (SignTok sign.Comma) at ∷ placed (NameTok w) place ∷ ts) = names_at e (names ++ record { name = w; at = place } ∷ []) ts
names_at e names ts = ending_at e ts >>= λ rest. Some (names, rest)

unfoldable pub list_at : Ending → Reads (List NameAt)
list_at e ts = name_at ts >>= λ n. names_at e (n.0 ∷ []) n.1

-- an expression that is 100 deep at most
unfoldable pub shallow_at : Reads Tree
shallow_at ts = expr_at 100 0 ts >>= λ a. if nat_le (depth a.0) 100 then Some a else None

-- `=`, an expression and `;`
unfoldable pub body_at : Reads Tree
body_at ts = do
  rest ← assign_at ts
  body ← shallow_at rest
  end ← semicolon_at body.1
  Some (body.0, end)

-- `: states`, and the parameters of a let, where they stand
unfoldable pub states_at : Reads (Option NameAt)
states_at (placed (SignTok sign.Colon) at ∷ ts) = name_at ts >>= λ n. Some (Some n.0, n.1)
states_at ts = Some (None, ts)

unfoldable pub parameters_at : Reads (List NameAt)
parameters_at (placed (SignTok sign.Open) at ∷ ts) = list_at ending.Round ts
parameters_at ts = Some ([], ts)

-- what follows the first word of an item
unfoldable pub const_item_at : Reads ItemTree
const_item_at ts = do
  n ← name_at ts
  b ← body_at n.1
  Some (ConstTree n.0 b.0, b.1)

unfoldable pub states_item_at : Reads ItemTree
states_item_at ts = do
  n ← name_at ts
  rest ← brace_open_at n.1
  l ← list_at ending.Brace rest
  Some (StatesTree n.0 l.0, l.1)

unfoldable pub field_item_at : Reads ItemTree
field_item_at ts = do
  n ← name_at ts
  s ← states_at n.1
  b ← body_at s.1
  Some (FieldTree n.0 s.0 b.0, b.1)

unfoldable pub let_item_at : Reads ItemTree
let_item_at ts = do
  n ← name_at ts
  p ← parameters_at n.1
  b ← body_at p.1
  Some (LetTree n.0 p.0 b.0, b.1)

unfoldable pub next_item_at : Reads ItemTree
next_item_at ts = do
  n ← name_at ts
  b ← body_at n.1
  Some (NextTree n.0 b.0, b.1)

-- an item
unfoldable pub item_at : Reads ItemTree
item_at (placed (KeywordTok word.Const) at ∷ ts) = const_item_at ts
item_at (placed (KeywordTok word.States) at ∷ ts) = states_item_at ts
item_at (placed (KeywordTok word.Field) at ∷ ts) = field_item_at ts
item_at (placed (KeywordTok word.Let) at ∷ ts) = let_item_at ts
item_at (placed (KeywordTok word.Next) at ∷ ts) = next_item_at ts
item_at _ = None
