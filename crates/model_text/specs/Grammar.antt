-- The grammar of models: which tokens spell an expression and an item. A relation says `from` and `to`: the tokens of
-- the part, and then those of `to`, are `from`.
use Rattle.std.specs.Prelude.{ℕ, ◌+◌, ◌≡◌, ◌≤◌, ◌<◌, List, [], ◌∷◌, Bool, true, false, ◌&&◌, Option, Some, None, max, length, nat_eq}
use Rattle.model_text.specs.declared.tree.Operator.{Operator}
use Rattle.model_text.specs.declared.tree.Operator.TheVariants.{Or, And, Equal, Differ, Less, LessEq, Greater, GreaterEq, BitOr, BitXor, BitAnd, Plus, Minus, Times, Quot, Rem}
use Rattle.model_text.specs.declared.tree.Decimal.{Decimal}
use Rattle.model_text.specs.declared.keyword.Keyword.TheVariants as word
use Rattle.model_text.specs.declared.token.Sign.{Sign}
use Rattle.model_text.specs.declared.token.Sign.TheVariants as sign
use Rattle.model_text.specs.Tokens.{Tok, KeywordTok, NameTok, NearTok, NearIdTok, NearWeightTok, NumberTok, DecimalTok, SignTok, Placed, placed}
use Rattle.model_text.specs.Tree.{Tree, NumberTree, NothingTree, NameTree, IdTree, DegreeTree, RoundTree, NearTree, NearIdTree, NearWeightTree, InfixTree, NotTree, ParensTree, IfTree, CasesTree, CallTree, ApplyTree, ChanceTree, ChanceOfTree, ArmTree, OneArm, ElseArm, ArgumentTree, NoArgument, OneArgument, NameAt, ItemTree, ConstTree, StatesTree, FieldTree, LetTree, NextTree}

-- the token of an operator
abbrev pub operator_token : Operator → Tok
operator_token Or = KeywordTok word.Or
operator_token And = KeywordTok word.And
operator_token Equal = SignTok sign.Equal
operator_token Differ = SignTok sign.Differ
operator_token Less = SignTok sign.Less
operator_token LessEq = SignTok sign.LessEq
operator_token Greater = SignTok sign.Greater
operator_token GreaterEq = SignTok sign.GreaterEq
operator_token BitOr = SignTok sign.Bar
operator_token BitXor = SignTok sign.Caret
operator_token BitAnd = SignTok sign.Ampersand
operator_token Plus = SignTok sign.Plus
operator_token Minus = SignTok sign.Minus
operator_token Times = SignTok sign.Star
operator_token Quot = SignTok sign.Slash
operator_token Rem = SignTok sign.Percent

-- the level of an operator: those of a greater level bind tighter. `not` stands at level 3
abbrev pub operator_level : Operator → ℕ
operator_level Or = 1
operator_level And = 2
operator_level Equal = 4
operator_level Differ = 4
operator_level Less = 4
operator_level LessEq = 4
operator_level Greater = 4
operator_level GreaterEq = 4
operator_level BitOr = 5
operator_level BitXor = 6
operator_level BitAnd = 7
operator_level Plus = 8
operator_level Minus = 8
operator_level Times = 9
operator_level Quot = 9
operator_level Rem = 9

-- the level of an expression: 10 where it is no operator and no `not`
abbrev pub level : Tree → ℕ
level (InfixTree operator at left right) = operator_level operator
level (NotTree at part) = 3
level _ = 10

-- the last part is an `else` without a bracket after it: an operator there would belong to that part
abbrev pub is_open : Tree → Bool
is_open (InfixTree operator at left right) = is_open right
is_open (NotTree at part) = is_open part
is_open (IfTree at test first second) = true
is_open _ = false

-- a comparison after a comparison
abbrev pub is_chain : Tree → Operator → Bool
is_chain left operator = nat_eq (level left) 4 && nat_eq (operator_level operator) 4

-- An operator may stand after this left part: the part binds as tight (operators of one level group from the left), is
-- no comparison where the operator is one, and does not end with an `else`.
abbrev pub Precedes : Tree → Operator → Type 0
Precedes left operator = (operator_level operator ≤ level left) × (is_chain left operator ≡ false) × (is_open left ≡ false)

-- How deep an expression is nested: one more than its deepest part. Each arm of `cases`, and each argument, stands one
-- deeper than that before it.
abbrev mutual
  pub depth : Tree → ℕ
  depth (InfixTree operator at left right) = max (depth left) (depth right) + 1
  depth (NotTree at part) = depth part + 1
  depth (ParensTree at part) = depth part + 1
  depth (IfTree at test first second) = max (depth test) (max (depth first) (depth second)) + 1
  depth (CasesTree at arms) = arms_depth arms + 1
  depth (CallTree function at arguments) = arguments_depth arguments + 1
  depth (ApplyTree name at arguments) = arguments_depth arguments + 1
  depth _ = 1

  pub arms_depth : ArmTree → ℕ
  arms_depth (OneArm test value rest) = max (depth test) (max (depth value) (arms_depth rest)) + 1
  arms_depth (ElseArm value) = depth value + 1

  pub arguments_depth : ArgumentTree → ℕ
  arguments_depth NoArgument = 1
  arguments_depth (OneArgument first rest) = max (depth first) (arguments_depth rest) + 1

-- the operators of an expression stand by their levels
abbrev mutual
  pub IsLevelled : Tree → Type 0
  IsLevelled (InfixTree operator at left right) = IsLevelled left × IsLevelled right × Precedes left operator × (operator_level operator < level right)
  IsLevelled (NotTree at part) = IsLevelled part × (3 ≤ level part)
  IsLevelled (ParensTree at part) = IsLevelled part
  IsLevelled (IfTree at test first second) = IsLevelled test × IsLevelled first × IsLevelled second
  IsLevelled (CasesTree at arms) = AreLevelledArms arms
  IsLevelled (CallTree function at arguments) = AreLevelled arguments
  IsLevelled (ApplyTree name at arguments) = AreLevelled arguments
  IsLevelled _ = Unit {0}

  pub AreLevelledArms : ArmTree → Type 0
  AreLevelledArms (OneArm test value rest) = IsLevelled test × IsLevelled value × AreLevelledArms rest
  AreLevelledArms (ElseArm value) = IsLevelled value

  pub AreLevelled : ArgumentTree → Type 0
  AreLevelled NoArgument = Unit {0}
  AreLevelled (OneArgument first rest) = IsLevelled first × AreLevelled rest

-- this token stands first, somewhere in the text
abbrev pub Comes : Tok → List Placed → List Placed → Type 0
Comes token from to = (at : ℕ) × (from ≡ placed token at ∷ to)

-- the token of a decimal: with its point, or a number
abbrev pub HasDecimal : Tok → Decimal → Type 0
HasDecimal (NumberTok n) d = d ≡ record { numerator = n; places = 0 }
HasDecimal (DecimalTok e) d = d ≡ e
HasDecimal _ d = ⊥

-- a decimal in brackets
abbrev pub SpellsChance : Decimal → List Placed → List Placed → Type 0
SpellsChance d from to = (a b : List Placed) × (token : Tok) × Comes (SignTok sign.Open) from a × Comes token a b × HasDecimal token d × Comes (SignTok sign.Close) b to

-- the tokens of an expression
abbrev mutual
  pub Spells : Tree → List Placed → List Placed → Type 0
  Spells (NumberTree value at) from to = from ≡ placed (NumberTok value) at ∷ to
  Spells (NothingTree at) from to = from ≡ placed (KeywordTok word.Nothing) at ∷ to
  Spells (NameTree name at) from to = from ≡ placed (NameTok name) at ∷ to
  Spells (IdTree at) from to = from ≡ placed (KeywordTok word.Id) at ∷ to
  Spells (DegreeTree at) from to = from ≡ placed (KeywordTok word.Degree) at ∷ to
  Spells (RoundTree at) from to = from ≡ placed (KeywordTok word.Round) at ∷ to
  Spells (NearTree name at) from to = from ≡ placed (NearTok name) at ∷ to
  Spells (NearIdTree at) from to = from ≡ placed NearIdTok at ∷ to
  Spells (NearWeightTree at) from to = from ≡ placed NearWeightTok at ∷ to
  Spells (InfixTree operator at left right) from to = (b : List Placed) × Spells left from (placed (operator_token operator) at ∷ b) × Spells right b to
  Spells (NotTree at part) from to = (a : List Placed) × (from ≡ placed (KeywordTok word.Not) at ∷ a) × Spells part a to
  Spells (ParensTree at part) from to = (a b : List Placed) × (from ≡ placed (SignTok sign.Open) at ∷ a) × Spells part a b × Comes (SignTok sign.Close) b to
  Spells (IfTree at test first second) from to =
      (a b c d e : List Placed) × (from ≡ placed (KeywordTok word.If) at ∷ a) × Spells test a b × Comes (KeywordTok word.Then) b c × Spells first c d × Comes (KeywordTok word.Else) d e × Spells second e to
  Spells (CasesTree at arms) from to = (a b : List Placed) × (from ≡ placed (KeywordTok word.Cases) at ∷ a) × Comes (SignTok sign.BraceOpen) a b × SpellsArms arms b to
  Spells (CallTree function at arguments) from to = (a b : List Placed) × (from ≡ placed (KeywordTok (word.Function function)) at ∷ a) × Comes (SignTok sign.Open) a b × SpellsArguments arguments b to
  Spells (ApplyTree name at arguments) from to = (a b : List Placed) × (from ≡ placed (NameTok name) at ∷ a) × Comes (SignTok sign.Open) a b × SpellsArguments arguments b to
  Spells (ChanceTree at decimal) from to = (a : List Placed) × (from ≡ placed (KeywordTok word.Chance) at ∷ a) × SpellsChance decimal a to
  Spells (ChanceOfTree at decimal) from to = (a : List Placed) × (from ≡ placed (KeywordTok word.ChanceOf) at ∷ a) × SpellsChance decimal a to

  -- arms, and the closing brace
  pub SpellsArms : ArmTree → List Placed → List Placed → Type 0
  SpellsArms (OneArm test value rest) from to = (a b c d : List Placed) × Spells test from a × Comes (SignTok sign.Colon) a b × Spells value b c × Comes (SignTok sign.Semicolon) c d × SpellsArms rest d to
  SpellsArms (ElseArm value) from to = (a b c d : List Placed) × Comes (KeywordTok word.Else) from a × Comes (SignTok sign.Colon) a b × Spells value b c × Comes (SignTok sign.Semicolon) c d × Comes (SignTok sign.BraceClose) d to

  -- arguments, and the closing bracket
  pub SpellsArguments : ArgumentTree → List Placed → List Placed → Type 0
  SpellsArguments NoArgument from to = Comes (SignTok sign.Close) from to
  SpellsArguments (OneArgument first rest) from to = (a : List Placed) × Spells first from a × SpellsMore rest a to

  -- the same after an argument, each after a comma
  pub SpellsMore : ArgumentTree → List Placed → List Placed → Type 0
  SpellsMore NoArgument from to = Comes (SignTok sign.Close) from to
  SpellsMore (OneArgument first rest) from to = (a b : List Placed) × Comes (SignTok sign.Comma) from a × Spells first a b × SpellsMore rest b to

-- a name with its place
abbrev pub SpellsName : NameAt → List Placed → List Placed → Type 0
SpellsName n from to = from ≡ placed (NameTok n.name) n.at ∷ to

-- names after a name, each after a comma, and the closing bracket
abbrev pub SpellsNames : Sign → List NameAt → List Placed → List Placed → Type 0
SpellsNames closing [] from to = Comes (SignTok closing) from to
SpellsNames closing (n ∷ names) from to = (a b : List Placed) × Comes (SignTok sign.Comma) from a × SpellsName n a b × SpellsNames closing names b to

-- one name or more between brackets
abbrev pub SpellsList : Sign → Sign → List NameAt → List Placed → List Placed → Type 0
SpellsList opening closing [] from to = ⊥
SpellsList opening closing (n ∷ names) from to = (a b : List Placed) × Comes (SignTok opening) from a × SpellsName n a b × SpellsNames closing names b to

-- an expression that ends an item, with the sign before it: nested 100 deep at most
abbrev pub SpellsBody : Tree → List Placed → List Placed → Type 0
SpellsBody body from to = (a b : List Placed) × Comes (SignTok sign.Assign) from a × Spells body a b × IsLevelled body × (depth body ≤ 100) × Comes (SignTok sign.Semicolon) b to

-- `: states`, where a field has them
abbrev pub SpellsStates : Option NameAt → List Placed → List Placed → Type 0
SpellsStates None from to = from ≡ to
SpellsStates (Some states) from to = (a : List Placed) × Comes (SignTok sign.Colon) from a × SpellsName states a to

-- the parameters of a let, where it has some
abbrev pub SpellsParameters : List NameAt → List Placed → List Placed → Type 0
SpellsParameters [] from to = from ≡ to
SpellsParameters (n ∷ names) from to = SpellsList sign.Open sign.Close (n ∷ names) from to

-- the tokens of an item
abbrev pub SpellsItem : ItemTree → List Placed → List Placed → Type 0
SpellsItem (ConstTree name value) from to = (a b : List Placed) × Comes (KeywordTok word.Const) from a × SpellsName name a b × SpellsBody value b to
SpellsItem (StatesTree name members) from to = (a b : List Placed) × Comes (KeywordTok word.States) from a × SpellsName name a b × SpellsList sign.BraceOpen sign.BraceClose members b to
SpellsItem (FieldTree name states initial) from to = (a b c : List Placed) × Comes (KeywordTok word.Field) from a × SpellsName name a b × SpellsStates states b c × SpellsBody initial c to
SpellsItem (LetTree name parameters body) from to = (a b c : List Placed) × Comes (KeywordTok word.Let) from a × SpellsName name a b × SpellsParameters parameters b c × SpellsBody body c to
SpellsItem (NextTree name body) from to = (a b : List Placed) × Comes (KeywordTok word.Next) from a × SpellsName name a b × SpellsBody body b to

-- the token list has this tree, a list of items
abbrev pub HasTree : List Placed → List ItemTree → Type 0
HasTree tokens [] = tokens ≡ []
HasTree tokens (i ∷ items) = (rest : List Placed) × SpellsItem i tokens rest × HasTree rest items
