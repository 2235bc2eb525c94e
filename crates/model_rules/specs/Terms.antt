-- Expressions whose constants and lets are put in: their values, and what is done with them.
use Rattle.std.specs.Prelude.{ℕ, ◌==◌, min, Bool, true, false, ◌||◌, List, map, Option, Some, None, slice_get, if◌then◌else◌, slice_index}
use Rattle.rule_lang.specs.declared.tree.Op.{Op}
use Rattle.rule_lang.specs.declared.tree.Op.TheVariants as op
use Rattle.rule_lang.specs.declared.tree.Agg.{Agg}
use Rattle.rule_lang.specs.Tree.{Tree, NumberTree, OwnTree, IdTree, DegreeTree, RoundTree, NearTree, NearIdTree, NearWeightTree, InfixTree, NotTree, OverTree, ChoiceTree}
use Rattle.rule_check.specs.declared.state.Near.{Near}
use Rattle.rule_check.specs.Table.{M, operate, gather}
use Rattle.rule_check.specs.Value.{Here, word}

-- an expression of the rule language in which parameters may stand, by their places
pub data TermTree : Type 0 where
  NumberTerm : (value : ℕ) → TermTree
  OwnTerm : (name : List ℕ) → TermTree
  IdTerm : TermTree
  DegreeTerm : TermTree
  RoundTerm : TermTree
  ParameterTerm : (place : ℕ) → TermTree
  NearTerm : (name : List ℕ) → TermTree
  NearIdTerm : TermTree
  NearWeightTerm : TermTree
  InfixTerm : (op : Op) (left right : TermTree) → TermTree
  NotTerm : (part : TermTree) → TermTree
  OverTerm : (agg : Agg) (part : TermTree) → TermTree
  ChoiceTerm : (test one other : TermTree) → TermTree

-- the value of a term, for these values of the parameters, at one neighbour where it stands in an aggregate
abbrev pub term_value : Here → List ℕ → TermTree → Near → ℕ
term_value here arguments (NumberTerm n) near = n
term_value here arguments (OwnTerm name) near = word here.names here.own name
term_value here arguments IdTerm near = here.id
term_value here arguments DegreeTerm near = here.degree
term_value here arguments RoundTerm near = min here.round M
term_value here arguments (ParameterTerm k) near = slice_index arguments k
term_value here arguments (NearTerm name) near = word here.names near.state name
term_value here arguments NearIdTerm near = near.id
term_value here arguments NearWeightTerm near = near.weight
term_value here arguments (InfixTerm op a b) near = operate op (term_value here arguments a near) (term_value here arguments b near)
term_value here arguments (NotTerm e) near = if term_value here arguments e near == 0 then 1 else 0
term_value here arguments (OverTerm agg e) near = gather agg (map (term_value here arguments e) here.nears)
term_value here arguments (ChoiceTerm a b c) near = if term_value here arguments a near == 0 then term_value here arguments c near else term_value here arguments b near

-- an aggregate stands in the term
abbrev pub gathers : TermTree → Bool
gathers (NumberTerm n) = false
gathers (OwnTerm name) = false
gathers IdTerm = false
gathers DegreeTerm = false
gathers RoundTerm = false
gathers (ParameterTerm k) = false
gathers (NearTerm name) = false
gathers NearIdTerm = false
gathers NearWeightTerm = false
gathers (InfixTerm op a b) = gathers a || gathers b
gathers (NotTerm e) = gathers e
gathers (OverTerm agg e) = true
gathers (ChoiceTerm a b c) = gathers a || (gathers b || gathers c)

-- the neighbour is named outside of an aggregate
abbrev pub looks : TermTree → Bool
looks (NumberTerm n) = false
looks (OwnTerm name) = false
looks IdTerm = false
looks DegreeTerm = false
looks RoundTerm = false
looks (ParameterTerm k) = false
looks (NearTerm name) = true
looks NearIdTerm = true
looks NearWeightTerm = true
looks (InfixTerm op a b) = looks a || looks b
looks (NotTerm e) = looks e
looks (OverTerm agg e) = false
looks (ChoiceTerm a b c) = looks a || (looks b || looks c)

-- the degree or an aggregate stands in the term, which a neighbour doesn't know of its own neighbours
abbrev pub knows_degree : TermTree → Bool
knows_degree (NumberTerm n) = false
knows_degree (OwnTerm name) = false
knows_degree IdTerm = false
knows_degree DegreeTerm = true
knows_degree RoundTerm = false
knows_degree (ParameterTerm k) = false
knows_degree (NearTerm name) = false
knows_degree NearIdTerm = false
knows_degree NearWeightTerm = false
knows_degree (InfixTerm op a b) = knows_degree a || knows_degree b
knows_degree (NotTerm e) = knows_degree e
knows_degree (OverTerm agg e) = true
knows_degree (ChoiceTerm a b c) = knows_degree a || (knows_degree b || knows_degree c)

-- the term, or 0
abbrev pub term_or : Option TermTree → TermTree
term_or None = NumberTerm 0
term_or (Some t) = t

-- the term with these in place of its parameters
abbrev pub filled : List TermTree → TermTree → TermTree
filled terms (NumberTerm n) = NumberTerm n
filled terms (OwnTerm name) = OwnTerm name
filled terms IdTerm = IdTerm
filled terms DegreeTerm = DegreeTerm
filled terms RoundTerm = RoundTerm
filled terms (ParameterTerm k) = term_or (slice_get terms k)
filled terms (NearTerm name) = NearTerm name
filled terms NearIdTerm = NearIdTerm
filled terms NearWeightTerm = NearWeightTerm
filled terms (InfixTerm op a b) = InfixTerm op (filled terms a) (filled terms b)
filled terms (NotTerm e) = NotTerm (filled terms e)
filled terms (OverTerm agg e) = OverTerm agg (filled terms e)
filled terms (ChoiceTerm a b c) = ChoiceTerm (filled terms a) (filled terms b) (filled terms c)

-- the term as seen from a neighbour: of its fields and its number. What a neighbour does not know is 0, and so are parameters.
abbrev pub seen_near : TermTree → TermTree
seen_near (NumberTerm n) = NumberTerm n
seen_near (OwnTerm name) = NearTerm name
seen_near IdTerm = NearIdTerm
seen_near DegreeTerm = NumberTerm 0
seen_near RoundTerm = RoundTerm
seen_near (ParameterTerm k) = NumberTerm 0
seen_near (NearTerm name) = NumberTerm 0
seen_near NearIdTerm = NumberTerm 0
seen_near NearWeightTerm = NumberTerm 0
seen_near (InfixTerm op a b) = InfixTerm op (seen_near a) (seen_near b)
seen_near (NotTerm e) = NotTerm (seen_near e)
seen_near (OverTerm agg e) = NumberTerm 0
seen_near (ChoiceTerm a b c) = ChoiceTerm (seen_near a) (seen_near b) (seen_near c)

-- the expression of the rule language that a term is, where parameters are 0
abbrev pub lowered : TermTree → Tree
lowered (NumberTerm n) = NumberTree n
lowered (OwnTerm name) = OwnTree name
lowered IdTerm = IdTree
lowered DegreeTerm = DegreeTree
lowered RoundTerm = RoundTree
lowered (ParameterTerm k) = NumberTree 0
lowered (NearTerm name) = NearTree name
lowered NearIdTerm = NearIdTree
lowered NearWeightTerm = NearWeightTree
lowered (InfixTerm op a b) = InfixTree op (lowered a) (lowered b)
lowered (NotTerm e) = NotTree (lowered e)
lowered (OverTerm agg e) = OverTree agg (lowered e)
lowered (ChoiceTerm a b c) = ChoiceTree (lowered a) (lowered b) (lowered c)

-- an operator that gives 0 or 1 only
abbrev pub is_test : Op → Bool
is_test op.Plus = false
is_test op.Minus = false
is_test op.Times = false
is_test op.Quot = false
is_test op.Rem = false
is_test op.BitAnd = false
is_test op.BitOr = false
is_test op.BitXor = false
is_test op.Equal = true
is_test op.Differ = true
is_test op.Less = true
is_test op.LessEq = true
is_test op.Greater = true
is_test op.GreaterEq = true
is_test op.Min = false
is_test op.Max = false

-- a term of a form that gives 0 or 1 only
abbrev pub is_tested : TermTree → Bool
is_tested (NumberTerm n) = false
is_tested (OwnTerm name) = false
is_tested IdTerm = false
is_tested DegreeTerm = false
is_tested RoundTerm = false
is_tested (ParameterTerm k) = false
is_tested (NearTerm name) = false
is_tested NearIdTerm = false
is_tested NearWeightTerm = false
is_tested (InfixTerm o a b) = is_test o
is_tested (NotTerm e) = true
is_tested (OverTerm agg e) = false
is_tested (ChoiceTerm a b c) = false

-- a term that is 1 where this one is not 0, and else 0
abbrev pub tested : TermTree → TermTree
tested t = if is_tested t then t else InfixTerm op.Differ t (NumberTerm 0)

-- a term for the distance between two numbers: one of the two differences is 0
abbrev pub parted : TermTree → TermTree → TermTree
parted a b = InfixTerm op.Max (InfixTerm op.Minus a b) (InfixTerm op.Minus b a)
