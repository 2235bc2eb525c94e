-- The numbers that constants are, and why a term is no constant or is out of bounds.
use Rattle.std.specs.Prelude.{ℕ, ◌+◌, ◌*◌, ◌==◌, nat_lt, Bool, true, false, ◌&&◌, Option, Some, None, if◌then◌else◌}
use Rattle.std.specs.Option.{option_or}
use Rattle.rule_lang.specs.declared.tree.Op.{Op}
use Rattle.rule_lang.specs.declared.tree.Op.TheVariants as op
use Rattle.rule_check.specs.Table.{M, operate}
use Rattle.model_rules.specs.declared.fault.Cause.{Cause}
use Rattle.model_rules.specs.declared.fault.Cause.TheVariants as cause
use Rattle.model_rules.specs.Terms.{TermTree, NumberTerm, OwnTerm, IdTerm, DegreeTerm, RoundTerm, ParameterTerm, NearTerm, NearIdTerm, NearWeightTerm, InfixTerm, NotTerm, OverTerm, ChoiceTerm}

-- the number that a term of numbers and operators is worth
abbrev pub amount_in : TermTree → ℕ
amount_in (NumberTerm n) = n
amount_in (OwnTerm name) = 0
amount_in IdTerm = 0
amount_in DegreeTerm = 0
amount_in RoundTerm = 0
amount_in (ParameterTerm k) = 0
amount_in (NearTerm name) = 0
amount_in NearIdTerm = 0
amount_in NearWeightTerm = 0
amount_in (InfixTerm o a b) = operate o (amount_in a) (amount_in b)
amount_in (NotTerm e) = 0
amount_in (OverTerm agg e) = 0
amount_in (ChoiceTerm a b c) = 0

-- a number that no word holds
abbrev pub range_cause : Bool → Option Cause
range_cause out = if out then Some cause.OutOfRange else None

-- why a constant is not made of two numbers so: the result is above 4,294,967,295 or below 0, or it is divided by 0, or the
-- operator is none of `+ - * / %`
abbrev pub operator_cause : Op → ℕ → ℕ → Option Cause
operator_cause op.Plus a b = range_cause (nat_lt M (a + b))
operator_cause op.Minus a b = range_cause (nat_lt a b)
operator_cause op.Times a b = range_cause (nat_lt M (a * b))
operator_cause op.Quot a b = range_cause (b == 0)
operator_cause op.Rem a b = range_cause (b == 0)
operator_cause op.BitAnd a b = Some cause.NotConstant
operator_cause op.BitOr a b = Some cause.NotConstant
operator_cause op.BitXor a b = Some cause.NotConstant
operator_cause op.Equal a b = Some cause.NotConstant
operator_cause op.Differ a b = Some cause.NotConstant
operator_cause op.Less a b = Some cause.NotConstant
operator_cause op.LessEq a b = Some cause.NotConstant
operator_cause op.Greater a b = Some cause.NotConstant
operator_cause op.GreaterEq a b = Some cause.NotConstant
operator_cause op.Min a b = Some cause.NotConstant
operator_cause op.Max a b = Some cause.NotConstant

-- one of `+ - * / %`
abbrev pub is_plain : Op → Bool
is_plain op.Plus = true
is_plain op.Minus = true
is_plain op.Times = true
is_plain op.Quot = true
is_plain op.Rem = true
is_plain op.BitAnd = false
is_plain op.BitOr = false
is_plain op.BitXor = false
is_plain op.Equal = false
is_plain op.Differ = false
is_plain op.Less = false
is_plain op.LessEq = false
is_plain op.Greater = false
is_plain op.GreaterEq = false
is_plain op.Min = false
is_plain op.Max = false

-- a term of numbers by these operators alone: a constant
abbrev pub is_fixed : TermTree → Bool
is_fixed (NumberTerm n) = true
is_fixed (OwnTerm name) = false
is_fixed IdTerm = false
is_fixed DegreeTerm = false
is_fixed RoundTerm = false
is_fixed (ParameterTerm k) = false
is_fixed (NearTerm name) = false
is_fixed NearIdTerm = false
is_fixed NearWeightTerm = false
is_fixed (InfixTerm o a b) = is_plain o && (is_fixed a && is_fixed b)
is_fixed (NotTerm e) = false
is_fixed (OverTerm agg e) = false
is_fixed (ChoiceTerm a b c) = false

-- why a term has no number: the first cause from the left, of parts before what is made of them
abbrev pub part_cause : TermTree → Option Cause
part_cause (NumberTerm n) = None
part_cause (OwnTerm name) = Some cause.NotConstant
part_cause IdTerm = Some cause.NotConstant
part_cause DegreeTerm = Some cause.NotConstant
part_cause RoundTerm = Some cause.NotConstant
part_cause (ParameterTerm k) = Some cause.NotConstant
part_cause (NearTerm name) = Some cause.NotConstant
part_cause NearIdTerm = Some cause.NotConstant
part_cause NearWeightTerm = Some cause.NotConstant
part_cause (InfixTerm o a b) = option_or (part_cause a) (option_or (part_cause b) (operator_cause o (amount_in a) (amount_in b)))
part_cause (NotTerm e) = Some cause.NotConstant
part_cause (OverTerm agg e) = Some cause.NotConstant
part_cause (ChoiceTerm a b c) = Some cause.NotConstant

-- why a term is no constant, or else one that is out of range
abbrev pub amount_cause : TermTree → Option Cause
amount_cause t = if is_fixed t then part_cause t else Some cause.NotConstant
