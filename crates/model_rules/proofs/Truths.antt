-- Terms that are 0 or 1.
use Rattle.std.proofs.Common.{◌≡◌, ℕ, List, refl, ap, ◌∙◌}
use Rattle.std.specs.Prelude.{min, max, not, nat_lt, nat_le, ◌==◌, if◌then◌else◌, Bool, true, false, ◌||◌, ◌&&◌}
use Rattle.rule_lang.specs.declared.tree.Op.{Op}
use Rattle.rule_lang.specs.declared.tree.Op.TheVariants as op
use Rattle.rule_check.specs.declared.state.Near.{Near}
use Rattle.rule_check.specs.Table.{truth, is_true, operate}
use Rattle.rule_check.specs.Value.{Here}
use Rattle.model_rules.specs.Terms.{TermTree, NumberTerm, OwnTerm, IdTerm, DegreeTerm, RoundTerm, ParameterTerm, NearTerm, NearIdTerm, NearWeightTerm, InfixTerm, NotTerm, OverTerm, ChoiceTerm, term_value, is_test, is_tested, tested}
use Rattle.model_rules.specs.Operators.{combined}
use Rattle.model_text.specs.declared.tree.Operator.TheVariants as operator

-- a truth value is true where it is
truth_again : (b : Bool) → truth b ≡ truth (is_true (truth b))
truth_again true = refl
truth_again false = refl

-- the truth of a value that is no 0, and of one that is
test_value : (o : Op) (a b : ℕ) → is_test o ≡ true → operate o a b ≡ truth (is_true (operate o a b))
test_value op.Plus a b h = cc
test_value op.Minus a b h = cc
test_value op.Times a b h = cc
test_value op.Quot a b h = cc
test_value op.Rem a b h = cc
test_value op.BitAnd a b h = cc
test_value op.BitOr a b h = cc
test_value op.BitXor a b h = cc
test_value op.Equal a b h = truth_again (a == b)
test_value op.Differ a b h = truth_again (not (a == b))
test_value op.Less a b h = truth_again (nat_lt a b)
test_value op.LessEq a b h = truth_again (nat_le a b)
test_value op.Greater a b h = truth_again (nat_lt b a)
test_value op.GreaterEq a b h = truth_again (nat_le b a)
test_value op.Min a b h = cc
test_value op.Max a b h = cc

negated : (v : ℕ) → (if v == 0 then 1 else 0) ≡ truth (is_true (if v == 0 then 1 else 0))
negated v = elim (v == 0) as (λ c. (if c then 1 else 0) ≡ truth (is_true (if c then 1 else 0))) [ true ↦ refl | false ↦ refl ]

form_value : (here : Here) (xs : List ℕ) (t : TermTree) (m : Near) → is_tested t ≡ true → term_value here xs t m ≡ truth (is_true (term_value here xs t m))
form_value here xs (NumberTerm n) m h = cc
form_value here xs (OwnTerm name) m h = cc
form_value here xs IdTerm m h = cc
form_value here xs DegreeTerm m h = cc
form_value here xs RoundTerm m h = cc
form_value here xs (ParameterTerm k) m h = cc
form_value here xs (NearTerm name) m h = cc
form_value here xs NearIdTerm m h = cc
form_value here xs NearWeightTerm m h = cc
form_value here xs (InfixTerm o a b) m h = test_value o (term_value here xs a m) (term_value here xs b m) h
form_value here xs (NotTerm e) m h = negated (term_value here xs e m)
form_value here xs (OverTerm agg e) m h = cc
form_value here xs (ChoiceTerm a b c) m h = cc

-- by cases of the test
tested_case : (here : Here) (xs : List ℕ) (t : TermTree) (m : Near) (c : Bool) → is_tested t ≡ c → term_value here xs (if c then t else InfixTerm op.Differ t (NumberTerm 0)) m ≡ truth (is_true (term_value here xs t m))
tested_case here xs t m true h = form_value here xs t m h
tested_case here xs t m false h = refl

pub tested_value : (here : Here) (xs : List ℕ) (t : TermTree) (m : Near) → term_value here xs (tested t) m ≡ truth (is_true (term_value here xs t m))
tested_value here xs t m = tested_case here xs t m (is_tested t) refl

greater_truth : (a b : Bool) → max (truth a) (truth b) ≡ truth (a || b)
greater_truth true true = refl
greater_truth true false = refl
greater_truth false true = refl
greater_truth false false = refl

lesser_truth : (a b : Bool) → min (truth a) (truth b) ≡ truth (a && b)
lesser_truth true true = refl
lesser_truth true false = refl
lesser_truth false true = refl
lesser_truth false false = refl

pub or_value : (here : Here) (xs : List ℕ) (t u : TermTree) (m : Near) → term_value here xs (combined operator.Or t u) m ≡ truth (is_true (term_value here xs t m) || is_true (term_value here xs u m))
or_value here xs t u m =
    ap (λ v. max v (term_value here xs (tested u) m)) (tested_value here xs t m)
    ∙ (ap (max (truth (is_true (term_value here xs t m)))) (tested_value here xs u m) ∙ greater_truth (is_true (term_value here xs t m)) (is_true (term_value here xs u m)))

pub and_value : (here : Here) (xs : List ℕ) (t u : TermTree) (m : Near) → term_value here xs (combined operator.And t u) m ≡ truth (is_true (term_value here xs t m) && is_true (term_value here xs u m))
and_value here xs t u m =
    ap (λ v. min v (term_value here xs (tested u) m)) (tested_value here xs t m)
    ∙ (ap (min (truth (is_true (term_value here xs t m)))) (tested_value here xs u m) ∙ lesser_truth (is_true (term_value here xs t m)) (is_true (term_value here xs u m)))
