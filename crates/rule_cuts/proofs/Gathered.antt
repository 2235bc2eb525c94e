-- Operators and aggregates give values.
use Rattle.std.specs.Prelude.{Bool, min, fold}
use Rattle.std.specs.List.{All}
use Rattle.std.proofs.Common.{ℕ, ◌≤◌, List, [], ◌∷◌, length, true, false, arith}
use Rattle.std.specs.Prelude.{◌==◌, not, ◌/◌, ◌%◌, if◌then◌else◌, nat_lt, nat_le}
use Rattle.std.specs.List.{list_any, list_all}
use Rattle.std.proofs.Math.Nat.{div-le_self, mod-le}
use Rattle.std.proofs.lemmas.Nat.{and_le_l, or_of_32, xor_of_32}
use Rattle.std.proofs.lemmas.List.Sums.{count_by-le-length}
use Rattle.std.proofs.lemmas.List.Elements.{recursion_from_All}
use Rattle.rule_lang.specs.declared.tree.Op.{Op}
use Rattle.rule_lang.specs.declared.tree.Op.TheVariants.{Plus, Minus, Times, Quot, Rem, BitAnd, BitOr, BitXor, Equal, Differ, Less, LessEq, Greater, GreaterEq, Min, Max}
use Rattle.rule_lang.specs.declared.tree.Agg.{Agg}
use Rattle.rule_lang.specs.declared.tree.Agg.TheVariants.{Total, Least, Most, Count, Some1, Every}
use Rattle.rule_check.specs.Table.{M, is_true, truth, operate, gather}
use Rattle.rule_ranges.proofs.Gathered.{most_to}

-- a quotient or a rest of a value is a value
quot_word : (b : Bool) (v w : ℕ) → v ≤ M → (if b then 0 else v / w) ≤ M
quot_word true v w of_v = omega arith
quot_word false v w of_v = omega (arith, div-le_self v w)

rem_word : (b : Bool) (v w : ℕ) → v ≤ M → (if b then v else v % w) ≤ M
rem_word true v w of_v = of_v
rem_word false v w of_v = omega (arith, mod-le v w)

truth_word : (b : Bool) → truth b ≤ M
truth_word true = omega arith
truth_word false = omega arith

-- operators give values
pub operate_word : (op : Op) (v w : ℕ) → v ≤ M → w ≤ M → operate op v w ≤ M
operate_word Plus v w of_v of_w = omega arith
operate_word Minus v w of_v of_w = omega arith
operate_word Times v w of_v of_w = omega arith
operate_word Quot v w of_v of_w = quot_word (w == 0) v w of_v
operate_word Rem v w of_v of_w = rem_word (w == 0) v w of_v
operate_word BitAnd v w of_v of_w = omega (arith, and_le_l v w)
operate_word BitOr v w of_v of_w = omega (arith, or_of_32 v w (omega arith) (omega arith))
operate_word BitXor v w of_v of_w = omega (arith, xor_of_32 v w (omega arith) (omega arith))
operate_word Equal v w of_v of_w = truth_word (v == w)
operate_word Differ v w of_v of_w = truth_word (not (v == w))
operate_word Less v w of_v of_w = truth_word (nat_lt v w)
operate_word LessEq v w of_v of_w = truth_word (nat_le v w)
operate_word Greater v w of_v of_w = truth_word (nat_lt w v)
operate_word GreaterEq v w of_v of_w = truth_word (nat_le w v)
operate_word Min v w of_v of_w = omega arith
operate_word Max v w of_v of_w = omega arith

-- aggregates of no more values than a number can count give values
least_word : (s : ℕ) (values : List ℕ) → s ≤ M → fold min s values ≤ M
least_word s [] few = few
least_word s (v ∷ values) few = least_word (min s v) values (omega arith)

pub gather_word : (agg : Agg) (values : List ℕ) → length values ≤ M → All (λ v. v ≤ M) values → gather agg values ≤ M
gather_word Total values few each = omega arith
gather_word Least values few each = least_word M values (omega arith)
gather_word Most values few each = most_to M 0 values (omega arith) (recursion_from_All (λ v. v ≤ M) values each)
gather_word Count values few each = omega (arith, count_by-le-length is_true values)
gather_word Some1 values few each = truth_word (list_any is_true values)
gather_word Every values few each = truth_word (list_all is_true values)
