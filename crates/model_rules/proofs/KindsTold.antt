-- The table of kinds says what is wrong with a part as the functions do that go the expander's way.
use Rattle.std.proofs.Common.{◌≡◌, ◌<◌, ◌≤◌, ◌⊎◌, inl, inr, ℕ, ◌+◌, ◌*◌, ◌^◌, List, refl, sym, ap, ◌∙◌, subst, arith}
use Rattle.std.specs.Prelude.{Bool, true, false, ◌&&◌, ◌||◌, ◌==◌, ◌≢◌, nat_lt, Option, Some, None, if◌then◌else◌, length}
use Rattle.std.specs.List.{list_any}
use Rattle.std.specs.Option.{option_or}
use Rattle.rule_lang.specs.declared.tree.Op.{Op}
use Rattle.rule_lang.specs.declared.tree.Op.TheVariants as op
use Rattle.rule_lang.specs.declared.tree.Agg.{Agg}
use Rattle.rule_check.specs.Table.{M}
use Rattle.rule_check.specs.WellFormed.{is_among}
use Rattle.model_text.specs.declared.tree.Decimal.{Decimal}
use Rattle.model_text.specs.declared.tree.Function.{Function}
use Rattle.model_text.specs.Tree.{Tree, NumberTree, NothingTree, NameTree, IdTree, DegreeTree, RoundTree, NearTree, NearIdTree, NearWeightTree, InfixTree, NotTree, ParensTree, IfTree, CasesTree, CallTree, ApplyTree, ChanceTree, ChanceOfTree, ArgumentTree, NoArgument, OneArgument}
use Rattle.model_rules.specs.declared.fault.Cause.{Cause}
use Rattle.model_rules.specs.declared.fault.Cause.TheVariants as cause
use Rattle.model_rules.specs.declared.operators.CallKind.{CallKind}
use Rattle.model_rules.specs.declared.operators.CallKind.TheVariants as kind
use Rattle.model_rules.specs.declared.operators.Source.{Source}
use Rattle.model_rules.specs.declared.operators.Source.TheVariants as source
use Rattle.model_rules.specs.Terms.{TermTree, NumberTerm, InfixTerm, gathers, looks, knows_degree}
use Rattle.model_rules.specs.Constants.{amount_in, is_fixed, is_plain, range_cause, operator_cause, part_cause}
use Rattle.model_rules.specs.FirstFaults.{outside_cause, constant_cause, seed_cause, node_cause, draw_cause, small_cause, below_cause, bound_cause, chance_cause}
use Rattle.model_rules.specs.Frames.{KnownTree, Frame}
use Rattle.model_rules.specs.Meaning.{seed_name, draw_number}
use Rattle.model_rules.specs.Operators.{kind_of}
use Rattle.model_rules.specs.Refusals.{let_for, put_cause, seen_cause, apply_cause, call_cause, name_cause, near_let_cause, near_cause}
use Rattle.model_rules.specs.TermFor.{number_in, term_for, terms_for}
use Rattle.model_rules.proofs.FirstInOrder.{none_some, same_some}
use Rattle.model_rules.specs.Kinds.{IsOther, StandsFor, StandsForNone, IsSeenAs, IsSeenAsNone, count_of, takes, IsNested, IsOutBy, IsOut, IsBadBound, IsBadChance, HasGoodBound, IsInPlace, Draws, LacksSeed, HasNoNumber, IsTooFar, IsUnknownName, IsUnknownNear, IsWrongCount, IsWrongArguments, IsOutside, IsTwiceGathered, IsUnseen, IsAwaiting, HasOddSeed, IsOutOfRange, IsDrawTooMany, IsWrongAs, IsRight, OneKind}

-- ---- tests of numbers

pub same_is : (a b : ℕ) → (a == b) ≡ true → a ≡ b
same_is a b h = grind arith

pub other_is : (a b : ℕ) → (a == b) ≡ false → a ≢ b
other_is a b h = grind arith

pub is_same : (a b : ℕ) → a ≡ b → (a == b) ≡ true
is_same a b h = grind arith

pub is_other : (a b : ℕ) → a ≢ b → (a == b) ≡ false
is_other a b h = grind arith

pub less_is : (a b : ℕ) → nat_lt a b ≡ true → a < b
less_is a b h = grind arith

pub not_less_is : (a b : ℕ) → nat_lt a b ≡ false → b ≤ a
not_less_is a b h = grind arith

pub is_less : (a b : ℕ) → a < b → nat_lt a b ≡ true
is_less a b h = grind arith

pub is_not_less : (a b : ℕ) → b ≤ a → nat_lt a b ≡ false
is_not_less a b h = grind arith

pub false_true : {B : Type 0} → false ≡ true → B
false_true h = absurd (cc)

pub and_left : (a b : Bool) → (a && b) ≡ true → a ≡ true
and_left true b h = refl
and_left false b h = false_true h

pub and_right : (a b : Bool) → (a && b) ≡ true → b ≡ true
and_right true b h = h
and_right false b h = false_true h

-- ---- constants, bounds and chances: wrong and so, or right and not so

abbrev pub Decides : Option Cause → Type 0 → Type 0
Decides found Bad = ((found ≡ Some cause.OutOfRange) × Bad) ⊎ ((found ≡ None) × (Bad → ⊥))

range_case : (b : Bool) (x y : ℕ) → nat_lt x y ≡ b → Decides (range_cause b) (x < y)
range_case true x y h = inl (refl, less_is x y h)
range_case false x y h = inr (refl, λ l. absurd (let m = not_less_is x y h in omega arith))

range_decides : (x y : ℕ) → Decides (range_cause (nat_lt x y)) (x < y)
range_decides x y = range_case (nat_lt x y) x y refl

zero_case : (c : Bool) (b : ℕ) → (b == 0) ≡ c → Decides (range_cause c) (b ≡ 0)
zero_case true b h = inl (refl, same_is b 0 h)
zero_case false b h = inr (refl, other_is b 0 h)

zero_decides : (b : ℕ) → Decides (range_cause (b == 0)) (b ≡ 0)
zero_decides b = zero_case (b == 0) b refl

operator_decides : (o : Op) (a b : ℕ) → is_plain o ≡ true → Decides (operator_cause o a b) (IsOutBy o a b)
operator_decides op.Plus a b h = range_decides M (a + b)
operator_decides op.Minus a b h = range_decides a b
operator_decides op.Times a b h = range_decides M (a * b)
operator_decides op.Quot a b h = zero_decides b
operator_decides op.Rem a b h = zero_decides b
operator_decides o a b h = false_true h

infix_decides : (o : Op) (a b : TermTree) → is_plain o ≡ true → Decides (part_cause a) (IsOut a) → Decides (part_cause b) (IsOut b) → Decides (part_cause (InfixTerm o a b)) (IsOut (InfixTerm o a b))
infix_decides o a b p (inl x) y = inl (rw x.0 refl, inl x.1)
infix_decides o a b p (inr x) (inl y) = inl (rw (x.0, y.0) refl, inr (inl y.1))
infix_decides o a b p (inr x) (inr y) =
    elim (operator_decides o (amount_in a) (amount_in b) p) [
      | inl z ↦ inl (rw (x.0, y.0) z.0, inr (inr z.1))
      | inr z ↦ inr (rw (x.0, y.0) z.0, λ q. elim q [ inl u ↦ x.1 u | inr v ↦ elim v [ inl u ↦ y.1 u | inr u ↦ z.1 u ] ])
    ]

pub term_decides : (t : TermTree) → is_fixed t ≡ true → Decides (part_cause t) (IsOut t)
term_decides (NumberTerm n) h = inr (refl, λ q. q)
term_decides (InfixTerm o a b) h =
    let p = and_left (is_plain o) (is_fixed a && is_fixed b) h in
    let both = and_right (is_plain o) (is_fixed a && is_fixed b) h in
    infix_decides o a b p (term_decides a (and_left (is_fixed a) (is_fixed b) both)) (term_decides b (and_right (is_fixed a) (is_fixed b) both))
term_decides t h = false_true h

small_case : (b c : Bool) (k : ℕ) → (k == 0) ≡ b → nat_lt 65536 k ≡ c → Decides (if b || c then Some cause.OutOfRange else None) ((k ≡ 0) ⊎ (65536 < k))
small_case true c k h g = inl (refl, inl (same_is k 0 h))
small_case false true k h g = inl (refl, inr (less_is 65536 k g))
small_case false false k h g =
    inr (refl, λ q. elim q [ inl z ↦ other_is k 0 h z | inr l ↦ absurd (let m = not_less_is 65536 k g in omega arith) ])

small_decides : (k : ℕ) → Decides (small_cause k) ((k ≡ 0) ⊎ (65536 < k))
small_decides k = small_case (k == 0) (nat_lt 65536 k) k refl refl

fixed_decides : (t : TermTree) → is_fixed t ≡ true → Decides (option_or (part_cause t) (small_cause (amount_in t))) (IsBadBound t)
fixed_decides t h =
    elim (term_decides t h) [
      | inl x ↦ inl (rw x.0 refl, (h, inl x.1))
      | inr x ↦ elim (small_decides (amount_in t)) [
        | inl z ↦ inl (rw x.0 z.0, (h, inr z.1))
        | inr z ↦ inr (rw x.0 z.0, λ q. elim (q.1) [ inl u ↦ x.1 u | inr u ↦ z.1 u ])
      ]
    ]

below_case : (t : TermTree) (b : Bool) → is_fixed t ≡ b → Decides (if b then option_or (part_cause t) (small_cause (amount_in t)) else None) (IsBadBound t)
below_case t true h = fixed_decides t h
below_case t false h = inr (refl, λ q. absurd (let f = q.0 in cc))

pub below_decides : (t : TermTree) → Decides (below_cause t) (IsBadBound t)
below_decides t = below_case t (is_fixed t) refl

chance_case : (p : Decimal) (b c : Bool) → nat_lt 9 p.places ≡ b → nat_lt (10 ^ p.places) p.numerator ≡ c → Decides (if b || c then Some cause.OutOfRange else None) (IsBadChance p)
chance_case p true c h g = inl (refl, inl (less_is 9 p.places h))
chance_case p false true h g = inl (refl, inr (less_is (10 ^ p.places) p.numerator g))
chance_case p false false h g =
    inr (
      refl,
      λ q. elim q [
        | inl l ↦ absurd (let m = not_less_is 9 p.places h in omega arith)
        | inr l ↦ absurd (let m = not_less_is (10 ^ p.places) p.numerator g in omega arith)
      ],
    )

pub chance_decides : (p : Decimal) → Decides (chance_cause p) (IsBadChance p)
chance_decides p = chance_case p (nat_lt 9 p.places) (nat_lt (10 ^ p.places) p.numerator) refl refl

pub good_none : (found : Option Cause) (Bad : Type 0) → Decides found Bad → (Bad → ⊥) → found ≡ None
good_none found Bad (inl x) h = absurd (h x.1)
good_none found Bad (inr x) h = x.0

pub bad_some : (found : Option Cause) (Bad : Type 0) → Decides found Bad → Bad → found ≡ Some cause.OutOfRange
bad_some found Bad (inl x) h = x.0
bad_some found Bad (inr x) h = absurd (x.1 h)

-- ---- what is wrong with a part, as the functions say

-- a function of the notation itself
abbrev pub call_own : CallKind → Frame → Bool → ℕ → ArgumentTree → Option Cause
call_own (kind.Gather agg) frame inside at es =
    if inside then Some cause.NestedAggregate else (if takes (kind.Gather agg) es then None else Some cause.WrongArguments)
call_own (kind.Join o) frame inside at es = if takes (kind.Join o) es then None else Some cause.WrongArguments
call_own kind.Distance frame inside at es = if takes kind.Distance es then None else Some cause.WrongArguments
call_own (kind.Draw s) frame inside at es =
    if takes (kind.Draw s) es then option_or (bound_cause (terms_for frame es)) (draw_cause s frame inside at) else Some cause.WrongArguments

-- a part itself
abbrev pub own : Frame → List (List ℕ) → Bool → Tree → Option Cause
own frame later inside (NumberTree n at) = None
own frame later inside (NothingTree at) = None
own frame later inside (NameTree name at) = name_cause frame later name inside
own frame later inside (IdTree at) = None
own frame later inside (DegreeTree at) = None
own frame later inside (RoundTree at) = None
own frame later inside (NearTree name at) = near_cause frame later name inside
own frame later inside (NearIdTree at) = outside_cause inside
own frame later inside (NearWeightTree at) = outside_cause inside
own frame later inside (InfixTree o at a b) = None
own frame later inside (NotTree at e) = None
own frame later inside (ParensTree at e) = None
own frame later inside (IfTree at a b c) = None
own frame later inside (CasesTree at arms) = None
own frame later inside (CallTree f at es) = call_own (kind_of f) frame inside at es
own frame later inside (ApplyTree name at es) = call_cause frame later name (length (terms_for frame es)) (inside || list_any looks (terms_for frame es))
own frame later inside (ChanceTree at p) = chance_cause p
own frame later inside (ChanceOfTree at p) = option_or (chance_cause p) (node_cause frame at)

-- as many terms as arguments
pub as_many : (frame : Frame) (es : ArgumentTree) → length (terms_for frame es) ≡ count_of es
as_many frame NoArgument = refl
as_many frame (OneArgument e es) = let h = as_many frame es in omega arith

module _ (frame : Frame) (later : List (List ℕ)) (inside : Bool) where
  -- ---- what the functions say is in the table

  abbrev Told : Tree → Option Cause → Type 0
  Told part found = (c : Cause) → found ≡ Some c → IsWrongAs frame later inside part c

  told_none : (part : Tree) → Told part None
  told_none part c e = none_some e

  told_some : (part : Tree) (c : Cause) → IsWrongAs frame later inside part c → Told part (Some c)
  told_some part c w d e = let s : c ≡ d = same_some e in subst (λ (x : Cause). IsWrongAs frame later inside part x) s w

  told_same : (part : Tree) (x y : Option Cause) → x ≡ y → Told part y → Told part x
  told_same part x y e t c h = t c (sym e ∙ h)

  told_if : (part : Tree) (b : Bool) (x y : Option Cause) → (b ≡ true → Told part x) → (b ≡ false → Told part y) → Told part (if b then x else y)
  told_if part true x y h k = h refl
  told_if part false x y h k = k refl

  told_either : (part : Tree) (b : Bool) (x y : Cause) → (b ≡ true → IsWrongAs frame later inside part x) → (b ≡ false → IsWrongAs frame later inside part y) → Told part (Some (if b then x else y))
  told_either part true x y h k = told_some part x (h refl)
  told_either part false x y h k = told_some part y (k refl)

  -- a let that is put in
  put_told : (part : Tree) (known : KnownTree) (count : ℕ) (within : Bool)
      → (known.count ≢ count → IsWrongAs frame later inside part cause.WrongCount)
      → (known.count ≡ count → looks known.term ≡ true → IsWrongAs frame later inside part cause.NeighbourOutside)
      → (known.count ≡ count → looks known.term ≡ false → gathers known.term ≡ true → within ≡ true → IsWrongAs frame later inside part cause.NestedAggregate)
      → Told part (put_cause known count within)
  put_told part known count within w o n =
      told_if part (known.count == count) (if looks known.term then Some cause.NeighbourOutside else (if gathers known.term && within then Some cause.NestedAggregate else None)) (Some cause.WrongCount)
      (λ e. told_if part (looks known.term) (Some cause.NeighbourOutside) (if gathers known.term && within then Some cause.NestedAggregate else None)
      (λ l. told_some part cause.NeighbourOutside (o (same_is known.count count e) l))
      (λ l. told_if part (gathers known.term && within) (Some cause.NestedAggregate) None
      (λ g. told_some part cause.NestedAggregate (n (same_is known.count count e) l (and_left (gathers known.term) within g) (and_right (gathers known.term) within g)))
      (λ g. told_none part)))
      (λ e. told_some part cause.WrongCount (w (other_is known.count count e)))

  -- a name that is that of neither a parameter nor a field
  apply_told : (part : Tree) (name : List ℕ) (count : ℕ) (within : Bool) (found : Option KnownTree) → let_for frame.lets name ≡ found → IsOther frame name
      → (StandsForNone frame name → is_among later name ≡ false → IsWrongAs frame later inside part cause.UnknownName)
      → (StandsForNone frame name → is_among later name ≡ true → IsWrongAs frame later inside part cause.Ring)
      → ((known : KnownTree) → StandsFor frame name known → known.count ≢ count → IsWrongAs frame later inside part cause.WrongCount)
      → ((known : KnownTree) → StandsFor frame name known → known.count ≡ count → looks known.term ≡ true → IsWrongAs frame later inside part cause.NeighbourOutside)
      → ((known : KnownTree) → StandsFor frame name known → known.count ≡ count → looks known.term ≡ false → gathers known.term ≡ true → within ≡ true → IsWrongAs frame later inside part cause.NestedAggregate)
      → Told part (apply_cause found later name count within)
  apply_told part name count within None f other u r w o n =
      told_either part (is_among later name) cause.Ring cause.UnknownName (λ b. r (record { other = other; none = f }) b) (λ b. u (record { other = other; none = f }) b)
  apply_told part name count within (Some known) f other u r w o n =
      let s : StandsFor frame name known = record { other = other; found = f } in
      put_told part known count within (w known s) (o known s) (n known s)

  name_told : (name : List ℕ) (at : ℕ) → Told (NameTree name at) (name_cause frame later name inside)
  name_told name at =
      let part = NameTree name at in
      let rest = apply_cause (let_for frame.lets name) later name 0 inside in
      told_if part (is_among frame.parameters name) None (if is_among frame.fields name then None else rest) (λ p. told_none part)
      (λ p. told_if part (is_among frame.fields name) None rest (λ f. told_none part)
      (λ f. apply_told part name 0 inside (let_for frame.lets name) refl (record { parameter = p; field = f })
      (λ s b. (s, b)) (λ s b. (s, b)) (λ k s e. (k, s, e)) (λ k s e l. (k, s, e, l)) (λ k s e l g i. (k, s, e, l, g, i))))

  or_other : (name : List ℕ) (a b : Bool) → is_among frame.parameters name ≡ a → is_among frame.fields name ≡ b → (a || b) ≡ false → IsOther frame name
  or_other name true b p f h = false_true (sym h)
  or_other name false b p f h = record { parameter = p; field = f ∙ h }

  call_told_of : (name : List ℕ) (at : ℕ) (es : ArgumentTree) → Told (ApplyTree name at es) (call_cause frame later name (count_of es) (inside || list_any looks (terms_for frame es)))
  call_told_of name at es =
      let part = ApplyTree name at es in
      let within = inside || list_any looks (terms_for frame es) in
      told_if part (is_among frame.parameters name || is_among frame.fields name) (Some cause.WrongCount) (apply_cause (let_for frame.lets name) later name (count_of es) within)
      (λ b. told_some part cause.WrongCount (inl b))
      (λ b. apply_told part name (count_of es) within (let_for frame.lets name) refl (or_other name (is_among frame.parameters name) (is_among frame.fields name) refl refl b)
      (λ s b. (s, b)) (λ s b. (s, b)) (λ k s e. inr (k, s, e)) (λ k s e l. (k, s, e, l)) (λ k s e l g i. (k, s, e, l, g, i)))

  apply_told_all : (name : List ℕ) (at : ℕ) (es : ArgumentTree) → Told (ApplyTree name at es) (own frame later inside (ApplyTree name at es))
  apply_told_all name at es =
      told_same (ApplyTree name at es) (own frame later inside (ApplyTree name at es)) (call_cause frame later name (count_of es) (inside || list_any looks (terms_for frame es)))
      (ap (λ (n : ℕ). call_cause frame later name n (inside || list_any looks (terms_for frame es))) (as_many frame es)) (call_told_of name at es)

  -- after `n.`
  seen_told : (name : List ℕ) (at : ℕ) (known : KnownTree) → IsSeenAs frame inside name known → Told (NearTree name at) (seen_cause known)
  seen_told name at known s =
      let part = NearTree name at in
      told_if part known.is_let (if known.count == 0 then (if knows_degree known.term || looks known.term then Some cause.NotSeen else None) else Some cause.WrongCount) (Some cause.UnknownNear)
      (λ l. told_if part (known.count == 0) (if knows_degree known.term || looks known.term then Some cause.NotSeen else None) (Some cause.WrongCount)
      (λ e. told_if part (knows_degree known.term || looks known.term) (Some cause.NotSeen) None
      (λ k. told_some part cause.NotSeen (known, s, l, same_is known.count 0 e, k)) (λ k. told_none part))
      (λ e. told_some part cause.WrongCount (known, s, l, other_is known.count 0 e)))
      (λ l. told_some part cause.UnknownNear (inr (known, s, l)))

  near_let_told : (name : List ℕ) (at : ℕ) (found : Option KnownTree) → inside ≡ true → is_among frame.fields name ≡ false → let_for frame.lets name ≡ found → Told (NearTree name at) (near_let_cause found later name)
  near_let_told name at None i f e =
      let s : IsSeenAsNone frame inside name = record { place = i; field = f; none = e } in
      told_either (NearTree name at) (is_among later name) cause.Ring cause.UnknownNear (λ b. (s, b)) (λ b. inl (s, b))
  near_let_told name at (Some known) i f e = seen_told name at known (record { place = i; field = f; found = e })

  near_told : (name : List ℕ) (at : ℕ) → Told (NearTree name at) (near_cause frame later name inside)
  near_told name at =
      let part = NearTree name at in
      let rest = near_let_cause (let_for frame.lets name) later name in
      told_if part inside (if is_among frame.fields name then None else rest) (Some cause.NeighbourOutside)
      (λ i. told_if part (is_among frame.fields name) None rest (λ f. told_none part) (λ f. near_let_told name at (let_for frame.lets name) i f refl))
      (λ i. told_some part cause.NeighbourOutside i)

  outside_told : (part : Tree) → (inside ≡ false → IsWrongAs frame later inside part cause.NeighbourOutside) → Told part (outside_cause inside)
  outside_told part h = told_if part inside None (Some cause.NeighbourOutside) (λ i. told_none part) (λ i. told_some part cause.NeighbourOutside (h i))

  -- the seed and the number of a draw
  number_told : (part : Tree) (at : ℕ) (known : KnownTree) (number : Option ℕ) → let_for frame.lets seed_name ≡ Some known → number_in known.term ≡ number
      → (HasNoNumber frame → IsWrongAs frame later inside part cause.NotConstant) → (IsTooFar frame at → IsWrongAs frame later inside part cause.TooLong)
      → Told part (option_or (constant_cause number) (if nat_lt (draw_number frame.draws at) 65536 then None else Some cause.TooLong))
  number_told part at known None s e odd far = told_some part cause.NotConstant (odd (known, s, e))
  number_told part at known (Some seed) s e odd far =
      told_if part (nat_lt (draw_number frame.draws at) 65536) None (Some cause.TooLong) (λ b. told_none part)
      (λ b. told_some part cause.TooLong (far (known, seed, s, e, not_less_is (draw_number frame.draws at) 65536 b)))

  seed_told : (part : Tree) (at : ℕ) (found : Option KnownTree) → let_for frame.lets seed_name ≡ found
      → (LacksSeed frame → IsWrongAs frame later inside part cause.Ring)
      → (HasNoNumber frame → IsWrongAs frame later inside part cause.NotConstant) → (IsTooFar frame at → IsWrongAs frame later inside part cause.TooLong)
      → Told part (option_or (seed_cause found) (if nat_lt (draw_number frame.draws at) 65536 then None else Some cause.TooLong))
  seed_told part at None s ring odd far = told_some part cause.Ring (ring s)
  seed_told part at (Some known) s ring odd far = number_told part at known (number_in known.term) s refl odd far

  node_told : (part : Tree) (at : ℕ)
      → (LacksSeed frame → IsWrongAs frame later inside part cause.Ring)
      → (HasNoNumber frame → IsWrongAs frame later inside part cause.NotConstant) → (IsTooFar frame at → IsWrongAs frame later inside part cause.TooLong)
      → Told part (node_cause frame at)
  node_told part at ring odd far = seed_told part at (let_for frame.lets seed_name) refl ring odd far

  -- functions of the notation
  link_told : (f : Function) (at : ℕ) (es : ArgumentTree) (b : Bool) → inside ≡ b → kind_of f ≡ kind.Draw source.Link → HasGoodBound frame es
      → Told (CallTree f at es) (option_or (outside_cause b) (node_cause frame at))
  link_told f at es true i k g =
      node_told (CallTree f at es) at (λ h. ((source.Link, k, g, i), h)) (λ h. ((source.Link, k, g, i), h)) (λ h. ((source.Link, k, g, i), h))
  link_told f at es false i k g = told_some (CallTree f at es) cause.NeighbourOutside (k, g, i)

  draw_told : (f : Function) (at : ℕ) (es : ArgumentTree) (s : Source) → kind_of f ≡ kind.Draw s → HasGoodBound frame es → Told (CallTree f at es) (draw_cause s frame inside at)
  draw_told f at es source.Node k g =
      node_told (CallTree f at es) at (λ h. ((source.Node, k, g, tt), h)) (λ h. ((source.Node, k, g, tt), h)) (λ h. ((source.Node, k, g, tt), h))
  draw_told f at es source.Link k g = link_told f at es inside refl k g

  bound_told : (f : Function) (at : ℕ) (e : Tree) (s : Source) → kind_of f ≡ kind.Draw s → Decides (below_cause (term_for frame e)) (IsBadBound (term_for frame e))
      → Told (CallTree f at (OneArgument e NoArgument)) (option_or (below_cause (term_for frame e)) (draw_cause s frame inside at))
  bound_told f at e s k (inl x) =
      let part = CallTree f at (OneArgument e NoArgument) in
      told_same part (option_or (below_cause (term_for frame e)) (draw_cause s frame inside at)) (Some cause.OutOfRange)
      (ap (λ (o : Option Cause). option_or o (draw_cause s frame inside at)) x.0) (told_some part cause.OutOfRange (s, k, x.1))
  bound_told f at e s k (inr x) =
      let part = CallTree f at (OneArgument e NoArgument) in
      told_same part (option_or (below_cause (term_for frame e)) (draw_cause s frame inside at)) (draw_cause s frame inside at)
      (ap (λ (o : Option Cause). option_or o (draw_cause s frame inside at)) x.0) (draw_told f at (OneArgument e NoArgument) s k x.1)

  arguments_told : (f : Function) (at : ℕ) (es : ArgumentTree) (k : CallKind) → kind_of f ≡ k → (IsNested inside f → ⊥) → (takes k es ≡ true → Told (CallTree f at es) None)
      → Told (CallTree f at es) (if takes k es then None else Some cause.WrongArguments)
  arguments_told f at es k e n h =
      told_if (CallTree f at es) (takes k es) None (Some cause.WrongArguments) h
      (λ b. told_some (CallTree f at es) cause.WrongArguments (ap (λ (x : CallKind). takes x es) e ∙ b, n))

  call_told : (f : Function) (at : ℕ) (es : ArgumentTree) (k : CallKind) → kind_of f ≡ k → Told (CallTree f at es) (call_own k frame inside at es)
  call_told f at es (kind.Gather agg) e =
      told_if (CallTree f at es) inside (Some cause.NestedAggregate) (if takes (kind.Gather agg) es then None else Some cause.WrongArguments)
      (λ i. told_some (CallTree f at es) cause.NestedAggregate (agg, e, i))
      (λ i. arguments_told f at es (kind.Gather agg) e (λ n. absurd (let j = n.2 in cc)) (λ b. told_none (CallTree f at es)))
  call_told f at es (kind.Join o) e = arguments_told f at es (kind.Join o) e (λ n. absurd (let j = n.1 in cc)) (λ b. told_none (CallTree f at es))
  call_told f at es kind.Distance e = arguments_told f at es kind.Distance e (λ n. absurd (let j = n.1 in cc)) (λ b. told_none (CallTree f at es))
  call_told f at NoArgument (kind.Draw s) e = draw_told f at NoArgument s e tt
  call_told f at (OneArgument a NoArgument) (kind.Draw s) e = bound_told f at a s e (below_decides (term_for frame a))
  call_told f at (OneArgument a (OneArgument b es)) (kind.Draw s) e =
      told_some (CallTree f at (OneArgument a (OneArgument b es))) cause.WrongArguments (ap (λ (x : CallKind). takes x (OneArgument a (OneArgument b es))) e, λ n. absurd (let j = n.1 in cc))

  -- chances
  chance_told : (at : ℕ) (p : Decimal) → Decides (chance_cause p) (IsBadChance p) → Told (ChanceTree at p) (chance_cause p)
  chance_told at p (inl x) = told_same (ChanceTree at p) (chance_cause p) (Some cause.OutOfRange) x.0 (told_some (ChanceTree at p) cause.OutOfRange x.1)
  chance_told at p (inr x) = told_same (ChanceTree at p) (chance_cause p) None x.0 (told_none (ChanceTree at p))

  chance_of_told : (at : ℕ) (p : Decimal) → Decides (chance_cause p) (IsBadChance p) → Told (ChanceOfTree at p) (option_or (chance_cause p) (node_cause frame at))
  chance_of_told at p (inl x) =
      told_same (ChanceOfTree at p) (option_or (chance_cause p) (node_cause frame at)) (Some cause.OutOfRange) (ap (λ (o : Option Cause). option_or o (node_cause frame at)) x.0)
      (told_some (ChanceOfTree at p) cause.OutOfRange x.1)
  chance_of_told at p (inr x) =
      told_same (ChanceOfTree at p) (option_or (chance_cause p) (node_cause frame at)) (node_cause frame at) (ap (λ (o : Option Cause). option_or o (node_cause frame at)) x.0)
      (node_told (ChanceOfTree at p) at (λ h. (x.1, h)) (λ h. (x.1, h)) (λ h. (x.1, h)))

  -- what is told of a part is in the table
  pub own_wrong : (part : Tree) → Told part (own frame later inside part)
  own_wrong (NumberTree n at) = told_none (NumberTree n at)
  own_wrong (NothingTree at) = told_none (NothingTree at)
  own_wrong (NameTree name at) = name_told name at
  own_wrong (IdTree at) = told_none (IdTree at)
  own_wrong (DegreeTree at) = told_none (DegreeTree at)
  own_wrong (RoundTree at) = told_none (RoundTree at)
  own_wrong (NearTree name at) = near_told name at
  own_wrong (NearIdTree at) = outside_told (NearIdTree at) (λ i. i)
  own_wrong (NearWeightTree at) = outside_told (NearWeightTree at) (λ i. i)
  own_wrong (InfixTree o at a b) = told_none (InfixTree o at a b)
  own_wrong (NotTree at e) = told_none (NotTree at e)
  own_wrong (ParensTree at e) = told_none (ParensTree at e)
  own_wrong (IfTree at a b c) = told_none (IfTree at a b c)
  own_wrong (CasesTree at arms) = told_none (CasesTree at arms)
  own_wrong (CallTree f at es) = call_told f at es (kind_of f) refl
  own_wrong (ApplyTree name at es) = apply_told_all name at es
  own_wrong (ChanceTree at p) = chance_told at p (chance_decides p)
  own_wrong (ChanceOfTree at p) = chance_of_told at p (chance_decides p)

  -- ---- what is in the table is told

  name_back : (name : List ℕ) (at : ℕ) (c : Cause) → IsWrongAs frame later inside (NameTree name at) c → name_cause frame later name inside ≡ Some c
  name_back name at cause.UnknownName h = rw (h.0.other.parameter, h.0.other.field, h.0.none, h.1) refl
  name_back name at cause.Ring h = rw (h.0.other.parameter, h.0.other.field, h.0.none, h.1) refl
  name_back name at cause.WrongCount h = rw (h.1.other.parameter, h.1.other.field, h.1.found, is_other h.0.count 0 h.2) refl
  name_back name at cause.NeighbourOutside h = rw (h.1.other.parameter, h.1.other.field, h.1.found, is_same h.0.count 0 h.2, h.3) refl
  name_back name at cause.NestedAggregate h = rw (h.1.other.parameter, h.1.other.field, h.1.found, is_same h.0.count 0 h.2, h.3, h.4, h.5) refl
  name_back name at other h = absurd h

  apply_back_of : (name : List ℕ) (at : ℕ) (es : ArgumentTree) (c : Cause) → IsWrongAs frame later inside (ApplyTree name at es) c
      → call_cause frame later name (count_of es) (inside || list_any looks (terms_for frame es)) ≡ Some c
  apply_back_of name at es cause.UnknownName h = rw (h.0.other.parameter, h.0.other.field, h.0.none, h.1) refl
  apply_back_of name at es cause.Ring h = rw (h.0.other.parameter, h.0.other.field, h.0.none, h.1) refl
  apply_back_of name at es cause.WrongCount (inl h) = rw h refl
  apply_back_of name at es cause.WrongCount (inr h) = rw (h.1.other.parameter, h.1.other.field, h.1.found, is_other h.0.count (count_of es) h.2) refl
  apply_back_of name at es cause.NeighbourOutside h = rw (h.1.other.parameter, h.1.other.field, h.1.found, is_same h.0.count (count_of es) h.2, h.3) refl
  apply_back_of name at es cause.NestedAggregate h = rw (h.1.other.parameter, h.1.other.field, h.1.found, is_same h.0.count (count_of es) h.2, h.3, h.4, h.5) refl
  apply_back_of name at es other h = absurd h

  apply_back : (name : List ℕ) (at : ℕ) (es : ArgumentTree) (c : Cause) → IsWrongAs frame later inside (ApplyTree name at es) c → own frame later inside (ApplyTree name at es) ≡ Some c
  apply_back name at es c h =
      ap (λ (n : ℕ). call_cause frame later name n (inside || list_any looks (terms_for frame es))) (as_many frame es) ∙ apply_back_of name at es c h

  near_back : (name : List ℕ) (at : ℕ) (c : Cause) → IsWrongAs frame later inside (NearTree name at) c → near_cause frame later name inside ≡ Some c
  near_back name at cause.UnknownNear (inl h) = rw (h.0.place, h.0.field, h.0.none, h.1) refl
  near_back name at cause.UnknownNear (inr h) = rw (h.1.place, h.1.field, h.1.found, h.2) refl
  near_back name at cause.Ring h = rw (h.0.place, h.0.field, h.0.none, h.1) refl
  near_back name at cause.WrongCount h = rw (h.1.place, h.1.field, h.1.found, h.2, is_other h.0.count 0 h.3) refl
  near_back name at cause.NotSeen h = rw (h.1.place, h.1.field, h.1.found, h.2, is_same h.0.count 0 h.3, h.4) refl
  near_back name at cause.NeighbourOutside h = rw h refl
  near_back name at other h = absurd h

  ring_back : (at : ℕ) → LacksSeed frame → node_cause frame at ≡ Some cause.Ring
  ring_back at h = rw h refl

  odd_back : (at : ℕ) → HasNoNumber frame → node_cause frame at ≡ Some cause.NotConstant
  odd_back at h = rw (h.1, h.2) refl

  far_back : (at : ℕ) → IsTooFar frame at → node_cause frame at ≡ Some cause.TooLong
  far_back at h = rw (h.2, h.3, is_not_less (draw_number frame.draws at) 65536 h.4) refl

  -- a draw whose bound and place are right
  placed_back : (s : Source) (at : ℕ) → IsInPlace s inside → draw_cause s frame inside at ≡ node_cause frame at
  placed_back source.Node at h = refl
  placed_back source.Link at h = rw h refl

  good_back : (s : Source) (at : ℕ) (es : ArgumentTree) → HasGoodBound frame es → call_own (kind.Draw s) frame inside at es ≡ draw_cause s frame inside at
  good_back s at NoArgument g = refl
  good_back s at (OneArgument e NoArgument) g = rw (good_none (below_cause (term_for frame e)) (IsBadBound (term_for frame e)) (below_decides (term_for frame e)) g) refl
  good_back s at (OneArgument e (OneArgument b es)) g = absurd g

  drawn_back : (f : Function) (at : ℕ) (es : ArgumentTree) → Draws frame inside f es → call_own (kind_of f) frame inside at es ≡ node_cause frame at
  drawn_back f at es h =
      ap (λ (k : CallKind). call_own k frame inside at es) h.1 ∙ (good_back h.0 at es h.2 ∙ placed_back h.0 at h.3)

  range_back : (f : Function) (at : ℕ) (es : ArgumentTree) → IsWrongAs frame later inside (CallTree f at es) cause.OutOfRange → call_own (kind_of f) frame inside at es ≡ Some cause.OutOfRange
  range_back f at NoArgument h = absurd h
  range_back f at (OneArgument e NoArgument) h =
      ap (λ (k : CallKind). call_own k frame inside at (OneArgument e NoArgument)) h.1
      ∙ rw (bad_some (below_cause (term_for frame e)) (IsBadBound (term_for frame e)) (below_decides (term_for frame e)) h.2) refl
  range_back f at (OneArgument e (OneArgument b es)) h = absurd h

  gather_back : (f : Function) (es : ArgumentTree) (agg : Agg) (b : Bool) → inside ≡ b → kind_of f ≡ kind.Gather agg → takes (kind.Gather agg) es ≡ false → (IsNested inside f → ⊥)
      → (if b then Some cause.NestedAggregate else (if takes (kind.Gather agg) es then None else Some cause.WrongArguments)) ≡ Some cause.WrongArguments
  gather_back f es agg true i e h n = absurd (n (agg, e, i))
  gather_back f es agg false i e h n = rw h refl

  count_back : (f : Function) (at : ℕ) (es : ArgumentTree) (k : CallKind) → kind_of f ≡ k → takes k es ≡ false → (IsNested inside f → ⊥) → call_own k frame inside at es ≡ Some cause.WrongArguments
  count_back f at es (kind.Gather agg) e h n = gather_back f es agg inside refl e h n
  count_back f at es (kind.Join o) e h n = rw h refl
  count_back f at es kind.Distance e h n = rw h refl
  count_back f at es (kind.Draw s) e h n = rw h refl

  call_back : (f : Function) (at : ℕ) (es : ArgumentTree) (c : Cause) → IsWrongAs frame later inside (CallTree f at es) c → call_own (kind_of f) frame inside at es ≡ Some c
  call_back f at es cause.WrongArguments h = count_back f at es (kind_of f) refl h.0 h.1
  call_back f at es cause.NestedAggregate h = ap (λ (k : CallKind). call_own k frame inside at es) h.1 ∙ rw h.2 refl
  call_back f at es cause.NeighbourOutside h =
      ap (λ (k : CallKind). call_own k frame inside at es) h.0 ∙ (good_back source.Link at es h.1 ∙ rw h.2 refl)
  call_back f at es cause.Ring h = drawn_back f at es h.0 ∙ ring_back at h.1
  call_back f at es cause.NotConstant h = drawn_back f at es h.0 ∙ odd_back at h.1
  call_back f at es cause.OutOfRange h = range_back f at es h
  call_back f at es cause.TooLong h = drawn_back f at es h.0 ∙ far_back at h.1
  call_back f at es other h = absurd h

  chance_back : (at : ℕ) (p : Decimal) (c : Cause) → IsWrongAs frame later inside (ChanceTree at p) c → chance_cause p ≡ Some c
  chance_back at p cause.OutOfRange h = bad_some (chance_cause p) (IsBadChance p) (chance_decides p) h
  chance_back at p other h = absurd h

  good_chance : (at : ℕ) (p : Decimal) → (IsBadChance p → ⊥) → option_or (chance_cause p) (node_cause frame at) ≡ node_cause frame at
  good_chance at p g = ap (λ (o : Option Cause). option_or o (node_cause frame at)) (good_none (chance_cause p) (IsBadChance p) (chance_decides p) g)

  chance_of_back : (at : ℕ) (p : Decimal) (c : Cause) → IsWrongAs frame later inside (ChanceOfTree at p) c → option_or (chance_cause p) (node_cause frame at) ≡ Some c
  chance_of_back at p cause.OutOfRange h = ap (λ (o : Option Cause). option_or o (node_cause frame at)) (bad_some (chance_cause p) (IsBadChance p) (chance_decides p) h)
  chance_of_back at p cause.Ring h = good_chance at p h.0 ∙ ring_back at h.1
  chance_of_back at p cause.NotConstant h = good_chance at p h.0 ∙ odd_back at h.1
  chance_of_back at p cause.TooLong h = good_chance at p h.0 ∙ far_back at h.1
  chance_of_back at p other h = absurd h

  outside_back : (at : ℕ) (c : Cause) → IsWrongAs frame later inside (NearIdTree at) c → outside_cause inside ≡ Some c
  outside_back at cause.NeighbourOutside h = rw h refl
  outside_back at other h = absurd h

  weight_back : (at : ℕ) (c : Cause) → IsWrongAs frame later inside (NearWeightTree at) c → outside_cause inside ≡ Some c
  weight_back at cause.NeighbourOutside h = rw h refl
  weight_back at other h = absurd h

  -- a part with which nothing may be wrong itself
  plain_back : (part : Tree) → (IsUnknownName frame later part → ⊥) → (IsUnknownNear frame later inside part → ⊥) → (IsWrongCount frame inside part → ⊥) → (IsWrongArguments inside part → ⊥)
      → (IsOutside frame inside part → ⊥) → (IsTwiceGathered frame inside part → ⊥) → (IsUnseen frame inside part → ⊥) → (IsAwaiting frame later inside part → ⊥) → (HasOddSeed frame inside part → ⊥)
      → (IsOutOfRange frame part → ⊥) → (IsDrawTooMany frame inside part → ⊥) → (c : Cause) → IsWrongAs frame later inside part c → ⊥
  plain_back part a b c d e f g h i j k cause.UnknownName w = a w
  plain_back part a b c d e f g h i j k cause.UnknownNear w = b w
  plain_back part a b c d e f g h i j k cause.WrongCount w = c w
  plain_back part a b c d e f g h i j k cause.WrongArguments w = d w
  plain_back part a b c d e f g h i j k cause.NeighbourOutside w = e w
  plain_back part a b c d e f g h i j k cause.NestedAggregate w = f w
  plain_back part a b c d e f g h i j k cause.NotSeen w = g w
  plain_back part a b c d e f g h i j k cause.Ring w = h w
  plain_back part a b c d e f g h i j k cause.NotConstant w = i w
  plain_back part a b c d e f g h i j k cause.OutOfRange w = j w
  plain_back part a b c d e f g h i j k cause.TooLong w = k w
  plain_back part a b c d e f g h i j k other w = w

  -- what is in the table of a part is told
  pub own_back : (part : Tree) (c : Cause) → IsWrongAs frame later inside part c → own frame later inside part ≡ Some c
  own_back (NumberTree n at) c h = absurd (plain_back (NumberTree n at) (λ x. x) (λ x. x) (λ x. x) (λ x. x) (λ x. x) (λ x. x) (λ x. x) (λ x. x) (λ x. x) (λ x. x) (λ x. x) c h)
  own_back (NothingTree at) c h = absurd (plain_back (NothingTree at) (λ x. x) (λ x. x) (λ x. x) (λ x. x) (λ x. x) (λ x. x) (λ x. x) (λ x. x) (λ x. x) (λ x. x) (λ x. x) c h)
  own_back (IdTree at) c h = absurd (plain_back (IdTree at) (λ x. x) (λ x. x) (λ x. x) (λ x. x) (λ x. x) (λ x. x) (λ x. x) (λ x. x) (λ x. x) (λ x. x) (λ x. x) c h)
  own_back (DegreeTree at) c h = absurd (plain_back (DegreeTree at) (λ x. x) (λ x. x) (λ x. x) (λ x. x) (λ x. x) (λ x. x) (λ x. x) (λ x. x) (λ x. x) (λ x. x) (λ x. x) c h)
  own_back (RoundTree at) c h = absurd (plain_back (RoundTree at) (λ x. x) (λ x. x) (λ x. x) (λ x. x) (λ x. x) (λ x. x) (λ x. x) (λ x. x) (λ x. x) (λ x. x) (λ x. x) c h)
  own_back (InfixTree o at a b) c h = absurd (plain_back (InfixTree o at a b) (λ x. x) (λ x. x) (λ x. x) (λ x. x) (λ x. x) (λ x. x) (λ x. x) (λ x. x) (λ x. x) (λ x. x) (λ x. x) c h)
  own_back (NotTree at e) c h = absurd (plain_back (NotTree at e) (λ x. x) (λ x. x) (λ x. x) (λ x. x) (λ x. x) (λ x. x) (λ x. x) (λ x. x) (λ x. x) (λ x. x) (λ x. x) c h)
  own_back (ParensTree at e) c h = absurd (plain_back (ParensTree at e) (λ x. x) (λ x. x) (λ x. x) (λ x. x) (λ x. x) (λ x. x) (λ x. x) (λ x. x) (λ x. x) (λ x. x) (λ x. x) c h)
  own_back (IfTree at a b d) c h = absurd (plain_back (IfTree at a b d) (λ x. x) (λ x. x) (λ x. x) (λ x. x) (λ x. x) (λ x. x) (λ x. x) (λ x. x) (λ x. x) (λ x. x) (λ x. x) c h)
  own_back (CasesTree at arms) c h = absurd (plain_back (CasesTree at arms) (λ x. x) (λ x. x) (λ x. x) (λ x. x) (λ x. x) (λ x. x) (λ x. x) (λ x. x) (λ x. x) (λ x. x) (λ x. x) c h)
  own_back (NameTree name at) c h = name_back name at c h
  own_back (NearTree name at) c h = near_back name at c h
  own_back (NearIdTree at) c h = outside_back at c h
  own_back (NearWeightTree at) c h = weight_back at c h
  own_back (CallTree f at es) c h = call_back f at es c h
  own_back (ApplyTree name at es) c h = apply_back name at es c h
  own_back (ChanceTree at p) c h = chance_back at p c h
  own_back (ChanceOfTree at p) c h = chance_of_back at p c h

  -- nothing is wrong with a part exactly where nothing is told of it
  pub own_right : (part : Tree) → own frame later inside part ≡ None → IsRight frame later inside part
  own_right part e c h = none_some (sym e ∙ own_back part c h)

  right_case : (part : Tree) (found : Option Cause) → own frame later inside part ≡ found → IsRight frame later inside part → found ≡ None
  right_case part None e h = refl
  right_case part (Some c) e h = absurd (h c (own_wrong part c e))

  pub right_own : (part : Tree) → IsRight frame later inside part → own frame later inside part ≡ None
  right_own part h = right_case part (own frame later inside part) refl h

pub one_kind : OneKind
one_kind frame later inside part one other p q = same_some (sym (own_back frame later inside part one p) ∙ own_back frame later inside part other q)
