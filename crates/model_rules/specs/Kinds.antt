-- What may be wrong with a part of an expression: a table of kinds, which are those of docs/models.md. Each is told of one part, by the
-- names, numbers and terms that it has; at most one of them holds of a part.
use Rattle.std.specs.Prelude.{◌≡◌, ◌≢◌, ◌⊎◌, ℕ, ◌+◌, ◌*◌, ◌^◌, ◌<◌, ◌≤◌, Bool, true, false, ◌||◌, List, Some, None}
use Rattle.std.specs.List.{list_any}
use Rattle.rule_lang.specs.declared.tree.Op.{Op}
use Rattle.rule_lang.specs.declared.tree.Op.TheVariants as op
use Rattle.rule_lang.specs.declared.tree.Agg.{Agg}
use Rattle.rule_check.specs.Table.{M}
use Rattle.rule_check.specs.WellFormed.{is_among}
use Rattle.model_text.specs.declared.tree.Decimal.{Decimal}
use Rattle.model_text.specs.declared.tree.Function.{Function}
use Rattle.model_text.specs.Tree.{Tree, NumberTree, NothingTree, NameTree, IdTree, DegreeTree, RoundTree, NearTree, NearIdTree, NearWeightTree, InfixTree, NotTree, ParensTree, IfTree, CasesTree, CallTree, ApplyTree, ChanceTree, ChanceOfTree, ArgumentTree, NoArgument, OneArgument}
use Rattle.model_rules.specs.declared.fault.Cause.{Cause}
use Rattle.model_rules.specs.declared.fault.Cause.TheVariants as cause
use Rattle.model_rules.specs.declared.operators.CallKind.{CallKind}
use Rattle.model_rules.specs.declared.operators.CallKind.TheVariants as kind
use Rattle.model_rules.specs.declared.operators.Source.{Source}
use Rattle.model_rules.specs.declared.operators.Source.TheVariants as source
use Rattle.model_rules.specs.Terms.{TermTree, InfixTerm, gathers, looks, knows_degree}
use Rattle.model_rules.specs.Constants.{amount_in, is_fixed}
use Rattle.model_rules.specs.Frames.{KnownTree, Frame}
use Rattle.model_rules.specs.Meaning.{seed_name, draw_number}
use Rattle.model_rules.specs.Operators.{kind_of}
use Rattle.model_rules.specs.Refusals.{let_for}
use Rattle.model_rules.specs.TermFor.{number_in, term_for, terms_for}

-- ---- names

-- the name is that of neither a parameter nor a field
pub record IsOther (frame : Frame) (name : List ℕ) : Type 0 where
  pub parameter : is_among frame.parameters name ≡ false
  pub field : is_among frame.fields name ≡ false

-- by itself or with brackets the name stands for what is known so: a constant, a state or a let
pub record StandsFor (frame : Frame) (name : List ℕ) (known : KnownTree) : Type 0 where
  pub other : IsOther frame name
  pub found : let_for frame.lets name ≡ Some known

-- nothing that is known has the name
pub record StandsForNone (frame : Frame) (name : List ℕ) : Type 0 where
  pub other : IsOther frame name
  pub none : let_for frame.lets name ≡ None

-- in an aggregate and after `n.`, the name stands for what is known so
pub record IsSeenAs (frame : Frame) (inside : Bool) (name : List ℕ) (known : KnownTree) : Type 0 where
  pub place : inside ≡ true
  pub field : is_among frame.fields name ≡ false
  pub found : let_for frame.lets name ≡ Some known

-- nothing that is known has it there
pub record IsSeenAsNone (frame : Frame) (inside : Bool) (name : List ℕ) : Type 0 where
  pub place : inside ≡ true
  pub field : is_among frame.fields name ≡ false
  pub none : let_for frame.lets name ≡ None

-- how many arguments there are
abbrev pub count_of : ArgumentTree → ℕ
count_of NoArgument = 0
count_of (OneArgument e es) = 1 + count_of es

-- ---- functions and draws

-- A function may have these arguments: an aggregate one, `min` and `max` one or more, `difference` two, a draw one or none.
abbrev pub takes : CallKind → ArgumentTree → Bool
takes (kind.Gather agg) NoArgument = false
takes (kind.Gather agg) (OneArgument a NoArgument) = true
takes (kind.Gather agg) (OneArgument a (OneArgument b es)) = false
takes (kind.Join o) NoArgument = false
takes (kind.Join o) (OneArgument a es) = true
takes kind.Distance NoArgument = false
takes kind.Distance (OneArgument a NoArgument) = false
takes kind.Distance (OneArgument a (OneArgument b NoArgument)) = true
takes kind.Distance (OneArgument a (OneArgument b (OneArgument c es))) = false
takes (kind.Draw s) NoArgument = true
takes (kind.Draw s) (OneArgument a NoArgument) = true
takes (kind.Draw s) (OneArgument a (OneArgument b es)) = false

-- an aggregate in an aggregate
abbrev pub IsNested : Bool → Function → Type 0
IsNested inside f = (agg : Agg) × (kind_of f ≡ kind.Gather agg) × (inside ≡ true)

-- a number is made of two of a constant that is above 4,294,967,295 or below 0, or divided by 0
abbrev pub IsOutBy : Op → ℕ → ℕ → Type 0
IsOutBy op.Plus a b = M < a + b
IsOutBy op.Minus a b = a < b
IsOutBy op.Times a b = M < a * b
IsOutBy op.Quot a b = b ≡ 0
IsOutBy op.Rem a b = b ≡ 0
IsOutBy o a b = ⊥

-- such a number is made somewhere in a term
abbrev pub IsOut : TermTree → Type 0
IsOut (InfixTerm o a b) = IsOut a ⊎ (IsOut b ⊎ IsOutBy o (amount_in a) (amount_in b))
IsOut t = ⊥

-- the bound of a draw is a constant that is out of range, or not from 1 to 65,536
abbrev pub IsBadBound : TermTree → Type 0
IsBadBound t = (is_fixed t ≡ true) × (IsOut t ⊎ ((amount_in t ≡ 0) ⊎ (65536 < amount_in t)))

-- a chance has more than nine digits after its point, or is above 1
abbrev pub IsBadChance : Decimal → Type 0
IsBadChance p = (9 < p.places) ⊎ (10 ^ p.places < p.numerator)

-- a draw has no bound, or one that is not bad
abbrev pub HasGoodBound : Frame → ArgumentTree → Type 0
HasGoodBound frame NoArgument = Unit {0}
HasGoodBound frame (OneArgument e NoArgument) = IsBadBound (term_for frame e) → ⊥
HasGoodBound frame (OneArgument e (OneArgument b es)) = ⊥

-- a draw for a link stands in an aggregate
abbrev pub IsInPlace : Source → Bool → Type 0
IsInPlace source.Node inside = Unit {0}
IsInPlace source.Link inside = inside ≡ true

-- a function that draws, whose bound and whose place are right
abbrev pub Draws : Frame → Bool → Function → ArgumentTree → Type 0
Draws frame inside f es = (s : Source) × (kind_of f ≡ kind.Draw s) × HasGoodBound frame es × IsInPlace s inside

-- the seed is not known yet
abbrev pub LacksSeed : Frame → Type 0
LacksSeed frame = let_for frame.lets seed_name ≡ None

-- what is called seed is known, and is no number
abbrev pub HasNoNumber : Frame → Type 0
HasNoNumber frame = (known : KnownTree) × (let_for frame.lets seed_name ≡ Some known) × (number_in known.term ≡ None)

-- the seed is a number, and 65,536 draws stand before this place
abbrev pub IsTooFar : Frame → ℕ → Type 0
IsTooFar frame at =
    (known : KnownTree) × (seed : ℕ) × (let_for frame.lets seed_name ≡ Some known) × (number_in known.term ≡ Some seed) × (65536 ≤ draw_number frame.draws at)

-- ---- the kinds, each of a part that stands inside of an aggregate or outside

-- nothing has this name: no parameter, no field, and nothing that may be known later
abbrev pub IsUnknownName : Frame → List (List ℕ) → Tree → Type 0
IsUnknownName frame later (NameTree name at) = StandsForNone frame name × (is_among later name ≡ false)
IsUnknownName frame later (ApplyTree name at es) = StandsForNone frame name × (is_among later name ≡ false)
IsUnknownName frame later part = ⊥

-- no field and no let has the name after `n.`: what has it is none, or a constant or a state
abbrev pub IsUnknownNear : Frame → List (List ℕ) → Bool → Tree → Type 0
IsUnknownNear frame later inside (NearTree name at) =
    (IsSeenAsNone frame inside name × (is_among later name ≡ false)) ⊎ ((known : KnownTree) × IsSeenAs frame inside name known × (known.is_let ≡ false))
IsUnknownNear frame later inside part = ⊥

-- a let has another number of arguments, or a parameter or a field stands with brackets
abbrev pub IsWrongCount : Frame → Bool → Tree → Type 0
IsWrongCount frame inside (NameTree name at) = (known : KnownTree) × StandsFor frame name known × (known.count ≢ 0)
IsWrongCount frame inside (ApplyTree name at es) =
    ((is_among frame.parameters name || is_among frame.fields name) ≡ true) ⊎ ((known : KnownTree) × StandsFor frame name known × (known.count ≢ count_of es))
IsWrongCount frame inside (NearTree name at) = (known : KnownTree) × IsSeenAs frame inside name known × (known.is_let ≡ true) × (known.count ≢ 0)
IsWrongCount frame inside part = ⊥

-- a function has another number of arguments; of an aggregate in an aggregate that one is told
abbrev pub IsWrongArguments : Bool → Tree → Type 0
IsWrongArguments inside (CallTree f at es) = (takes (kind_of f) es ≡ false) × (IsNested inside f → ⊥)
IsWrongArguments inside part = ⊥

-- `n.` or `link_random` outside of an aggregate, also by a let that is put in
abbrev pub IsOutside : Frame → Bool → Tree → Type 0
IsOutside frame inside (NearTree name at) = inside ≡ false
IsOutside frame inside (NearIdTree at) = inside ≡ false
IsOutside frame inside (NearWeightTree at) = inside ≡ false
IsOutside frame inside (CallTree f at es) = (kind_of f ≡ kind.Draw source.Link) × HasGoodBound frame es × (inside ≡ false)
IsOutside frame inside (NameTree name at) = (known : KnownTree) × StandsFor frame name known × (known.count ≡ 0) × (looks known.term ≡ true)
IsOutside frame inside (ApplyTree name at es) = (known : KnownTree) × StandsFor frame name known × (known.count ≡ count_of es) × (looks known.term ≡ true)
IsOutside frame inside part = ⊥

-- An aggregate in an aggregate, also by a let that is put in: where it is put in, or where an argument of it names the neighbour, is an
-- aggregate already.
abbrev pub IsTwiceGathered : Frame → Bool → Tree → Type 0
IsTwiceGathered frame inside (CallTree f at es) = IsNested inside f
IsTwiceGathered frame inside (NameTree name at) =
    (known : KnownTree) × StandsFor frame name known × (known.count ≡ 0) × (looks known.term ≡ false) × (gathers known.term ≡ true) × (inside ≡ true)
IsTwiceGathered frame inside (ApplyTree name at es) =
    (known : KnownTree) × StandsFor frame name known × (known.count ≡ count_of es) × (looks known.term ≡ false) × (gathers known.term ≡ true) × ((inside || list_any looks (terms_for frame es)) ≡ true)
IsTwiceGathered frame inside part = ⊥

-- a let after `n.` uses an aggregate, `degree` or `n.`
abbrev pub IsUnseen : Frame → Bool → Tree → Type 0
IsUnseen frame inside (NearTree name at) =
    (known : KnownTree) × IsSeenAs frame inside name known × (known.is_let ≡ true) × (known.count ≡ 0) × ((knows_degree known.term || looks known.term) ≡ true)
IsUnseen frame inside part = ⊥

-- a constant, a state or a let is used that is not known yet; of a draw it is the seed
abbrev pub IsAwaiting : Frame → List (List ℕ) → Bool → Tree → Type 0
IsAwaiting frame later inside (NameTree name at) = StandsForNone frame name × (is_among later name ≡ true)
IsAwaiting frame later inside (ApplyTree name at es) = StandsForNone frame name × (is_among later name ≡ true)
IsAwaiting frame later inside (NearTree name at) = IsSeenAsNone frame inside name × (is_among later name ≡ true)
IsAwaiting frame later inside (CallTree f at es) = Draws frame inside f es × LacksSeed frame
IsAwaiting frame later inside (ChanceOfTree at p) = (IsBadChance p → ⊥) × LacksSeed frame
IsAwaiting frame later inside part = ⊥

-- the seed of a draw is no constant
abbrev pub HasOddSeed : Frame → Bool → Tree → Type 0
HasOddSeed frame inside (CallTree f at es) = Draws frame inside f es × HasNoNumber frame
HasOddSeed frame inside (ChanceOfTree at p) = (IsBadChance p → ⊥) × HasNoNumber frame
HasOddSeed frame inside part = ⊥

-- a bound of a draw is a constant and not from 1 to 65,536, or a chance is above 1
abbrev pub IsOutOfRange : Frame → Tree → Type 0
IsOutOfRange frame (CallTree f at (OneArgument e NoArgument)) = (s : Source) × (kind_of f ≡ kind.Draw s) × IsBadBound (term_for frame e)
IsOutOfRange frame (ChanceTree at p) = IsBadChance p
IsOutOfRange frame (ChanceOfTree at p) = IsBadChance p
IsOutOfRange frame part = ⊥

-- a draw is one too many
abbrev pub IsDrawTooMany : Frame → Bool → Tree → Type 0
IsDrawTooMany frame inside (CallTree f at es) = Draws frame inside f es × IsTooFar frame at
IsDrawTooMany frame inside (ChanceOfTree at p) = (IsBadChance p → ⊥) × IsTooFar frame at
IsDrawTooMany frame inside part = ⊥

-- The table: what is wrong with a part of an expression, where this is known and these are the names of all constants, states and lets.
abbrev pub IsWrongAs : Frame → List (List ℕ) → Bool → Tree → Cause → Type 0
IsWrongAs frame later inside part cause.UnknownName = IsUnknownName frame later part
IsWrongAs frame later inside part cause.UnknownNear = IsUnknownNear frame later inside part
IsWrongAs frame later inside part cause.WrongCount = IsWrongCount frame inside part
IsWrongAs frame later inside part cause.WrongArguments = IsWrongArguments inside part
IsWrongAs frame later inside part cause.NeighbourOutside = IsOutside frame inside part
IsWrongAs frame later inside part cause.NestedAggregate = IsTwiceGathered frame inside part
IsWrongAs frame later inside part cause.NotSeen = IsUnseen frame inside part
IsWrongAs frame later inside part cause.Ring = IsAwaiting frame later inside part
IsWrongAs frame later inside part cause.NotConstant = HasOddSeed frame inside part
IsWrongAs frame later inside part cause.OutOfRange = IsOutOfRange frame part
IsWrongAs frame later inside part cause.TooLong = IsDrawTooMany frame inside part
IsWrongAs frame later inside part other = ⊥

-- nothing is wrong with it
abbrev pub IsRight : Frame → List (List ℕ) → Bool → Tree → Type 0
IsRight frame later inside part = (c : Cause) → IsWrongAs frame later inside part c → ⊥

-- a law: a part is wrong in one way at most
abbrev pub OneKind : Type 0
OneKind =
    (frame : Frame) (later : List (List ℕ)) (inside : Bool) (part : Tree) (one other : Cause) → IsWrongAs frame later inside part one → IsWrongAs frame later inside part other → one ≡ other

-- the place at which it is told: of an infix that of its operator, and else that of its first token
abbrev pub place_of : Tree → ℕ
place_of (NumberTree n at) = at
place_of (NothingTree at) = at
place_of (NameTree name at) = at
place_of (IdTree at) = at
place_of (DegreeTree at) = at
place_of (RoundTree at) = at
place_of (NearTree name at) = at
place_of (NearIdTree at) = at
place_of (NearWeightTree at) = at
place_of (InfixTree o at a b) = at
place_of (NotTree at e) = at
place_of (ParensTree at e) = at
place_of (IfTree at a b c) = at
place_of (CasesTree at arms) = at
place_of (CallTree f at es) = at
place_of (ApplyTree name at es) = at
place_of (ChanceTree at p) = at
place_of (ChanceOfTree at p) = at
