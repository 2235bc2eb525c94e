-- What is wrong with an expression of a model: the first fault, found the way that the expander goes, for clauses of private functions.
-- By its place and by a table of kinds it is told in Steps, Kinds and FirstWrong.
use Rattle.std.specs.Prelude.{ℕ, ◌≡◌, ◌≢◌, ◌==◌, ◌^◌, nat_lt, Bool, true, ◌||◌, List, [], ◌∷◌, length, Option, Some, None, if◌then◌else◌}
use Rattle.std.specs.List.{list_any}
use Rattle.std.specs.Option.{option_map, option_or}
use Rattle.model_text.specs.declared.tree.Decimal.{Decimal}
use Rattle.model_text.specs.Tree.{Tree, NumberTree, NothingTree, NameTree, IdTree, DegreeTree, RoundTree, NearTree, NearIdTree, NearWeightTree, InfixTree, NotTree, ParensTree, IfTree, CasesTree, CallTree, ApplyTree, ChanceTree, ChanceOfTree, ArmTree, OneArm, ElseArm, ArgumentTree, NoArgument, OneArgument}
use Rattle.model_rules.specs.declared.fault.Cause.{Cause}
use Rattle.model_rules.specs.declared.fault.Cause.TheVariants as cause
use Rattle.model_rules.specs.declared.fault.ExpandFault.{ExpandFault}
use Rattle.model_rules.specs.declared.fault.ExpandFault.TheVariants as fault
use Rattle.model_rules.specs.declared.operators.CallKind.{CallKind}
use Rattle.model_rules.specs.declared.operators.CallKind.TheVariants as kind
use Rattle.model_rules.specs.declared.operators.Source.{Source}
use Rattle.model_rules.specs.declared.operators.Source.TheVariants as source
use Rattle.model_rules.specs.Terms.{TermTree, looks}
use Rattle.model_rules.specs.Meaning.{seed_name, draw_number}
use Rattle.model_rules.specs.Operators.{kind_of}
use Rattle.model_rules.specs.Frames.{KnownTree, Frame}
use Rattle.model_rules.specs.Refusals.{let_for, name_cause, near_cause, call_cause}
use Rattle.model_rules.specs.Constants.{is_fixed, part_cause, amount_in}
use Rattle.model_rules.specs.TermFor.{number_in, terms_for}

-- this fault is told where this is the first, unless memory is out
abbrev pub IsFirst : Option ExpandFault → ExpandFault → Type 0
IsFirst first end = end ≢ fault.Memory → first ≡ Some end

-- a cause at a place, if there is one
abbrev pub told_at : ℕ → Option Cause → Option ExpandFault
told_at place found = option_map (λ c. fault.At c place) found

-- the first of these faults
abbrev pub first_of : List (Option ExpandFault) → Option ExpandFault
first_of [] = None
first_of (x ∷ xs) = option_or x (first_of xs)

-- a form of the neighbour stands outside of an aggregate
abbrev pub outside_cause : Bool → Option Cause
outside_cause inside = if inside then None else Some cause.NeighbourOutside

-- the seed is not known yet, or no constant
abbrev pub constant_cause : Option ℕ → Option Cause
constant_cause None = Some cause.NotConstant
constant_cause (Some n) = None

abbrev pub seed_cause : Option KnownTree → Option Cause
seed_cause None = Some cause.Ring
seed_cause (Some known) = constant_cause (number_in known.term)

-- a draw: its seed is none, or 65,536 draws stand before it
abbrev pub node_cause : Frame → ℕ → Option Cause
node_cause frame at =
    option_or (seed_cause (let_for frame.lets seed_name)) (if nat_lt (draw_number frame.draws at) 65536 then None else Some cause.TooLong)

-- a draw at the node, or for a link, which stands in an aggregate
abbrev pub draw_cause : Source → Frame → Bool → ℕ → Option Cause
draw_cause source.Node frame inside at = node_cause frame at
draw_cause source.Link frame inside at = option_or (outside_cause inside) (node_cause frame at)

-- a number that is none from 1 to 65536
abbrev pub small_cause : ℕ → Option Cause
small_cause k = if k == 0 || nat_lt 65536 k then Some cause.OutOfRange else None

-- a number below which a draw is to be, where it is a constant: it is in range as one, and from 1 to 65536
abbrev pub below_cause : TermTree → Option Cause
below_cause t = if is_fixed t then option_or (part_cause t) (small_cause (amount_in t)) else None

abbrev pub bound_cause : List TermTree → Option Cause
bound_cause [] = None
bound_cause (t ∷ ts) = below_cause t

-- a decimal with more than nine digits after its point, or a chance above 1
abbrev pub chance_cause : Decimal → Option Cause
chance_cause p = if nat_lt 9 p.places || nat_lt (10 ^ p.places) p.numerator then Some cause.OutOfRange else None

-- a function with one argument, where the arguments have these faults
abbrev pub only_fault : ℕ → List (Option ExpandFault) → Option ExpandFault
only_fault at [] = Some (fault.At cause.WrongArguments at)
only_fault at (x ∷ []) = x
only_fault at (x ∷ y ∷ xs) = Some (fault.At cause.WrongArguments at)

-- with one argument or more
abbrev pub some_fault : ℕ → List (Option ExpandFault) → Option ExpandFault
some_fault at [] = Some (fault.At cause.WrongArguments at)
some_fault at (x ∷ xs) = option_or x (first_of xs)

-- with two arguments
abbrev pub two_fault : ℕ → List (Option ExpandFault) → Option ExpandFault
two_fault at [] = Some (fault.At cause.WrongArguments at)
two_fault at (x ∷ xs) = option_or x (only_fault at xs)

-- with one argument or none
abbrev pub few_fault : ℕ → List (Option ExpandFault) → Option ExpandFault
few_fault at [] = None
few_fault at (x ∷ xs) = only_fault at (x ∷ xs)

-- A function of the notation at a place of the text, by the terms of its arguments and by their faults where the call
-- stands and in an aggregate.
abbrev pub call_fault : CallKind → Frame → Bool → ℕ → List TermTree → List (Option ExpandFault) → List (Option ExpandFault) → Option ExpandFault
call_fault (kind.Gather agg) frame inside at terms here within = if inside then Some (fault.At cause.NestedAggregate at) else only_fault at within
call_fault (kind.Join o) frame inside at terms here within = some_fault at here
call_fault kind.Distance frame inside at terms here within = two_fault at here
call_fault (kind.Draw s) frame inside at terms here within =
    option_or (option_or (few_fault at here) (told_at at (bound_cause terms))) (told_at at (draw_cause s frame inside at))

-- The first fault of an expression, which stands inside of an aggregate or outside, where this is known, and these are the names
-- of all constants, states and lets.
abbrev mutual
  pub fault_in : Frame → List (List ℕ) → Bool → Tree → Option ExpandFault
  fault_in frame later inside (NumberTree n at) = None
  fault_in frame later inside (NothingTree at) = None
  fault_in frame later inside (NameTree name at) = told_at at (name_cause frame later name inside)
  fault_in frame later inside (IdTree at) = None
  fault_in frame later inside (DegreeTree at) = None
  fault_in frame later inside (RoundTree at) = None
  fault_in frame later inside (NearTree name at) = told_at at (near_cause frame later name inside)
  fault_in frame later inside (NearIdTree at) = told_at at (outside_cause inside)
  fault_in frame later inside (NearWeightTree at) = told_at at (outside_cause inside)
  fault_in frame later inside (InfixTree o at a b) = option_or (fault_in frame later inside a) (fault_in frame later inside b)
  fault_in frame later inside (NotTree at e) = fault_in frame later inside e
  fault_in frame later inside (ParensTree at e) = fault_in frame later inside e
  fault_in frame later inside (IfTree at a b c) =
      option_or (fault_in frame later inside a) (option_or (fault_in frame later inside b) (fault_in frame later inside c))
  fault_in frame later inside (CasesTree at arms) = arms_fault frame later inside arms
  fault_in frame later inside (CallTree f at es) =
      call_fault (kind_of f) frame inside at (terms_for frame es) (faults_in frame later inside es) (faults_in frame later true es)
  fault_in frame later inside (ApplyTree name at es) =
      option_or (first_of (faults_in frame later inside es))
      (told_at at (call_cause frame later name (length (terms_for frame es)) (inside || list_any looks (terms_for frame es))))
  fault_in frame later inside (ChanceTree at p) = told_at at (chance_cause p)
  fault_in frame later inside (ChanceOfTree at p) = told_at at (option_or (chance_cause p) (node_cause frame at))

  -- that of the arms of `cases`
  pub arms_fault : Frame → List (List ℕ) → Bool → ArmTree → Option ExpandFault
  arms_fault frame later inside (OneArm test value rest) =
      option_or (fault_in frame later inside test) (option_or (fault_in frame later inside value) (arms_fault frame later inside rest))
  arms_fault frame later inside (ElseArm value) = fault_in frame later inside value

  -- those of the arguments of a call, in order
  pub faults_in : Frame → List (List ℕ) → Bool → ArgumentTree → List (Option ExpandFault)
  faults_in frame later inside NoArgument = []
  faults_in frame later inside (OneArgument e es) = fault_in frame later inside e ∷ faults_in frame later inside es
