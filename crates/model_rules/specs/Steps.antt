-- In which steps an expression is gone through. A form begins, its parts are gone through in the order of the text, and then it is looked
-- at: so the arguments of a call are looked at before what is made of them. This is told by the form of the text alone, whatever its
-- names stand for.
use Rattle.std.specs.Prelude.{Bool, true, List, [], ◌∷◌, ◌++◌, if◌then◌else◌}
use Rattle.model_text.specs.Tree.{Tree, NumberTree, NothingTree, NameTree, IdTree, DegreeTree, RoundTree, NearTree, NearIdTree, NearWeightTree, InfixTree, NotTree, ParensTree, IfTree, CasesTree, CallTree, ApplyTree, ChanceTree, ChanceOfTree, ArmTree, OneArm, ElseArm, ArgumentTree, NoArgument, OneArgument}
use Rattle.model_rules.specs.declared.operators.CallKind.{CallKind}
use Rattle.model_rules.specs.declared.operators.CallKind.TheVariants as kind
use Rattle.model_rules.specs.Operators.{kind_of}

-- one step: a form begins; or it is looked at, inside of an aggregate or outside
pub data Step : Type 0 where
  begins : Step
  looked : (inside : Bool) (part : Tree) → Step

-- a form whose parts are gone through in these steps
abbrev pub around : Bool → Tree → List Step → List Step
around inside part steps = begins ∷ (steps ++ looked inside part ∷ [])

-- all of these, in order
abbrev pub one_by_one : List (List Step) → List Step
one_by_one [] = []
one_by_one (x ∷ xs) = x ++ one_by_one xs

-- the only one, if there is just one
abbrev pub the_only : List (List Step) → List Step
the_only [] = []
the_only (x ∷ []) = x
the_only (x ∷ y ∷ xs) = []

-- both of two; of more the first, and of less what there is
abbrev pub the_two : List (List Step) → List Step
the_two [] = []
the_two (x ∷ []) = x
the_two (x ∷ y ∷ []) = x ++ y
the_two (x ∷ y ∷ z ∷ xs) = x

-- The arguments of a function that are gone through, by their steps where the call stands and in an aggregate: that of an aggregate,
-- where it has one and stands in no other; those of `min` and `max`; those of `difference`, but only the first where it has another
-- number than two; that of a draw, where it has one.
abbrev pub argument_steps : CallKind → Bool → List (List Step) → List (List Step) → List Step
argument_steps (kind.Gather agg) inside here within = if inside then [] else the_only within
argument_steps (kind.Join o) inside here within = one_by_one here
argument_steps kind.Distance inside here within = the_two here
argument_steps (kind.Draw s) inside here within = the_only here

-- the steps of the parts of a form, which stands inside of an aggregate or outside, in the order of the text
abbrev mutual
  pub part_steps : Bool → Tree → List Step
  part_steps inside (NumberTree n at) = []
  part_steps inside (NothingTree at) = []
  part_steps inside (NameTree name at) = []
  part_steps inside (IdTree at) = []
  part_steps inside (DegreeTree at) = []
  part_steps inside (RoundTree at) = []
  part_steps inside (NearTree name at) = []
  part_steps inside (NearIdTree at) = []
  part_steps inside (NearWeightTree at) = []
  part_steps inside (InfixTree o at a b) = around inside a (part_steps inside a) ++ around inside b (part_steps inside b)
  part_steps inside (NotTree at e) = around inside e (part_steps inside e)
  part_steps inside (ParensTree at e) = around inside e (part_steps inside e)
  part_steps inside (IfTree at a b c) =
      around inside a (part_steps inside a) ++ (around inside b (part_steps inside b) ++ around inside c (part_steps inside c))
  part_steps inside (CasesTree at arms) = arm_steps inside arms
  part_steps inside (CallTree f at es) = argument_steps (kind_of f) inside (each_steps inside es) (each_steps true es)
  part_steps inside (ApplyTree name at es) = one_by_one (each_steps inside es)
  part_steps inside (ChanceTree at p) = []
  part_steps inside (ChanceOfTree at p) = []

  -- those of the arms of `cases`
  pub arm_steps : Bool → ArmTree → List Step
  arm_steps inside (OneArm test value rest) =
      around inside test (part_steps inside test) ++ (around inside value (part_steps inside value) ++ arm_steps inside rest)
  arm_steps inside (ElseArm value) = around inside value (part_steps inside value)

  -- those of each argument
  pub each_steps : Bool → ArgumentTree → List (List Step)
  each_steps inside NoArgument = []
  each_steps inside (OneArgument e es) = around inside e (part_steps inside e) ∷ each_steps inside es

-- the steps of an expression
abbrev pub steps_of : Bool → Tree → List Step
steps_of inside tree = around inside tree (part_steps inside tree)
