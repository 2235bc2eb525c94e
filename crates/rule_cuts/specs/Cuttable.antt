-- The products and totals of a program that can be cut, and where they stand in its text.
use Rattle.std.specs.Prelude.{ℕ, ◌≡◌, ◌⊎◌, List, length, map, zip, All, Contains}
use Rattle.std.specs.List.{filter}
use Rattle.rule_lang.specs.Tree.{ItemTree}
use Rattle.rule_cuts.specs.declared.limits.Limits.{Limits}
use Rattle.rule_cuts.specs.declared.operations.Operation.{Operation}
use Rattle.rule_cuts.specs.declared.cuttable.Cuttable.{Cuttable}
use Rattle.rule_cuts.specs.Operations.{HasRanges, IsNeverCut, can_pass, operation_of, operations_of}
use Rattle.rule_cuts.specs.Places.{AreOperationPlaces}

-- what is noted, as an operation and its place
abbrev pub placed_of : Cuttable → Operation × ℕ
placed_of c = (c.operation, c.at)

-- the places of what is noted
abbrev pub noted_places : List Cuttable → List ℕ
noted_places noted = map (λ c. c.at) noted

-- These are noted of a program with these items and this text.
pub record AreCuttable (limits : Limits) (text : List ℕ) (items : List ItemTree) (noted : List Cuttable) : Type 0 where
  -- the program's operations in the order of its text, each with the ranges of its operands
  pub all : List Operation
  pub program : map operation_of all ≡ operations_of items
  pub ranges : All (HasRanges limits) all
  -- the places of their tokens, one for each
  pub at : List ℕ
  pub places : AreOperationPlaces text at
  pub one_each : length at ≡ length all
  -- those that can pass the greatest value are noted, each with its place, in order, and no others
  pub passing : map placed_of noted ≡ filter (λ p. can_pass limits p.0) (zip all at)
  -- one whose place is not noted is never cut
  pub never : All (λ p. Contains (noted_places noted) p.1 ⊎ IsNeverCut limits (operation_of p.0)) (zip all at)
