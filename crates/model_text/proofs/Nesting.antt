-- Internal: how deep the parser goes into an expression, which is no deeper than the expression is.
use Rattle.std.proofs.Common.{ℕ, ◌+◌, ◌≤◌, max, arith}
use Rattle.model_text.specs.Tree.{Tree, NumberTree, NothingTree, NameTree, IdTree, DegreeTree, RoundTree, NearTree, NearIdTree, NearWeightTree, InfixTree, NotTree, ParensTree, IfTree, CasesTree, CallTree, ApplyTree, ChanceTree, ChanceOfTree, ArmTree, OneArm, ElseArm, ArgumentTree, NoArgument, OneArgument}
use Rattle.model_text.specs.Grammar.{depth, arms_depth, arguments_depth}

-- how many operators stand in the row that the expression's left parts make
abbrev pub row : Tree → ℕ
row (InfixTree operator at left right) = row left + 1
row _ = 0

-- as depth, but that the left part of an operator counts as the whole does, and a row of operators as one more than it has
abbrev mutual
  pub nesting : Tree → ℕ
  nesting (InfixTree operator at left right) = max (row left + 2) (max (nesting left) (nesting right + 1))
  nesting (NotTree at part) = nesting part + 1
  nesting (ParensTree at part) = nesting part + 1
  nesting (IfTree at test first second) = max (nesting test) (max (nesting first) (nesting second)) + 1
  nesting (CasesTree at arms) = arms_nesting arms + 1
  nesting (CallTree function at arguments) = arguments_nesting arguments + 1
  nesting (ApplyTree name at arguments) = arguments_nesting arguments + 1
  nesting _ = 1

  pub arms_nesting : ArmTree → ℕ
  arms_nesting (OneArm test value rest) = max (nesting test) (max (nesting value) (arms_nesting rest)) + 1
  arms_nesting (ElseArm value) = nesting value + 1

  pub arguments_nesting : ArgumentTree → ℕ
  arguments_nesting NoArgument = 1
  arguments_nesting (OneArgument first rest) = max (nesting first) (arguments_nesting rest) + 1

-- a row is shorter than its expression is deep
row_shallow : (t : Tree) → row t + 1 ≤ depth t
row_shallow (InfixTree o at a b) = let k = row_shallow a in omega arith
row_shallow (NumberTree n at) = omega arith
row_shallow (NothingTree at) = omega arith
row_shallow (NameTree w at) = omega arith
row_shallow (IdTree at) = omega arith
row_shallow (DegreeTree at) = omega arith
row_shallow (RoundTree at) = omega arith
row_shallow (NearTree w at) = omega arith
row_shallow (NearIdTree at) = omega arith
row_shallow (NearWeightTree at) = omega arith
row_shallow (NotTree at a) = omega arith
row_shallow (ParensTree at a) = omega arith
row_shallow (IfTree at a b c) = omega arith
row_shallow (CasesTree at a) = omega arith
row_shallow (CallTree f at a) = omega arith
row_shallow (ApplyTree w at a) = omega arith
row_shallow (ChanceTree at d) = omega arith
row_shallow (ChanceOfTree at d) = omega arith

mutual
  pub nesting_shallow : (t : Tree) → nesting t ≤ depth t
  nesting_shallow (InfixTree o at a b) = let r = row_shallow a in let k = nesting_shallow a in let m = nesting_shallow b in omega arith
  nesting_shallow (NumberTree n at) = omega arith
  nesting_shallow (NothingTree at) = omega arith
  nesting_shallow (NameTree w at) = omega arith
  nesting_shallow (IdTree at) = omega arith
  nesting_shallow (DegreeTree at) = omega arith
  nesting_shallow (RoundTree at) = omega arith
  nesting_shallow (NearTree w at) = omega arith
  nesting_shallow (NearIdTree at) = omega arith
  nesting_shallow (NearWeightTree at) = omega arith
  nesting_shallow (NotTree at a) = let k = nesting_shallow a in omega arith
  nesting_shallow (ParensTree at a) = let k = nesting_shallow a in omega arith
  nesting_shallow (IfTree at a b c) = let k = nesting_shallow a in let m = nesting_shallow b in let n = nesting_shallow c in omega arith
  nesting_shallow (CasesTree at a) = let k = arms_shallow a in omega arith
  nesting_shallow (CallTree f at a) = let k = arguments_shallow a in omega arith
  nesting_shallow (ApplyTree w at a) = let k = arguments_shallow a in omega arith
  nesting_shallow (ChanceTree at d) = omega arith
  nesting_shallow (ChanceOfTree at d) = omega arith

  arms_shallow : (a : ArmTree) → arms_nesting a ≤ arms_depth a
  arms_shallow (OneArm t v r) = let k = nesting_shallow t in let m = nesting_shallow v in let n = arms_shallow r in omega arith
  arms_shallow (ElseArm v) = let k = nesting_shallow v in omega arith

  arguments_shallow : (a : ArgumentTree) → arguments_nesting a ≤ arguments_depth a
  arguments_shallow NoArgument = omega arith
  arguments_shallow (OneArgument t r) = let k = nesting_shallow t in let m = arguments_shallow r in omega arith
