-- The tree of a model without where it lies in memory.
use Rattle.std.specs.Prelude.{ℕ, List, Option}
use Rattle.model_text.specs.declared.tree.Operator.{Operator}
use Rattle.model_text.specs.declared.tree.Function.{Function}
use Rattle.model_text.specs.declared.tree.Decimal.{Decimal}

-- An expression, the arms of `cases` and the arguments of a call. A place `at` is that of the first token, and of an
-- infix that of its operator, in bytes of the text from 0.
mutual
  pub data Tree : Type 0 where
    NumberTree : (value at : ℕ) → Tree
    NothingTree : (at : ℕ) → Tree
    NameTree : (name : List ℕ) (at : ℕ) → Tree
    IdTree : (at : ℕ) → Tree
    DegreeTree : (at : ℕ) → Tree
    RoundTree : (at : ℕ) → Tree
    NearTree : (name : List ℕ) (at : ℕ) → Tree
    NearIdTree : (at : ℕ) → Tree
    NearWeightTree : (at : ℕ) → Tree
    InfixTree : (operator : Operator) (at : ℕ) (left right : Tree) → Tree
    NotTree : (at : ℕ) (part : Tree) → Tree
    ParensTree : (at : ℕ) (part : Tree) → Tree
    IfTree : (at : ℕ) (test first second : Tree) → Tree
    CasesTree : (at : ℕ) (arms : ArmTree) → Tree
    CallTree : (function : Function) (at : ℕ) (arguments : ArgumentTree) → Tree
    ApplyTree : (name : List ℕ) (at : ℕ) (arguments : ArgumentTree) → Tree
    ChanceTree : (at : ℕ) (decimal : Decimal) → Tree
    ChanceOfTree : (at : ℕ) (decimal : Decimal) → Tree

  pub data ArmTree : Type 0 where
    OneArm : (test value : Tree) (rest : ArmTree) → ArmTree
    ElseArm : (value : Tree) → ArmTree

  pub data ArgumentTree : Type 0 where
    NoArgument : ArgumentTree
    OneArgument : (first : Tree) (rest : ArgumentTree) → ArgumentTree

-- a name with its place
pub record NameAt : Type 0 where
  pub name : List ℕ
  pub at : ℕ

-- an item
pub data ItemTree : Type 0 where
  ConstTree : (name : NameAt) (value : Tree) → ItemTree
  StatesTree : (name : NameAt) (members : List NameAt) → ItemTree
  FieldTree : (name : NameAt) (states : Option NameAt) (initial : Tree) → ItemTree
  LetTree : (name : NameAt) (parameters : List NameAt) (body : Tree) → ItemTree
  NextTree : (name : NameAt) (body : Tree) → ItemTree
