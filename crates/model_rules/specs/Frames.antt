-- What is known where an expression of a model is expanded, and what its term has to be worth.
use Rattle.std.specs.Prelude.{ℕ, ◌≡◌, Bool, List, [], map, slice_index}
use Rattle.std.specs.List.{AllByRecursion}
use Rattle.rule_check.specs.declared.state.Near.{Near}
use Rattle.rule_check.specs.Value.{Here, alone}
use Rattle.model_text.specs.Tree.{Tree, ArmTree, ArgumentTree}
use Rattle.model_rules.specs.declared.operators.Source.{Source}
use Rattle.model_rules.specs.declared.operators.Source.TheVariants as source
use Rattle.model_rules.specs.Terms.{TermTree, term_value}
use Rattle.rule_lang.specs.declared.tree.Op.{Op}
use Rattle.model_rules.specs.Meaning.{Worths, Scene, meaning, arms_meaning, meanings, joined, distance, beside, node_draw, link_draw, bounded}

-- a let, a constant or a state whose term is known: its name, whether it is a let, how many parameters it has, and its term
pub record KnownTree : Type 0 where
  pub name : List ℕ
  pub is_let : Bool
  pub count : ℕ
  pub term : TermTree

-- what is known: the places of the draws, the fields, the lets so far, and the parameters of this let
pub record Frame : Type 0 where
  pub draws : List ℕ
  pub fields : List (List ℕ)
  pub lets : List KnownTree
  pub parameters : List (List ℕ)

-- a let is worth what its term is, at every node of a program with these fields
abbrev pub IsWorth : Worths → List (List ℕ) → KnownTree → Type 0
IsWorth worths fields known =
    (here : Here) (arguments : List ℕ) → here.names ≡ fields
    → worths here known.name arguments ≡ term_value here arguments known.term (alone here.id here.own)

-- a scene of which this is known
pub record IsIn (frame : Frame) (scene : Scene) : Type 0 where
  pub draws : scene.draws ≡ frame.draws
  pub parameters : scene.parameters ≡ frame.parameters
  pub fields : scene.here.names ≡ frame.fields
  pub lets : AllByRecursion (IsWorth scene.worths frame.fields) frame.lets

-- the term is worth what the expression is, in every such scene
pub record Means (frame : Frame) (tree : Tree) (term : TermTree) : Type 0 where
  pub same : (scene : Scene) (near : Near) → IsIn frame scene → meaning scene tree near ≡ term_value scene.here scene.arguments term near

-- and the arms of `cases`
pub record MeansArms (frame : Frame) (arms : ArmTree) (term : TermTree) : Type 0 where
  pub same : (scene : Scene) (near : Near) → IsIn frame scene → arms_meaning scene arms near ≡ term_value scene.here scene.arguments term near

-- and the arguments of a call, each by its own term
pub record MeansEach (frame : Frame) (arguments : ArgumentTree) (terms : List TermTree) : Type 0 where
  pub same : (scene : Scene) (near : Near) → IsIn frame scene → meanings scene arguments near ≡ map (λ t. term_value scene.here scene.arguments t near) terms

-- and the first of the arguments, which is the only one
pub record MeansFirst (frame : Frame) (arguments : ArgumentTree) (term : TermTree) : Type 0 where
  pub same : (scene : Scene) (near : Near) → IsIn frame scene → slice_index (meanings scene arguments near) 0 ≡ term_value scene.here scene.arguments term near

-- and all arguments with an operator between them
pub record MeansJoined (frame : Frame) (op : Op) (arguments : ArgumentTree) (term : TermTree) : Type 0 where
  pub same : (scene : Scene) (near : Near) → IsIn frame scene → joined op (meanings scene arguments near) ≡ term_value scene.here scene.arguments term near

-- and the distance between the first two arguments
pub record MeansDistance (frame : Frame) (arguments : ArgumentTree) (term : TermTree) : Type 0 where
  pub same : (scene : Scene) (near : Near) → IsIn frame scene
      → distance (slice_index (meanings scene arguments near) 0) (slice_index (meanings scene arguments near) 1) ≡ term_value scene.here scene.arguments term near

-- what is drawn, at the node or for the link to the neighbour, by the draw at a place of the text
abbrev pub draw_value : Source → Scene → ℕ → Near → ℕ
draw_value source.Node scene at near = node_draw scene at
draw_value source.Link scene at near = link_draw scene at near

-- the term is worth what is drawn
pub record MeansDrawn (frame : Frame) (s : Source) (at : ℕ) (term : TermTree) : Type 0 where
  pub same : (scene : Scene) (near : Near) → IsIn frame scene → draw_value s scene at near ≡ term_value scene.here scene.arguments term near

-- and what is drawn below the argument
pub record MeansBelow (frame : Frame) (s : Source) (at : ℕ) (arguments : ArgumentTree) (term : TermTree) : Type 0 where
  pub same : (scene : Scene) (near : Near) → IsIn frame scene
      → bounded (draw_value s scene at near) (meanings scene arguments near) ≡ term_value scene.here scene.arguments term near

-- a term with these arguments, whose values are those at the place where the result stands
pub record IsFilled (term : TermTree) (terms : List TermTree) (result : TermTree) : Type 0 where
  pub same : (here : Here) (arguments : List ℕ) (near other : Near)
      → term_value here arguments result near ≡ term_value here (map (λ t. term_value here arguments t near) terms) term other

-- a term as it is at the neighbour
pub record IsMoved (term result : TermTree) : Type 0 where
  pub same : (here : Here) (arguments : List ℕ) (near : Near)
      → term_value here arguments result near ≡ term_value (beside here near) [] term (alone near.id near.state)

-- a term that is always worth this number
pub record IsAmount (term : TermTree) (value : ℕ) : Type 0 where
  pub same : (here : Here) (arguments : List ℕ) (near : Near) → term_value here arguments term near ≡ value
