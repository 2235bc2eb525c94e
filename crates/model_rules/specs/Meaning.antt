-- What the expressions of a model are worth.
use Rattle.std.specs.Prelude.{ℕ, ◌+◌, ◌-◌, ◌*◌, ◌/◌, ◌^◌, ◌==◌, min, Bool, true, false, ◌&&◌, ◌||◌, List, [], ◌∷◌, map, if◌then◌else◌, slice_index}
use Rattle.rule_lang.specs.declared.tree.Op.{Op}
use Rattle.rule_lang.specs.declared.tree.Op.TheVariants as op
use Rattle.rule_lang.specs.declared.tree.Agg.TheVariants as agg
use Rattle.rule_check.specs.declared.state.Near.{Near}
use Rattle.rule_check.specs.Table.{M, truth, is_true, operate, gather}
use Rattle.rule_check.specs.Value.{Here, word, place}
use Rattle.rule_check.specs.WellFormed.{is_among}
use Rattle.model_text.specs.declared.tree.Operator.{Operator}
use Rattle.model_text.specs.declared.tree.Operator.TheVariants as operator
use Rattle.model_text.specs.declared.tree.Function.{Function}
use Rattle.model_text.specs.declared.tree.Function.TheVariants as function
use Rattle.model_text.specs.Tree.{Tree, NumberTree, NothingTree, NameTree, IdTree, DegreeTree, RoundTree, NearTree, NearIdTree, NearWeightTree, InfixTree, NotTree, ParensTree, IfTree, CasesTree, CallTree, ApplyTree, ChanceTree, ChanceOfTree, ArmTree, OneArm, ElseArm, ArgumentTree, NoArgument, OneArgument}
use Rattle.model_rules.specs.Draws.{drawn, drawn_on_link, scaled}

-- what each let is worth, and each constant and state, which have no parameters: at a node, by its name, for these values
-- of the parameters
abbrev pub Worths : Type 0
Worths = Here → List ℕ → List ℕ → ℕ

-- where an expression of a model is valued: the places of all draws in the text; the parameters of the let in which it
-- stands, and their values; what lets are worth, constants and states among them; and a node in the step from a round
pub record Scene : Type 0 where
  pub draws : List ℕ
  pub parameters : List (List ℕ)
  pub arguments : List ℕ
  pub worths : Worths
  pub here : Here

-- a neighbour in the place of the node: its number and its state, and no neighbours that are known
abbrev pub beside : Here → Near → Here
beside here near = record { names = here.names; round = here.round; id = near.id; degree = 0; own = near.state; nears = [] }

-- a name: a parameter, a field of the node, or a let
abbrev pub name_value : Scene → List ℕ → ℕ
name_value scene name =
    if is_among scene.parameters name then slice_index scene.arguments (place scene.parameters name) else
    (if is_among scene.here.names name then word scene.here.names scene.here.own name else scene.worths scene.here name [])

-- a name after `n.`: a field of the neighbour, or what a let is worth there
abbrev pub near_value : Scene → List ℕ → Near → ℕ
near_value scene name near =
    if is_among scene.here.names name then word scene.here.names near.state name else scene.worths (beside scene.here near) name []

-- the value of an infix form: `or` and `and` of what is 0 or not, the others as in the rule language
abbrev pub combine : Operator → ℕ → ℕ → ℕ
combine operator.Or a b = truth (is_true a || is_true b)
combine operator.And a b = truth (is_true a && is_true b)
combine operator.Equal a b = operate op.Equal a b
combine operator.Differ a b = operate op.Differ a b
combine operator.Less a b = operate op.Less a b
combine operator.LessEq a b = operate op.LessEq a b
combine operator.Greater a b = operate op.Greater a b
combine operator.GreaterEq a b = operate op.GreaterEq a b
combine operator.BitOr a b = operate op.BitOr a b
combine operator.BitXor a b = operate op.BitXor a b
combine operator.BitAnd a b = operate op.BitAnd a b
combine operator.Plus a b = operate op.Plus a b
combine operator.Minus a b = operate op.Minus a b
combine operator.Times a b = operate op.Times a b
combine operator.Quot a b = operate op.Quot a b
combine operator.Rem a b = operate op.Rem a b

-- values made one from the last to the first
abbrev pub joined : Op → List ℕ → ℕ
joined o [] = 0
joined o (x ∷ []) = x
joined o (x ∷ y ∷ xs) = operate o x (joined o (y ∷ xs))

-- the distance between two numbers
abbrev pub distance : ℕ → ℕ → ℕ
distance a b = (a - b) + (b - a)

-- the number nearest to 65,536 times the decimal, the greater of two
abbrev pub chance : ℕ → ℕ → ℕ
chance numerator places = (numerator * 131072 + 10 ^ places) / (2 * 10 ^ places)

-- the name of the constant that all draws hang on: `seed`
abbrev pub seed_name : List ℕ
seed_name = 115 ∷ 101 ∷ 101 ∷ 100 ∷ []

-- the seed: what the constant of that name is worth
abbrev pub seed_of : Scene → ℕ
seed_of scene = scene.worths scene.here seed_name []

-- a function that draws
abbrev pub is_draw : Function → Bool
is_draw function.Total = false
is_draw function.Sum = false
is_draw function.Least = false
is_draw function.Most = false
is_draw function.Count = false
is_draw function.Any = false
is_draw function.All = false
is_draw function.Min = false
is_draw function.Max = false
is_draw function.Difference = false
is_draw function.Random = true
is_draw function.LinkRandom = true

-- the number of a draw: how many stand before it among the draws of the text
abbrev pub draw_number : List ℕ → ℕ → ℕ
draw_number [] at = 0
draw_number (x ∷ xs) at = if x == at then 0 else draw_number xs at + 1

-- what is drawn at the node by the draw at this place of the text, from 0 to 65535
abbrev pub node_draw : Scene → ℕ → ℕ
node_draw scene at = drawn (seed_of scene) (draw_number scene.draws at) (min scene.here.round M) scene.here.id

-- what is drawn for the link to a neighbour
abbrev pub link_draw : Scene → ℕ → Near → ℕ
link_draw scene at near = drawn_on_link (seed_of scene) (draw_number scene.draws at) (min scene.here.round M) scene.here.id near.id

-- a draw as it is, or below what the argument is
abbrev pub bounded : ℕ → List ℕ → ℕ
bounded n [] = n
bounded n (k ∷ ks) = scaled n k

-- A function of the notation, at a place of the text, whose arguments have these values at each neighbour.
abbrev pub call_value : Function → Scene → ℕ → (Near → List ℕ) → Near → ℕ
call_value function.Total scene at values near = gather agg.Total (map (λ m. slice_index (values m) 0) scene.here.nears)
call_value function.Sum scene at values near = gather agg.Total (map (λ m. slice_index (values m) 0) scene.here.nears)
call_value function.Least scene at values near = gather agg.Least (map (λ m. slice_index (values m) 0) scene.here.nears)
call_value function.Most scene at values near = gather agg.Most (map (λ m. slice_index (values m) 0) scene.here.nears)
call_value function.Count scene at values near = gather agg.Count (map (λ m. slice_index (values m) 0) scene.here.nears)
call_value function.Any scene at values near = gather agg.Some1 (map (λ m. slice_index (values m) 0) scene.here.nears)
call_value function.All scene at values near = gather agg.Every (map (λ m. slice_index (values m) 0) scene.here.nears)
call_value function.Min scene at values near = joined op.Min (values near)
call_value function.Max scene at values near = joined op.Max (values near)
call_value function.Difference scene at values near = distance (slice_index (values near) 0) (slice_index (values near) 1)
call_value function.Random scene at values near = bounded (node_draw scene at) (values near)
call_value function.LinkRandom scene at values near = bounded (link_draw scene at near) (values near)

-- the value of an expression, at one neighbour where it stands in an aggregate
abbrev mutual
  pub meaning : Scene → Tree → Near → ℕ
  meaning scene (NumberTree n at) near = n
  meaning scene (NothingTree at) near = M
  meaning scene (NameTree name at) near = name_value scene name
  meaning scene (IdTree at) near = scene.here.id
  meaning scene (DegreeTree at) near = scene.here.degree
  meaning scene (RoundTree at) near = min scene.here.round M
  meaning scene (NearTree name at) near = near_value scene name near
  meaning scene (NearIdTree at) near = near.id
  meaning scene (NearWeightTree at) near = near.weight
  meaning scene (InfixTree o at a b) near = combine o (meaning scene a near) (meaning scene b near)
  meaning scene (NotTree at e) near = if meaning scene e near == 0 then 1 else 0
  meaning scene (ParensTree at e) near = meaning scene e near
  meaning scene (IfTree at a b c) near = if meaning scene a near == 0 then meaning scene c near else meaning scene b near
  meaning scene (CasesTree at arms) near = arms_meaning scene arms near
  meaning scene (CallTree f at es) near = call_value f scene at (λ m. meanings scene es m) near
  meaning scene (ApplyTree name at es) near = scene.worths scene.here name (meanings scene es near)
  meaning scene (ChanceTree at p) near = chance p.numerator p.places
  meaning scene (ChanceOfTree at p) near = operate op.Less (node_draw scene at) (chance p.numerator p.places)

  -- the value of the first arm whose test is not 0, else that after `else`
  pub arms_meaning : Scene → ArmTree → Near → ℕ
  arms_meaning scene (OneArm test value rest) near = if meaning scene test near == 0 then arms_meaning scene rest near else meaning scene value near
  arms_meaning scene (ElseArm value) near = meaning scene value near

  -- the values of the arguments of a call, in order
  pub meanings : Scene → ArgumentTree → Near → List ℕ
  meanings scene NoArgument near = []
  meanings scene (OneArgument e es) near = meaning scene e near ∷ meanings scene es near
