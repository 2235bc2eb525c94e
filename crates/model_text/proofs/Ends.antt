-- What stands after a part is an end of the tokens.
use Rattle.std.proofs.Common.{◌≡◌, ◌≤◌, ◌<◌, List, [], ◌∷◌, ◌++◌, Option, Some, None, refl, sym, ap, ◌∙◌, arith, append_assoc, length, length-append}
use Rattle.model_text.specs.declared.token.Sign.{Sign}
use Rattle.model_text.specs.Tokens.{Tok, Placed, placed}
use Rattle.model_text.specs.Tree.{Tree, NumberTree, NothingTree, NameTree, IdTree, DegreeTree, RoundTree, NearTree, NearIdTree, NearWeightTree, InfixTree, NotTree, ParensTree, IfTree, CasesTree, CallTree, ApplyTree, ChanceTree, ChanceOfTree, ArmTree, OneArm, ElseArm, ArgumentTree, NoArgument, OneArgument, NameAt, ItemTree, ConstTree, StatesTree, FieldTree, LetTree, NextTree}
use Rattle.model_text.specs.declared.tree.Decimal.{Decimal}
use Rattle.model_text.specs.Grammar.{Comes, Spells, SpellsArms, SpellsArguments, SpellsMore, SpellsChance, SpellsNames, SpellsList, SpellsBody, SpellsStates, SpellsParameters, SpellsItem}

-- these tokens end with those
pub record Ends (ts rest : List Placed) : Type 0 where
  pub front : List Placed
  pub cut : ts ≡ front ++ rest

all : (ts rest : List Placed) → ts ≡ rest → Ends ts rest
all ts rest e = record { front = []; cut = e }

one : (ts rest : List Placed) (t : Placed) → ts ≡ t ∷ rest → Ends ts rest
one ts rest t e = record { front = t ∷ []; cut = e }

comes : (ts rest : List Placed) (t : Tok) → Comes t ts rest → Ends ts rest
comes ts rest t c = one ts rest (placed t c.0) c.1

infixr 10 ◌then◌
◌then◌ : {a b c : List Placed} → Ends a b → Ends b c → Ends a c
◌then◌ {c = c} x y = record { front = x.front ++ y.front; cut = x.cut ∙ ap (λ l. x.front ++ l) y.cut ∙ sym (append_assoc x.front y.front c) }

chance_ends : (d : Decimal) (ts rest : List Placed) → SpellsChance d ts rest → Ends ts rest
chance_ends d ts rest s = comes ts s.0 _ s.3 then comes s.0 s.1 s.2 s.4 then comes s.1 rest _ s.6

mutual
  spelled_ends : (t : Tree) (ts rest : List Placed) → Spells t ts rest → Ends ts rest
  spelled_ends (InfixTree o at a b) ts rest s = spelled_ends a ts _ s.1 then one _ s.0 _ refl then spelled_ends b s.0 rest s.2
  spelled_ends (NumberTree n at) ts rest s = one ts rest _ s
  spelled_ends (NothingTree at) ts rest s = one ts rest _ s
  spelled_ends (NameTree w at) ts rest s = one ts rest _ s
  spelled_ends (IdTree at) ts rest s = one ts rest _ s
  spelled_ends (DegreeTree at) ts rest s = one ts rest _ s
  spelled_ends (RoundTree at) ts rest s = one ts rest _ s
  spelled_ends (NearTree w at) ts rest s = one ts rest _ s
  spelled_ends (NearIdTree at) ts rest s = one ts rest _ s
  spelled_ends (NearWeightTree at) ts rest s = one ts rest _ s
  spelled_ends (NotTree at a) ts rest s = one ts s.0 _ s.1 then spelled_ends a s.0 rest s.2
  spelled_ends (ParensTree at a) ts rest s = one ts s.0 _ s.2 then spelled_ends a s.0 s.1 s.3 then comes s.1 rest _ s.4
  spelled_ends (IfTree at a b c) ts rest s = one ts s.0 _ s.5 then spelled_ends a s.0 s.1 s.6 then comes s.1 s.2 _ s.7 then spelled_ends b s.2 s.3 s.8 then comes s.3 s.4 _ s.9 then spelled_ends c s.4 rest s.10
  spelled_ends (CasesTree at a) ts rest s = one ts s.0 _ s.2 then comes s.0 s.1 _ s.3 then arms_ends a s.1 rest s.4
  spelled_ends (CallTree f at a) ts rest s = one ts s.0 _ s.2 then comes s.0 s.1 _ s.3 then arguments_ends a s.1 rest s.4
  spelled_ends (ApplyTree w at a) ts rest s = one ts s.0 _ s.2 then comes s.0 s.1 _ s.3 then arguments_ends a s.1 rest s.4
  spelled_ends (ChanceTree at d) ts rest s = one ts s.0 _ s.1 then chance_ends d s.0 rest s.2
  spelled_ends (ChanceOfTree at d) ts rest s = one ts s.0 _ s.1 then chance_ends d s.0 rest s.2

  arms_ends : (a : ArmTree) (ts rest : List Placed) → SpellsArms a ts rest → Ends ts rest
  arms_ends (OneArm t v r) ts rest s = spelled_ends t ts s.0 s.4 then comes s.0 s.1 _ s.5 then spelled_ends v s.1 s.2 s.6 then comes s.2 s.3 _ s.7 then arms_ends r s.3 rest s.8
  arms_ends (ElseArm v) ts rest s = comes ts s.0 _ s.4 then comes s.0 s.1 _ s.5 then spelled_ends v s.1 s.2 s.6 then comes s.2 s.3 _ s.7 then comes s.3 rest _ s.8

  arguments_ends : (a : ArgumentTree) (ts rest : List Placed) → SpellsArguments a ts rest → Ends ts rest
  arguments_ends NoArgument ts rest s = comes ts rest _ s
  arguments_ends (OneArgument t r) ts rest s = spelled_ends t ts s.0 s.1 then more_ends r s.0 rest s.2

  more_ends : (a : ArgumentTree) (ts rest : List Placed) → SpellsMore a ts rest → Ends ts rest
  more_ends NoArgument ts rest s = comes ts rest _ s
  more_ends (OneArgument t r) ts rest s = comes ts s.0 _ s.2 then spelled_ends t s.0 s.1 s.3 then more_ends r s.1 rest s.4

names_end : (closing : Sign) (names : List NameAt) (ts rest : List Placed) → SpellsNames closing names ts rest → Ends ts rest
names_end closing [] ts rest s = comes ts rest _ s
names_end closing (n ∷ names) ts rest s = comes ts s.0 _ s.2 then one s.0 s.1 _ s.3 then names_end _ names s.1 rest s.4

list_ends : (opening closing : Sign) (names : List NameAt) (ts rest : List Placed) → SpellsList opening closing names ts rest → Ends ts rest
list_ends opening closing [] ts rest s = absurd s
list_ends opening closing (n ∷ names) ts rest s = comes ts s.0 _ s.2 then one s.0 s.1 _ s.3 then names_end _ names s.1 rest s.4

body_ends : (t : Tree) (ts rest : List Placed) → SpellsBody t ts rest → Ends ts rest
body_ends t ts rest s = comes ts s.0 _ s.2 then spelled_ends t s.0 s.1 s.3 then comes s.1 rest _ s.6

states_end : (o : Option NameAt) (ts rest : List Placed) → SpellsStates o ts rest → Ends ts rest
states_end None ts rest s = all ts rest s
states_end (Some n) ts rest s = comes ts s.0 _ s.1 then one s.0 rest _ s.2

parameters_end : (names : List NameAt) (ts rest : List Placed) → SpellsParameters names ts rest → Ends ts rest
parameters_end [] ts rest s = all ts rest s
parameters_end (n ∷ names) ts rest s = list_ends _ _ (n ∷ names) ts rest s

-- an item takes a token at least
pub record Shorter (ts rest : List Placed) : Type 0 where
  pub ends : Ends ts rest
  pub shorter : length rest < length ts

ends_length : (ts rest : List Placed) → Ends ts rest → length rest ≤ length ts
ends_length ts rest e = rw (e.cut, length-append) (omega arith)

shorter : (ts a rest : List Placed) (t : Tok) → Comes t ts a → Ends a rest → Shorter ts rest
shorter ts a rest t c e = record { ends = comes ts a t c then e; shorter = (let k = ends_length a rest e in let m : length ts ≡ length (placed t c.0 ∷ a) = ap length c.1 in omega arith) }

pub item_ends : (i : ItemTree) (ts rest : List Placed) → SpellsItem i ts rest → Shorter ts rest
item_ends (ConstTree n t) ts rest s = shorter ts s.0 rest _ s.2 (one s.0 s.1 _ s.3 then body_ends t s.1 rest s.4)
item_ends (NextTree n t) ts rest s = shorter ts s.0 rest _ s.2 (one s.0 s.1 _ s.3 then body_ends t s.1 rest s.4)
item_ends (StatesTree n l) ts rest s = shorter ts s.0 rest _ s.2 (one s.0 s.1 _ s.3 then list_ends _ _ l s.1 rest s.4)
item_ends (FieldTree n o t) ts rest s = shorter ts s.0 rest _ s.3 (one s.0 s.1 _ s.4 then states_end o s.1 s.2 s.5 then body_ends t s.2 rest s.6)
item_ends (LetTree n p t) ts rest s = shorter ts s.0 rest _ s.3 (one s.0 s.1 _ s.4 then parameters_end p s.1 s.2 s.5 then body_ends t s.2 rest s.6)
