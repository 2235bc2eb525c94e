-- Internal: how nodes, their moves and the first difference are kept. No public clause cites it.
use Rattle.std.specs.Prelude.{◌≡◌, ℕ, ◌+◌, ◌<◌, ◌≤◌, ◌⊎◌, List, [], ◌∷◌, ◌++◌, length, set, slice_get, slice_index_or, nat_lt, nat_le, Bool, true, false, if◌then◌else◌, Option, Some, None, MatchOption, codes}
use Rattle.std.specs.Fmt.{decimal}
use Rattle.rule_check.specs.declared.state.State.{State}
use Rattle.rule_check.specs.declared.state.Near.{Near}
use Rattle.rule_check.specs.Value.{Rules}
use Rattle.link_net.specs.Neighbours.{degree}
use Rattle.rounds_plan.specs.Configs.{blank}
use Rattle.rounds_plan.specs.Lockstep.{lockstep, state_in}
use Rattle.rounds_plan.specs.Plans.{PlanView}
use Rattle.unison_world.specs.declared.step.Step.{Step}
use Rattle.unison_world.specs.declared.step.Step.TheVariants.{Read, Write}
use Rattle.run_naive.specs.declared.node.Node.{Node}
use Rattle.run_naive.specs.declared.node.Move.{Move}
use Rattle.run_naive.specs.declared.difference.Difference.{Difference}
use Rattle.run_naive.specs.Naive.{NaiveNode, moved, node_in}
use Rattle.run_naive.specs.Differences.{Moment, is_same}
use Rattle.run_naive.specs.Telling.{standing}

-- a node without its moves and where its desk lies in memory
abbrev pub shown : Node → NaiveNode
shown n = record { moves = n.moves; state = n.state; desk = n.desk.items }

-- neighbours with the weights of the links to them, and their states
abbrev pub nears_from : (ℕ → State) → List ℕ → List ℕ → List Near
nears_from at [] weights = []
nears_from at (v ∷ vs) [] = []
nears_from at (v ∷ vs) (w ∷ ws) = record { id = v; weight = w; state = at v } ∷ nears_from at vs ws

-- the moves of a node
abbrev pub past_of : Node → List Move
past_of n = n.past.items

-- the moves of the node of a number
abbrev pub past_in : List (List Move) → ℕ → List Move
past_in pasts u = slice_index_or pasts u []

-- no move
abbrev pub no_move : Move
no_move = record { step = 0; state = blank }

-- the move of node u in the step of this number
abbrev pub made_by : Rules → ℕ → ℕ → NaiveNode → Move
made_by rules u number n = record { step = number; state = (moved rules u n).state }

-- all moves after a write of node u
abbrev pub pasts_after_write : Rules → ℕ → ℕ → ℕ → Option NaiveNode → List (List Move) → List (List Move)
pasts_after_write rules stop number u None pasts = pasts
pasts_after_write rules stop number u (Some n) pasts = if nat_lt n.moves stop then set pasts u (past_in pasts u ++ made_by rules u number n ∷ []) else pasts

-- all moves after a step of this number
abbrev pub pasts_after : PlanView → ℕ → List NaiveNode → ℕ → Step → List (List Move) → List (List Move)
pasts_after p stop nodes number (Read u j) pasts = pasts
pasts_after p stop nodes number (Write u) pasts = pasts_after_write p.program stop number u (slice_get nodes u) pasts

-- one node for each of the plan, its count from the start to the stop, and a copy for each of its slots
pub record IsNaive (p : PlanView) (stop : ℕ) (nodes : List NaiveNode) : Type 0 where
  pub one_each : length nodes ≡ length p.network
  pub started : (u : ℕ) → u < length p.network → p.start ≤ (node_in nodes u).moves
  pub within : (u : ℕ) → u < length p.network → (node_in nodes u).moves ≤ stop
  pub slots : (u : ℕ) → u < length p.network → length (node_in nodes u).desk ≡ degree p.network u

-- the move at place i of node u was made by one of the first k steps: after it the node had this count and this state
pub record IsMade (p : PlanView) (at : ℕ → List NaiveNode) (k u i : ℕ) (m : Move) : Type 0 where
  pub early : m.step ≤ k
  pub moves : (node_in (at m.step) u).moves ≡ p.start + (i + 1)
  pub state : (node_in (at m.step) u).state ≡ m.state

-- the state of node u is that of a move of it made by one of the first j steps
pub record IsReached (p : PlanView) (pasts : List (List Move)) (j u : ℕ) (n : NaiveNode) : Type 0 where
  pub place : ℕ
  pub there : place < length (past_in pasts u)
  pub moves : n.moves ≡ p.start + (place + 1)
  pub state : n.state ≡ (slice_index_or (past_in pasts u) place no_move).state
  pub early : (slice_index_or (past_in pasts u) place no_move).step ≤ j

-- or the node has not moved yet
abbrev pub HasCome : PlanView → List (List Move) → ℕ → ℕ → NaiveNode → Type 0
HasCome p pasts j u n = ((n.moves ≡ p.start) × (n.state ≡ state_in p.opening u)) ⊎ IsReached p pasts j u n

-- what is kept of the first k steps, where `at` gives the nodes after so many: all moves, each with its step
pub record IsKept (p : PlanView) (at : ℕ → List NaiveNode) (k : ℕ) (pasts : List (List Move)) : Type 0 where
  pub one_each : length pasts ≡ length p.network
  pub count : (u : ℕ) → u < length p.network → (node_in (at k) u).moves ≡ p.start + length (past_in pasts u)
  pub made : (u i : ℕ) → u < length p.network → i < length (past_in pasts u) → IsMade p at k u i (slice_index_or (past_in pasts u) i no_move)
  pub come : (j u : ℕ) → j ≤ k → u < length p.network → HasCome p pasts j u (node_in (at j) u)

-- the difference is about the move at place i of its node
pub record IsAbout (p : PlanView) (pasts : List (List Move)) (i : ℕ) (d : Difference) : Type 0 where
  pub node : d.node < length p.network
  pub there : i < length (past_in pasts d.node)
  pub moves : d.moves ≡ p.start + (i + 1)
  pub is : slice_index_or (past_in pasts d.node) i no_move ≡ record { step = d.step; state = d.state }
  pub lockstep : d.lockstep ≡ lockstep p d.moves d.node

-- whether the move at place i of node u led to the node's lockstep state
abbrev pub agrees : PlanView → List (List Move) → ℕ → ℕ → Bool
agrees p pasts u i = is_same (slice_index_or (past_in pasts u) i no_move).state (lockstep p (p.start + (i + 1)) u)

-- the difference of the first step, among the moves for which Seen holds
pub record IsLeast (p : PlanView) (pasts : List (List Move)) (Seen : ℕ → ℕ → Type 0) (d : Difference) : Type 0 where
  pub place : ℕ
  pub about : IsAbout p pasts place d
  pub differs : is_same d.state d.lockstep ≡ false
  pub least : (u i : ℕ) → Seen u i → u < length p.network → i < length (past_in pasts u) → agrees p pasts u i ≡ false → d.step ≤ (slice_index_or (past_in pasts u) i no_move).step

-- that one, or that each of these moves led to the lockstep state
abbrev pub AreCompared : PlanView → List (List Move) → (ℕ → ℕ → Type 0) → Option Difference → Type 0
AreCompared p pasts Seen first =
    MatchOption first ((u i : ℕ) → Seen u i → u < length p.network → i < length (past_in pasts u) → agrees p pasts u i ≡ true) (IsLeast p pasts Seen)

-- the moves at the first places
abbrev pub Before : ℕ → ℕ → ℕ → Type 0
Before index u i = i < index

-- those, and the moves at one place more of the first nodes
abbrev pub BeforeNode : ℕ → ℕ → ℕ → ℕ → Type 0
BeforeNode index node u i = (i < index) ⊎ ((i ≡ index) × (u < node))

-- the difference of the earlier step
abbrev pub earlier : Option Difference → Difference → Difference
earlier None found = found
earlier (Some known) found = if nat_le known.step found.step then known else found

-- the first difference, where one is known and there is a move more
abbrev pub with_move : Option Difference → Difference → Option Difference
with_move first found = if is_same found.state found.lockstep then first else Some (earlier first found)

-- the same, where there may be a move more
abbrev pub with_found : Option Difference → Option Difference → Option Difference
with_found first None = first
with_found first (Some found) = with_move first found

-- the difference of a move of node u, beside this lockstep state
abbrev pub difference_at : ℕ → ℕ → State → Move → Difference
difference_at u moves lockstep m = record { step = m.step; node = u; moves = moves; state = m.state; lockstep = lockstep }

-- the lockstep states of nodes with so many moves at most are known
abbrev pub AreKnown : PlanView → List NaiveNode → ℕ → List State → Type 0
AreKnown p nodes moves states = (u : ℕ) → u < length p.network → (node_in nodes u).moves ≤ moves → state_in states u ≡ lockstep p (node_in nodes u).moves u

-- and those of all nodes, in a list with one for each
pub record AreAllKnown (p : PlanView) (nodes : List NaiveNode) (states : List State) : Type 0 where
  pub one_each : length states ≡ length p.network
  pub known : (u : ℕ) → u < length p.network → state_in states u ≡ lockstep p (node_in nodes u).moves u

-- all moves of the nodes are compared, up to the count of each
abbrev pub AreAllCompared : PlanView → List NaiveNode → List (List Move) → Option Difference → Type 0
AreAllCompared p nodes pasts first = AreCompared p pasts (λ u i. p.start + (i + 1) ≤ (node_in nodes u).moves) first

-- the step and the node of a difference
abbrev pub moment_of : Difference → Moment
moment_of d = record { step = d.step; node = d.node }

-- the line of a difference
abbrev pub difference_line : List (List ℕ) → Option Difference → List ℕ
difference_line names None = codes "no difference after any step\n"
difference_line names (Some d) =
    codes "first difference after step " ++ (decimal d.step ++ (codes ": node " ++ (standing names d.node d.moves d.state d.lockstep ++ 10 ∷ [])))
