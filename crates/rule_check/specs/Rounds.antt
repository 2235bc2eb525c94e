-- Whether a program reads the number of the round.
use Rattle.std.specs.Prelude.{ℕ, ◌≡◌, Bool, true, false, ◌||◌, List}
use Rattle.std.specs.List.{list_any}
use Rattle.rule_lang.specs.Tree.{Tree, NumberTree, OwnTree, IdTree, DegreeTree, RoundTree, NearTree, NearIdTree, NearWeightTree, InfixTree, NotTree, OverTree, ChoiceTree}
use Rattle.rule_check.specs.declared.code.Instr.{Instr}
use Rattle.rule_check.specs.declared.code.Instr.TheVariants.{Push, OwnWord, NodeId, NodeDegree, NodeRound, NearWord, NearId, NearWeight, Apply, Negate, SumWord, Pick}
use Rattle.rule_check.specs.declared.state.State.{State}
use Rattle.rule_check.specs.declared.state.Near.{Near}
use Rattle.rule_check.specs.Value.{Rules, next_state}

-- `round` stands in the expression, in an aggregate or outside
abbrev pub names_round : Tree → Bool
names_round (NumberTree n) = false
names_round (OwnTree name) = false
names_round IdTree = false
names_round DegreeTree = false
names_round RoundTree = true
names_round (NearTree name) = false
names_round NearIdTree = false
names_round NearWeightTree = false
names_round (InfixTree op a b) = names_round a || names_round b
names_round (NotTree e) = names_round e
names_round (OverTree agg e) = names_round e
names_round (ChoiceTree a b c) = names_round a || (names_round b || names_round c)

-- `round` stands in the expression of a next item
abbrev pub reads_round : Rules → Bool
reads_round rules = list_any (λ n. names_round n.body) rules.nexts

-- Where a program does not read the number of the round, the steps from any two rounds lead to the same next state.
abbrev pub RoundPlaysNoPart : Type 0
RoundPlaysNoPart = (rules : Rules) (one other id : ℕ) (own : State) (nears : List Near) → reads_round rules ≡ false → next_state rules one id own nears ≡ next_state rules other id own nears

-- an instruction that reads the number of the round
abbrev pub is_round : Instr → Bool
is_round (Push n) = false
is_round (OwnWord k) = false
is_round NodeId = false
is_round NodeDegree = false
is_round NodeRound = true
is_round (NearWord k) = false
is_round NearId = false
is_round NearWeight = false
is_round (Apply op) = false
is_round Negate = false
is_round (SumWord k) = false
is_round Pick = false

-- code that reads it
abbrev pub code_reads_round : List Instr → Bool
code_reads_round code = list_any is_round code
