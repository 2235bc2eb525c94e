-- How far the lines of nodes in a text go.
use Rattle.std.specs.Prelude.{◌≡◌, ◌≢◌, ◌≤◌, ◌<◌, ℕ, ◌+◌, List, [], ◌++◌, length, All}
use Rattle.rule_check.specs.declared.state.State.{State}
use Rattle.report_text.specs.declared.fault.ReportFault.{ReportFault}
use Rattle.report_text.specs.declared.fault.ReportFault.TheVariants.{BadLine, TooManyRounds, Memory}
use Rattle.report_text.specs.Report.{node_line, node_lines}
use Rattle.report_text.specs.ReadReport.{IsStateOf}

-- the text has the lines of some nodes from node 0 on, and then no line of the next one, or something after the last one; the number is that of this line, the round's line counted
pub record StopsAtLine (names : List (List ℕ)) (fields nodes : ℕ) (text : List ℕ) (number : ℕ) : Type 0 where
  pub good : List State
  pub rest : List ℕ
  pub cut : text ≡ node_lines names 0 good ++ rest
  pub fit : All (IsStateOf fields) good
  pub few : length good ≤ nodes
  pub place : number ≡ length good + 2
  pub missing : length good < nodes → (state : State) (behind : List ℕ) → IsStateOf fields state → rest ≢ node_line names (length good) state ++ behind
  pub too_many : length good ≡ nodes → rest ≢ []

-- the text is the lines of these states, one for each node
pub record HasNodeLines (names : List (List ℕ)) (fields nodes : ℕ) (bytes : List ℕ) (states : List State) : Type 0 where
  pub text : bytes ≡ node_lines names 0 states
  pub count : length states ≡ nodes
  pub fit : All (IsStateOf fields) states

-- why a text is refused as the lines of the nodes
abbrev pub IsStopped : List (List ℕ) → ℕ → ℕ → List ℕ → ReportFault → Type 0
IsStopped names fields nodes text (BadLine line) = StopsAtLine names fields nodes text line
IsStopped names fields nodes text TooManyRounds = ⊥
IsStopped names fields nodes text Memory = Unit {0}
