-- Which rounds are counted, and what is counted of each.
use Rattle.std.specs.Prelude.{◌≡◌, ◌↔◌, ◌==◌, ◌++◌, ℕ, Bool, false, not, List, [], ◌∷◌, All, Contains, length, map, Option, Some, None, if◌then◌else◌}
use Rattle.std.specs.List.{flat_map, list_all, list_any, range_with_len}
use Rattle.std.specs.List.Sorted.{IsStrictlyIncreasing}
use Rattle.rule_check.specs.declared.state.State.{State}
use Rattle.rounds_plan.specs.Configs.{Configuration}
use Rattle.rounds_plan.specs.Lockstep.{lockstep_config, lockstep_states}
use Rattle.rounds_plan.specs.Plans.{PlanView}
use Rattle.rounds_walk.specs.Counts.{AreCounts, has_value}
use Rattle.run_watch.specs.Spans.{SpanView, rounds_in}
use Rattle.run_counts.specs.declared.asked.Counting.{Counting}
use Rattle.run_counts.specs.declared.asked.Figure.{Figure}
use Rattle.run_counts.specs.declared.asked.Holders.{Holders}
use Rattle.run_counts.specs.declared.asked.Holders.TheVariants.{NoNode, EveryNode}
use Rattle.run_counts.specs.declared.asked.Until.{Until}
use Rattle.run_counts.specs.Figures.{figures_of}

-- a round, each value that occurs in it beside the number of nodes that have it, and its figures
pub record RowView : Type 0 where
  pub round : ℕ
  pub counts : List (ℕ × ℕ)
  pub figures : List (Figure × ℕ)

-- the value stands at no node, or at every node
abbrev pub is_held : Holders → ℕ → ℕ → List State → Bool
is_held NoNode field value states = not (list_any (has_value field value) states)
is_held EveryNode field value states = list_all (has_value field value) states

-- no round is counted after one with these states: the value stands where rounds end by it
abbrev pub is_over : Option Until → List State → Bool
is_over None states = false
is_over (Some until) states = is_held until.holders until.field until.value states

-- the rounds that are counted, of those that are asked for: up to the first after which none is
abbrev pub rounds_until : PlanView → Option Until → List ℕ → List ℕ
rounds_until p until [] = []
rounds_until p until (t ∷ rounds) = t ∷ (if is_over until (lockstep_states p t (length p.network)) then [] else rounds_until p until rounds)

-- the row is that of a configuration: of its round, with the number of nodes for each value of the counted field
pub record IsRowOf (counting : Counting) (c : Configuration) (row : RowView) : Type 0 where
  pub round : row.round ≡ c.rounds
  pub counts : AreCounts counting.field c.states row.counts
  pub figures : row.figures ≡ figures_of c.states counting.figures.now

-- the rows are those of the rounds that are counted, in order
pub record AreRows (p : PlanView) (span : SpanView) (counting : Counting) (rows : List RowView) : Type 0 where
  pub rounds : map (λ row. row.round) rows ≡ rounds_until p counting.until (rounds_in span)
  pub each : All (λ row. IsRowOf counting (lockstep_config p row.round) row) rows

-- the values that occur in a round
abbrev pub keys_of : RowView → List ℕ
keys_of row = map (λ c. c.0) row.counts

-- the numbers by rising number, each once
pub record AreOnce (numbers values : List ℕ) : Type 0 where
  pub rising : IsStrictlyIncreasing values
  pub each : (v : ℕ) → Contains values v ↔ Contains numbers v

-- the values are the states, of which there are so many, and those that occur in one of the rounds, by rising number
abbrev pub AreValues : ℕ → List RowView → List ℕ → Type 0
AreValues states rows values = AreOnce (range_with_len 0 states ++ flat_map keys_of rows) values

-- the number beside a value, and 0 where it has none
abbrev pub count_in : List (ℕ × ℕ) → ℕ → ℕ
count_in [] v = 0
count_in (c ∷ counts) v = if c.0 == v then c.1 else count_in counts v
