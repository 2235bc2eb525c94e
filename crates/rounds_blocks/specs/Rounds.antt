-- A round over states that stand in columns.
use Rattle.std.specs.Prelude.{ℕ, ◌≡◌, ◌<◌, ◌≤◌, ◌+◌, ◌-◌, List, length, slice_index, All}
use Rattle.std.specs.Global.{Vec}
use Rattle.rule_check.specs.Value.{Rules}
use Rattle.link_net.specs.Neighbours.{Neighbours}
pub use Rattle.rounds_plan.specs.Rounds.{near_at, nears_in, round_from, IsPlain}
use Rattle.rounds_code.specs.Steps.{lane}
use Rattle.rounds_code.specs.Block.{column_words, state_at}

-- each column has a word for each of so many nodes
abbrev pub HaveWords : ℕ → List (Vec ℕ) → Type 0
HaveWords nodes columns = All (λ column. length column.items ≡ nodes) columns

-- the columns have the words of a node's state one round after the states of other columns
abbrev pub IsNext : Rules → Neighbours → ℕ → List (Vec ℕ) → List (Vec ℕ) → ℕ → Type 0
IsNext rules network round from columns u =
    (k : ℕ) → k < length columns → lane (column_words columns) u k ≡ slice_index (round_from rules network round (state_at from) u).words k

-- the column has this word for a node
abbrev pub HasWord : (ℕ → ℕ) → List ℕ → ℕ → Type 0
HasWord word column u = slice_index column u ≡ word u

-- the columns have these words for a node, field by field
abbrev pub HasWords : (ℕ → ℕ → ℕ) → List (Vec ℕ) → ℕ → Type 0
HasWords words columns u = (k : ℕ) → k < length columns → lane (column_words columns) u k ≡ words u k

-- the word of a node's first field one round after the states of columns
abbrev pub next_word : Rules → Neighbours → ℕ → List (Vec ℕ) → ℕ → ℕ
next_word rules network round from u = slice_index (round_from rules network round (state_at from) u).words 0

-- a part of a column, which begins with the node `low`, has this word for a node that is not before that one
abbrev pub HasWordFrom : ℕ → (ℕ → ℕ) → List ℕ → ℕ → Type 0
HasWordFrom low word part u = low ≤ u → slice_index part (u - low) ≡ word u

-- a part of a column, which begins with the node `low`, has this word for a node, if the node is in the part
abbrev pub HasWordInside : ℕ → (ℕ → ℕ) → List ℕ → ℕ → Type 0
HasWordInside low word part u = low ≤ u → u < low + length part → slice_index part (u - low) ≡ word u
