-- What lines say: the words that spell each. A line is its number, counted from 1, and its bytes.
use Rattle.std.specs.Prelude.{◌≡◌, ◌≢◌, ℕ, ◌<◌, ◌≤◌, List, [], ◌∷◌, codes, length, slice_get, Option, Some, None, Ok}
use Rattle.std.specs.Fmt.{decimal}
use Rattle.import_lines.specs.Parts.{shown}
use Rattle.link_net.specs.Neighbours.{Neighbours, IsNetwork, neighbour_at}
use Rattle.run_steps.specs.declared.script.action.Action.TheVariants.{ReadSlot, ReadAll, Move, Turn, Sweep}
use Rattle.run_steps.specs.declared.script.line.Line.{Line}
use Rattle.run_steps.specs.declared.script.line.Line.TheVariants.{Act, Repeat, End}
use Rattle.run_steps.specs.script.Words.{most_repeats, words_in}

-- the word calls node u of the network: by the decimal spelling of its number, or, where names are given, by its name alone, the first of the names that is this word
abbrev pub Calls : Neighbours → Option (List (List ℕ)) → List ℕ → ℕ → Type 0
Calls network None word u = (u < length network) × (word ≡ decimal u)
Calls network (Some names) word u = (u < length network) × (slice_get names u ≡ Some word) × ((i : ℕ) → i < u → slice_get names i ≢ Some word)

-- the words are those of `NODE reads NODE`: the third is not `all`, which stands for all neighbours even where a node is called so; nor are the first and the third those of a `repeat`
pub record AreOfRead (words : List (List ℕ)) (who whom : List ℕ) : Type 0 where
  pub are : words ≡ who ∷ codes "reads" ∷ whom ∷ []
  pub not_all : whom ≢ codes "all"
  pub no_repeat : who ≡ codes "repeat" → whom ≢ codes "{"

-- the words spell the line
abbrev pub IsSpelled : Neighbours → Option (List (List ℕ)) → List (List ℕ) → Line → Type 0
IsSpelled network names words (Act Sweep) = words ≡ codes "sweep" ∷ []
IsSpelled network names words (Act (Move u)) = (who : List ℕ) × (words ≡ who ∷ codes "moves" ∷ []) × Calls network names who u
IsSpelled network names words (Act (Turn u)) = (who : List ℕ) × (words ≡ who ∷ codes "turn" ∷ []) × Calls network names who u
IsSpelled network names words (Act (ReadAll u)) = (who : List ℕ) × (words ≡ who ∷ codes "reads" ∷ codes "all" ∷ []) × Calls network names who u
IsSpelled network names words (Act (ReadSlot u j)) =
    (who whom : List ℕ) × (v : ℕ) × AreOfRead words who whom × Calls network names who u × (neighbour_at network u j ≡ Some v) × Calls network names whom v
IsSpelled network names words (Repeat k) = (words ≡ codes "repeat" ∷ decimal k ∷ codes "{" ∷ []) × (1 ≤ k) × (k ≤ most_repeats)
IsSpelled network names words End = words ≡ codes "}" ∷ []

-- the line here says this: its bytes may be shown, and their words up to a comment spell it
pub record Said (network : Neighbours) (names : Option (List (List ℕ))) (here : ℕ × List ℕ) (line : Line) : Type 0 where
  pub may_be_shown : shown here.1 ≡ Ok here.1
  pub spelled : IsSpelled network names (words_in here.1) line

-- the same words spell one line at most
abbrev pub OneLineIsSpelled : Type 0
OneLineIsSpelled =
    (network : Neighbours) (names : Option (List (List ℕ))) (words : List (List ℕ)) (one other : Line) → IsNetwork network → IsSpelled network names words one → IsSpelled network names words other → one ≡ other
