-- How lines are read, function by function: the clauses of private functions speak of this. What lines say stands in Spelled, and why they say nothing in Unsaid.
use Rattle.std.specs.Prelude.{ℕ, ◌&&◌, List, [], ◌∷◌, codes, Option, Result, Ok, Err, if◌then◌else◌}
use Rattle.std.specs.Str.{bytes_eq}
use Rattle.import_lines.specs.Parts.{shown}
use Rattle.import_lines.specs.declared.words_fault.WordsFault.{WordsFault}
use Rattle.import_lines.specs.declared.words_fault.WordsFault.TheVariants as words
use Rattle.link_net.specs.Neighbours.{Neighbours}
use Rattle.run_steps.specs.declared.script.action.Action.{Action}
use Rattle.run_steps.specs.declared.script.action.Action.TheVariants.{ReadSlot, ReadAll, Move, Turn, Sweep}
use Rattle.run_steps.specs.declared.script.line.Line.{Line}
use Rattle.run_steps.specs.declared.script.line.Line.TheVariants.{Act, Repeat, End}
use Rattle.run_steps.specs.declared.script.fault.StepTextFault.{StepTextFault}
use Rattle.run_steps.specs.declared.script.fault.StepTextFault.TheVariants.{NotUtf8, ControlCharacter, LongLine, NoSuchLine}
use Rattle.run_steps.specs.script.Words.{words_in, node_at, slot_at, count_at}

-- the next step, at the value of a step that succeeds
abbrev pub and_then : {A B : Type 0} → Result A StepTextFault → (A → Result B StepTextFault) → Result B StepTextFault
and_then (Ok x) next = next x
and_then (Err fault) next = Err fault

-- a line that says an action
abbrev pub as_line : Result Action StepTextFault → Result Line StepTextFault
as_line (Ok action) = Ok (Act action)
as_line (Err fault) = Err fault

-- why a line may not be shown
abbrev pub fault_at : ℕ → WordsFault → StepTextFault
fault_at line words.NotUtf8 = NotUtf8 line
fault_at line words.ControlCharacter = ControlCharacter line
fault_at line words.LongLine = LongLine line
fault_at line words.OneWord = NoSuchLine line
fault_at line words.TooManyWords = NoSuchLine line

-- the text of a line, where it may be shown
abbrev pub text_at : ℕ → Result (List ℕ) WordsFault → Result (List ℕ) StepTextFault
text_at line (Ok text) = Ok text
text_at line (Err fault) = Err (fault_at line fault)

-- `sweep` or `}`
abbrev pub one_word : ℕ → List ℕ → Result Line StepTextFault
one_word line word =
    if bytes_eq word (codes "sweep") then Ok (Act Sweep)
    else if bytes_eq word (codes "}") then Ok End
    else Err (NoSuchLine line)

-- `NODE moves` or `NODE turn`
abbrev pub two_words : Neighbours → Option (List (List ℕ)) → ℕ → List ℕ → List ℕ → Result Action StepTextFault
two_words network names line first second =
    if bytes_eq second (codes "moves") then and_then (node_at network names line 1 first) (λ u. Ok (Move u))
    else if bytes_eq second (codes "turn") then and_then (node_at network names line 1 first) (λ u. Ok (Turn u))
    else Err (NoSuchLine line)

-- `NODE reads all` or `NODE reads NODE`
abbrev pub reads_line : Neighbours → Option (List (List ℕ)) → ℕ → List ℕ → List ℕ → Result Action StepTextFault
reads_line network names line first third =
    and_then (node_at network names line 1 first) (λ u.
    if bytes_eq third (codes "all") then Ok (ReadAll u) else
    and_then (node_at network names line 3 third) (λ v.
    and_then (slot_at network line u v) (λ j.
    Ok (ReadSlot u j))))

-- `repeat COUNT {`, or a line that reads
abbrev pub three_words : Neighbours → Option (List (List ℕ)) → ℕ → List ℕ → List ℕ → List ℕ → Result Line StepTextFault
three_words network names line first second third =
    if bytes_eq first (codes "repeat") && bytes_eq third (codes "{") then and_then (count_at line second) (λ k. Ok (Repeat k))
    else if bytes_eq second (codes "reads") then as_line (reads_line network names line first third)
    else Err (NoSuchLine line)

-- a line of two words or more
abbrev pub long_line : Neighbours → Option (List (List ℕ)) → ℕ → List ℕ → List ℕ → List (List ℕ) → Result Line StepTextFault
long_line network names line first second [] = as_line (two_words network names line first second)
long_line network names line first second (third ∷ []) = three_words network names line first second third
long_line network names line first second (third ∷ more ∷ words) = Err (NoSuchLine line)

-- what a line of these words says
abbrev pub line_of : Neighbours → Option (List (List ℕ)) → ℕ → List (List ℕ) → Result Line StepTextFault
line_of network names line [] = Err (NoSuchLine line)
line_of network names line (first ∷ []) = one_word line first
line_of network names line (first ∷ second ∷ words) = long_line network names line first second words

-- what a line says, or why it says nothing
unfoldable pub line_at : Neighbours → Option (List (List ℕ)) → ℕ × List ℕ → Result Line StepTextFault
line_at network names l = and_then (text_at l.0 (shown l.1)) (λ text. line_of network names l.0 (words_in text))
