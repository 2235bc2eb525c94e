-- How lines of a trace are read, function by function: the clauses of private functions speak of this. What lines say stands in Spelled, and why they say nothing in Unsaid.
use Rattle.std.specs.Prelude.{ℕ, ◌-◌, ◌==◌, Bool, false, ◌||◌, List, [], ◌∷◌, codes, length, take, slice_index, Option, Result, Ok, Err, if◌then◌else◌}
use Rattle.std.specs.Str.{bytes_eq}
use Rattle.import_lines.specs.Parts.{shown}
use Rattle.import_lines.specs.declared.words_fault.WordsFault.{WordsFault}
use Rattle.import_lines.specs.declared.words_fault.WordsFault.TheVariants as words
use Rattle.import_lines.specs.Texts.{words_of}
use Rattle.rule_check.specs.Value.{names_of}
use Rattle.serde_json.specs.Read.{read}
use Rattle.rounds_plan.specs.Plans.{PlanView}
use Rattle.unison_world.specs.declared.step.Step.{Step}
use Rattle.unison_world.specs.declared.step.Step.TheVariants.{Read, Write}
use Rattle.run_steps.specs.script.Words.{words_in, node_called}
use Rattle.run_steps.specs.declared.verify.entry.Entry.{Entry}
use Rattle.run_steps.specs.declared.verify.fault.VerifyFault.{VerifyFault}
use Rattle.run_steps.specs.declared.verify.fault.VerifyFault.TheVariants.{NotUtf8, ControlCharacter, LongLine, NoSuchLine}
use Rattle.run_steps.specs.verify.Fields.{and_then, none_gathered, with_words}
use Rattle.run_steps.specs.verify.Nodes.{node_found, slot_found}
use Rattle.run_steps.specs.verify.Objects.{object_entry}

-- why a line may not be shown
abbrev pub fault_at : ℕ → WordsFault → VerifyFault
fault_at line words.NotUtf8 = NotUtf8 line
fault_at line words.ControlCharacter = ControlCharacter line
fault_at line words.LongLine = LongLine line
fault_at line words.OneWord = NoSuchLine line
fault_at line words.TooManyWords = NoSuchLine line

-- the text of a line, where it may be shown
abbrev pub text_at : ℕ → Result (List ℕ) WordsFault → Result (List ℕ) VerifyFault
text_at line (Ok text) = Ok text
text_at line (Err fault) = Err (fault_at line fault)

-- a word without the colon at its end, where it has one
abbrev pub without_colon : List ℕ → List ℕ
without_colon word = if slice_index word (length word - 1) == 58 then take (length word - 1) word else word

-- `moves` or `turn`
abbrev pub is_move : List ℕ → Bool
is_move word = bytes_eq word (codes "moves") || bytes_eq word (codes "turn")

-- a step, and the values that words give
abbrev pub entry_of : List (List ℕ) → ℕ → Step → List (List ℕ) → Result Entry VerifyFault
entry_of fields line step words = and_then (with_words fields line none_gathered words) (λ given. Ok (record { step = step; given = given }))

-- `NODE moves`, and values
unfoldable pub move_entry : PlanView → Option (List (List ℕ)) → ℕ → List ℕ → List (List ℕ) → Result Entry VerifyFault
move_entry plan names line first words =
    and_then (node_found line (node_called plan.network names first)) (λ u. entry_of (names_of plan.program) line (Write u) words)

-- `NODE reads NODE`, and values
unfoldable pub read_entry : PlanView → Option (List (List ℕ)) → ℕ → List ℕ → List ℕ → List (List ℕ) → Result Entry VerifyFault
read_entry plan names line first third words =
    and_then (node_found line (node_called plan.network names first)) (λ u.
    and_then (slot_found plan.network line u (node_called plan.network names (without_colon third))) (λ j.
    entry_of (names_of plan.program) line (Read u j) words))

-- a line whose second word is `reads`
abbrev pub reads_line : PlanView → Option (List (List ℕ)) → ℕ → List ℕ → List (List ℕ) → Result Entry VerifyFault
reads_line plan names line first [] = Err (NoSuchLine line)
reads_line plan names line first (third ∷ words) = read_entry plan names line first third words

-- a line of two words or more
abbrev pub long_line : PlanView → Option (List (List ℕ)) → ℕ → List ℕ → List ℕ → List (List ℕ) → Result Entry VerifyFault
long_line plan names line first second words =
    if is_move (without_colon second) then move_entry plan names line first words
    else if bytes_eq second (codes "reads") then reads_line plan names line first words
    else Err (NoSuchLine line)

-- what a line of these words says
abbrev pub line_of : PlanView → Option (List (List ℕ)) → ℕ → List (List ℕ) → Result Entry VerifyFault
line_of plan names line [] = Err (NoSuchLine line)
line_of plan names line (first ∷ []) = Err (NoSuchLine line)
line_of plan names line (first ∷ second ∷ words) = long_line plan names line first second words

-- the word begins with {
abbrev pub opens_object : List ℕ → Bool
opens_object word = slice_index word 0 == 123

-- the first of these words does
abbrev pub begins_object : List (List ℕ) → Bool
begins_object [] = false
begins_object (word ∷ words) = opens_object word

-- what a line of this text says: one that begins with { is a JSON object
unfoldable pub text_entry : PlanView → Option (List (List ℕ)) → ℕ → List ℕ → Result Entry VerifyFault
text_entry plan names line text =
    if begins_object (words_of text) then object_entry plan names line (read text) else line_of plan names line (words_in text)

-- what a line says, or why it says nothing
unfoldable pub entry_at : PlanView → Option (List (List ℕ)) → ℕ × List ℕ → Result Entry VerifyFault
entry_at plan names l = and_then (text_at l.0 (shown l.1)) (text_entry plan names l.0)
