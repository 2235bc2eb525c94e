-- Why a line of a trace says nothing: tables of kinds.
use Rattle.std.specs.Prelude.{◌≡◌, ◌⊎◌, ℕ, List, codes, Option, Some, None, Ok, Err}
use Rattle.import_lines.specs.Parts.{shown}
use Rattle.import_lines.specs.Texts.{words_of}
use Rattle.import_lines.specs.declared.words_fault.WordsFault.TheVariants as words_fault
use Rattle.link_net.specs.Neighbours.{neighbour_at}
use Rattle.rule_check.specs.Value.{names_of}
use Rattle.rounds_plan.specs.Plans.{PlanView}
use Rattle.serde_json.specs.Data.{Data}
use Rattle.serde_json.specs.Find.{get}
use Rattle.serde_json.specs.Read.{read}
use Rattle.unison_world.specs.declared.step.Step.{Step}
use Rattle.run_steps.specs.script.Words.{words_in}
use Rattle.run_steps.specs.script.Spelled.{Calls}
use Rattle.run_steps.specs.declared.verify.entry.Given.{Given}
use Rattle.run_steps.specs.declared.verify.fault.VerifyFault.{VerifyFault}
use Rattle.run_steps.specs.declared.verify.fault.VerifyFault.TheVariants.{NotUtf8, ControlCharacter, LongLine, NoSuchLine, NotJson, NoStep, NoNode, NotNeighbour, BadField, FieldTwice, BadState}
use Rattle.run_steps.specs.verify.Given.{HasBadField, HasFieldTwice}
use Rattle.run_steps.specs.verify.SaidByObjects as by_object
use Rattle.run_steps.specs.verify.Spelled.{StandsFor, AreOfMove, AreOfRead, SaysStep, BeginObject}

-- why bytes may not be shown
abbrev pub IsHidden : ℕ × List ℕ → VerifyFault → Type 0
IsHidden here (NotUtf8 line) = (line ≡ here.0) × (shown here.1 ≡ Err words_fault.NotUtf8)
IsHidden here (ControlCharacter line) = (line ≡ here.0) × (shown here.1 ≡ Err words_fault.ControlCharacter)
IsHidden here (LongLine line) = (line ≡ here.0) × (shown here.1 ≡ Err words_fault.LongLine)
IsHidden here fault = ⊥

-- why the words of a line, which is no object, spell nothing
abbrev pub IsUnspelled : PlanView → Option (List (List ℕ)) → ℕ → List (List ℕ) → VerifyFault → Type 0
IsUnspelled plan names number words (NoSuchLine line) =
    (line ≡ number) × ((who : List ℕ) (rest : List (List ℕ)) → AreOfMove words who rest → ⊥) × ((who third : List ℕ) (rest : List (List ℕ)) → AreOfRead words who third rest → ⊥)
IsUnspelled plan names number words (NoNode line) =
    (line ≡ number) × ((who : List ℕ) × (((rest : List (List ℕ)) × AreOfMove words who rest) ⊎ ((third : List ℕ) × (rest : List (List ℕ)) × AreOfRead words who third rest)) × ((u : ℕ) → Calls plan.network names who u → ⊥))
IsUnspelled plan names number words (NotNeighbour line) =
    (line ≡ number) × ((who third whom : List ℕ) × (rest : List (List ℕ)) × (u : ℕ) × AreOfRead words who third rest × Calls plan.network names who u × StandsFor third whom × ((j v : ℕ) → neighbour_at plan.network u j ≡ Some v → Calls plan.network names whom v → ⊥))
IsUnspelled plan names number words (BadField line) = (line ≡ number) × ((step : Step) × (rest : List (List ℕ)) × SaysStep plan.network names words step rest × HasBadField (names_of plan.program) rest)
IsUnspelled plan names number words (FieldTwice line) = (line ≡ number) × ((step : Step) × (rest : List (List ℕ)) × SaysStep plan.network names words step rest × HasFieldTwice (names_of plan.program) rest)
IsUnspelled plan names number words fault = ⊥

-- the object is to say a move: it lets a node move and has no `reads`
abbrev pub IsOfMove : Data → Type 0
IsOfMove o = (get (codes "reads") o ≡ None) × by_object.LetsMove o

-- the object is to say a read of what has this value: that is its `reads`, and it lets no node move
abbrev pub IsOfRead : Data → Data → Type 0
IsOfRead o whom = (get (codes "reads") o ≡ Some whom) × (by_object.LetsMove o → ⊥)

-- why an object says nothing
abbrev pub SaysNothing : PlanView → Option (List (List ℕ)) → ℕ → Data → VerifyFault → Type 0
SaysNothing plan names number o (NoStep line) = (line ≡ number) × (IsOfMove o → ⊥) × ((whom : Data) → IsOfRead o whom → ⊥)
SaysNothing plan names number o (NoNode line) = (line ≡ number) × (IsOfMove o ⊎ ((whom : Data) × IsOfRead o whom)) × ((u : ℕ) → by_object.HasNode plan.network names o u → ⊥)
SaysNothing plan names number o (NotNeighbour line) =
    (line ≡ number) × ((whom : Data) × (u : ℕ) × IsOfRead o whom × by_object.HasNode plan.network names o u × ((j v : ℕ) → neighbour_at plan.network u j ≡ Some v → by_object.ValueCalls plan.network names whom v → ⊥))
SaysNothing plan names number o (BadState line) =
    (line ≡ number) × ((step : Step) × by_object.SaysStep plan.network names o step) × ((given : Given) → by_object.StateGives (names_of plan.program) (get (codes "state") o) given → ⊥)
SaysNothing plan names number o fault = ⊥

-- why a text whose first word begins with { says nothing
abbrev pub IsNoObject : PlanView → Option (List (List ℕ)) → ℕ → List ℕ → VerifyFault → Type 0
IsNoObject plan names number text (NotJson line) = (line ≡ number) × (read text ≡ None)
IsNoObject plan names number text fault = (o : Data) × (read text ≡ Some o) × SaysNothing plan names number o fault

-- why the line here says nothing
abbrev pub IsUnsaid : PlanView → Option (List (List ℕ)) → ℕ × List ℕ → VerifyFault → Type 0
IsUnsaid plan names here fault =
    IsHidden here fault
    ⊎ ((shown here.1 ≡ Ok here.1)
    × (((BeginObject (words_of here.1) → ⊥) × IsUnspelled plan names here.0 (words_in here.1) fault) ⊎ (BeginObject (words_of here.1) × IsNoObject plan names here.0 here.1 fault)))
