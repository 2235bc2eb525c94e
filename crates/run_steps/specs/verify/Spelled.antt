-- What lines of a trace say, by the words that spell it. A line is its number, counted from 1, and its bytes.
use Rattle.std.specs.Prelude.{◌≡◌, ◌≢◌, ◌⊎◌, ℕ, List, [], ◌∷◌, ◌++◌, codes, Option, Some, Ok}
use Rattle.import_lines.specs.Parts.{shown}
use Rattle.import_lines.specs.Texts.{words_of}
use Rattle.link_net.specs.Neighbours.{Neighbours, neighbour_at}
use Rattle.rule_check.specs.Value.{names_of}
use Rattle.rounds_plan.specs.Plans.{PlanView}
use Rattle.serde_json.specs.Data.{Data}
use Rattle.serde_json.specs.Read.{read}
use Rattle.unison_world.specs.declared.step.Step.{Step}
use Rattle.unison_world.specs.declared.step.Step.TheVariants.{Read, Write}
use Rattle.run_steps.specs.script.Words.{words_in}
use Rattle.run_steps.specs.script.Spelled.{Calls}
use Rattle.run_steps.specs.declared.verify.entry.Entry.{Entry}
use Rattle.run_steps.specs.verify.Given.{Gives}
use Rattle.run_steps.specs.verify.SaidByObjects.{SaysObject}

-- a word for this one: this one with a colon behind it, or this one itself, where it does not end with a colon
abbrev pub StandsFor : List ℕ → List ℕ → Type 0
StandsFor word plain = (word ≡ plain ++ 58 ∷ []) ⊎ ((word ≡ plain) × ((front : List ℕ) → word ≢ front ++ 58 ∷ []))

-- a word for `moves` or for `turn`
abbrev pub SaysMove : List ℕ → Type 0
SaysMove word = StandsFor word (codes "moves") ⊎ StandsFor word (codes "turn")

-- the words are those of `NODE moves: ..` or `NODE turn: ..`: whose move it is, and the words after it
abbrev pub AreOfMove : List (List ℕ) → List ℕ → List (List ℕ) → Type 0
AreOfMove words who rest = (second : List ℕ) × (words ≡ who ∷ second ∷ rest) × SaysMove second

-- the words are those of `NODE reads NODE: ..`: who reads, the third word, and the words after it
abbrev pub AreOfRead : List (List ℕ) → List ℕ → List ℕ → List (List ℕ) → Type 0
AreOfRead words who third rest = words ≡ who ∷ codes "reads" ∷ third ∷ rest

-- the words say this step, and these words stand after it
abbrev pub SaysStep : Neighbours → Option (List (List ℕ)) → List (List ℕ) → Step → List (List ℕ) → Type 0
SaysStep network names words (Write u) rest = (who : List ℕ) × AreOfMove words who rest × Calls network names who u
SaysStep network names words (Read u j) rest =
    (who third whom : List ℕ) × (v : ℕ) × AreOfRead words who third rest × Calls network names who u × StandsFor third whom × (neighbour_at network u j ≡ Some v) × Calls network names whom v

-- the words spell the entry: its step, and behind that its values
pub record IsSpelled (plan : PlanView) (names : Option (List (List ℕ))) (words : List (List ℕ)) (entry : Entry) : Type 0 where
  pub rest : List (List ℕ)
  pub step : SaysStep plan.network names words entry.step rest
  pub given : Gives (names_of plan.program) rest entry.given

-- the first of the words begins with {
abbrev pub BeginObject : List (List ℕ) → Type 0
BeginObject words = (behind : List ℕ) × (rest : List (List ℕ)) × (words ≡ (123 ∷ behind) ∷ rest)

-- the text says the entry: where its first word begins with {, it is a JSON object that does, else its words up to a comment spell it
abbrev pub TextSays : PlanView → Option (List (List ℕ)) → List ℕ → Entry → Type 0
TextSays plan names text entry =
    (BeginObject (words_of text) × ((object : Data) × (read text ≡ Some object) × SaysObject plan names object entry))
    ⊎ ((BeginObject (words_of text) → ⊥) × IsSpelled plan names (words_in text) entry)

-- the line here says this: its bytes may be shown, and their text says it
pub record Said (plan : PlanView) (names : Option (List (List ℕ))) (here : ℕ × List ℕ) (entry : Entry) : Type 0 where
  pub may_be_shown : shown here.1 ≡ Ok here.1
  pub says : TextSays plan names here.1 entry
