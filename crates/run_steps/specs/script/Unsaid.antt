-- Why a line says nothing: a table of kinds.
use Rattle.std.specs.Prelude.{◌≡◌, ◌≢◌, ℕ, ◌+◌, ◌-◌, ◌<◌, ◌≤◌, All, List, [], ◌∷◌, ◌++◌, codes, slice_get, Option, Some, Ok, Err}
use Rattle.std.specs.List.{AllZip}
use Rattle.std.specs.Fmt.{decimal}
use Rattle.import_lines.specs.Parts.{shown}
use Rattle.import_lines.specs.declared.words_fault.WordsFault.TheVariants as words_fault
use Rattle.link_net.specs.Neighbours.{Neighbours, neighbour_at}
use Rattle.run_steps.specs.declared.script.fault.StepTextFault.{StepTextFault}
use Rattle.run_steps.specs.declared.script.fault.StepTextFault.TheVariants.{NotUtf8, ControlCharacter, LongLine, NoSuchLine, BadCount, NoNode, NotNeighbour}
use Rattle.run_steps.specs.script.Words.{most_repeats, words_in}
use Rattle.run_steps.specs.script.Spelled.{Calls, AreOfRead}

-- what stands at a place of a line: this word, one that is to call a node, or one that is to spell a count
pub data Place : Type 0 where
  this : (word : List ℕ) → Place
  a_node : Place
  a_count : Place

-- the shapes of lines
abbrev pub shapes : List (List Place)
shapes =
    (this (codes "sweep") ∷ [])
    ∷ (this (codes "}") ∷ [])
    ∷ (a_node ∷ this (codes "moves") ∷ [])
    ∷ (a_node ∷ this (codes "turn") ∷ [])
    ∷ (this (codes "repeat") ∷ a_count ∷ this (codes "{") ∷ [])
    ∷ (a_node ∷ this (codes "reads") ∷ this (codes "all") ∷ [])
    ∷ (a_node ∷ this (codes "reads") ∷ a_node ∷ [])
    ∷ []

-- the word may stand at the place: any word may stand for a node or a count
abbrev pub MayStand : List ℕ → Place → Type 0
MayStand word (this fixed) = word ≡ fixed
MayStand word a_node = Unit {0}
MayStand word a_count = Unit {0}

-- the words have the shape: there are as many as places, and each may stand at its own
abbrev pub HaveShape : List (List ℕ) → List Place → Type 0
HaveShape words shape = AllZip MayStand words shape

-- of the shapes that the words have, this is the first
pub record IsShapeOf (words : List (List ℕ)) (shape : List Place) : Type 0 where
  pub before : List (List Place)
  pub behind : List (List Place)
  pub among : shapes ≡ before ++ shape ∷ behind
  pub has : HaveShape words shape
  pub first : All (λ other. HaveShape words other → ⊥) before

-- by their shape a node is to stand at this place, counted from 1; the word there calls none, and each word before it that is to call a node does
pub record CallsNone (network : Neighbours) (names : Option (List (List ℕ))) (words : List (List ℕ)) (place : ℕ) : Type 0 where
  pub shape : List Place
  pub shaped : IsShapeOf words shape
  pub counted : 1 ≤ place
  pub node : slice_get shape (place - 1) ≡ Some a_node
  pub word : List ℕ
  pub stands : slice_get words (place - 1) ≡ Some word
  pub none : (u : ℕ) → Calls network names word u → ⊥
  pub earlier : (i : ℕ) (other : List ℕ) → i + 1 < place → slice_get shape i ≡ Some a_node → slice_get words i ≡ Some other → (u : ℕ) × Calls network names other u

-- the words are those of `NODE reads NODE`, and call two nodes, the second of which is no neighbour of the first
pub record ReadStranger (network : Neighbours) (names : Option (List (List ℕ))) (words : List (List ℕ)) : Type 0 where
  pub who : List ℕ
  pub whom : List ℕ
  pub are : AreOfRead words who whom
  pub reader : ℕ
  pub calls_reader : Calls network names who reader
  pub other : ℕ
  pub calls_other : Calls network names whom other
  pub strange : (j : ℕ) → neighbour_at network reader j ≢ Some other

-- the words are those of a `repeat`, and the second spells no number that may count
pub record CountBadly (words : List (List ℕ)) : Type 0 where
  pub count : List ℕ
  pub are : words ≡ codes "repeat" ∷ count ∷ codes "{" ∷ []
  pub none : (k : ℕ) → 1 ≤ k → k ≤ most_repeats → count ≢ decimal k

-- why the line here says nothing
abbrev pub IsUnsaid : Neighbours → Option (List (List ℕ)) → ℕ × List ℕ → StepTextFault → Type 0
IsUnsaid network names here (NotUtf8 line) = (line ≡ here.0) × (shown here.1 ≡ Err words_fault.NotUtf8)
IsUnsaid network names here (ControlCharacter line) = (line ≡ here.0) × (shown here.1 ≡ Err words_fault.ControlCharacter)
IsUnsaid network names here (LongLine line) = (line ≡ here.0) × (shown here.1 ≡ Err words_fault.LongLine)
IsUnsaid network names here (NoSuchLine line) = (line ≡ here.0) × (shown here.1 ≡ Ok here.1) × All (λ shape. HaveShape (words_in here.1) shape → ⊥) shapes
IsUnsaid network names here (BadCount line) = (line ≡ here.0) × (shown here.1 ≡ Ok here.1) × CountBadly (words_in here.1)
IsUnsaid network names here (NoNode line place) = (line ≡ here.0) × (shown here.1 ≡ Ok here.1) × CallsNone network names (words_in here.1) place
IsUnsaid network names here (NotNeighbour line) = (line ≡ here.0) × (shown here.1 ≡ Ok here.1) × ReadStranger network names (words_in here.1)
IsUnsaid network names here fault = ⊥
