-- Why named nodes and edges have no numbers.
use Rattle.std.specs.Prelude.{◌≡◌, ◌⊎◌, ◌<◌, ℕ, false, List, [], ◌∷◌, ◌++◌, length}
use Rattle.net_names.specs.declared.fault.NamesFault.{NamesFault}
use Rattle.net_names.specs.declared.fault.NamesFault.TheVariants as name
use Rattle.net_names.specs.Naming.{AreNames, is_name, with_name}
use Rattle.import_lines.specs.Named.{NamedEdge}
use Rattle.import_lines.specs.declared.mention.Mention.{Mention}
use Rattle.import_links.specs.declared.join_fault.JoinFault.{JoinFault}
use Rattle.import_links.specs.declared.join_fault.JoinFault.TheVariants.{BadName, TooManyNodes, Memory}
use Rattle.import_links.specs.Joining.{names_of, names_in, with_ends, names_with}

-- the fault of a name that stands in a line
abbrev pub at_line : ℕ → NamesFault → JoinFault
at_line line name.BadName = BadName line
at_line line name.TooManyNames = TooManyNodes line
at_line line name.Memory = Memory

-- what the fault says is so of a name that stands in a line, after these names, where there may be so many
abbrev pub IsNameFault : ℕ → List (List ℕ) → List ℕ → ℕ → JoinFault → Type 0
IsNameFault most names name n (BadName line) = (line ≡ n) × (is_name name ≡ false)
IsNameFault most names name n (TooManyNodes line) = (line ≡ n) × (most < length (with_name names name))
IsNameFault most names name n Memory = Unit {0}

-- what the fault says is so of an edge, after these names: an end is no name, or with its ends there are more names than there may be
abbrev pub IsEdgeFault : ℕ → List (List ℕ) → NamedEdge → JoinFault → Type 0
IsEdgeFault most names here (BadName line) = (line ≡ here.line) × ((is_name here.first ≡ false) ⊎ (is_name here.second ≡ false))
IsEdgeFault most names here (TooManyNodes line) = (line ≡ here.line) × (most < length (with_ends names here))
IsEdgeFault most names here Memory = Unit {0}

-- what the fault says is so of an edge, and the ends of earlier ones are names, and not too many
pub record IsFirstBadEdge (most : ℕ) (names : List (List ℕ)) (edges : List NamedEdge) (fault : JoinFault) : Type 0 where
  pub earlier : List NamedEdge
  pub here : NamedEdge
  pub later : List NamedEdge
  pub all : edges ≡ earlier ++ here ∷ later
  pub are_names : AreNames (names_with names earlier)
  pub why : IsEdgeFault most (names_with names earlier) here fault

-- why edges have no numbers after these names: the first that has none, or running out of memory
abbrev pub IsRefusal : ℕ → List (List ℕ) → List NamedEdge → JoinFault → Type 0
IsRefusal most names edges Memory = Unit {0}
IsRefusal most names edges fault = IsFirstBadEdge most names edges fault

-- what the fault says is so of a name that a text names, and the earlier ones are names, and not too many
pub record IsFirstBadMention (most : ℕ) (mentions : List Mention) (fault : JoinFault) : Type 0 where
  pub earlier : List Mention
  pub here : Mention
  pub later : List Mention
  pub all : mentions ≡ earlier ++ here ∷ later
  pub are_names : AreNames (names_in [] (names_of earlier))
  pub why : IsNameFault most (names_in [] (names_of earlier)) here.name.now here.line fault

-- why names that a text names have no numbers: the first that has none, or running out of memory
abbrev pub IsMentionRefusal : ℕ → List Mention → JoinFault → Type 0
IsMentionRefusal most mentions Memory = Unit {0}
IsMentionRefusal most mentions fault = IsFirstBadMention most mentions fault
