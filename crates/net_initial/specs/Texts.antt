-- The network file that openings make of another, and why there is none.
use Rattle.std.specs.Prelude.{◌≡◌, ℕ, not, ◌&&◌, Bool, false, List, [], ◌∷◌, length, nat_lt, nat_le, is_none, Option, Some, None, Ok, if◌then◌else◌}
use Rattle.std.specs.List.{list_any, list_all}
use Rattle.std.specs.Char.{is_ascii_alphabetic}
use Rattle.std.specs.Option.{option_or, unwrap_or}
use Rattle.rule_lang.specs.Tokens.{is_word_byte}
use Rattle.rule_lang.specs.Keywords.{keyword_of}
use Rattle.link_net.specs.declared.field_set.FieldSet.{FieldSet}
use Rattle.link_net.specs.Links.{network_of}
use Rattle.link_net.specs.Reading.{Description, reading_of}
use Rattle.net_initial.specs.declared.fault.OpenFault.{OpenFault}
use Rattle.net_initial.specs.declared.fault.OpenFault.TheVariants.{BadPhase, BadName, BadClear, NoNode, BadSet}
use Rattle.net_initial.specs.declared.opening.Chosen.{Chosen}
use Rattle.net_initial.specs.declared.opening.Opening.{Opening}
use Rattle.net_initial.specs.declared.opening.Values.{Values}
use Rattle.net_initial.specs.Opened.{AreOpened, has_undefined, kept_sets}

-- a letter, then letters, digits and `_`
abbrev pub is_word : List ℕ → Bool
is_word [] = false
is_word (b ∷ bytes) = is_ascii_alphabetic b && list_all is_word_byte bytes

-- a program can declare a field of this name: a word that is not reserved
abbrev pub is_field_name : List ℕ → Bool
is_field_name name = is_word name && is_none (keyword_of name)

-- the choice names a node that n nodes do not have
abbrev pub misses_node : ℕ → Chosen → Bool
misses_node n Chosen.Every = false
misses_node n (Chosen.One w) = nat_le n w
misses_node n (Chosen.Range first last) = nat_le first last && nat_le n last
misses_node n (Chosen.These ws) = list_any (λ w. nat_le n w) ws.items

-- the values are for a node that n nodes do not have
abbrev pub pass_nodes : ℕ → Values → Bool
pass_nodes n (Values.Same nodes value) = misses_node n nodes
pass_nodes n (Values.Each values) = nat_lt n (length values.items)

-- the phase that is asked for is none
abbrev pub is_bad_phase : Option ℕ → Bool
is_bad_phase None = false
is_bad_phase (Some p) = nat_lt 2 p

-- the first fault of what is asked for, on n nodes
abbrev pub asking_fault : ℕ → List (List ℕ) → List Opening → Option ℕ → Option OpenFault
asking_fault n cleared openings phase =
    if is_bad_phase phase then Some BadPhase
    else if list_any (λ o. not (is_field_name o.field)) openings then Some BadName
    else if list_any (λ f. not (is_field_name f)) cleared then Some BadClear
    else if list_any (λ o. pass_nodes n o.values) openings then Some NoNode
    else None

-- the first fault of what is asked for, of n nodes on which a file sets this
abbrev pub fault_on : ℕ → List FieldSet → List (List ℕ) → List Opening → Option ℕ → Option OpenFault
fault_on n sets cleared openings phase =
    option_or (asking_fault n cleared openings phase) (if has_undefined n (kept_sets cleared sets) openings then Some BadSet else None)

-- the first fault of what is asked for of a file
abbrev pub fault_of : Description → List (List ℕ) → List Opening → Option ℕ → Option OpenFault
fault_of d cleared openings phase = fault_on (length d.network) d.sets cleared openings phase

-- the text is a network file: it reads to the same network, the phase that is asked for or else the file's, and the sets of the file that are not cleared, opened
pub record IsOpened (d : Description) (cleared : List (List ℕ)) (openings : List Opening) (phase : Option ℕ) (text : List ℕ) : Type 0 where
  pub sets : List FieldSet
  pub opened : AreOpened (length d.network) (kept_sets cleared d.sets) openings sets
  pub reads : reading_of text ≡ Ok (record { network = d.network; phase = unwrap_or phase d.phase; sets = sets })

-- what a packed network says beside its rows: nothing in phase 0 where it sets nothing, and else a network file of one node, without links, with its phase and its sets
abbrev pub AreSettings : ℕ → List FieldSet → Option (List ℕ) → Type 0
AreSettings phase sets None = (phase ≡ 0) × (sets ≡ [])
AreSettings phase sets (Some text) = (phase ≡ 0 → sets ≡ [] → ⊥) × (reading_of text ≡ Ok (record { network = network_of 1 []; phase = phase; sets = sets }))

-- these are the settings of n nodes: the phase that is asked for or else the file's, and the sets of the file that are not cleared, opened
pub record AreSettingsOpened (n : ℕ) (d : Description) (cleared : List (List ℕ)) (openings : List Opening) (phase : Option ℕ) (text : Option (List ℕ)) : Type 0 where
  pub sets : List FieldSet
  pub opened : AreOpened n (kept_sets cleared d.sets) openings sets
  pub said : AreSettings (unwrap_or phase d.phase) sets text
