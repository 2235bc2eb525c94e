-- The text of the rounds that are watched.
use Rattle.std.specs.Prelude.{ℕ, ◌==◌, Bool, true, not, ◌||◌, List, [], ◌∷◌, ◌++◌, String, codes, length, slice_get, slice_index, slice_index_or, string_bytes, if◌then◌else◌, Option, Some, None, nat_lt}
use Rattle.std.specs.Global.{Global, Vec}
use Rattle.std.specs.Fmt.{decimal}
use Rattle.std.specs.List.{filter, flat_map, list_any}
use Rattle.std.specs.Option.{option_map}
use Rattle.rule_check.specs.declared.state.State.{State}
use Rattle.rule_check.specs.Value.{names_of}
use Rattle.link_net.specs.Neighbours.{numbers_below}
use Rattle.rounds_plan.specs.Configs.{Configuration, most_rounds}
use Rattle.rounds_plan.specs.Lockstep.{lockstep_config, lockstep_states, state_in}
use Rattle.rounds_plan.specs.Plans.{PlanView}
use Rattle.report_text.specs.Report.{field_text, round_line}
use Rattle.run_watch.specs.declared.fault.WatchFault.{WatchFault}
use Rattle.run_watch.specs.declared.fault.WatchFault.TheVariants.{TooManyRounds, RoundsBelowStart, NoField}
use Rattle.run_watch.specs.declared.show.Format.{Format}
use Rattle.run_watch.specs.declared.show.Format.TheVariants.{Report, Csv, Json}
use Rattle.run_watch.specs.declared.show.Show.{Show}
use Rattle.run_watch.specs.Spans.{SpanView, rounds_in}

-- the states of a configuration, or none
abbrev pub states_in : Option Configuration → List State
states_in None = []
states_in (Some c) = c.states

-- one of the fields has another value
abbrev pub is_changed : List ℕ → State → State → Bool
is_changed fields old new = list_any (λ k. not (slice_index old.words k == slice_index new.words k)) fields

-- a node is shown where there is no state of it before, where not only changes are asked for, or where a shown field has another value
abbrev pub differs : Show → Option State → State → Bool
differs show None new = true
differs show (Some old) new = not show.changes || is_changed show.fields.now old new

-- whether a node with this state is shown, the states of the round that was shown before being these, or none
abbrev pub is_shown : Show → List State → ℕ → State → Bool
is_shown show before u state = differs show (slice_get before u) state

-- the nodes that are shown, by rising number
abbrev pub shown_nodes : Show → List State → List State → List ℕ
shown_nodes show before states = filter (λ u. is_shown show before u (state_in states u)) (numbers_below (length states))

-- what stands for a node or a value: its label, or past the last its number
abbrev pub label_of : Option (List ℕ) → ℕ → List ℕ
label_of (Some label) u = label
label_of None u = decimal u

-- the names of a field's values; none past the last field
abbrev pub names_in : Option (Vec (String Global)) → List (String Global)
names_in None = []
names_in (Some names) = names.items

-- the name of a value of the field at a place, where it has one
abbrev pub value_name : Show → ℕ → ℕ → Option (List ℕ)
value_name show place value = option_map string_bytes (slice_get (names_in (slice_get show.names.now place)) value)

-- what stands for a value in JSON: its name in quotes, or where it has none its number
abbrev pub json_label : Option (List ℕ) → ℕ → List ℕ
json_label None value = decimal value
json_label (Some name) value = codes "\"" ++ (name ++ codes "\"")

-- a value of a field, which has this name, if one
abbrev pub cell_text : Format → List ℕ → Option (List ℕ) → ℕ → List ℕ
cell_text Report field name value = field_text field value
cell_text Csv field name value = codes "," ++ label_of name value
cell_text Json field name value = codes ",\"" ++ (field ++ (codes "\":" ++ json_label name value))

-- what stands before the label of a node
abbrev pub row_start : Format → ℕ → List ℕ
row_start Report t = []
row_start Csv t = decimal t ++ codes ","
row_start Json t = codes "{\"round\":" ++ (decimal t ++ codes ",\"node\":")

-- what stands after the fields
abbrev pub row_end : Format → List ℕ
row_end Report = codes "\n"
row_end Csv = codes "\n"
row_end Json = codes "}\n"

-- the value of the field at a place
abbrev pub place_text : Show → List (List ℕ) → State → ℕ → List ℕ
place_text show names state k = cell_text show.format (slice_index_or names k []) (value_name show k (slice_index state.words k)) (slice_index state.words k)

-- the values of the shown fields
abbrev pub cells_text : Show → List (List ℕ) → State → List ℕ
cells_text show names state = flat_map (place_text show names state) show.fields.now

-- the line of a node in round t
abbrev pub row_text : Show → List (List ℕ) → ℕ → ℕ → State → List ℕ
row_text show names t u state = row_start show.format t ++ (label_of (option_map string_bytes (slice_get show.labels.now u)) u ++ (cells_text show names state ++ row_end show.format))

-- the line of a node where it is shown
abbrev pub node_text : Show → List (List ℕ) → List State → Configuration → ℕ → List ℕ
node_text show names before c u = if is_shown show before u (state_in c.states u) then row_text show names c.rounds u (state_in c.states u) else []

-- how many nodes are shown, where only changes are asked for
abbrev pub count_text : Bool → ℕ → List ℕ
count_text changes count = if changes then codes "changed " ++ (decimal count ++ codes "\n") else []

-- what stands before the lines of the nodes
abbrev pub head_text : Format → Bool → ℕ → ℕ → List ℕ
head_text Report changes t count = round_line t ++ count_text changes count
head_text Csv changes t count = []
head_text Json changes t count = []

-- a configuration as it is shown, the states of the round that was shown before being these, or none
abbrev pub part_text : Show → List (List ℕ) → List State → Configuration → List ℕ
part_text show names before c =
    head_text show.format show.changes c.rounds (length (shown_nodes show before c.states))
    ++ flat_map (node_text show names before c) (numbers_below (length c.states))

-- the rounds of a plan, one after the other
abbrev pub parts_text : PlanView → Show → List State → List ℕ → List ℕ
parts_text p show before [] = []
parts_text p show before (t ∷ rounds) = part_text show (names_of p.program) before (lockstep_config p t) ++ parts_text p show (lockstep_states p t (length p.network)) rounds

-- the headings with these for the fields, in CSV alone
abbrev pub headings : Format → List ℕ → List ℕ
headings Report fields = []
headings Csv fields = codes "round,node" ++ (fields ++ codes "\n")
headings Json fields = []

-- the headings of CSV
abbrev pub opening_text : Show → List (List ℕ) → List ℕ
opening_text show names = headings show.format (flat_map (λ k. codes "," ++ slice_index_or names k []) show.fields.now)

-- the text of the rounds of a span
abbrev pub watch_text : PlanView → SpanView → Show → List ℕ
watch_text p span show = opening_text show (names_of p.program) ++ parts_text p show [] (rounds_in span)

-- the first of the places that is none of so many fields
abbrev pub missing_of : ℕ → List ℕ → Option ℕ
missing_of count [] = None
missing_of count (place ∷ places) = if nat_lt place count then missing_of count places else Some place

-- why there is none, whatever memory there is
abbrev pub refusal_of : PlanView → SpanView → Show → Option WatchFault
refusal_of p span show =
    if nat_lt most_rounds span.last then Some TooManyRounds
    else if nat_lt span.first p.start then Some RoundsBelowStart
    else option_map NoField (missing_of (length p.program.fields) show.fields.now)
