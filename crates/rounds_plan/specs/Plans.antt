-- What a plan is.
use Rattle.std.specs.Prelude.{ℕ, ℤ, pos, negsuc, ◌≡◌, ◌≤◌, ◌==◌, Bool, false, not, ◌||◌, List, [], ◌∷◌, length, map, All, Option, Some, None, Result, Ok, Err, nat_lt, if◌then◌else◌}
use Rattle.std.specs.List.{list_any, range_with_len}
use Rattle.std.specs.Option.{option_or, unwrap_or}
use Rattle.std.specs.Str.{bytes_eq}
use Rattle.rule_check.specs.declared.state.State.{State}
use Rattle.rule_check.specs.Value.{Rules, names_of, opening_of, updated}
use Rattle.rule_check.specs.WellFormed.{is_among}
use Rattle.link_net.specs.declared.field_set.FieldSet.{FieldSet}
use Rattle.link_net.specs.Neighbours.{Neighbours, IsNetwork}
use Rattle.link_net.specs.Reading.{Description}
use Rattle.rounds_plan.specs.declared.fault.PlanFault.{PlanFault}
use Rattle.rounds_plan.specs.declared.fault.PlanFault.TheVariants.{UnknownField, BadNode, BadValue, SetTwice}
use Rattle.rounds_plan.specs.Configs.{IsPlain, most_rounds}

-- a program on a network, the phase at which all nodes open, the initial state of each node, and the round of these states
pub record PlanView : Type 0 where
  pub program : Rules
  pub network : Neighbours
  pub phase : ℕ
  pub opening : List State
  pub start : ℕ

-- what holds of every plan
pub record IsPlan (p : PlanView) : Type 0 where
  pub network : IsNetwork p.network
  pub phase : p.phase ≤ 2
  pub fields : length p.program.fields ≤ 8
  pub opening : length p.opening ≡ length p.network
  pub plain : All (IsPlain (length p.program.fields)) p.opening
  pub start : p.start ≤ most_rounds

-- an integer from 0 on, below a bound
abbrev pub is_below : ℕ → ℤ → Bool
is_below bound (pos k) = nat_lt k bound
is_below bound (negsuc k) = false

-- the number that an integer from 0 on is
abbrev pub number_of : ℤ → ℕ
number_of (pos k) = k
number_of (negsuc k) = 0

-- a number stands twice
abbrev pub has_number_twice : List ℕ → Bool
has_number_twice [] = false
has_number_twice (x ∷ xs) = list_any (λ y. y == x) xs || has_number_twice xs

-- the nodes of one field's list
abbrev pub nodes_in : List (ℤ × ℤ) → List ℕ
nodes_in pairs = map (λ p. number_of p.0) pairs

-- a number in the list is no node
abbrev pub has_bad_node : ℕ → FieldSet → Bool
has_bad_node nodes set = list_any (λ p. not (is_below nodes p.0)) set.pairs

-- a value lies outside 0 to 4294967295
abbrev pub has_bad_value : FieldSet → Bool
has_bad_value set = list_any (λ p. not (is_below 4294967296 p.1)) set.pairs

-- one node stands twice in one field's list
abbrev pub sets_twice : FieldSet → Bool
sets_twice set = has_number_twice (nodes_in set.pairs)

-- the first fault of the keys and pairs of `set`, for these fields and this number of nodes
abbrev pub set_fault : List (List ℕ) → ℕ → List FieldSet → Option PlanFault
set_fault names nodes sets =
    if list_any (λ set. not (is_among names set.name)) sets then Some UnknownField
    else if list_any (has_bad_node nodes) sets then Some BadNode
    else if list_any has_bad_value sets then Some BadValue
    else if list_any sets_twice sets then Some SetTwice
    else None

-- the value that a list of pairs gives a node
abbrev pub value_in : List (ℤ × ℤ) → ℕ → Option ℕ
value_in [] u = None
value_in (p ∷ pairs) u = option_or (value_in pairs u) (if number_of p.0 == u then Some (number_of p.1) else None)

-- the value that `set` gives a node in the field of this name
abbrev pub value_set : List FieldSet → List ℕ → ℕ → Option ℕ
value_set [] name u = None
value_set (set ∷ sets) name u = option_or (value_set sets name u) (if bytes_eq name set.name then value_in set.pairs u else None)

-- the state with the values of `set` for a node in place of those that it has
abbrev pub replaced : List (List ℕ) → List FieldSet → ℕ → State → State
replaced names sets u state = record { words = updated (λ name w. unwrap_or (value_set sets name u) w) names state.words }

-- the initial states of nodes: the program's initial values, replaced by those of `set`
abbrev pub openings_of : Rules → ℕ → List FieldSet → List State
openings_of program nodes sets = map (λ u. replaced (names_of program) sets u (opening_of program)) (range_with_len 0 nodes)

-- the plan of a program on a described network, its start being round 0, where `set` has no fault, or that fault
abbrev pub plan_by : Rules → Description → Option PlanFault → Result PlanView PlanFault
plan_by program d (Some fault) = Err fault
plan_by program d None = Ok (record { program = program; network = d.network; phase = d.phase; opening = openings_of program (length d.network) d.sets; start = 0 })

-- the plan of a program on a described network, or the first fault of `set` for its fields and nodes
abbrev pub plan_of : Rules → Description → Result PlanView PlanFault
plan_of program d = plan_by program d (set_fault (names_of program) (length d.network) d.sets)
