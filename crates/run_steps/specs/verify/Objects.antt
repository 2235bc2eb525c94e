-- How JSON objects of a trace are read, function by function: the clauses of private functions speak of this. What objects say stands in SaidByObjects.
use Rattle.std.specs.Prelude.{ℕ, ◌+◌, ◌^◌, ◌==◌, Bool, false, ◌||◌, codes, List, [], ◌∷◌, set, nat_lt, Option, Some, None, Result, Ok, Err, if◌then◌else◌}
use Rattle.std.specs.List.{count_by}
use Rattle.std.specs.Option.{option_map, option_and_then, unwrap_or, is_some}
use Rattle.link_net.specs.Neighbours.{Neighbours}
use Rattle.rule_check.specs.Value.{names_of}
use Rattle.rounds_plan.specs.Plans.{PlanView}
use Rattle.serde_json.specs.Data.{Data, Members, no_members, member}
use Rattle.serde_json.specs.Find.{get, as_str, as_number, as_u64, as_bool, as_object}
use Rattle.unison_world.specs.declared.step.Step.{Step}
use Rattle.unison_world.specs.declared.step.Step.TheVariants.{Read, Write}
use Rattle.run_steps.specs.script.Words.{node_of, node_called}
use Rattle.run_steps.specs.declared.verify.entry.Given.{Given}
use Rattle.run_steps.specs.declared.verify.entry.Entry.{Entry}
use Rattle.run_steps.specs.declared.verify.fault.VerifyFault.{VerifyFault}
use Rattle.run_steps.specs.declared.verify.fault.VerifyFault.TheVariants.{NotJson, NoStep, BadState}
use Rattle.run_steps.specs.verify.Fields.{and_then, none_given}
use Rattle.run_steps.specs.verify.Nodes.{node_found, slot_found}

-- the node that a number calls: the one of that number, where no names are given
abbrev pub numbered : Neighbours → Option (List (List ℕ)) → Option ℕ → Option ℕ
numbered network None n = option_and_then (node_of network) n
numbered network (Some names) n = None

-- the node that a string calls, as a word of that text does; where the value is none, the one that its number calls
abbrev pub called_by : Neighbours → Option (List (List ℕ)) → Option (List ℕ) → Option ℕ → Option ℕ
called_by network names (Some s) n = node_called network names s
called_by network names None n = numbered network names n

-- the node that a value calls
abbrev pub node_by : Neighbours → Option (List (List ℕ)) → Data → Option ℕ
node_by network names d = called_by network names (as_str d) (option_and_then as_u64 (as_number d))

-- the number from 0 to 4294967295 that a value is
abbrev pub word_by : Data → Option ℕ
word_by d = option_and_then (λ n. if nat_lt n (2 ^ 32) then Some n else None) (option_and_then as_u64 (as_number d))

-- values with that of one field more
abbrev pub with_word : ℕ → Given → ℕ → Option ℕ → Result Given VerifyFault
with_word line given k None = Err (BadState line)
with_word line given k (Some v) = Ok (record { values = set given.values k (Some v) })

-- values with that of the field at a place, where the state has a member of its name
abbrev pub with_member : ℕ → Given → ℕ → Option Data → Result Given VerifyFault
with_member line given k None = Ok given
with_member line given k (Some d) = with_word line given k (word_by d)

-- values with those of the fields of these names, the first of which is at this place
abbrev pub with_fields : ℕ → Data → Given → ℕ → List (List ℕ) → Result Given VerifyFault
with_fields line state given k [] = Ok given
with_fields line state given k (name ∷ names) = and_then (with_member line given k (get name state)) (λ more. with_fields line state more (k + 1) names)

-- how many members there are
abbrev pub members_in : Members → ℕ
members_in no_members = 0
members_in (member k d ms) = members_in ms + 1

-- how many members a value has, where it is an object
abbrev pub size_of : Data → Option ℕ
size_of d = option_map members_in (as_object d)

-- the values, where they are as many as the members: so each member is a field's
abbrev pub if_all : ℕ → Option ℕ → Given → Result Given VerifyFault
if_all line None given = Err (BadState line)
if_all line (Some n) given = if count_by is_some given.values == n then Ok given else Err (BadState line)

-- the values that a state gives, where there is one
unfoldable pub values_by : List (List ℕ) → ℕ → Option Data → Result Given VerifyFault
values_by fields line None = Ok none_given
values_by fields line (Some state) = and_then (with_fields line state none_given 0 fields) (if_all line (size_of state))

-- a member says true
abbrev pub is_true : Option Data → Bool
is_true None = false
is_true (Some d) = unwrap_or (as_bool d) false

-- the object lets a node move
abbrev pub lets_move : Data → Bool
lets_move d = is_true (get (codes "moves") d) || is_true (get (codes "turn") d)

-- the node that an object calls
abbrev pub node_in : PlanView → Option (List (List ℕ)) → ℕ → Data → Result ℕ VerifyFault
node_in plan names line d = node_found line (option_and_then (node_by plan.network names) (get (codes "node") d))

-- the step of an object, by what it has as `reads`
abbrev pub step_in : PlanView → Option (List (List ℕ)) → ℕ → Data → Option Data → Result Step VerifyFault
step_in plan names line d None = if lets_move d then and_then (node_in plan names line d) (λ u. Ok (Write u)) else Err (NoStep line)
step_in plan names line d (Some v) =
    if lets_move d then Err (NoStep line)
    else and_then (node_in plan names line d) (λ u. and_then (slot_found plan.network line u (node_by plan.network names v)) (λ j. Ok (Read u j)))

-- what an object says: a step, and the values of its state
abbrev pub entry_in : PlanView → Option (List (List ℕ)) → ℕ → Data → Result Entry VerifyFault
entry_in plan names line d =
    and_then (step_in plan names line d (get (codes "reads") d)) (λ step.
    and_then (values_by (names_of plan.program) line (get (codes "state") d)) (λ given.
    Ok (record { step = step; given = given })))

-- what a line says that begins with {, by the value that its text is
unfoldable pub object_entry : PlanView → Option (List (List ℕ)) → ℕ → Option Data → Result Entry VerifyFault
object_entry plan names line None = Err (NotJson line)
object_entry plan names line (Some d) = entry_in plan names line d
