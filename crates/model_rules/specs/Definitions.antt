-- What is wrong with the constants, states and lets of a model, and what they are worth: the first fault, in the order in which they
-- become known, found the way that the expander goes, for clauses of private functions. By turns it is told in Courses.
use Rattle.std.specs.Prelude.{ℕ, zero, suc, Bool, true, false, nat_lt, List, [], ◌∷◌, ◌++◌, length, Option, Some, None, if◌then◌else◌, ◌≡◌}
use Rattle.std.specs.List.{find, flat_map}
use Rattle.std.specs.Option.{option_or, option_to_list}
use Rattle.rule_check.specs.Value.{place}
use Rattle.rule_check.specs.WellFormed.{is_among}
use Rattle.model_text.specs.Tree.{Tree, NameAt, ItemTree, ConstTree, StatesTree, FieldTree, LetTree, NextTree}
use Rattle.model_rules.specs.declared.fault.Cause.{Cause}
use Rattle.model_rules.specs.declared.fault.Cause.TheVariants as cause
use Rattle.model_rules.specs.declared.fault.ExpandFault.{ExpandFault}
use Rattle.model_rules.specs.declared.fault.ExpandFault.TheVariants as fault
use Rattle.model_rules.specs.Terms.{NumberTerm}
use Rattle.model_rules.specs.Meaning.{seed_name}
use Rattle.model_rules.specs.Frames.{KnownTree, Frame}
use Rattle.model_rules.specs.Models.{GivenTree, bare, given_or, given_value, names_it, draws_of, fields_of}
use Rattle.model_rules.specs.TermFor.{term_for}
use Rattle.model_rules.specs.Refusals.{let_for}
use Rattle.model_rules.specs.FirstFaults.{told_at}
use Rattle.model_rules.specs.Constants.{amount_in}
use Rattle.model_rules.specs.Amounts.{value_fault, body_fault}

-- the names that an item defines: a constant or a let its own, an item of states each state
abbrev pub defined_by : ItemTree → List (List ℕ)
defined_by (ConstTree n body) = n.name ∷ []
defined_by (StatesTree n members) = bare members
defined_by (FieldTree n states initial) = []
defined_by (LetTree n parameters body) = n.name ∷ []
defined_by (NextTree n body) = []

-- the names of all constants, states and lets, in the text's order
abbrev pub names_defined : List ItemTree → List (List ℕ)
names_defined items = flat_map defined_by items

-- the first item that defines a name
abbrev pub definition_of : List ItemTree → List ℕ → Option ItemTree
definition_of items name = find (λ item. names_it item name) items

-- what is known of a model where these lets are, in the expression of a constant, or of a let with these parameters
abbrev pub frame_in : List ItemTree → List KnownTree → List (List ℕ) → Frame
frame_in items lets parameters = record { draws = draws_of items; fields = fields_of items; lets = lets; parameters = parameters }

-- a constant that the caller sets has no fault
abbrev pub unless_given : Option ℕ → Option ExpandFault → Option ExpandFault
unless_given None found = found
unless_given (Some v) found = None

-- a state is one of the first 256
abbrev pub member_cause : ℕ → Option Cause
member_cause k = if nat_lt k 256 then None else Some cause.TooManyStates

abbrev pub member_fault : List (List ℕ) → List ℕ → ℕ → Option ExpandFault
member_fault members name at = if is_among members name then told_at at (member_cause (place members name)) else None

abbrev pub member_known : List (List ℕ) → List ℕ → Option KnownTree
member_known members name =
    if is_among members name then Some (record { name = name; is_let = false; count = 0; term = NumberTerm (place members name) }) else None

-- what is known, with these parameters in place of others
abbrev pub under : Frame → List (List ℕ) → Frame
under frame parameters = record { draws = frame.draws; fields = frame.fields; lets = frame.lets; parameters = parameters }

-- a let, with all that it uses put in
abbrev pub known_let : Frame → List ℕ → List NameAt → Tree → KnownTree
known_let frame name parameters body =
    record { name = name; is_let = true; count = length parameters; term = term_for (under frame (bare parameters)) body }

-- The first fault of what an item tells a name to be worth, where this is known: that of the expression of a constant that the caller
-- does not set, or of a let.
abbrev pub told_fault : List GivenTree → Frame → List (List ℕ) → List ℕ → ItemTree → Option ExpandFault
told_fault values frame later name (ConstTree n body) =
    unless_given (given_value values name) (value_fault (under frame []) later body n.at)
told_fault values frame later name (StatesTree n members) = member_fault (bare members) name n.at
told_fault values frame later name (FieldTree n states initial) = None
told_fault values frame later name (LetTree n parameters body) =
    body_fault (under frame (bare parameters)) later body n.at
told_fault values frame later name (NextTree n body) = None

-- what an item tells a name to be worth, where this is known: a constant what the caller gives it, or else the number that its
-- expression is; a state its place; a let its expression with all that it uses put in
abbrev pub told_known : List GivenTree → Frame → List ℕ → ItemTree → Option KnownTree
told_known values frame name (ConstTree n body) =
    Some (record { name = name; is_let = false; count = 0; term = NumberTerm (given_or (given_value values name) (amount_in (term_for (under frame []) body))) })
told_known values frame name (StatesTree n members) = member_known (bare members) name
told_known values frame name (FieldTree n states initial) = None
told_known values frame name (LetTree n parameters body) = Some (known_let frame name parameters body)
told_known values frame name (NextTree n body) = None

-- the fault of a name where these lets are known: that of the item that defines it
abbrev pub fault_by : List ItemTree → List GivenTree → List KnownTree → List ℕ → Option ItemTree → Option ExpandFault
fault_by items values lets name None = None
fault_by items values lets name (Some item) = told_fault values (frame_in items lets []) (names_defined items) name item

-- what the item that defines a name tells it to be worth there
abbrev pub known_by : List ItemTree → List GivenTree → List KnownTree → List ℕ → Option ItemTree → Option KnownTree
known_by items values lets name None = None
known_by items values lets name (Some item) = told_known values (frame_in items lets []) name item

-- a name that is known has no fault
abbrev pub unless_known : Option KnownTree → Option ExpandFault → Option ExpandFault
unless_known None found = found
unless_known (Some known) found = None

abbrev pub fault_of : List ItemTree → List GivenTree → List KnownTree → List ℕ → Option ExpandFault
fault_of items values lets name = unless_known (let_for lets name) (fault_by items values lets name (definition_of items name))

-- a name becomes known where it was not, and its item has no fault there
abbrev pub where_none : Option ExpandFault → Option KnownTree → Option KnownTree
where_none None known = known
where_none (Some e) known = None

abbrev pub unless_there : Option KnownTree → Option KnownTree → Option KnownTree
unless_there None known = known
unless_there (Some k) known = None

abbrev pub becomes : List ItemTree → List GivenTree → List KnownTree → List ℕ → Option KnownTree
becomes items values lets name =
    unless_there (let_for lets name) (where_none (fault_by items values lets name (definition_of items name)) (known_by items values lets name (definition_of items name)))

-- what is known once a name has been looked at, and once all of these have been, in order
abbrev pub with_name : List ItemTree → List GivenTree → List KnownTree → List ℕ → List KnownTree
with_name items values lets name = lets ++ option_to_list (becomes items values lets name)

abbrev pub known_along : List ItemTree → List GivenTree → List KnownTree → List (List ℕ) → List KnownTree
known_along items values lets [] = lets
known_along items values lets (name ∷ names) = known_along items values (with_name items values lets name) names

-- a fault other than that a name is not known yet, which may be known later
abbrev pub is_ring : ExpandFault → Bool
is_ring (fault.At cause.Ring at) = true
is_ring _ = false

abbrev pub stopping : Option ExpandFault → Option ExpandFault
stopping None = None
stopping (Some e) = if is_ring e then None else Some e

-- the first such fault of these names, looked at in order
abbrev pub stop_along : List ItemTree → List GivenTree → List KnownTree → List (List ℕ) → Option ExpandFault
stop_along items values lets [] = None
stop_along items values lets (name ∷ names) =
    option_or (stopping (fault_of items values lets name)) (stop_along items values (with_name items values lets name) names)

-- the last fault of these names, looked at in order
abbrev pub last_along : List ItemTree → List GivenTree → List KnownTree → List (List ℕ) → Option ExpandFault
last_along items values lets [] = None
last_along items values lets (name ∷ names) =
    option_or (last_along items values (with_name items values lets name) names) (fault_of items values lets name)

-- What is known where all names have been looked at so many times, in the text's order each time: so a constant or a let becomes known
-- once all that it uses is. As often as there are names is enough.
abbrev pub known_after : List ItemTree → List GivenTree → List KnownTree → ℕ → List KnownTree
known_after items values lets zero = lets
known_after items values lets (suc k) = known_along items values (known_after items values lets k) (names_defined items)

-- the first fault, other than that a name is not known yet, that is met so
abbrev pub stop_after : List ItemTree → List GivenTree → List KnownTree → ℕ → Option ExpandFault
stop_after items values lets zero = None
stop_after items values lets (suc k) =
    option_or (stop_after items values lets k) (stop_along items values (known_after items values lets k) (names_defined items))

-- the last fault that is met the last time
abbrev pub last_after : List ItemTree → List GivenTree → List KnownTree → ℕ → Option ExpandFault
last_after items values lets zero = None
last_after items values lets (suc k) = last_along items values (known_after items values lets k) (names_defined items)

-- The first fault of the constants, states and lets of a model in which these lets are known: one that is met where all names are
-- looked at again and again, as often as there are names, other than that a name is not known yet; or else that the last of the names
-- that are still not known then uses itself, or one that does.
abbrev pub defining_fault : List ItemTree → List GivenTree → List KnownTree → Option ExpandFault
defining_fault items values lets =
    option_or (stop_after items values lets (length (names_defined items))) (last_after items values lets (length (names_defined items)))

-- what is known of a model before any item is looked at: the seed, where no item defines it
abbrev pub unless_defined : Option ItemTree → List KnownTree → List KnownTree
unless_defined None lets = lets
unless_defined (Some item) lets = []

abbrev pub seed_first : List ItemTree → List GivenTree → List KnownTree
seed_first items values =
    unless_defined (definition_of items seed_name) (record { name = seed_name; is_let = false; count = 0; term = NumberTerm (given_or (given_value values seed_name) 0) } ∷ [])

-- What is known and wrong once a name has been looked at where these lets were known: this is known now, this fault was found, and it
-- stops nothing.
pub record IsLooked (items : List ItemTree) (values : List GivenTree) (lets : List KnownTree) (name : List ℕ) (found : Option ExpandFault) (now : List KnownTree) : Type 0 where
  pub known : now ≡ with_name items values lets name
  pub told : found ≡ fault_of items values lets name
  pub going : stopping (fault_of items values lets name) ≡ None

-- and once all of these have been, in order, of which this is the last fault
pub record IsPassed (items : List ItemTree) (values : List GivenTree) (lets : List KnownTree) (names : List (List ℕ)) (found : Option ExpandFault) (now : List KnownTree) : Type 0 where
  pub known : now ≡ known_along items values lets names
  pub told : found ≡ last_along items values lets names
  pub going : stop_along items values lets names ≡ None

-- what is known of a model in the end
abbrev pub settled : List ItemTree → List GivenTree → List KnownTree → List KnownTree
settled items values lets = known_after items values lets (length (names_defined items))
