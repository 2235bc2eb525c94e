-- When a name of an expression is refused, and by which cause.
use Rattle.std.specs.Prelude.{ℕ, ◌≡◌, ◌≢◌, ◌==◌, Bool, ◌&&◌, ◌||◌, List, [], ◌∷◌, Option, Some, None, if◌then◌else◌}
use Rattle.std.specs.Str.{bytes_eq}
use Rattle.rule_check.specs.WellFormed.{is_among}
use Rattle.model_rules.specs.declared.fault.Cause.{Cause}
use Rattle.model_rules.specs.declared.fault.Cause.TheVariants as cause
use Rattle.model_rules.specs.declared.fault.ExpandFault.{ExpandFault}
use Rattle.model_rules.specs.declared.fault.ExpandFault.TheVariants as fault
use Rattle.model_rules.specs.declared.room.Room.{Room}
use Rattle.model_rules.specs.Terms.{gathers, looks, knows_degree}
use Rattle.model_rules.specs.Frames.{KnownTree, Frame}

-- the place of the item that is expanded
abbrev pub item_at : Room → ℕ
item_at room = room.at

-- how many parts may still be made for it
abbrev pub parts_left : Room → ℕ
parts_left room = room.left

-- the fault, unless memory is out, is that the item at this place is too long
abbrev pub IsTooLong : ℕ → ExpandFault → Type 0
IsTooLong place end = end ≢ fault.Memory → end ≡ fault.At cause.TooLong place

-- the first let of a name
abbrev pub let_for : List KnownTree → List ℕ → Option KnownTree
let_for [] name = None
let_for (known ∷ lets) name = if bytes_eq known.name name then Some known else let_for lets name

-- the cause for a name that nothing known has: it is that of a let whose term is not known yet, which hangs on this one, or of nothing
abbrev pub unknown_cause : List (List ℕ) → List ℕ → Cause → Cause
unknown_cause later name missing = if is_among later name then cause.Ring else missing

-- A let with so many arguments is refused where it has another number of parameters, or names the neighbour itself; and
-- where it has an aggregate within another one, or one within which an argument would name another neighbour.
abbrev pub put_cause : KnownTree → ℕ → Bool → Option Cause
put_cause known count within =
    if known.count == count then
    (if looks known.term then Some cause.NeighbourOutside else (if gathers known.term && within then Some cause.NestedAggregate else None))
    else Some cause.WrongCount

-- Behind `n.` stands no constant and no state. A let is refused there where it has parameters, or where a neighbour does not know it:
-- its degree, an aggregate or a neighbour of its own.
abbrev pub seen_cause : KnownTree → Option Cause
seen_cause known =
    if known.is_let then
    (if known.count == 0 then (if knows_degree known.term || looks known.term then Some cause.NotSeen else None) else Some cause.WrongCount)
    else Some cause.UnknownNear

-- the let that a name is applied as, if there is one
abbrev pub apply_cause : Option KnownTree → List (List ℕ) → List ℕ → ℕ → Bool → Option Cause
apply_cause None later name count within = Some (unknown_cause later name cause.UnknownName)
apply_cause (Some known) later name count within = put_cause known count within

-- A name with so many arguments: a let; a parameter and a field take none, and stand without brackets.
abbrev pub call_cause : Frame → List (List ℕ) → List ℕ → ℕ → Bool → Option Cause
call_cause frame later name count within =
    if is_among frame.parameters name || is_among frame.fields name then Some cause.WrongCount
    else apply_cause (let_for frame.lets name) later name count within

-- a name by itself: a parameter, a field, or a let without arguments
abbrev pub name_cause : Frame → List (List ℕ) → List ℕ → Bool → Option Cause
name_cause frame later name inside =
    if is_among frame.parameters name then None else
    (if is_among frame.fields name then None else apply_cause (let_for frame.lets name) later name 0 inside)

-- the let after `n.`, if there is one
abbrev pub near_let_cause : Option KnownTree → List (List ℕ) → List ℕ → Option Cause
near_let_cause None later name = Some (unknown_cause later name cause.UnknownNear)
near_let_cause (Some known) later name = seen_cause known

-- a name after `n.`, which stands in an aggregate: a field or a let
abbrev pub near_cause : Frame → List (List ℕ) → List ℕ → Bool → Option Cause
near_cause frame later name inside =
    if inside then (if is_among frame.fields name then None else near_let_cause (let_for frame.lets name) later name) else Some cause.NeighbourOutside
