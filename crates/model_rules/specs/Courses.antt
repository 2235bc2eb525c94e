-- When constants, states and lets become known, and which of their faults is told first. Their names are looked at in turns, in each
-- turn all in the text's order; as many turns as there are names are enough.
use Rattle.std.specs.Prelude.{◌≡◌, ◌⊎◌, ℕ, suc, ◌<◌, ◌≤◌, List, [], ◌∷◌, ◌++◌, length, Some, None}
use Rattle.model_text.specs.Tree.{ItemTree}
use Rattle.model_rules.specs.declared.fault.Cause.TheVariants as cause
use Rattle.model_rules.specs.declared.fault.ExpandFault.{ExpandFault}
use Rattle.model_rules.specs.declared.fault.ExpandFault.TheVariants as fault
use Rattle.model_rules.specs.Frames.{KnownTree}
use Rattle.model_rules.specs.Models.{GivenTree}
use Rattle.model_rules.specs.Refusals.{let_for}
use Rattle.model_rules.specs.Definitions.{names_defined, definition_of, frame_in, told_known, seed_first}
use Rattle.model_rules.specs.Faulty.{IsDefinitionFault}

-- the fault that a name is not known yet
abbrev pub IsRing : ExpandFault → Type 0
IsRing found = (at : ℕ) × (found ≡ fault.At cause.Ring at)

-- a name that is not known has this fault, where these are known: the item that defines it has
pub record IsFaultOf (items : List ItemTree) (values : List GivenTree) (lets : List KnownTree) (name : List ℕ) (found : ExpandFault) : Type 0 where
  pub item : ItemTree
  pub unknown : let_for lets name ≡ None
  pub defined : definition_of items name ≡ Some item
  pub wrong : IsDefinitionFault values (frame_in items lets []) (names_defined items) name item found

-- a name becomes known, where these are known: it is not, the item that defines it has no fault there, and tells it to be worth this
pub record BecomesKnown (items : List ItemTree) (values : List GivenTree) (lets : List KnownTree) (name : List ℕ) (known : KnownTree) : Type 0 where
  pub item : ItemTree
  pub unknown : let_for lets name ≡ None
  pub defined : definition_of items name ≡ Some item
  pub right : (e : ExpandFault) → IsDefinitionFault values (frame_in items lets []) (names_defined items) name item e → ⊥
  pub worth : told_known values (frame_in items lets []) name item ≡ Some known

-- what is known after a look at a name: one more where it becomes known, and else the same
abbrev pub IsKnownBehind : List ItemTree → List GivenTree → List KnownTree → List ℕ → List KnownTree → Type 0
IsKnownBehind items values lets name next =
    ((known : KnownTree) × BecomesKnown items values lets name known × (next ≡ lets ++ known ∷ []))
    ⊎ (((known : KnownTree) → BecomesKnown items values lets name known → ⊥) × (next ≡ lets))

-- What is known in a turn, counted from 0, where these names are passed: at first the seed, where no item defines it.
pub record IsCourse (items : List ItemTree) (values : List GivenTree) (known : ℕ → List (List ℕ) → List KnownTree) : Type 0 where
  pub first : known 0 [] ≡ seed_first items values
  pub look : (turn : ℕ) (passed : List (List ℕ)) (name : List ℕ) (behind : List (List ℕ)) → names_defined items ≡ passed ++ name ∷ behind
      → IsKnownBehind items values (known turn passed) name (known turn (passed ++ name ∷ []))
  pub again : (turn : ℕ) → known (suc turn) [] ≡ known turn (names_defined items)

-- none of these names has another fault than a `Ring` when it is looked at in the turn
abbrev pub IsQuiet : List ItemTree → List GivenTree → (ℕ → List (List ℕ) → List KnownTree) → ℕ → List (List ℕ) → Type 0
IsQuiet items values known turn names =
    (passed : List (List ℕ)) (name : List ℕ) (behind : List (List ℕ)) (e : ExpandFault)
    → names ≡ passed ++ name ∷ behind → IsFaultOf items values (known turn passed) name e → IsRing e

-- This is the first fault other than a `Ring`: of a name in a turn, where none of the names before it in the turn has one, and no name
-- in a turn before it.
pub record IsFirstStop (items : List ItemTree) (values : List GivenTree) (known : ℕ → List (List ℕ) → List KnownTree) (found : ExpandFault) : Type 0 where
  pub turn : ℕ
  pub passed : List (List ℕ)
  pub name : List ℕ
  pub behind : List (List ℕ)
  pub cut : names_defined items ≡ passed ++ name ∷ behind
  pub wrong : IsFaultOf items values (known turn passed) name found
  pub stops : IsRing found → ⊥
  pub earlier : IsQuiet items values known turn passed
  pub turns : (other : ℕ) → other < turn → IsQuiet items values known other (names_defined items)

-- none of these names, which stand after others, has a fault when it is looked at in the turn
abbrev pub AreRight : List ItemTree → List GivenTree → (ℕ → List (List ℕ) → List KnownTree) → ℕ → List (List ℕ) → List (List ℕ) → Type 0
AreRight items values known turn others names =
    (passed : List (List ℕ)) (name : List ℕ) (behind : List (List ℕ)) (e : ExpandFault)
    → names ≡ passed ++ name ∷ behind → IsFaultOf items values (known turn (others ++ passed)) name e → ⊥

-- no name has another fault than a `Ring` in any turn
abbrev pub IsNeverStopped : List ItemTree → List GivenTree → (ℕ → List (List ℕ) → List KnownTree) → Type 0
IsNeverStopped items values known = (turn : ℕ) → IsQuiet items values known turn (names_defined items)

-- The names are looked at in as many turns as there are names. Of those that have a fault still in the last, this is that of the last in
-- the text: a `Ring`.
pub record IsLastWaiting (items : List ItemTree) (values : List GivenTree) (known : ℕ → List (List ℕ) → List KnownTree) (found : ExpandFault) : Type 0 where
  pub turn : ℕ
  pub passed : List (List ℕ)
  pub name : List ℕ
  pub behind : List (List ℕ)
  pub cut : names_defined items ≡ passed ++ name ∷ behind
  pub last : suc turn ≡ length (names_defined items)
  pub wrong : IsFaultOf items values (known turn passed) name found
  pub ring : IsRing found
  pub later : AreRight items values known turn (passed ++ name ∷ []) behind

-- A fault of the constants, states and lets: the first other than a `Ring`, or, where there is none, the `Ring` of the last name that
-- does not become known.
pub record IsDefiningFault (items : List ItemTree) (values : List GivenTree) (found : ExpandFault) : Type 0 where
  pub known : ℕ → List (List ℕ) → List KnownTree
  pub course : IsCourse items values known
  pub told : IsFirstStop items values known found ⊎ (IsNeverStopped items values known × IsLastWaiting items values known found)

-- All constants, states and lets become known, as these at last.
pub record AreDefined (items : List ItemTree) (values : List GivenTree) (lets : List KnownTree) : Type 0 where
  pub known : ℕ → List (List ℕ) → List KnownTree
  pub course : IsCourse items values known
  pub quiet : IsNeverStopped items values known
  pub right : (turn : ℕ) → suc turn ≡ length (names_defined items) → AreRight items values known turn [] (names_defined items)
  pub last : lets ≡ known (length (names_defined items)) []

-- ---- laws

-- as many turns as there are names are enough: after them nothing more becomes known
abbrev pub TurnsAreEnough : Type 0
TurnsAreEnough =
    (items : List ItemTree) (values : List GivenTree) (known : ℕ → List (List ℕ) → List KnownTree) → IsCourse items values known
    → (turn : ℕ) → length (names_defined items) ≤ turn → known turn [] ≡ known (length (names_defined items)) []

-- no name stands twice
abbrev pub AreDistinct : List (List ℕ) → Type 0
AreDistinct names =
    (ahead : List (List ℕ)) (name : List ℕ) (rest : List (List ℕ)) → names ≡ ahead ++ name ∷ rest
    → (between : List (List ℕ)) (other : List ℕ) (behind : List (List ℕ)) → rest ≡ between ++ other ∷ behind → name ≡ other → ⊥

-- where no name stands twice, that of which a `Ring` is told never becomes known
abbrev pub WaitsForever : Type 0
WaitsForever =
    (items : List ItemTree) (values : List GivenTree) (known : ℕ → List (List ℕ) → List KnownTree) (found : ExpandFault) → IsCourse items values known → AreDistinct (names_defined items)
    → (waiting : IsLastWaiting items values known found) → (turn : ℕ) → let_for (known turn []) waiting.name ≡ None

-- and each name after it becomes known
abbrev pub OthersAreKnown : Type 0
OthersAreKnown =
    (items : List ItemTree) (values : List GivenTree) (known : ℕ → List (List ℕ) → List KnownTree) (found : ExpandFault) → IsCourse items values known
    → (waiting : IsLastWaiting items values known found) → (ahead : List (List ℕ)) (other : List ℕ) (rest : List (List ℕ)) → waiting.behind ≡ ahead ++ other ∷ rest
    → (turn : ℕ) × (as_this : KnownTree) × (let_for (known turn []) other ≡ Some as_this)

-- where all are said to become known, each is
abbrev pub AllAreKnown : Type 0
AllAreKnown =
    (items : List ItemTree) (values : List GivenTree) (lets : List KnownTree) → AreDefined items values lets
    → (passed : List (List ℕ)) (name : List ℕ) (behind : List (List ℕ)) → names_defined items ≡ passed ++ name ∷ behind → (as_this : KnownTree) × (let_for lets name ≡ Some as_this)
