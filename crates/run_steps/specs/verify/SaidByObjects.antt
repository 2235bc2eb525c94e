-- What JSON objects of a trace say, by the values that they are.
use Rattle.std.specs.Prelude.{◌≡◌, ◌⊎◌, ◌↔◌, true, ℕ, ◌<◌, ◌^◌, List, codes, length, slice_get, Option, Some, None}
use Rattle.link_net.specs.Neighbours.{Neighbours, neighbour_at}
use Rattle.rule_check.specs.Value.{names_of}
use Rattle.rounds_plan.specs.Plans.{PlanView}
use Rattle.serde_json.specs.Data.{Data, boolean, number, string, object, unsigned, Members, no_members, member}
use Rattle.serde_json.specs.Find.{get}
use Rattle.unison_world.specs.declared.step.Step.{Step}
use Rattle.unison_world.specs.declared.step.Step.TheVariants.{Read, Write}
use Rattle.run_steps.specs.script.Spelled.{Calls}
use Rattle.run_steps.specs.declared.verify.entry.Entry.{Entry}
use Rattle.run_steps.specs.declared.verify.entry.Given.{Given}
use Rattle.run_steps.specs.verify.Given.{value_given}

-- the value calls node u: a string as a word of that text does, a number by itself where no names are given
abbrev pub ValueCalls : Neighbours → Option (List (List ℕ)) → Data → ℕ → Type 0
ValueCalls network names (string word) u = Calls network names word u
ValueCalls network names (number n) u = (u < length network) × (n ≡ unsigned u) × (names ≡ None)
ValueCalls network names value u = ⊥

-- the object has a `moves` or a `turn` that is true
abbrev pub LetsMove : Data → Type 0
LetsMove o = (get (codes "moves") o ≡ Some (boolean true)) ⊎ (get (codes "turn") o ≡ Some (boolean true))

-- the object's `node` calls node u
abbrev pub HasNode : Neighbours → Option (List (List ℕ)) → Data → ℕ → Type 0
HasNode network names o u = (value : Data) × (get (codes "node") o ≡ Some value) × ValueCalls network names value u

-- the object says this step: a move, where it has no `reads`, or a read, where it lets no node move and its `reads` calls a neighbour
abbrev pub SaysStep : Neighbours → Option (List (List ℕ)) → Data → Step → Type 0
SaysStep network names o (Write u) = (get (codes "reads") o ≡ None) × LetsMove o × HasNode network names o u
SaysStep network names o (Read u j) =
    (whom : Data) × (v : ℕ) × (get (codes "reads") o ≡ Some whom) × (LetsMove o → ⊥) × HasNode network names o u × (neighbour_at network u j ≡ Some v) × ValueCalls network names whom v

-- the member of this name and value is one of these
abbrev pub IsMember : List ℕ → Data → Members → Type 0
IsMember name value no_members = ⊥
IsMember name value (member other d members) = ((name ≡ other) × (value ≡ d)) ⊎ IsMember name value members

-- no two of these members have one name
abbrev pub AreApart : Members → Type 0
AreApart no_members = Unit {0}
AreApart (member name value members) = ((other : Data) → IsMember name other members → ⊥) × AreApart members

-- a member gives the field at place k the value v: it has the field's name and is that number, which is below 2 ^ 32
abbrev pub SaysValue : List (List ℕ) → Members → ℕ → ℕ → Type 0
SaysValue fields members k v = (name : List ℕ) × (slice_get fields k ≡ Some name) × IsMember name (number (unsigned v)) members × (v < 2 ^ 32)

-- the members give these values: each is of a field, no two have one name, and a value is given of a field exactly where a member says it
pub record Give (fields : List (List ℕ)) (members : Members) (given : Given) : Type 0 where
  pub each : (name : List ℕ) (value : Data) → IsMember name value members → (k v : ℕ) × (slice_get fields k ≡ Some name) × (value ≡ number (unsigned v)) × (v < 2 ^ 32)
  pub apart : AreApart members
  pub places : length given.values ≡ 8
  pub exactly : (k v : ℕ) → (value_given given k ≡ Some v) ↔ SaysValue fields members k v

-- what an object has as `state` gives these values: nothing none, an object those of its members
abbrev pub StateGives : List (List ℕ) → Option Data → Given → Type 0
StateGives fields None given = (length given.values ≡ 8) × ((k v : ℕ) → value_given given k ≡ Some v → ⊥)
StateGives fields (Some (object members)) given = Give fields members given
StateGives fields (Some value) given = ⊥

-- the object says the entry: its step, and by its `state` its values
pub record SaysObject (plan : PlanView) (names : Option (List (List ℕ))) (o : Data) (entry : Entry) : Type 0 where
  pub step : SaysStep plan.network names o entry.step
  pub given : StateGives (names_of plan.program) (get (codes "state") o) entry.given
