-- Values of fields that words give.
use Rattle.std.specs.Prelude.{◌≡◌, ◌≢◌, ◌↔◌, ℕ, ◌<◌, ◌^◌, List, ◌∷◌, ◌++◌, length, slice_get, slice_index, slice_index_or, Option, Some, None}
use Rattle.std.specs.Fmt.{decimal}
use Rattle.run_steps.specs.declared.verify.entry.Given.{Given}

-- the value that is given of the field at a place, where one is
abbrev pub value_given : Given → ℕ → Option ℕ
value_given given k = slice_index_or given.values k None

-- the word is FIELD=VALUE: what stands before its first = is the name of the field at place k, and what stands after that is the decimal spelling of v, a number below 2 ^ 32
pub record IsFieldValue (fields : List (List ℕ)) (word : List ℕ) (k v : ℕ) : Type 0 where
  pub name : List ℕ
  pub are : word ≡ name ++ 61 ∷ decimal v
  pub first_equals : (i : ℕ) → i < length name → slice_index name i ≢ 61
  pub named : slice_get fields k ≡ Some name
  pub first_named : (i : ℕ) → i < k → slice_get fields i ≢ Some name
  pub fits : v < 2 ^ 32

-- of the words the one at place i gives the field at place k the value v
abbrev pub SaysValue : List (List ℕ) → List (List ℕ) → ℕ → ℕ → ℕ → Type 0
SaysValue fields words i k v = (word : List ℕ) × (slice_get words i ≡ Some word) × IsFieldValue fields word k v

-- each of the words is FIELD=VALUE
abbrev pub AreFieldValues : List (List ℕ) → List (List ℕ) → Type 0
AreFieldValues fields words = (i : ℕ) → i < length words → (k v : ℕ) × SaysValue fields words i k v

-- the words give these values: each is FIELD=VALUE, no two are of one field, and a value is given of a field exactly where a word says it
pub record Gives (fields : List (List ℕ)) (words : List (List ℕ)) (given : Given) : Type 0 where
  pub each : AreFieldValues fields words
  pub once : (i j k v w : ℕ) → SaysValue fields words i k v → SaysValue fields words j k w → i ≡ j
  pub places : length given.values ≡ 8
  pub exactly : (k v : ℕ) → (value_given given k ≡ Some v) ↔ ((i : ℕ) × SaysValue fields words i k v)

-- some word is not FIELD=VALUE
abbrev pub HasBadField : List (List ℕ) → List (List ℕ) → Type 0
HasBadField fields words = (i : ℕ) × (i < length words) × ((k v : ℕ) → SaysValue fields words i k v → ⊥)

-- each is, and two are of one field
pub record HasFieldTwice (fields : List (List ℕ)) (words : List (List ℕ)) : Type 0 where
  pub each : AreFieldValues fields words
  pub one : ℕ
  pub other : ℕ
  pub apart : one < other
  pub field : ℕ
  pub value : ℕ
  pub another : ℕ
  pub said : SaysValue fields words one field value
  pub again : SaysValue fields words other field another
