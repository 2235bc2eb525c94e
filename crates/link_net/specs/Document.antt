-- What a network document says: the shape of its keys and values.
use Rattle.std.specs.Prelude.{ℕ, ℤ, pos, Bool, false, ◌||◌, not, List, [], ◌∷◌, Option, Some, None, option_map, option_and_then, codes}
use Rattle.std.specs.Str.{bytes_eq}
use Rattle.toml.specs.Data.{Data, Items, no_items, item, Members, no_members, member, get_member, as_integer, as_array, as_table}
use Rattle.link_net.specs.declared.field_set.FieldSet.{FieldSet}
use Rattle.link_net.specs.declared.draft.Draft.{Draft}

-- one of the four keys
abbrev pub is_known : List ℕ → Bool
is_known key = ((bytes_eq key (codes "nodes") || bytes_eq key (codes "links")) || bytes_eq key (codes "phase")) || bytes_eq key (codes "set")

-- a key at the top other than the four
abbrev pub has_unknown_key : Members → Bool
has_unknown_key no_members = false
has_unknown_key (member key value rest) = not (is_known key) || has_unknown_key rest

-- two integers
abbrev pub pair_in : Items → Option (ℤ × ℤ)
pair_in (item a (item b no_items)) = option_and_then (λ x. option_map (λ y. (x, y)) (as_integer b)) (as_integer a)
pair_in _ = None

-- an array of two integers
abbrev pub pair_of : Data → Option (ℤ × ℤ)
pair_of d = option_and_then pair_in (as_array d)

-- an array of arrays of two integers
abbrev pub pairs_of : Items → Option (List (ℤ × ℤ))
pairs_of no_items = Some []
pairs_of (item d ds) = option_and_then (λ p. option_map (λ ps. p ∷ ps) (pairs_of ds)) (pair_of d)

-- two integers, which are a link of weight 1, or three
abbrev pub link_in : Items → Option (ℤ × ℤ × ℤ)
link_in (item a (item b no_items)) = option_and_then (λ x. option_map (λ y. (x, y, pos 1)) (as_integer b)) (as_integer a)
link_in (item a (item b (item c no_items))) = option_and_then (λ x. option_and_then (λ y. option_map (λ z. (x, y, z)) (as_integer c)) (as_integer b)) (as_integer a)
link_in _ = None

-- an array of two or three integers
abbrev pub link_of : Data → Option (ℤ × ℤ × ℤ)
link_of d = option_and_then link_in (as_array d)

-- an array of arrays of two or three integers
abbrev pub links_in : Items → Option (List (ℤ × ℤ × ℤ))
links_in no_items = Some []
links_in (item d ds) = option_and_then (λ l. option_map (λ ls. l ∷ ls) (links_in ds)) (link_of d)

-- a table from field names to arrays of arrays of two integers
abbrev pub sets_of : Members → Option (List FieldSet)
sets_of no_members = Some []
sets_of (member key value rest) =
    option_and_then (λ ps. option_map (λ sets. record { name = key; pairs = ps } ∷ sets) (sets_of rest)) (option_and_then pairs_of (as_array value))

-- the value of a key that may be left out
abbrev pub read_or : {A : Type 0} → A → (Data → Option A) → Option Data → Option A
read_or default read None = Some default
read_or default read (Some d) = read d

-- the integer at `nodes`
abbrev pub nodes_of : Members → Option ℤ
nodes_of ms = option_and_then as_integer (get_member (codes "nodes") ms)

-- the links at `links`
abbrev pub links_of : Members → Option (List (ℤ × ℤ × ℤ))
links_of ms = option_and_then links_in (option_and_then as_array (get_member (codes "links") ms))

-- the integer at `phase`, or 0
abbrev pub phase_of : Members → Option ℤ
phase_of ms = read_or (pos 0) as_integer (get_member (codes "phase") ms)

-- the field names and pairs at `set`, or none
abbrev pub field_sets_of : Members → Option (List FieldSet)
field_sets_of ms = read_or [] (λ d. option_and_then sets_of (as_table d)) (get_member (codes "set") ms)

-- the next step, at a value that is there
abbrev given : {A B : Type 0} → Option A → (A → Option B) → Option B
given o next = option_and_then next o

-- the draft that a document of the right shape is
abbrev pub draft_of : Members → Option Draft
draft_of ms =
    given (nodes_of ms) (λ nodes.
    given (links_of ms) (λ links.
    given (phase_of ms) (λ phase.
    given (field_sets_of ms) (λ sets.
    Some (record { nodes = nodes; links = links; phase = phase; sets = sets })))))
