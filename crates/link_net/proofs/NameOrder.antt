-- The names of the field sets rise as the keys of the table do.
use Rattle.std.proofs.Common.{◌≡◌, ◌∙◌, ℕ, List, [], ◌∷◌, ◌++◌, map, Less, nat_cmp, String, Global, string_bytes, sym, ap, append-nil, append_assoc}
use Rattle.std.proofs.lemmas.List.{map-append}
use Rattle.std.specs.Cmp.Lexicographic.{slice_cmp}
use Rattle.std.specs.List.{AllByRecursion}
use Rattle.std.specs.List.Sorted.{IsStrictlySortedBy}
use Rattle.std.specs.Map.{keys_of}
use Rattle.std.specs.String.{string_cmp}
use Rattle.toml.proofs.Views.{Entry}
use Rattle.link_net.specs.declared.field_set.FieldSet.{FieldSet}
use Rattle.link_net.specs.Names.{AreRising}

-- the keys of entries as bytes
abbrev pub key_bytes : List Entry → List (List ℕ)
key_bytes es = map (λ e. string_bytes e.0) es

abbrev pub names : List FieldSet → List (List ℕ)
names sets = map (λ s. s.name) sets

above : (k : String Global) (es : List Entry) → AllByRecursion (λ l. string_cmp k l ≡ Less) (keys_of es) → AllByRecursion (λ l. slice_cmp nat_cmp (string_bytes k) l ≡ Less) (key_bytes es)
above k [] h = tt
above k (e ∷ es) h = (h.0, above k es h.1)

bytes_rise : (es : List Entry) → IsStrictlySortedBy string_cmp (keys_of es) → IsStrictlySortedBy (slice_cmp nat_cmp) (key_bytes es)
unfolding IsStrictlySortedBy
bytes_rise [] h = tt
bytes_rise (e ∷ es) h = (above e.0 es h.0, bytes_rise es h.1)

-- one more name read
pub names_step : (all : List (List ℕ)) (sets : List FieldSet) (set : FieldSet) (e : Entry) (es : List Entry) → string_bytes e.0 ≡ set.name
    → all ≡ names sets ++ key_bytes (e ∷ es) → all ≡ names (sets ++ set ∷ []) ++ key_bytes es
names_step all sets set e es is before = before ∙ ap (λ n. names sets ++ n ∷ key_bytes es) is ∙ sym (append_assoc (names sets) (set.name ∷ []) (key_bytes es)) ∙ ap (λ ns. ns ++ key_bytes es) (sym (map-append (λ s. s.name) sets (set ∷ [])))

-- all names read
pub names_rise : (sets : List FieldSet) (es left : List Entry) → IsStrictlySortedBy string_cmp (keys_of es) → left ≡ [] → key_bytes es ≡ names sets ++ key_bytes left → AreRising sets
names_rise sets es left order done is =
    let all : key_bytes es ≡ names sets = is ∙ ap (λ l. names sets ++ key_bytes l) done ∙ append-nil (names sets) in
    rw (← all) (bytes_rise es order)

pub none_rise : (sets : List FieldSet) → sets ≡ [] → AreRising sets
unfolding IsStrictlySortedBy
none_rise sets is = rw is tt
