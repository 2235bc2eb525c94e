-- Values of JSON, and their members.
use Rattle.std.proofs.Common.{◌≡◌, inl, inr, ℕ, false, IsUtf8, List, [], ◌∷◌, map, Some, None, Ok, Err, refl, sym, ap, ◌∙◌}
use Rattle.std.specs.Str.{is_utf8}
use Rattle.std.proofs.lemmas.Bool.{cases_Bool}
use Rattle.std.proofs.lemmas.Str.{IsUtf8-from_is_utf8, is_utf8-from_IsUtf8}
use Rattle.serde_json.specs.Data.{Data}
use Rattle.serde_json.specs.Find.{get, as_array}
use Rattle.serde_json.specs.Read.{read}
use Rattle.serde_json.specs.View.{view, items_of, items_view}
use Rattle.serde_json.specs.declared.value.Value.{Value}
use Rattle.import_formats.specs.declared.json.fault.JsonFault.TheVariants.{NotUtf8, NotJson}
use Rattle.import_formats.specs.json.Graphs.{items_in, listed, value_of}

not_utf8 : (bytes : List ℕ) → (IsUtf8 bytes → ⊥) → is_utf8 bytes ≡ false
not_utf8 bytes bad =
    elim (cases_Bool (is_utf8 bytes)) [
      | inl good ↦ absurd (bad (IsUtf8-from_is_utf8 bytes good))
      | inr other ↦ other
    ]

pub no_utf8 : (bytes : List ℕ) → (IsUtf8 bytes → ⊥) → value_of bytes ≡ Err NotUtf8
no_utf8 bytes bad = rw (not_utf8 bytes bad) refl

pub is_value : (bytes text : List ℕ) (d : Data) → text ≡ bytes → IsUtf8 bytes → read text ≡ Some d → value_of bytes ≡ Ok d
is_value bytes text d same is told = (let here : read bytes ≡ Some d = ap read (sym same) ∙ told in rw (is_utf8-from_IsUtf8 bytes is, here) refl)

pub no_value : (bytes text : List ℕ) → text ≡ bytes → IsUtf8 bytes → read text ≡ None → value_of bytes ≡ Err (NotJson 0 0)
no_value bytes text same is told = (let here : read bytes ≡ None = ap read (sym same) ∙ told in rw (is_utf8-from_IsUtf8 bytes is, here) refl)

listed_all : (ds : List Data) → listed (items_of ds) ≡ ds
listed_all [] = refl
listed_all (d ∷ ds) = ap (λ rest. d ∷ rest) (listed_all ds)

-- the items of a list that is there
pub items_found : (key : List ℕ) (graph d : Data) (vs items : List Value) → Some d ≡ get key graph → Some (items_view vs) ≡ as_array d → items ≡ vs → Some (map view items) ≡ items_in key graph
items_found key graph d vs items got is same = rw (same, ← got, ← is) (ap Some (sym (listed_all (map view vs))))
