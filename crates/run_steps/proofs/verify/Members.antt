-- Members of JSON objects.
use Rattle.std.proofs.Common.{◌≡◌, ℕ, ◌+◌, ◌<◌, List, [], ◌∷◌, length, drop, get_or, slice_get, Option, Some, None, Bor, String, refl, sym, ap, ◌∙◌, arith}
use Rattle.std.specs.Option.{option_map, unwrap_or}
use Rattle.std.specs.declared.alloc.Global.{Global}
use Rattle.std.proofs.lemmas.List.{drop_more}
use Rattle.std.proofs.lemmas.Option.{slice_get-get_or}
use Rattle.serde_json.specs.Data.{Data}
use Rattle.serde_json.specs.Find.{get, as_object}
use Rattle.serde_json.specs.View.{members_view}
use Rattle.serde_json.specs.declared.value.Value.{Value}
use Rattle.run_steps.specs.declared.verify.entry.Given.{Given}
use Rattle.run_steps.specs.verify.Fields.{and_then}
use Rattle.run_steps.specs.verify.Objects.{members_in, size_of, with_member, with_fields}

sized : (es : List (String Global × Value)) → members_in (members_view es) ≡ length es
sized [] = refl
sized (e ∷ es) = (let r = sized es in omega arith)

-- an object has as many members as its map has entries
pub size-is : (d : Data) (n : ℕ) (es : List (String Global × Value)) → Some (members_view es) ≡ as_object d → n ≡ length es → Some n ≡ size_of d
size-is d n es h many = ap Some (many ∙ sym (sized es)) ∙ ap (option_map members_in) h

pick : (o : Option (Bor (List ℕ))) (d : Bor (List ℕ)) (x : List ℕ) → option_map (λ (n : Bor (List ℕ)). n.now) o ≡ Some x → (unwrap_or o d).now ≡ x
pick None d x h = absurd (cc)
pick (Some b) d x h = (let e : b.now ≡ x = cc in e)

-- the name at a place is the next one
pub name-next : (names : List (List ℕ)) (k : ℕ) (name d : Bor (List ℕ)) (o : Option (Bor (List ℕ))) → k < length names → option_map (λ (n : Bor (List ℕ)). n.now) o ≡ slice_get names k → name ≡ unwrap_or o d → drop k names ≡ name.now ∷ drop (k + 1) names
name-next names k name d o less h e =
    let at = slice_get-get_or names k [] less in
    let same : get_or names k [] ≡ name.now = sym (ap (λ (b : Bor (List ℕ)). b.now) e ∙ pick o d (get_or names k []) (h ∙ at)) in
    drop_more names k [] less ∙ ap (λ (x : List ℕ). x ∷ drop (k + 1) names) same

-- the values behind the field of that name
pub fields-next : (line k : ℕ) (d : Data) (given : Given) (names rest : List (List ℕ)) (name : List ℕ) → names ≡ name ∷ rest
    → with_fields line d given k names ≡ and_then (with_member line given k (get name d)) (λ more. with_fields line d more (k + 1) rest)
fields-next line k d given names rest name e = ap (with_fields line d given k) e
