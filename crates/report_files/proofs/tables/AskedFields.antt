-- Fields that are asked to hold nodes.
use Rattle.std.proofs.Common.{◌≡◌, ◌≢◌, ℕ, ◌+◌, ◌<◌, ◌≤◌, Bool, true, false, List, length, get_or, set, map, replicate, refl, sym, ap, subst, ◌∙◌, arith, Some, slice_get, inl, inr}
use Rattle.std.specs.Prelude.{◌↔◌}
use Rattle.std.specs.Option.{option_map}
use Rattle.std.proofs.lemmas.Bool.{cases_lt, cases_eq}
use Rattle.std.proofs.lemmas.List.{get_or-set_same, get_or-set_other, get_or-replicate, get_or_past, length-replicate, length-map}
use Rattle.std.proofs.lemmas.Option.{slice_get-map, slice_get-get_or, slice_get_within}
use Rattle.report_files.specs.tables.Csv.{IsFirstPlace, HasField, IsAsked, AreNamed, AreMarks}

-- the element of a list that is seen through a view
pub seen_at : {A : Type 0} (view : A → List ℕ) (xs : List A) (k : ℕ) (x : A) (name : List ℕ) → k < length xs → x ≡ get_or xs k x → view x ≡ name → slice_get (map view xs) k ≡ Some name
seen_at view xs k x name inside is same = slice_get-map view xs k ∙ ap (option_map view) (slice_get-get_or xs k x inside ∙ ap Some (sym is)) ∙ ap Some same

first_once : (fields : List (List ℕ)) (name : List ℕ) (p q : ℕ) → IsFirstPlace fields name p → IsFirstPlace fields name q → p ≡ q
first_once fields name p q first second = elim (cases_lt p q) [
  | inl below ↦ absurd (second.before p below first.found)
  | inr above ↦ elim (cases_lt q p) [ inl below ↦ absurd (first.before q below second.found) | inr same ↦ omega arith ]
]

-- the marks so far
abbrev pub Marked : List (List ℕ) → List (List ℕ) → List Bool → ℕ → Type 0
Marked fields asked marks count = (place : ℕ) → (get_or marks place false ≡ true) ↔ IsAsked fields asked count place

no_mark : (n place : ℕ) → get_or (replicate n false) place false ≡ false
no_mark n place = elim (cases_lt place n) [ inl near ↦ get_or-replicate n place false false near | inr far ↦ get_or_past (replicate n false) place false (omega (arith, length-replicate n false)) ]

asked_more : (fields asked : List (List ℕ)) (k place : ℕ) → IsAsked fields asked k place → IsAsked fields asked (k + 1) place
asked_more fields asked k place ask = record { k = ask.k; name = ask.name; within = omega (arith, ask.within); asks = ask.asks; first = ask.first }

asked_before : (fields asked : List (List ℕ)) (k at place : ℕ) (name : List ℕ) → slice_get asked k ≡ Some name → IsFirstPlace fields name at → place ≢ at → IsAsked fields asked (k + 1) place → IsAsked fields asked k place
asked_before fields asked k at place name asks first other ask = elim (cases_lt ask.k k) [
  | inl below ↦ record { k = ask.k; name = ask.name; within = below; asks = ask.asks; first = ask.first }
  | inr last ↦
      (let same : ask.k ≡ k = omega (arith, ask.within) in
      let names : Some ask.name ≡ Some name = sym ask.asks ∙ ap (slice_get asked) same ∙ asks in
      let one : ask.name ≡ name = cc in
      absurd (other (first_once fields name place at (subst (λ n. IsFirstPlace fields n place) one ask.first) first)))
]

pub one_marked : (fields asked : List (List ℕ)) (marks later : List Bool) (k at : ℕ) (name : List ℕ) → later ≡ set marks at true → at < length marks → slice_get asked k ≡ Some name → IsFirstPlace fields name at → Marked fields asked marks k → Marked fields asked later (k + 1)
one_marked fields asked marks later k at name is inside asks first before place = elim (cases_eq place at) [
  | inl here ↦ ((λ marked. record { k = k; name = name; within = omega arith; asks = asks; first = rw here first }), λ ask. ap (λ ms. get_or ms place false) is ∙ ap (λ p. get_or (set marks at true) p false) here ∙ get_or-set_same marks at true false inside)
  | inr other ↦
      (let same = ap (λ ms. get_or ms place false) is ∙ get_or-set_other marks at place true false other in
      ((λ marked. asked_more fields asked k place ((before place).0 (sym same ∙ marked))), λ ask. same ∙ (before place).1 (asked_before fields asked k at place name asks first other ask)))
]

pub named_more : (fields asked : List (List ℕ)) (k : ℕ) (name : List ℕ) → slice_get asked k ≡ Some name → HasField fields name → AreNamed fields asked k → AreNamed fields asked (k + 1)
named_more fields asked k name asks has before j other within is = elim (cases_lt j k) [
  | inl below ↦ before j other below is
  | inr last ↦
      (let same : j ≡ k = omega arith in
      let names : Some other ≡ Some name = sym is ∙ ap (slice_get asked) same ∙ asks in
      let one : other ≡ name = cc in
      rw one has)
]

-- ---- the first field of a name

-- none of the first fields, so many, has the name
abbrev Passed : List (List ℕ) → List ℕ → ℕ → Type 0
Passed fields name count = (k : ℕ) → k < count → slice_get fields k ≢ Some name

pub pass_more : {A : Type 0} (view : A → List ℕ) (xs : List A) (k : ℕ) (x : A) (name : List ℕ) → k < length xs → x ≡ get_or xs k x → view x ≢ name → Passed (map view xs) name k → Passed (map view xs) name (k + 1)
pass_more view xs k x name inside is other before j within found = elim (cases_lt j k) [
  | inl below ↦ before j below found
  | inr last ↦
      (let same : j ≡ k = omega arith in
      let both : Some (view x) ≡ Some name = sym (seen_at view xs k x (view x) inside is refl) ∙ ap (slice_get (map view xs)) (sym same) ∙ found in
      let one : view x ≡ name = cc in
      other one)
]

pub none_has : {A : Type 0} (view : A → List ℕ) (xs : List A) (k : ℕ) (name : List ℕ) → length xs ≤ k → Passed (map view xs) name k → HasField (map view xs) name → ⊥
none_has view xs k name all before (p, found) =
    let inside = slice_get_within (map view xs) p name found in
    let size = length-map xs view in
    before p (omega (arith, inside, size)) found
