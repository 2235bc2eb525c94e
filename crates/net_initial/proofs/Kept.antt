-- Sets that are left where those of some fields are cleared.
use Rattle.std.proofs.Common.{◌≡◌, ℕ, ◌+◌, ◌<◌, not, List, [], ◌∷◌, ◌++◌, map, length, get_or, take, filter, refl, ap, sym, subst, ◌∙◌, inl, inr, nat_cmp}
use Rattle.std.specs.List.{list_any}
use Rattle.std.specs.List.Sorted.{IsStrictlySortedBy}
use Rattle.std.specs.Cmp.Lexicographic.{slice_cmp}
use Rattle.std.specs.Str.{bytes_eq}
use Rattle.std.proofs.lemmas.Bool.{cases_Bool}
use Rattle.std.proofs.lemmas.List.{take_more}
use Rattle.std.proofs.lemmas.List.Elements.{filter-append}
use Rattle.std.proofs.lemmas.List.Kept.{IsStrictlySortedBy-filter}
use Rattle.link_net.specs.declared.field_set.FieldSet.{FieldSet}
use Rattle.link_net.specs.Names.{AreRising}
use Rattle.net_initial.specs.Opened.{kept_sets}

names_kept : (cleared : List (List ℕ)) (sets : List FieldSet) → filter (λ n. not (list_any (bytes_eq n) cleared)) (map (λ s. s.name) sets) ≡ map (λ s. s.name) (kept_sets cleared sets)
names_kept cleared [] = refl
names_kept cleared (s ∷ sets) =
    elim (cases_Bool (not (list_any (bytes_eq s.name) cleared))) [
      | inl kept ↦ rw kept (ap (λ t. s.name ∷ t) (names_kept cleared sets))
      | inr gone ↦ rw gone (names_kept cleared sets)
    ]

-- they still rise
pub kept_rise : (cleared : List (List ℕ)) (sets : List FieldSet) → AreRising sets → AreRising (kept_sets cleared sets)
kept_rise cleared sets rise =
    subst (IsStrictlySortedBy (slice_cmp nat_cmp)) (names_kept cleared sets)
    (IsStrictlySortedBy-filter (slice_cmp nat_cmp) (λ n. not (list_any (bytes_eq n) cleared)) (map (λ s. s.name) sets) rise)

-- one more set
pub kept_more : (cleared : List (List ℕ)) (sets : List FieldSet) (i : ℕ) (d : FieldSet) → i < length sets → kept_sets cleared (take i sets) ++ kept_sets cleared (get_or sets i d ∷ []) ≡ kept_sets cleared (take (i + 1) sets)
kept_more cleared sets i d low =
    sym (ap (kept_sets cleared) (take_more sets i d low) ∙ filter-append (λ s. not (list_any (bytes_eq s.name) cleared)) (take i sets) (get_or sets i d ∷ []))
