-- The first of the links that join the same two nodes as an earlier one.
use Rattle.std.proofs.Common.{◌≡◌, ◌+◌, ◌<◌, ◌≤◌, ℕ, List, [], ◌∷◌, ◌++◌, map, take, drop, get_or, length, refl, sym, ap, ◌∙◌, inl, inr}
use Rattle.std.proofs.lemmas.Bool.{cases_Bool}
use Rattle.std.proofs.lemmas.List.{drop_more, take_more, drop_all, map-append}
use Rattle.std.specs.Prelude.{Option, Some, None, option_map}
use Rattle.std.specs.List.{find}
use Rattle.std.specs.Map.{lookup}
use Rattle.std.specs.Option.{option_or}
use Rattle.indexmap.specs.IndexMap.{insert_entry}
use Rattle.import_links.specs.declared.placed.PlacedLink.{PlacedLink}
use Rattle.import_links.specs.Puts.{ends, are_same}
use Rattle.import_links.specs.Settling.{are_twins, parallel_behind, first_parallel}
use Rattle.import_links.proofs.Twins.{parallel_same}

-- the line of a link under its two ends
abbrev pub noted : PlacedLink → (ℕ × ℕ) × ℕ
noted p = (ends p.link, p.line)

-- the line that stands under the ends of a link is that of the first link that joins them
pub noted_line : (p : PlacedLink) (qs : List PlacedLink) → lookup (are_same (ends p.link)) (map noted qs) ≡ option_map (λ q. q.line) (find (are_twins p) qs)
noted_line p [] = refl
noted_line p (q ∷ qs) =
    let same = parallel_same q.link p.link in
    elim (cases_Bool (are_twins p q)) [
      | inl here ↦ (let key = sym same ∙ here in rw (here, key) refl)
      | inr other ↦ (let key = sym same ∙ other in rw (other, key) (noted_line p qs))
    ]

-- a new line goes after the others
put_last : (key : ℕ × ℕ) (line : ℕ) (es : List ((ℕ × ℕ) × ℕ)) → None ≡ lookup (are_same key) es → insert_entry are_same es key line ≡ es ++ (key, line) ∷ []
put_last key line [] none = refl
put_last key line (e ∷ es) none =
    elim (cases_Bool (are_same key e.0)) [
      | inl here ↦ (let found : None ≡ Some e.1 = rw here at none in cc)
      | inr other ↦ rw other (ap (λ r. e ∷ r) (put_last key line es (rw other at none)))
    ]

pair_lines : (p : PlacedLink) (o : Option PlacedLink) (first : ℕ) → Some first ≡ option_map (λ q. q.line) o → option_map {U = ℕ × ℕ} (λ q. (p.line, q.line)) o ≡ Some (p.line, first)
pair_lines p None first h = cc
pair_lines p (Some q) first h = (let same : q.line ≡ first = cc in ap (λ l. Some (p.line, l)) same)

no_pair : (p : PlacedLink) (o : Option PlacedLink) → None ≡ option_map (λ q. q.line) o → option_map {U = ℕ × ℕ} (λ q. (p.line, q.line)) o ≡ None
no_pair p None h = refl
no_pair p (Some q) h = cc

module _ (ps : List PlacedLink) (i : ℕ) (p d : PlacedLink) (es : List ((ℕ × ℕ) × ℕ)) (low : i < length ps) (at : p ≡ get_or ps i d) (were : es ≡ map noted (take i ps)) (left : parallel_behind (take i ps) (drop i ps) ≡ first_parallel ps) where
  from_here : drop i ps ≡ p ∷ drop (i + 1) ps
  from_here = drop_more ps i d low ∙ ap (λ q. q ∷ drop (i + 1) ps) (sym at)

  up_to_here : take (i + 1) ps ≡ take i ps ++ p ∷ []
  up_to_here = take_more ps i d low ∙ ap (λ q. take i ps ++ q ∷ []) (sym at)

  here_first : option_or (option_map (λ q. (p.line, q.line)) (find (are_twins p) (take i ps))) (parallel_behind (take i ps ++ p ∷ []) (drop (i + 1) ps)) ≡ first_parallel ps
  here_first = sym (ap (parallel_behind (take i ps)) from_here) ∙ left

  pub is_first : (key : ℕ × ℕ) (first : ℕ) → key ≡ ends p.link → Some first ≡ lookup (are_same key) es → Some (p.line, first) ≡ first_parallel ps
  is_first key first own found =
      let line = rw (own, were, noted_line p (take i ps)) at found in
      sym (ap (λ o. option_or o (parallel_behind (take i ps ++ p ∷ []) (drop (i + 1) ps))) (pair_lines p (find (are_twins p) (take i ps)) first line)) ∙ here_first

  pub is_new : (key : ℕ × ℕ) → key ≡ ends p.link → None ≡ lookup (are_same key) es → parallel_behind (take (i + 1) ps) (drop (i + 1) ps) ≡ first_parallel ps
  is_new key own none =
      let line = rw (own, were, noted_line p (take i ps)) at none in
      ap (λ qs. parallel_behind qs (drop (i + 1) ps)) up_to_here
      ∙ sym (ap (λ o. option_or o (parallel_behind (take i ps ++ p ∷ []) (drop (i + 1) ps))) (no_pair p (find (are_twins p) (take i ps)) line)) ∙ here_first

  pub notes_next : (key : ℕ × ℕ) (line : ℕ) (new : List ((ℕ × ℕ) × ℕ)) → key ≡ ends p.link → line ≡ p.line → None ≡ lookup (are_same key) es → new ≡ insert_entry are_same es key line → new ≡ map noted (take (i + 1) ps)
  notes_next key line new own same none given =
      given ∙ put_last key line es none ∙ rw (were, own, same) (sym (ap (map noted) up_to_here ∙ map-append noted (take i ps) (p ∷ [])))

pub all_passed : (ps : List PlacedLink) (i : ℕ) → length ps ≤ i → parallel_behind (take i ps) (drop i ps) ≡ first_parallel ps → None ≡ first_parallel ps
all_passed ps i done left = sym (ap (parallel_behind (take i ps)) (drop_all i ps done)) ∙ left
