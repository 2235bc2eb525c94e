-- Places at which the mark stands.
use Rattle.std.proofs.Common.{◌≡◌, ◌∙◌, ◌<◌, ◌≤◌, ◌+◌, ◌-◌, ◌++◌, ℕ, List, Option, Some, None, ap, arith, drop, length, slice_index, subst, sym, take}
use Rattle.std.proofs.lemmas.List.{get_or-drop, length-drop, length-take-le, take-append-drop}
use Rattle.std.proofs.Math.Seq.{take-length}
use Rattle.std.specs.Option.{option_map}
use Rattle.memchr.specs.Find.{FindsNeedle, Nowhere, OccursAt}
use Rattle.memchr.proofs.lemmas.MatchLemmas.{OccursAt-split}
use Rattle.run_page.specs.Embedding.{IsEmbedded, StandsAt, StandsOnlyAt, mark}

-- a slice up to the end
pub rest_whole : (n : ℕ) (text : List ℕ) → take (length text - n) (drop n text) ≡ drop n text
rest_whole n text = ap (λ (k : ℕ). take k (drop n text)) (sym (length-drop n text)) ∙ take-length (drop n text)

module _ (text : List ℕ) (from : ℕ) (within : from ≤ length text) where
  -- what stands in the bytes from a place on stands in the whole
  pub in_whole : (k : ℕ) → OccursAt (drop from text) mark k → OccursAt text mark (from + k)
  in_whole k occurs = record {
    fits = omega (arith, occurs.fits, length-drop from text, within);
    reads = λ j inside.
        let e : from + k + j ≡ from + (k + j) = omega arith in
        ap (slice_index text) e ∙ sym (get_or-drop from text (k + j) 0) ∙ occurs.reads j inside;
  }

  -- and the other way round
  pub in_rest : (k : ℕ) → OccursAt text mark (from + k) → OccursAt (drop from text) mark k
  in_rest k occurs = record {
    fits = omega (arith, occurs.fits, length-drop from text, within);
    reads = λ j inside.
        let e : from + (k + j) ≡ from + k + j = omega arith in
        get_or-drop from text (k + j) 0 ∙ ap (slice_index text) e ∙ occurs.reads j inside;
  }

  none_from : (end : ℕ) → Nowhere (OccursAt (drop from text) mark) 0 end → Nowhere (OccursAt text mark) from (from + end)
  none_from end none k late below occurs =
      let back : k ≡ from + (k - from) = omega (arith, late) in
      none (k - from) (omega arith) (omega (arith, late, below)) (in_rest (k - from) (subst (OccursAt text mark) back occurs))

  -- a search of the bytes from a place on
  pub found_from : (first : Option ℕ) → FindsNeedle (drop from text) mark 0 first → FindsNeedle text mark from (option_map (λ k. from + k) first)
  found_from None none =
      let end : from + (length (drop from text) + 1) ≡ length text + 1 = omega (arith, length-drop from text, within) in
      subst (Nowhere (OccursAt text mark) from) end (none_from (length (drop from text) + 1) none)
  found_from (Some k) found = (
    record {
      low = omega arith;
      high = omega (arith, found.0.high, length-drop from text, within);
      before = none_from k found.0.before;
    },
    in_whole k found.1,
  )

-- where the first search finds nothing
pub stands_nowhere : (text : List ℕ) → FindsNeedle text mark 0 None → (i : ℕ) → ¬ StandsAt text i
stands_nowhere text none i stands = none i (omega arith) (omega (arith, stands.fits)) stands

-- where the second one does
pub stands_only : (text : List ℕ) (i : ℕ) → FindsNeedle text mark 0 (Some i) → FindsNeedle text mark (i + 1) None → StandsOnlyAt text i
stands_only text i first none = record {
  here = first.1;
  only = λ j stands.
      let not_before : j < i → ⊥ = λ below. first.0.before j (omega arith) below stands in
      let not_behind : i < j → ⊥ = λ above. none j (omega (arith, above)) (omega (arith, stands.fits)) stands in
      grind (arith, not_before, not_behind);
}

-- the content in the place of the mark
pub is_embedded : (viewer content page : List ℕ) (i : ℕ) → StandsOnlyAt viewer i → page ≡ take i viewer ++ (content ++ drop (i + length mark) viewer) → IsEmbedded viewer content page
is_embedded viewer content page i only is =
    let before : length (take i viewer) ≡ i = length-take-le i viewer (omega (arith, only.here.fits)) in
    let rest : drop i viewer ≡ mark ++ drop (i + length mark) viewer = OccursAt-split viewer mark i only.here in
    let whole : viewer ≡ take i viewer ++ (mark ++ drop (i + length mark) viewer) = sym (take-append-drop i viewer) ∙ ap (λ (t : List ℕ). take i viewer ++ t) rest in
    (take i viewer, drop (i + length mark) viewer, whole, is, subst (StandsOnlyAt viewer) (sym before) only)
