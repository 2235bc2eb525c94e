-- The rows of a network, and the links of one more of them.
use Rattle.std.proofs.Common.{◌≡◌, ℕ, ◌+◌, ◌<◌, ◌≤◌, List, [], ◌∷◌, ◌++◌, length, get_or, true, false, map, drop, nat_lt, Option, Some, None, option_map, refl, ap, sym, ◌∙◌, arith, zero, suc, append_assoc, if◌then◌else◌}
use Rattle.std.specs.List.{zip, slice_get, range_with_len}
use Rattle.std.proofs.lemmas.List.{append-nil, drop_all}
use Rattle.std.proofs.lemmas.Slice.Zip.{length-zip, get_or-zip}
use Rattle.std.specs.Option.{unwrap_or}
use Rattle.std.proofs.lemmas.Bool.Decides.{nat_tests}
use Rattle.std.proofs.lemmas.Option.{get_or_from_slice_get, unwrap_or-slice_get}
use Rattle.link_net.specs.Neighbours.{Neighbours, numbers_below, row}
use Rattle.net_text.specs.Listing.{Link}
use Rattle.net_initial.specs.Ahead.{links_up, links_from}

zip_columns : (ends : List (ℕ × ℕ)) → zip (map (λ a. a.0) ends) (map (λ a. a.1) ends) ≡ ends
zip_columns [] = refl
zip_columns (a ∷ ends) = ap (λ t. a ∷ t) (zip_columns ends)

long_columns : (ends : List (ℕ × ℕ)) → length (map (λ a. a.1) ends) ≡ length (map (λ a. a.0) ends)
long_columns [] = refl
long_columns (a ∷ ends) = ap (λ k. suc k) (long_columns ends)

-- two columns are those of a row
pub columns : (net : Neighbours) (u : ℕ) (ns ws : List ℕ) → Some ns ≡ option_map (λ ends. map (λ a. a.0) ends) (slice_get net u) → Some ws ≡ option_map (λ ends. map (λ a. a.1) ends) (slice_get net u)
    → (length ws ≡ length ns) × (zip ns ws ≡ row net u)
columns net u ns ws = at (slice_get net u) refl where
  at : (o : Option (List (ℕ × ℕ))) → slice_get net u ≡ o → Some ns ≡ option_map (λ ends. map (λ a. a.0) ends) o → Some ws ≡ option_map (λ ends. map (λ a. a.1) ends) o → (length ws ≡ length ns) × (zip ns ws ≡ row net u)
  at None e first second = absurd (none first) where
    none : Some ns ≡ None → ⊥
    none h = cc
  at (Some ends) e first second =
      let one : ns ≡ map (λ a. a.0) ends = cc in
      let two : ws ≡ map (λ a. a.1) ends = cc in
      let is : get_or net u [] ≡ ends = get_or_from_slice_get net u ends [] e in
      rw (one, two) (long_columns ends, zip_columns ends ∙ sym is)

-- where there is no row, nothing is put
pub no_row : {Y : Type 0} (f : List (ℕ × ℕ) → Y) (net : Neighbours) (u : ℕ) (ls : List Link) → None ≡ option_map f (slice_get net u) → ls ≡ ls ++ links_up u (row net u)
no_row {Y} f net u ls = at (slice_get net u) refl where
  at : (o : Option (List (ℕ × ℕ))) → slice_get net u ≡ o → None ≡ option_map f o → ls ≡ ls ++ links_up u (row net u)
  at None e h =
      let is : row net u ≡ [] = sym (unwrap_or-slice_get net u []) ∙ ap (λ o. unwrap_or o []) e in
      rw (is, append-nil ls) refl
  at (Some ends) e h = absurd (some (f ends) h) where
    some : (y : Y) → None ≡ Some y → ⊥
    some y k = cc

-- one more slot
pub slot_more : (u : ℕ) (ends : List (ℕ × ℕ)) (i : ℕ) → i < length ends
    → links_up u (drop i ends) ≡ (if nat_lt u (get_or ends i (0, 0)).0 then (u, (get_or ends i (0, 0)).0, (get_or ends i (0, 0)).1) ∷ links_up u (drop (i + 1) ends) else links_up u (drop (i + 1) ends))
slot_more u [] i low = absurd (omega arith)
slot_more u (a ∷ ends) zero low = refl
slot_more u (a ∷ ends) (suc i) low = let on : suc i + 1 ≡ suc (i + 1) = omega arith in rw on (slot_more u ends i (omega arith))

-- one more row
pub row_more : (net : Neighbours) (a k : ℕ) → links_from net (range_with_len a (k + 1)) ≡ links_from net (range_with_len a k) ++ links_up (a + k) (row net (a + k))
row_more net a zero = let same : a + 0 ≡ a = omega arith in rw same (append-nil (links_up a (row net a)))
row_more net a (suc k) =
    let on : suc k + 1 ≡ suc (k + 1) = omega arith in
    let same : (a + 1) + k ≡ a + suc k = omega arith in
    rw on (ap (λ t. links_up a (row net a) ++ t) (rw same at (row_more net (a + 1) k)) ∙ sym (append_assoc (links_up a (row net a)) (links_from net (range_with_len (a + 1) k)) (links_up (a + suc k) (row net (a + suc k)))))

pub first_more : (net : Neighbours) (k : ℕ) → links_from net (numbers_below (k + 1)) ≡ links_from net (numbers_below k) ++ links_up k (row net k)
first_more net k = let same : 0 + k ≡ k = omega arith in rw same at (row_more net 0 k)

-- a slot of two columns
module _ (u : ℕ) (ns ws : List ℕ) (i : ℕ) (done whole : List Link) (long : length ws ≡ length ns) (before : done ++ links_up u (drop i (zip ns ws)) ≡ whole) where
  step : i < length ns → links_up u (drop i (zip ns ws))
      ≡ (if nat_lt u (get_or ns i 0) then (u, get_or ns i 0, get_or ws i 0) ∷ links_up u (drop (i + 1) (zip ns ws)) else links_up u (drop (i + 1) (zip ns ws)))
  step low =
      let size = length-zip ns ws in
      let here = get_or-zip ns ws i (0, 0) low (omega arith) in
      rw here at (slot_more u (zip ns ws) i (omega arith))

  pub slot_above : i < length ns → u < get_or ns i 0 → (done ++ (u, get_or ns i 0, get_or ws i 0) ∷ []) ++ links_up u (drop (i + 1) (zip ns ws)) ≡ whole
  slot_above low up =
      let is : nat_lt u (get_or ns i 0) ≡ true = grind (arith, nat_tests) in
      let taken = rw is at (step low) in
      append_assoc done ((u, get_or ns i 0, get_or ws i 0) ∷ []) (links_up u (drop (i + 1) (zip ns ws))) ∙ ap (λ t. done ++ t) (sym taken) ∙ before

  pub slot_below : i < length ns → get_or ns i 0 ≤ u → done ++ links_up u (drop (i + 1) (zip ns ws)) ≡ whole
  slot_below low down =
      let is : nat_lt u (get_or ns i 0) ≡ false = grind (arith, nat_tests) in
      let left = rw is at (step low) in
      ap (λ t. done ++ t) (sym left) ∙ before

  pub slots_end : length ns ≤ i → done ≡ whole
  slots_end past =
      let size = length-zip ns ws in
      let none : drop i (zip ns ws) ≡ [] = drop_all i (zip ns ws) (omega arith) in
      let all = rw none at before in
      sym (append-nil done) ∙ all
