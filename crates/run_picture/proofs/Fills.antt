-- Colours of the palette that differ.
use Rattle.std.proofs.Common.{◌≡◌, ◌∙◌, ◌↔◌, ◌<◌, ◌≤◌, ◌==◌, ℕ, List, [], ◌∷◌, Bool, true, false, not, ap, arith, inl, inr, length, nat_lt, get_or, refl, sym}
use Rattle.std.proofs.lemmas.Bool.{cases_Bool}
use Rattle.std.proofs.lemmas.Bool.Decides.{nat_tests}
use Rattle.std.proofs.lemmas.List.Folds.{list_all_at}
use Rattle.std.proofs.lemmas.List.FromFn.{get_or-range_with_len, length-range_with_len}
use Rattle.std.specs.List.{IsAmong, list_all, prefix_len, range_with_len}
use Rattle.std.specs.Str.{bytes_eq}
use Rattle.run_picture.specs.Chosen.{StylesView, has_own}
use Rattle.run_picture.specs.Keys.{blank_key, key_from, key_of, state_key, with_cell}
use Rattle.run_picture.specs.Shades.{KeyView, class_count, class_of, colour_of, colours, fill_of, no_value, shade_of, state_count}
use Rattle.run_picture.proofs.Told.{among, cell_by, shades_told, small}

-- where a colour stands in the palette
abbrev place_of : List ℕ → ℕ
place_of colour = prefix_len (λ (c : List ℕ). not (bytes_eq c colour)) colours

-- the number of a colour is its place
abbrev is_told : ℕ → Bool
is_told n = place_of (colour_of n) == n

all_told : list_all is_told (range_with_len 0 25) ≡ true
all_told = refl

pub at_place : (n : ℕ) → n < 25 → get_or (range_with_len 0 25) n 0 ≡ n
at_place n few = omega (arith, get_or-range_with_len 0 25 n 0 few)

told_place : (n : ℕ) → n < 25 → place_of (colour_of n) ≡ n
told_place n few =
    elim (cases_Bool (is_told n)) [
      | inl hit ↦ grind (arith, nat_tests, hit)
      | inr miss ↦
          let inside : n < length (range_with_len 0 25) = omega (arith, few, length-range_with_len 0 25) in
          let wrong : list_all is_told (range_with_len 0 25) ≡ false = list_all_at is_told (range_with_len 0 25) n 0 inside (ap is_told (at_place n few) ∙ miss) in
          let clash : true ≡ false = sym all_told ∙ wrong in
          absurd (cc)
    ]

colours_differ : (a b : ℕ) → a < 25 → b < 25 → colour_of a ≡ colour_of b → a ≡ b
colours_differ a b few_a few_b same = sym (told_place a few_a) ∙ ap place_of same ∙ told_place b few_b

-- more cells are shown in the same styles
styles_kept : (cells : List ℕ) (key : KeyView) → (key_from key cells).styles ≡ key.styles
styles_kept [] key = refl
styles_kept (c ∷ cells) key = styles_kept cells (with_cell key c) ∙ cell_by (λ (k : KeyView). k.styles ≡ key.styles) key c (c == no_value) refl refl

pub key_styles : (styles : StylesView) (cells : List ℕ) → (key_of styles cells).styles ≡ styles
key_styles styles cells = styles_kept cells (state_key styles) ∙ styles_kept (range_with_len 0 (state_count styles)) (blank_key styles)

-- the colour of a value that has none of its own is that of its shade
shown : (key : KeyView) (v : ℕ) → has_own key.styles.colours v ≡ false → shade_of key v ≤ 24 → fill_of key (class_of key v) ≡ colour_of (shade_of key v)
shown key v own few =
    let shaded : class_of key v ≡ shade_of key v = rw own refl in
    let inside : nat_lt (shade_of key v) class_count ≡ true = grind (arith, nat_tests, few) in
    ap (fill_of key) shaded ∙ rw inside refl

pub colours_told : (styles : StylesView) (cells : List ℕ) (v w : ℕ) → length (key_of styles cells).values ≤ 8 → has_own styles.colours v ≡ false → has_own styles.colours w ≡ false → IsAmong cells v
    → IsAmong cells w → (fill_of (key_of styles cells) (class_of (key_of styles cells) v) ≡ fill_of (key_of styles cells) (class_of (key_of styles cells) w)) ↔ (v ≡ w)
colours_told styles cells v w few own_v own_w among_v among_w =
    let key = key_of styles cells in
    let is_styles : key.styles ≡ styles = key_styles styles cells in
    let has_v = among cells v among_v.0 among_v.1.0 among_v.1.1 in
    let has_w = among cells w among_w.0 among_w.1.0 among_w.1.1 in
    let few_v : shade_of key v ≤ 24 = small styles cells few v has_v in
    let few_w : shade_of key w ≤ 24 = small styles cells few w has_w in
    let shown_v = shown key v (ap (λ (s : StylesView). has_own s.colours v) is_styles ∙ own_v) few_v in
    let shown_w = shown key w (ap (λ (s : StylesView). has_own s.colours w) is_styles ∙ own_w) few_w in
    (λ same. shades_told styles cells few v w has_v has_w (colours_differ (shade_of key v) (shade_of key w) (omega (arith, few_v)) (omega (arith, few_w)) (sym shown_v ∙ same ∙ shown_w)), λ same. ap (λ (x : ℕ). fill_of key (class_of key x)) same)
