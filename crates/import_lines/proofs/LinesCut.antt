-- Lists cut at the elements that pass a test.
use Rattle.std.proofs.Common.{◌≡◌, ◌≢◌, ℕ, zero, suc, ◌+◌, ◌<◌, ◌≤◌, Bool, true, false, cond, not, ◌||◌, ◌==◌, List, [], ◌∷◌, length, take, drop, get_or, slice_get, filter, refl, sym, ap, ◌∙◌, arith, Some, None, subst, length-drop, eq-or-lt_of_le, one-add, add-one, inl, inr, IsUtf8, IsCharBoundary}
use Rattle.std.specs.List.{list_any, slice_split, enumerate_from, prefix_len, position_or_len, before_first, after_first}
use Rattle.std.proofs.lemmas.Bool.{cases_Bool, ne_eqb, eqb-false}
use Rattle.std.proofs.lemmas.Bool.Decides.{nat_tests, Decides-eqb}
use Rattle.std.proofs.lemmas.List.Sums.{prefix_len_passes, prefix_len_stops, prefix_len-le-length}
use Rattle.std.proofs.lemmas.Str.{IsCharBoundary-start, IsCharBoundary-end, IsCharBoundary-after_ascii, IsCharBoundary-before_ascii}
use Rattle.import_lines.specs.Texts.{is_line_feed, is_separator, is_filled, words_of, say_nothing, told_from}

-- the parts after the first one, where what stands after it begins with the element at which the list is cut
abbrev others : {X : Type 0} → (X → Bool) → List X → List (List X)
others p [] = []
others p (x ∷ xs) = slice_split p xs

split_first : {X : Type 0} (p : X → Bool) (xs : List X) → slice_split p xs ≡ before_first p xs ∷ others p (drop (position_or_len p xs) xs)
split_first p [] = refl
split_first p (x ∷ xs) =
    elim (cases_Bool (p x)) [
      | inl is_one ↦ rw is_one refl
      | inr other ↦ rw (other, one-add (position_or_len p xs), split_first p xs) refl
    ]

-- ---- words

words_behind : (bs : List ℕ) → filter is_filled (others is_separator (drop (position_or_len is_separator bs) bs)) ≡ words_of (drop (position_or_len is_separator bs) bs)
words_behind [] = refl
words_behind (b ∷ bs) =
    elim (cases_Bool (is_separator b)) [
      | inl is_one ↦ rw is_one (rw is_one refl)
      | inr other ↦ rw (other, one-add (position_or_len is_separator bs)) (words_behind bs)
    ]

-- separators at the front do not change the words
pub words_skip : (bs : List ℕ) → words_of bs ≡ words_of (drop (prefix_len is_separator bs) bs)
words_skip [] = refl
words_skip (b ∷ bs) =
    elim (cases_Bool (is_separator b)) [
      | inl is_one ↦ rw (is_one, one-add (prefix_len is_separator bs)) (words_skip bs)
      | inr other ↦ rw other (rw other refl)
    ]

-- the word at the front is the first
pub words_first : (b : ℕ) (bs : List ℕ) → is_separator b ≡ false → words_of (b ∷ bs) ≡ before_first is_separator (b ∷ bs) ∷ words_of (drop (position_or_len is_separator (b ∷ bs)) (b ∷ bs))
words_first b bs other = rw (split_first is_separator (b ∷ bs), words_behind (b ∷ bs)) (rw (other, one-add (position_or_len is_separator bs)) refl)

-- what stands after the separators at the front begins with none
pub stops_at : (bs begun : List ℕ) (c : ℕ) (cs : List ℕ) → begun ≡ drop (prefix_len is_separator bs) bs → begun ≡ c ∷ cs → is_separator c ≡ false
stops_at [] begun c cs is shape = cc
stops_at (b ∷ bs) begun c cs is shape =
    elim (cases_Bool (is_separator b)) [
      | inl is_one ↦ stops_at bs begun c cs (rw (is_one, one-add (prefix_len is_separator bs)) at is) shape
      | inr other ↦ (let same : b ∷ bs ≡ c ∷ cs = sym (rw other at is) ∙ shape in let first : b ≡ c = cc in rw (sym first) other)
    ]

-- ---- places where a text may be cut

separator_ascii : (b : ℕ) → is_separator b ≡ true → b < 128
separator_ascii b is = grind (arith, nat_tests)

pub skip_boundary : (bs : List ℕ) (n : ℕ) → n ≡ prefix_len is_separator bs → IsUtf8 bs → IsCharBoundary bs n
skip_boundary bs zero is utf8 = IsCharBoundary-start bs utf8
skip_boundary bs (suc n) is utf8 =
    let low = prefix_len-le-length is_separator bs in
    let passes = prefix_len_passes is_separator bs n 0 (omega arith) in
    rw (← add-one n) (IsCharBoundary-after_ascii bs n utf8 (omega arith) (separator_ascii (get_or bs n 0) passes))

passes_again : (x : Bool) → not x ≡ false → x ≡ true
passes_again true h = refl
passes_again false h = cc

pub word_boundary : (bs : List ℕ) (n : ℕ) → n ≡ position_or_len is_separator bs → IsCharBoundary bs n
word_boundary bs n is =
    let within = prefix_len-le-length (λ b. not (is_separator b)) bs in
    let low : n ≤ length bs = omega arith in
    elim (eq-or-lt_of_le low) [
      | inl end ↦ rw end (IsCharBoundary-end bs)
      | inr inside ↦
          let stops = prefix_len_stops (λ b. not (is_separator b)) bs 0 (omega arith) in
          IsCharBoundary-before_ascii bs n inside (rw is (separator_ascii _ (passes_again _ stops)))
    ]

-- ---- lines

told_behind : (n : ℕ) (bs : List ℕ) → filter (λ (l : ℕ × List ℕ). not (say_nothing (words_of l.1))) (enumerate_from n (others is_line_feed (drop (position_or_len is_line_feed bs) bs))) ≡ told_from n (after_first is_line_feed bs)
told_behind n [] = refl
told_behind n (b ∷ bs) =
    elim (cases_Bool (is_line_feed b)) [
      | inl is_one ↦ rw is_one refl
      | inr other ↦ rw (other, one-add (position_or_len is_line_feed bs), add-one (suc (position_or_len is_line_feed bs))) (rw (add-one (position_or_len is_line_feed bs)) at (told_behind n bs))
    ]

-- the first line, and the lines after it
pub told_more : (n : ℕ) (bs line rest : List ℕ) → line ≡ before_first is_line_feed bs → rest ≡ after_first is_line_feed bs → told_from n bs ≡ cond (not (say_nothing (words_of line))) ((n, line) ∷ told_from (n + 1) rest) (told_from (n + 1) rest)
told_more n bs line rest is behind = rw (is, behind, split_first is_line_feed bs, told_behind (n + 1) bs) refl

suc_same : (a b : ℕ) → (a == b) ≡ (suc a == suc b)
suc_same a b = grind (arith, nat_tests)

-- nothing passes a test that ends at the end
pub none_passes : (p : ℕ → Bool) (bs : List ℕ) → (position_or_len p bs == length bs) ≡ not (list_any p bs)
none_passes p [] = refl
none_passes p (b ∷ bs) =
    elim (cases_Bool (p b)) [
      | inl is_one ↦ rw is_one (ne_eqb 0 (length (b ∷ bs)) (λ (e : 0 ≡ suc (length bs)). omega arith))
      | inr other ↦ (let same = none_passes p bs in rw (other, one-add (position_or_len p bs)) (sym (suc_same (position_or_len p bs) (length bs)) ∙ same))
    ]

-- the first byte of a line after its separators
pub says_none : (bs begun : List ℕ) → begun ≡ drop (prefix_len is_separator bs) bs → begun ≡ [] → say_nothing (words_of bs) ≡ true
says_none bs begun is none = rw (words_skip bs) (rw (sym is ∙ none) refl)

pub says_first : (bs begun : List ℕ) (b : ℕ) → begun ≡ drop (prefix_len is_separator bs) bs → slice_get begun 0 ≡ Some b → say_nothing (words_of bs) ≡ (b == 35 || b == 37)
says_first bs [] b is first = cc
says_first bs (c ∷ cs) b is first =
    let other = stops_at bs (c ∷ cs) c cs is refl in
    let same : c ≡ b = cc in
    rw (words_skip bs) (rw (sym is, words_first c cs other, other) (rw (one-add (position_or_len is_separator cs), same) refl))

-- the first word of a text
pub word_none : (bs begun : List ℕ) → begun ≡ drop (prefix_len is_separator bs) bs → (length begun == 0) ≡ true → words_of bs ≡ []
word_none bs [] is none = rw (words_skip bs) (rw (sym is) refl)
word_none bs (c ∷ cs) is none = (let e = (Decides-eqb (length (c ∷ cs)) 0).0 none in absurd (omega arith))

pub word_some : (bs begun word rest : List ℕ) → begun ≡ drop (prefix_len is_separator bs) bs → (length begun == 0) ≡ false → word ≡ before_first is_separator begun → rest ≡ drop (position_or_len is_separator begun) begun → words_of bs ≡ word ∷ words_of rest
word_some bs [] word rest is some front back = cc
word_some bs (c ∷ cs) word rest is some front back =
    rw (words_skip bs) (rw (sym is, words_first c cs (stops_at bs (c ∷ cs) c cs is refl), front, back) refl)

-- ---- the same, of what functions found

pub skip_cut : (text bytes : List ℕ) (n : ℕ) → bytes ≡ text → n ≡ prefix_len is_separator bytes → IsUtf8 bytes → IsCharBoundary text n
skip_cut text bytes n same is utf8 = subst (λ t. IsCharBoundary t n) same (skip_boundary bytes n is utf8)

pub word_cut : (text bytes : List ℕ) (n : ℕ) → bytes ≡ text → n ≡ position_or_len is_separator bytes → IsCharBoundary text n
word_cut text bytes n same is = subst (λ t. IsCharBoundary t n) same (word_boundary bytes n is)

begun_at : (text bytes begun : List ℕ) (n : ℕ) → bytes ≡ text → n ≡ prefix_len is_separator bytes → begun ≡ drop n text → begun ≡ drop (prefix_len is_separator text) text
begun_at text bytes begun n same is back = back ∙ ap (λ k. drop k text) (is ∙ ap (prefix_len is_separator) same)

pub no_word : (text bytes begun : List ℕ) (n : ℕ) (empty : Bool) → bytes ≡ text → n ≡ prefix_len is_separator bytes → begun ≡ drop n text → empty ≡ (length begun == 0) → empty ≡ true → words_of text ≡ []
no_word text bytes begun n empty same is back tells holds = word_none text begun (begun_at text bytes begun n same is back) (sym tells ∙ holds)

pub some_word : (text bytes begun inner word rest : List ℕ) (n m : ℕ) (empty : Bool) → bytes ≡ text → n ≡ prefix_len is_separator bytes → begun ≡ drop n text → empty ≡ (length begun == 0) → empty ≡ false
    → inner ≡ begun → m ≡ position_or_len is_separator inner → word ≡ take m begun → rest ≡ drop m begun → words_of text ≡ word ∷ words_of rest
some_word text bytes begun inner word rest n m empty same is back tells holds alike ends front after =
    let at = ends ∙ ap (position_or_len is_separator) alike in
    word_some text begun word rest (begun_at text bytes begun n same is back) (sym tells ∙ holds) (front ∙ ap (λ k. take k begun) at) (after ∙ ap (λ k. drop k begun) at)

no_first : (xs : List ℕ) → slice_get xs 0 ≡ None → xs ≡ []
no_first [] h = refl
no_first (x ∷ xs) h = cc

module _ (line begun : List ℕ) (n : ℕ) (is : n ≡ prefix_len is_separator line) (back : begun ≡ drop n line) where
  at_start : begun ≡ drop (prefix_len is_separator line) line
  at_start = back ∙ ap (λ k. drop k line) is

  pub says_hash : (b : ℕ) → Some b ≡ slice_get begun 0 → b ≡ 35 → (b == 35) ≡ say_nothing (words_of line)
  says_hash b first hash = sym (says_first line begun b at_start (sym first) ∙ (grind (arith, nat_tests)))

  pub says_percent : (b : ℕ) → Some b ≡ slice_get begun 0 → b ≢ 35 → (b == 37) ≡ say_nothing (words_of line)
  says_percent b first other = sym (says_first line begun b at_start (sym first) ∙ (grind (arith, nat_tests)))

  pub says_no_word : None ≡ slice_get begun 0 → true ≡ say_nothing (words_of line)
  says_no_word none = sym (says_none line begun at_start (no_first begun (sym none)))

-- a line that says something is the first of those that do
pub told_said : (n : ℕ) (bs line rest : List ℕ) (nothing : Bool) → line ≡ before_first is_line_feed bs → rest ≡ after_first is_line_feed bs → nothing ≡ say_nothing (words_of line) → nothing ≡ false → told_from n bs ≡ (n, line) ∷ told_from (n + 1) rest
told_said n bs line rest nothing is behind tells holds = told_more n bs line rest is behind ∙ rw (sym tells ∙ holds) refl

-- one that says nothing is passed over
pub told_passed : (n : ℕ) (bs line rest : List ℕ) (nothing : Bool) → line ≡ before_first is_line_feed bs → rest ≡ after_first is_line_feed bs → nothing ≡ say_nothing (words_of line) → nothing ≡ true → told_from (n + 1) rest ≡ told_from n bs
told_passed n bs line rest nothing is behind tells holds = sym (told_more n bs line rest is behind ∙ rw (sym tells ∙ holds) refl)

-- after a line there is less
pub rest_shorter : (bs rest : List ℕ) → rest ≡ after_first is_line_feed bs → false ≡ (length bs == 0) → length rest + 1 ≤ length bs
rest_shorter bs rest is some =
    let full = eqb-false (length bs) 0 (sym some) in
    let less = ap length is ∙ length-drop (position_or_len is_line_feed bs + 1) bs in
    omega (arith, less)
