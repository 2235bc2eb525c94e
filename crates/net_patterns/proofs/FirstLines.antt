-- Lines that stand before others.
use Rattle.std.proofs.Common.{◌≡◌, ℕ, suc, ◌+◌, true, false, List, [], ◌∷◌, ◌++◌, length, take, drop, slice_index, flat_map, refl, sym, ap, ◌∙◌, arith, append_assoc, one-add, None, Bool, ◌==◌, ◌||◌, not, inl, inr}
use Rattle.std.specs.List.{AllByRecursion, list_all, list_any, position_or_len, before_first, after_first}
use Rattle.std.proofs.Math.Seq.{take-append_seam, drop-append-add}
use Rattle.std.proofs.lemmas.Bool.{and_parts, cases_Bool, or_parts}
use Rattle.std.proofs.lemmas.Bool.Decides.{Decides-eqb, nat_tests}
use Rattle.net_patterns.specs.Cells.{pattern_of}
use Rattle.net_patterns.specs.Rle.{is_blank}
use Rattle.net_patterns.specs.RunSteps.{pieces_from, pieces_behind, pattern_in}
use Rattle.net_patterns.specs.Texts.{is_comment, is_line_feed, says_nothing, told_from, plain_pieces}
use Rattle.net_patterns.specs.Written.{IsLine}
use Rattle.net_patterns.proofs.LineSteps.{told_said, told_passed}

line_end : (line rest : List ℕ) → list_any is_line_feed line ≡ false → position_or_len is_line_feed (line ++ 10 ∷ rest) ≡ length line
line_end [] rest none = refl
line_end (b ∷ bs) rest none =
    let parts = or_parts (is_line_feed b) (list_any is_line_feed bs) none in
    rw (parts.0, one-add (position_or_len is_line_feed (bs ++ 10 ∷ rest))) (ap suc (line_end bs rest parts.1))

before_end : (line rest : List ℕ) → list_any is_line_feed line ≡ false → before_first is_line_feed (line ++ 10 ∷ rest) ≡ line
before_end line rest none = ap (λ n. take n (line ++ 10 ∷ rest)) (line_end line rest none) ∙ take-append_seam line (10 ∷ rest)

after_end : (line rest : List ℕ) → list_any is_line_feed line ≡ false → after_first is_line_feed (line ++ 10 ∷ rest) ≡ rest
after_end line rest none = ap (λ n. drop (n + 1) (line ++ 10 ∷ rest)) (line_end line rest none) ∙ drop-append-add line (10 ∷ rest) 1

-- a line that says something is the first of those that do
line_told : (line rest : List ℕ) (number : ℕ) → list_any is_line_feed line ≡ false → says_nothing line ≡ false
    → told_from number (line ++ 10 ∷ rest) ≡ (number, line ++ 10 ∷ rest) ∷ told_from (number + 1) rest
line_told line rest number none says =
    told_said number (line ++ 10 ∷ rest) line rest false (sym (before_end line rest none)) (sym (after_end line rest none)) (sym says) refl

-- one that says nothing is passed over
line_passed : (line rest : List ℕ) (number : ℕ) → list_any is_line_feed line ≡ false → says_nothing line ≡ true
    → told_from number (line ++ 10 ∷ rest) ≡ told_from (number + 1) rest
line_passed line rest number none says =
    sym (told_passed number (line ++ 10 ∷ rest) line rest true (sym (before_end line rest none)) (sym (after_end line rest none)) (sym says) refl)

remark_says_nothing : (line : List ℕ) → slice_index line 0 ≡ 35 → says_nothing line ≡ true
remark_says_nothing line begins = rw begins refl

header_says : (line : List ℕ) → slice_index line 0 ≡ 120 → says_nothing line ≡ false
header_says [] begins = absurd (omega (arith, begins))
header_says (b ∷ bs) begins = rw begins refl

title_says : (line : List ℕ) → slice_index line 0 ≡ 33 → says_nothing line ≡ false
title_says [] begins = absurd (omega (arith, begins))
title_says (b ∷ bs) begins = rw begins refl

comments_passed : (comments : List (List ℕ)) (text : List ℕ) (number : ℕ) → AllByRecursion (IsLine 35) comments
    → told_from number (flat_map (λ c. c ++ 10 ∷ []) comments ++ text) ≡ told_from (number + length comments) text
comments_passed [] text number all = ap (λ n. told_from n text) (omega arith)
comments_passed (c ∷ cs) text number all =
    let rest = flat_map (λ c. c ++ 10 ∷ []) cs ++ text in
    ap (told_from number) (append_assoc (c ++ 10 ∷ []) (flat_map (λ c. c ++ 10 ∷ []) cs) text ∙ append_assoc c (10 ∷ []) rest)
    ∙ line_passed c rest number all.0.1 (remark_says_nothing c all.0.0)
    ∙ comments_passed cs text (number + 1) all.1
    ∙ ap (λ n. told_from n text) (omega arith)

-- the runs after comments and a header
chosen_runs : (text header runs : List ℕ) (number : ℕ) (more : List (ℕ × List ℕ)) → IsLine 120 header
    → pieces_behind text ((number, header ++ 10 ∷ runs) ∷ more) ≡ pieces_from (number + 1) None 0 runs
chosen_runs text [] runs number more is = absurd (omega (arith, is.0))
chosen_runs text (b ∷ bs) runs number more is =
    let e : b ≡ 120 = is.0 in
    rw e (ap (pieces_from (number + 1) None 0) (ap (after_first is_line_feed) (ap (λ x. x ∷ (bs ++ 10 ∷ runs)) (sym e)) ∙ after_end (b ∷ bs) runs is.1))

pub runs_behind : (comments : List (List ℕ)) (header runs : List ℕ) → AllByRecursion (IsLine 35) comments → IsLine 120 header
    → pattern_in (flat_map (λ c. c ++ 10 ∷ []) comments ++ (header ++ 10 ∷ runs)) ≡ pattern_of (pieces_from (1 + length comments + 1) None 0 runs)
runs_behind comments header runs all is =
    let text = flat_map (λ c. c ++ 10 ∷ []) comments ++ (header ++ 10 ∷ runs) in
    ap (λ told. pattern_of (pieces_behind text told)) (comments_passed comments (header ++ 10 ∷ runs) 1 all ∙ line_told header runs (1 + length comments) is.1 (header_says header is.0))
    ∙ ap pattern_of (chosen_runs text header runs (1 + length comments) (told_from (1 + length comments + 1) runs) is)

-- the rows after a comment
comment_passed : (line rest : List ℕ) (number : ℕ) → list_any is_line_feed line ≡ false → plain_pieces number true (line ++ 10 ∷ rest) ≡ plain_pieces (number + 1) (is_comment rest) rest
comment_passed [] rest number none = refl
comment_passed (b ∷ bs) rest number none =
    let parts = or_parts (is_line_feed b) (list_any is_line_feed bs) none in
    rw parts.0 (comment_passed bs rest number parts.1)

chosen_plain : (comment rows : List ℕ) (more : List (ℕ × List ℕ)) → IsLine 33 comment
    → pieces_behind (comment ++ 10 ∷ rows) ((1, comment ++ 10 ∷ rows) ∷ more) ≡ plain_pieces 1 true (comment ++ 10 ∷ rows)
chosen_plain [] rows more is = absurd (omega (arith, is.0))
chosen_plain (b ∷ bs) rows more is = let e : b ≡ 33 = is.0 in rw e (refl {a = plain_pieces 1 true (33 ∷ (bs ++ 10 ∷ rows))})

pub rows_behind : (comment rows : List ℕ) → IsLine 33 comment → pattern_in (comment ++ 10 ∷ rows) ≡ pattern_of (plain_pieces 2 (is_comment rows) rows)
rows_behind comment rows is =
    ap (λ told. pattern_of (pieces_behind (comment ++ 10 ∷ rows) told)) (line_told comment rows 1 is.1 (title_says comment is.0))
    ∙ ap pattern_of (chosen_plain comment rows (told_from 2 rows) is ∙ comment_passed comment rows 1 is.1)

-- rows with no comment before them: the bytes that rows are written with
abbrev pub is_row_byte : ℕ → Bool
is_row_byte b = b == 10 || b == 46 || b == 79

no_remark : (b : ℕ) → is_row_byte b ≡ true → (b == 35) ≡ false
no_remark b is = grind (arith, nat_tests)

no_blank : (b : ℕ) → is_row_byte b ≡ true → (b == 10) ≡ false → is_blank b ≡ false
no_blank b is other = grind (arith, nat_tests)

no_header : (b : ℕ) → is_row_byte b ≡ true → (b == 120) ≡ false
no_header b is = grind (arith, nat_tests)

row_says : (b : ℕ) (bs : List ℕ) → is_row_byte b ≡ true → (b == 10) ≡ false → says_nothing (before_first is_line_feed (b ∷ bs)) ≡ false
row_says b bs is other = rw (other, one-add (position_or_len is_line_feed bs)) (rw (no_remark b is, no_blank b is other) refl)

-- the first line that says something does not begin with x
row_told : (text : List ℕ) (number : ℕ) → list_all is_row_byte text ≡ true → list_any (λ b. not (b == 10)) text ≡ true
    → (line : ℕ) × (first : ℕ) × (rest : List ℕ) × (more : List (ℕ × List ℕ)) × (told_from number text ≡ (line, first ∷ rest) ∷ more) × ((first == 120) ≡ false)
row_told [] number all some = cc
row_told (b ∷ bs) number all some =
    let parts = and_parts (is_row_byte b) (list_all is_row_byte bs) all in
    elim (cases_Bool (b == 10)) [
      | inl feed ↦
          (let same : b ≡ 10 = (Decides-eqb b 10).0 feed in
          let later = row_told bs (number + 1) parts.1 (rw feed at some) in
          (later.0, later.1, later.2, later.3, ap (λ x. told_from number (x ∷ bs)) same ∙ line_passed [] bs number refl refl ∙ later.4, later.5))
      | inr other ↦ (
        number,
        b,
        bs,
        told_from (number + 1) (after_first is_line_feed (b ∷ bs)),
        told_said number (b ∷ bs) (before_first is_line_feed (b ∷ bs)) (after_first is_line_feed (b ∷ bs)) false refl refl (sym (row_says b bs parts.0 other)) refl,
        no_header b parts.0,
      )
    ]

pub rows_alone : (rows : List ℕ) → list_all is_row_byte rows ≡ true → list_any (λ b. not (b == 10)) rows ≡ true → pattern_in rows ≡ pattern_of (plain_pieces 1 (is_comment rows) rows)
rows_alone rows all some =
    let told = row_told rows 1 all some in
    ap (λ lines. pattern_of (pieces_behind rows lines)) told.4 ∙ rw told.5 refl
