-- Lists of nodes, line by line.
use Rattle.std.proofs.Common.{◌≡◌, ℕ, suc, ◌+◌, ◌≤◌, false, ◌==◌, List, [], ◌∷◌, ◌++◌, length, drop, refl, sym, ap, ◌∙◌, append_assoc, one-add, add-one, length-drop, inl, inr, arith}
use Rattle.std.specs.List.{slice_split, position_or_len, before_first, after_first}
use Rattle.std.proofs.lemmas.Bool.{cases_Bool, eqb-false}
use Rattle.import_lines.specs.Texts.{is_line_feed}
use Rattle.net_initial.specs.NodeLists.{trimmed, names_nothing, with_line, listed_from, listed_in}

-- the lines after the first one, where what stands after it begins with the end of a line
abbrev others : List ℕ → List (List ℕ)
others [] = []
others (x ∷ xs) = slice_split is_line_feed xs

split_first : (xs : List ℕ) → slice_split is_line_feed xs ≡ before_first is_line_feed xs ∷ others (drop (position_or_len is_line_feed xs) xs)
split_first [] = refl
split_first (x ∷ xs) =
    elim (cases_Bool (is_line_feed x)) [
      | inl is_one ↦ rw is_one refl
      | inr other ↦ rw (other, one-add (position_or_len is_line_feed xs), split_first xs) refl
    ]

listed_behind : (n : ℕ) (bs : List ℕ) → listed_from n (others (drop (position_or_len is_line_feed bs) bs)) ≡ listed_in n (after_first is_line_feed bs)
listed_behind n [] = refl
listed_behind n (b ∷ bs) =
    elim (cases_Bool (is_line_feed b)) [
      | inl is_one ↦ rw is_one refl
      | inr other ↦ rw (other, one-add (position_or_len is_line_feed bs), add-one (suc (position_or_len is_line_feed bs))) (rw (add-one (position_or_len is_line_feed bs)) at (listed_behind n bs))
    ]

-- the first line, and the lines after it
first_line : (n : ℕ) (bs line rest : List ℕ) → line ≡ before_first is_line_feed bs → rest ≡ after_first is_line_feed bs → listed_in n bs ≡ with_line n line (listed_in (n + 1) rest)
first_line n bs line rest is behind = rw (is, behind, split_first bs, listed_behind (n + 1) bs) refl

before_others : (n : ℕ) (line : List ℕ) (ls : List (ℕ × List ℕ)) → with_line n line ls ≡ with_line n line [] ++ ls
before_others n line ls =
    elim (cases_Bool (names_nothing (trimmed line))) [
      | inl nothing ↦ rw nothing refl
      | inr some ↦ rw some refl
    ]

-- one more line
pub lines_more : (k : ℕ) (bs line rest : List ℕ) (done whole : List (ℕ × List ℕ)) → line ≡ before_first is_line_feed bs → rest ≡ after_first is_line_feed bs → done ++ listed_in (k + 1) bs ≡ whole
    → (done ++ with_line (k + 1) line []) ++ listed_in ((k + 1) + 1) rest ≡ whole
lines_more k bs line rest done whole is behind before =
    append_assoc done (with_line (k + 1) line []) (listed_in ((k + 1) + 1) rest)
    ∙ ap (λ t. done ++ t) (sym (before_others (k + 1) line (listed_in ((k + 1) + 1) rest)) ∙ sym (first_line (k + 1) bs line rest is behind))
    ∙ before

-- after a line there is less
pub rest_shorter : (bs rest : List ℕ) → rest ≡ after_first is_line_feed bs → false ≡ (length bs == 0) → length rest + 1 ≤ length bs
rest_shorter bs rest is some =
    let full = eqb-false (length bs) 0 (sym some) in
    let less = ap length is ∙ length-drop (position_or_len is_line_feed bs + 1) bs in
    omega (arith, less)
