-- Lines, one after another.
use Rattle.std.proofs.Common.{◌≡◌, inl, inr, ℕ, suc, ◌+◌, ◌≤◌, Bool, true, false, not, ◌==◌, List, [], ◌∷◌, length, filter, refl, sym, ap, ◌∙◌, arith, length-drop, one-add, add-one}
use Rattle.std.specs.List.{position_or_len, before_first, after_first}
use Rattle.std.proofs.lemmas.Bool.{cases_Bool, eqb-false}
use Rattle.std.proofs.lemmas.Bool.Decides.{Decides-eqb}
use Rattle.net_patterns.specs.Texts.{is_line_feed, lines_behind, says_nothing, told_from}

-- the lines after one are the next and those after it
pub told_behind : (text : List ℕ) (line : ℕ) → filter (λ (l : ℕ × List ℕ). not (says_nothing (before_first is_line_feed l.1))) (lines_behind line text) ≡ told_from (line + 1) (after_first is_line_feed text)
told_behind [] line = refl
told_behind (b ∷ bs) line =
    elim (cases_Bool (is_line_feed b)) [
      | inl is_one ↦ rw is_one refl
      | inr other ↦ rw (other, one-add (position_or_len is_line_feed bs), add-one (suc (position_or_len is_line_feed bs))) (rw (add-one (position_or_len is_line_feed bs)) at (told_behind bs line))
    ]

module _ (line : ℕ) (text head rest : List ℕ) (nothing : Bool) (is : head ≡ before_first is_line_feed text) (behind : rest ≡ after_first is_line_feed text) (tells : nothing ≡ says_nothing head) where
  pub told_said : nothing ≡ false → told_from line text ≡ (line, text) ∷ told_from (line + 1) rest
  told_said holds = (let said : says_nothing (before_first is_line_feed text) ≡ false = ap says_nothing (sym is) ∙ sym tells ∙ holds in rw (said, behind) (ap (λ ls. (line, text) ∷ ls) (told_behind text line)))

  pub told_passed : nothing ≡ true → told_from (line + 1) rest ≡ told_from line text
  told_passed holds = (let said : says_nothing (before_first is_line_feed text) ≡ true = ap says_nothing (sym is) ∙ sym tells ∙ holds in rw (said, behind) (sym (told_behind text line)))

-- after a line there is less
pub rest_shorter : (bs rest : List ℕ) → rest ≡ after_first is_line_feed bs → false ≡ (length bs == 0) → length rest + 1 ≤ length bs
rest_shorter bs rest is some =
    let full = eqb-false (length bs) 0 (sym some) in
    let less = ap length is ∙ length-drop (position_or_len is_line_feed bs + 1) bs in
    omega (arith, less)
