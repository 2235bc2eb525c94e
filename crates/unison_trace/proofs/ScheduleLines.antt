-- The lines of schedules.
use Rattle.std.proofs.Common.{◌≡◌, ◌≢◌, true, false, ◌==◌, ℕ, zero, suc, ◌+◌, ◌<◌, ◌≤◌, ◌^◌, min, List, [], ◌∷◌, ◌++◌, codes, length, length-append, map, take, get_or, refl, sym, ap, ◌∙◌, arith, append_assoc, Some, None, slice_get}
use Rattle.std.specs.Fmt.{decimal}
use Rattle.std.specs.List.{All}
use Rattle.std.proofs.lemmas.List.{append_cancel_left, append-nil, length-take, take_all, take-append-le}
use Rattle.std.proofs.lemmas.List.Elements.{All-push, All-head, All-tail}
use Rattle.std.proofs.lemmas.Bool.Decides.{Decides-eqb}
use Rattle.rule_lang.proofs.Bytes.{digit_bounds}
use Rattle.report_text.specs.Digits.{IsDigits}
use Rattle.report_text.specs.Front.{IsFront, Anything}
use Rattle.report_text.specs.Lines.{lines_of}
use Rattle.report_text.proofs.Digits.{decimal_digits, number_once}
use Rattle.report_text.proofs.Lines.{IsInLine, line_split, inline_append, first_line, no_line}
use Rattle.unison_world.specs.declared.step.Step.{Step}
use Rattle.unison_world.specs.declared.step.Step.TheVariants.{Read, Write}
use Rattle.unison_trace.specs.Histories.{most_steps}
use Rattle.unison_trace.specs.Schedules.{line_of, IsStep, HasSteps, IsFirstBadLine}

digits_inline : (ds : List ℕ) → IsDigits ds → IsInLine ds
digits_inline [] each = tt
digits_inline (d ∷ ds) each = (λ ten. let low = digit_bounds d each.0 in absurd (omega (arith, low.0)), digits_inline ds each.1)

number_inline : (n : ℕ) → n < 2 ^ 32 → IsInLine (decimal n)
number_inline n small = digits_inline (decimal n) (decimal_digits n small)

-- the line of a step without its LF
abbrev body_of : Step → List ℕ
body_of (Read n s) = codes "read " ++ (decimal n ++ (codes " " ++ decimal s))
body_of (Write n) = codes "write " ++ decimal n

line_is : (step : Step) → line_of step ≡ body_of step ++ 10 ∷ []
line_is (Read n s) = simp append_assoc
line_is (Write n) = simp append_assoc

body_inline : (step : Step) → IsStep step → IsInLine (body_of step)
body_inline (Read n s) fits = (
  (λ e. absurd (omega arith)),
  (
    (λ e. absurd (omega arith)),
    (
      (λ e. absurd (omega arith)),
      (
        (λ e. absurd (omega arith)),
        (
          (λ e. absurd (omega arith)),
          inline_append (decimal n) (codes " " ++ decimal s) (number_inline n fits.0) ((λ e. absurd (omega arith)), number_inline s fits.1),
        ),
      ),
    ),
  ),
)
body_inline (Write n) fits =
    ((λ e. absurd (omega arith)), ((λ e. absurd (omega arith)), ((λ e. absurd (omega arith)), ((λ e. absurd (omega arith)), ((λ e. absurd (omega arith)), ((λ e. absurd (omega arith)), number_inline n fits))))))

-- the line of a step, and what stands after it
pub step_split : (step : Step) (rest : List ℕ) → IsStep step → lines_of (line_of step ++ rest) ≡ line_of step ∷ lines_of rest
step_split step rest fits =
    ap (λ l. lines_of (l ++ rest)) (line_is step) ∙ ap lines_of (append_assoc (body_of step) (10 ∷ []) rest)
    ∙ line_split (body_of step) rest (body_inline step fits) ∙ ap (λ l. l ∷ lines_of rest) (sym (line_is step))

-- the lines of steps, one after the other
abbrev pub text_of : List Step → List ℕ
text_of [] = []
text_of (step ∷ steps) = line_of step ++ text_of steps

pub lines_behind : (steps : List Step) (rest : List ℕ) → All IsStep steps → lines_of (text_of steps ++ rest) ≡ map line_of steps ++ lines_of rest
lines_behind [] rest each = refl
lines_behind (step ∷ steps) rest each =
    ap lines_of (append_assoc (line_of step) (text_of steps) rest)
    ∙ step_split step (text_of steps ++ rest) (All-head IsStep step steps each)
    ∙ ap (λ ls. line_of step ∷ ls) (lines_behind steps rest (All-tail IsStep step steps each))

pub text_push : (steps : List Step) (step : Step) (more : List ℕ) → text_of (steps ++ step ∷ []) ++ more ≡ text_of steps ++ (line_of step ++ more)
text_push [] step more = ap (λ l. l ++ more) (append-nil (line_of step))
text_push (first ∷ steps) step more =
    append_assoc (line_of first) (text_of (steps ++ step ∷ [])) more ∙ ap (λ t. line_of first ++ t) (text_push steps step more)
    ∙ sym (append_assoc (line_of first) (text_of steps) (line_of step ++ more))

-- a text of steps alone has these steps
pub steps_whole : (text : List ℕ) (steps : List Step) → text ≡ text_of steps → All IsStep steps → HasSteps text steps
steps_whole text steps is each = record {
  lines = ap lines_of (is ∙ sym (append-nil (text_of steps))) ∙ lines_behind steps [] each ∙ append-nil (map line_of steps);
  numbers = each;
}

line_once : (x y : Step) → IsStep x → IsStep y → line_of x ≡ line_of y → x ≡ y
line_once (Read n s) (Read m t) fits suits e =
    let a = append_cancel_left (codes "read ") (decimal n ++ (codes " " ++ (decimal s ++ 10 ∷ []))) (decimal m ++ (codes " " ++ (decimal t ++ 10 ∷ []))) e in
    let b = number_once n m (codes " " ++ (decimal s ++ 10 ∷ [])) (codes " " ++ (decimal t ++ 10 ∷ [])) fits.0 suits.0 refl refl a in
    let d = append_cancel_left (codes " ") (decimal s ++ 10 ∷ []) (decimal t ++ 10 ∷ []) b.1 in
    let f = number_once s t (10 ∷ []) (10 ∷ []) fits.1 suits.1 refl refl d in
    let left = b.0 in
    let right = f.0 in
    cc
line_once (Write n) (Write m) fits suits e =
    let a = append_cancel_left (codes "write ") (decimal n ++ 10 ∷ []) (decimal m ++ 10 ∷ []) e in
    let b = number_once n m (10 ∷ []) (10 ∷ []) fits suits refl refl a in
    let same = b.0 in
    cc
line_once (Read n s) (Write m) fits suits e = (let first : ◌≡◌ {A = ℕ} 114 119 = ap (λ bs. get_or bs 0 0) e in absurd (omega arith))
line_once (Write n) (Read m t) fits suits e = (let first : ◌≡◌ {A = ℕ} 119 114 = ap (λ bs. get_or bs 0 0) e in absurd (omega arith))

lines_once : (xs ys : List Step) → All IsStep xs → All IsStep ys → map line_of xs ≡ map line_of ys → xs ≡ ys
lines_once [] [] each both e = refl
lines_once [] (y ∷ ys) each both e = cc
lines_once (x ∷ xs) [] each both e = cc
lines_once (x ∷ xs) (y ∷ ys) each both e =
    let first : line_of x ≡ line_of y = cc in
    let rest : map line_of xs ≡ map line_of ys = cc in
    let same = line_once x y (All-head IsStep x xs each) (All-head IsStep y ys both) first in
    let others = lines_once xs ys (All-tail IsStep x xs each) (All-tail IsStep y ys both) rest in
    cc

-- a text has one list of steps at most
pub steps_once : (text : List ℕ) (xs ys : List Step) → HasSteps text xs → HasSteps text ys → xs ≡ ys
steps_once text xs ys h g = lines_once xs ys h.numbers g.numbers (sym h.lines ∙ g.lines)

some_lines : (rest : List ℕ) (ls : List (List ℕ)) → lines_of rest ≡ ls → rest ≢ [] → (bad : List ℕ) × (more : List (List ℕ)) × (ls ≡ bad ∷ more)
some_lines rest [] is some = absurd (some (no_line rest (ap (λ ls. slice_get ls 0) is)))
some_lines rest (bad ∷ more) is some = (bad, more, refl)

-- behind the good lines no line of a step stands, so the next line is the first bad one
pub first_bad : (text : List ℕ) (good : List Step) (rest : List ℕ) (number : ℕ) → text ≡ text_of good ++ rest → All IsStep good → rest ≢ [] → number ≡ length good + 1 → IsFront line_of IsStep Anything rest None → IsFirstBadLine text number
first_bad text good rest number cut each some place none =
    let found = some_lines rest (lines_of rest) refl some in
    record {
      good = good;
      bad = found.0;
      more = found.1;
      lines = ap lines_of cut ∙ lines_behind good rest each ∙ ap (λ ls. map line_of good ++ ls) found.2;
      numbers = each;
      place = place;
      no_step = λ step fits e.
          let begins = first_line rest (line_of step) (ap (λ ls. slice_get ls 0) found.2 ∙ ap Some e) in
          none step begins.rest fits tt begins.cut;
    }

-- the text begins with the lines of so many steps, the first of which are kept, as many as may be, and the rest stands after them
pub record IsReadTo (text rest : List ℕ) (count : ℕ) (kept : List Step) : Type 0 where
  pub good : List Step
  pub cut : text ≡ text_of good ++ rest
  pub numbers : All IsStep good
  pub many : count ≡ length good
  pub first : kept ≡ take most_steps good

take-again : (n : ℕ) (xs : List Step) (x : Step) → take n (take n xs ++ x ∷ []) ≡ take n (xs ++ x ∷ [])
take-again zero xs x = refl
take-again (suc n) [] x = refl
take-again (suc n) (y ∷ xs) x = ap (λ l. y ∷ l) (take-again n xs x)

-- one step more
pub read_more : (text rest more : List ℕ) (count : ℕ) (kept later : List Step) (step : Step) → IsReadTo text rest count kept → rest ≡ line_of step ++ more → IsStep step → later ≡ take most_steps (kept ++ step ∷ []) → IsReadTo text more (count + 1) later
read_more text rest more count kept later step r is fits keeps =
    record {
      good = r.good ++ step ∷ [];
      cut = r.cut ∙ ap (λ t. text_of r.good ++ t) is ∙ sym (text_push r.good step more);
      numbers = All-push IsStep r.good step r.numbers fits;
      many = omega (arith, length-append r.good (step ∷ []), r.many);
      first = keeps ∙ ap (λ k. take most_steps (k ++ step ∷ [])) r.first ∙ take-again most_steps r.good step;
    }

module _ (text rest : List ℕ) (count : ℕ) (kept : List Step) (r : IsReadTo text rest count kept) where
  pub kept_length : length kept ≡ min count most_steps
  kept_length = (let long = ap length r.first ∙ length-take most_steps r.good in let many = r.many in omega arith)

  -- where nothing stands after them, these are the steps of the text
  pub read_all : rest ≡ [] → HasSteps text r.good
  read_all e = steps_whole text r.good (r.cut ∙ ap (λ t. text_of r.good ++ t) e ∙ append-nil (text_of r.good)) r.numbers

  -- and all of them are kept where they are no more than may be
  pub kept_all : count ≤ most_steps → kept ≡ r.good
  kept_all few = r.first ∙ take_all most_steps r.good (let many = r.many in omega arith)

  -- where something stands after them that is no step's line, that is the first bad line
  pub read_bad : rest ≢ [] → IsFront line_of IsStep Anything rest None → IsFirstBadLine text (count + 1)
  read_bad some none = first_bad text r.good rest (count + 1) r.cut r.numbers some (let many = r.many in omega arith) none

-- a step more is kept, where that makes no more than may be
pub keep-fits : (n : ℕ) (xs ys : List Step) (x : Step) → ys ≡ xs ++ x ∷ [] → length xs < n → ys ≡ take n (xs ++ x ∷ [])
keep-fits n xs ys x is room = is ∙ sym (take_all n (xs ++ x ∷ []) (omega (arith, length-append xs (x ∷ []))))

pub keep-full : (n : ℕ) (xs : List Step) (x : Step) → length xs ≡ n → xs ≡ take n (xs ++ x ∷ [])
keep-full n xs x full = sym (take-append-le n xs (x ∷ []) (omega arith) ∙ take_all n xs (omega arith))

-- a line is no empty text
pub read_line_shorter : (rest more : List ℕ) (step : Step) → rest ≡ line_of step ++ more → length more < length rest
read_line_shorter rest more (Read n s) is = (let e = ap length is ∙ length-append (line_of (Read n s)) more in omega arith)
read_line_shorter rest more (Write n) is = (let e = ap length is ∙ length-append (line_of (Write n)) more in omega arith)

pub no_bytes : (bytes : List ℕ) → true ≡ (length bytes == 0) → bytes ≡ []
no_bytes [] h = refl
no_bytes (b ∷ bytes) h = (let e = (Decides-eqb (length (b ∷ bytes)) 0).0 (sym h) in absurd (omega arith))

pub some_bytes : (bytes : List ℕ) → false ≡ (length bytes == 0) → bytes ≢ []
some_bytes [] h e = cc
some_bytes (b ∷ bytes) h e = cc

at_first : (text : List ℕ) (step : Step) (lines : List (List ℕ)) → IsStep step → lines_of text ≡ line_of step ∷ lines → (good : List Step) (bad : List ℕ) (more : List (List ℕ)) → lines_of text ≡ map line_of good ++ bad ∷ more → 1 ≡ length good + 1 → ((s : Step) → IsStep s → bad ≢ line_of s) → ⊥
at_first text step lines fits is [] bad more found place none = let same : bad ≡ line_of step = cc in none step fits same
at_first text step lines fits is (g ∷ good) bad more found place none = omega arith

no_first : (good : List Step) (bad : List ℕ) (more : List (List ℕ)) → [] ≡ map line_of good ++ bad ∷ more → ⊥
no_first [] bad more found = cc
no_first (g ∷ good) bad more found = cc

good_alone : (text rest : List ℕ) (good : List Step) → text ≡ text_of good ++ rest → All IsStep good → IsFirstBadLine text 1 → length good ≡ 0
good_alone text rest [] cut each bad = refl
good_alone text rest (step ∷ good) cut each bad =
    absurd (at_first text step (map line_of good ++ lines_of rest) (All-head IsStep step good each) (ap lines_of cut ∙ lines_behind (step ∷ good) rest each) bad.good bad.bad bad.more bad.lines bad.place bad.no_step)

-- where the first line is bad, no step was read
pub alone : (text rest : List ℕ) (count : ℕ) (kept : List Step) → IsReadTo text rest count kept → IsFirstBadLine text 1 → count ≡ 0
alone text rest count kept r bad = r.many ∙ good_alone text rest r.good r.cut r.numbers bad

-- nor stands one in front
pub no_step_first : (text rest more : List ℕ) (count : ℕ) (kept : List Step) (step : Step) → IsReadTo text rest count kept → rest ≡ line_of step ++ more → IsStep step → IsFirstBadLine text 1 → ⊥
no_step_first text rest more count kept step r is fits bad =
    let none = alone text more (count + 1) (take most_steps (kept ++ step ∷ [])) (read_more text rest more count kept (take most_steps (kept ++ step ∷ [])) step r is fits refl) bad in
    omega (arith, none)

whole_or_bad : (text : List ℕ) (good : List Step) → HasSteps text good → IsFirstBadLine text 1 → ⊥
whole_or_bad text [] has bad = no_first bad.good bad.bad bad.more (sym has.lines ∙ bad.lines)
whole_or_bad text (step ∷ good) has bad = at_first text step (map line_of good) (All-head IsStep step good has.numbers) has.lines bad.good bad.bad bad.more bad.lines bad.place bad.no_step

-- and the text is not one of steps alone
pub no_end_first : (text rest : List ℕ) (count : ℕ) (kept : List Step) (r : IsReadTo text rest count kept) → rest ≡ [] → IsFirstBadLine text 1 → ⊥
no_end_first text rest count kept r none bad = whole_or_bad text r.good (read_all text rest count kept r none) bad
