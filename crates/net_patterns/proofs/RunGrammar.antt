-- Texts of runs by their grammar, and byte by byte: the same pieces.
use Rattle.std.proofs.Common.{◌≡◌, ◌≢◌, ◌∙◌, ◌⊎◌, inl, inr, ℕ, zero, suc, ◌+◌, ◌*◌, ◌-◌, ◌/◌, ◌%◌, ◌<◌, ◌≤◌, ◌==◌, Bool, true, false, cond, ◌&&◌, ◌||◌, List, [], ◌∷◌, ◌++◌, length, nat_lt, nat_le, Option, Some, None, Result, Ok, Err, refl, sym, ap, subst, arith, append_assoc, length-append, slice_index, if◌then◌else◌, MatchResult}
use Rattle.std.specs.Char.{is_ascii_digit, digit_value}
use Rattle.std.specs.List.{count_by, after_first}
use Rattle.std.specs.Str.Parse.{IsNumeral, digits_value}
use Rattle.std.proofs.lemmas.Bool.{cases_Bool, or_cases}
use Rattle.std.proofs.lemmas.Bool.Decides.{nat_tests}
use Rattle.std.proofs.lemmas.List.Sums.{sum_by-cons}
use Rattle.std.proofs.lemmas.Str.{digit_value_digit}
use Rattle.std.proofs.lemmas.Int.Digits.{digits_push, digits_value_push}
use Rattle.net_patterns.specs.declared.board.Cell.{Cell}
use Rattle.net_patterns.specs.declared.board.Mark.{Mark}
use Rattle.net_patterns.specs.declared.board.Mark.TheVariants.{Dead, Alive, RowEnd}
use Rattle.net_patterns.specs.declared.fault.PatternFault.{PatternFault}
use Rattle.net_patterns.specs.declared.fault.PatternFault.TheVariants.{BadCell, BadCount, Memory, NoEnd}
use Rattle.net_patterns.specs.Cells.{IsAnswer, Run, pattern_of}
use Rattle.net_patterns.specs.Rle.{AreRuns, EndsDigits, EndsRuns, IsCount, IsCountOf, IsFaultAt, IsTagOf, is_blank, line_behind}
use Rattle.net_patterns.specs.RunSteps.{alive_of, count_of, higher_of, is_between, line_past, mark_of, pattern_in, pieces_behind, pieces_from, plain_tag}
use Rattle.net_patterns.specs.Texts.{AreOfKind, ArePiecesBehind, IsPattern, is_comment, is_line_feed, plain_pieces, told_from}
use Rattle.net_patterns.specs.Written.{state_tag}
use Rattle.net_patterns.proofs.RunTexts.{IsTag, dead_tag, ends_tag, gap_passed, line_after, live_tag, numeral_read, point_tag}
use Rattle.net_patterns.proofs.StateTags.{state_tag_read}

-- the line after blanks
feed_step : (feed : Bool) (line n : ℕ) → cond feed (line + 1) line + n ≡ line + (cond feed 1 0 + n)
feed_step true line n = omega arith
feed_step false line n = omega arith

feed_counted : (line b : ℕ) (bs : List ℕ) → line_behind (line_past line b) bs ≡ line_behind line (b ∷ bs)
feed_counted line b bs = feed_step (b == 10) line (count_by (λ x. x == 10) bs) ∙ ap (λ n. line + n) (sym (sum_by-cons (λ x. cond (x == 10) 1 0) b bs))

line_same : (blanks : List ℕ) (line : ℕ) → line_after line blanks ≡ line_behind line blanks
line_same [] line = omega arith
line_same (b ∷ bs) line = line_same bs (line_past line b) ∙ feed_counted line b bs

-- the tags of marks are read
tag_read : (mark : Mark) (tag : List ℕ) → IsTagOf mark tag → IsTag tag mark
tag_read Dead tag (inl is) = rw is dead_tag
tag_read Dead tag (inr is) = rw is point_tag
tag_read (Alive state) tag (inl (one, is)) = rw (one, is) live_tag
tag_read (Alive state) tag (inr (some, few, is)) = rw is (state_tag_read state some few)
tag_read RowEnd tag is = rw is ends_tag

abbrev a_run : ℕ → ℕ → Mark → Run
a_run line count mark = record { line = line; count = count; mark = mark }

run_passed : (line n : ℕ) (digits tag rest : List ℕ) (mark : Mark) → IsCountOf n digits → IsTagOf mark tag
    → pieces_from line None 0 (digits ++ (tag ++ rest)) ≡ Ok (a_run line n mark) ∷ pieces_from line None 0 rest
run_passed line n digits tag rest mark (inl (none, one)) is = rw (none, one) ((tag_read mark tag is).single line rest)
run_passed line n digits tag rest mark (inr (numeral, value, count)) is =
    numeral_read digits line (tag ++ rest) numeral
    ∙ ap (λ k. pieces_from line (Some k) 0 (tag ++ rest)) value
    ∙ (tag_read mark tag is).counted line n rest count.0 count.1

-- numbers that are counts, and others
counted : (n : ℕ) → IsCount n → (nat_lt 0 n && nat_le n 999999999) ≡ true
counted n (some, few) = grind (arith, nat_tests)

count_from : (n : ℕ) → (nat_lt 0 n && nat_le n 999999999) ≡ true → IsCount n
count_from n is = (grind (arith, nat_tests), grind (arith, nat_tests))

not_counted : (n : ℕ) → (IsCount n → ⊥) → (nat_lt 0 n && nat_le n 999999999) ≡ false
not_counted n never =
    elim (cases_Bool (nat_lt 0 n && nat_le n 999999999)) [
      | inl fits ↦ absurd (never (count_from n fits))
      | inr other ↦ other
    ]

-- a number that no tag follows
count_refused : (behind : List ℕ) (line n : ℕ) → EndsDigits behind → ((IsCount n → ⊥) ⊎ EndsRuns behind) → pieces_from line (Some n) 0 behind ≡ Err (BadCount line) ∷ []
count_refused [] line n ends why = refl
count_refused (b ∷ bs) line n ends (inl never) = rw (ends, not_counted n never) refl
count_refused (b ∷ bs) line n ends (inr between) =
    elim (cases_Bool (nat_lt 0 n && nat_le n 999999999)) [
      | inl fits ↦ rw (ends, fits, between) refl
      | inr other ↦ rw (ends, other) refl
    ]

-- the letters of a mark are its tag
clash_none : {X : Type 0} (x : X) → ◌≡◌ {A = Option X} None (Some x) → ⊥
clash_none x e = cc

short_state : (b : ℕ) → 65 ≤ b → b ≤ 88 → (b ∷ []) ≡ state_tag (b - 64)
short_state b low high =
    let few : nat_le (b - 64) 24 ≡ true = grind (arith, nat_tests) in
    let e : 64 + (b - 64) ≡ b = omega arith in
    rw (few, e) refl

long_state : (b c : ℕ) → 112 ≤ b → 65 ≤ c → c ≤ 88 → (b ∷ c ∷ []) ≡ state_tag (24 * (b - 111) + (c - 64))
long_state b c high low few =
    let more : nat_le (24 * (b - 111) + (c - 64)) 24 ≡ false = grind (arith, nat_tests) in
    let first : 111 + (24 * (b - 111) + (c - 64) - 1) / 24 ≡ b = omega arith in
    let second : 65 + (24 * (b - 111) + (c - 64) - 1) % 24 ≡ c = omega arith in
    rw (more, first, second) refl

alive_tag : (state : ℕ) (mark : Mark) (tag : List ℕ) → alive_of state ≡ Some mark → 1 ≤ state → tag ≡ state_tag state → IsTagOf mark tag
alive_tag state mark tag is some same =
    elim (cases_Bool (nat_le state 255)) [
      | inl few ↦
          (let alive : Alive state ≡ mark = let e = rw few at is in cc in
          let low : state ≤ 255 = grind (arith, nat_tests) in
          rw (sym alive) (inr (some, low, same)))
      | inr more ↦ absurd (clash_none mark (rw more at is))
    ]

dead_letter : (b : ℕ) → (b == 98 || b == 46) ≡ true → IsTagOf Dead (b ∷ [])
dead_letter b is =
    elim (or_cases (b == 98) (b == 46) is) [
      | inl letter ↦ (let e : b ≡ 98 = grind (arith, nat_tests) in inl (ap (λ x. x ∷ []) e))
      | inr point ↦ (let e : b ≡ 46 = grind (arith, nat_tests) in inr (ap (λ x. x ∷ []) e))
    ]

live_letter : (b : ℕ) → (b == 111) ≡ true → IsTagOf (Alive 1) (b ∷ [])
live_letter b is = let e : b ≡ 111 = grind (arith, nat_tests) in inl (refl, ap (λ x. x ∷ []) e)

end_letter : (b : ℕ) → (b == 36) ≡ true → IsTagOf RowEnd (b ∷ [])
end_letter b is = let e : b ≡ 36 = grind (arith, nat_tests) in ap (λ x. x ∷ []) e

same_mark : (one other : Mark) → ◌≡◌ {A = Option Mark} (Some one) (Some other) → one ≡ other
same_mark one other e = cc

plain_letter : (b : ℕ) (mark : Mark) → plain_tag b ≡ Some mark → IsTagOf mark (b ∷ [])
plain_letter b mark is =
    elim (cases_Bool (b == 98 || b == 46)) [
      | inl dead ↦ subst (λ m. IsTagOf m (b ∷ [])) (same_mark Dead mark (rw dead at is)) (dead_letter b dead)
      | inr some ↦ elim (cases_Bool (b == 111)) [
        | inl live ↦ subst (λ m. IsTagOf m (b ∷ [])) (same_mark (Alive 1) mark (rw (some, live) at is)) (live_letter b live)
        | inr other ↦ elim (cases_Bool (b == 36)) [
          | inl last ↦ subst (λ m. IsTagOf m (b ∷ [])) (same_mark RowEnd mark (rw (some, other, last) at is)) (end_letter b last)
          | inr none ↦ absurd (clash_none mark (rw (some, other, none) at is))
        ]
      ]
    ]

one_letter : (b : ℕ) (mark : Mark) → mark_of 0 b ≡ Some mark → IsTagOf mark (b ∷ [])
one_letter b mark is =
    elim (cases_Bool (nat_le 65 b && nat_le b 88)) [
      | inl capital ↦
          (let low : 65 ≤ b = grind (arith, nat_tests) in
          let high : b ≤ 88 = grind (arith, nat_tests) in
          let e : 0 + (b - 64) ≡ b - 64 = omega arith in
          alive_tag (b - 64) mark (b ∷ []) (ap alive_of (sym e) ∙ (rw capital at is)) (omega arith) (short_state b low high))
      | inr other ↦ plain_letter b mark (rw other at is)
    ]

-- a letter from p to y
higher_is : (b higher : ℕ) → higher_of b ≡ Some higher → (112 ≤ b) × (higher ≡ 24 * (b - 111))
higher_is b higher is =
    elim (cases_Bool (nat_le 112 b && nat_le b 121)) [
      | inl small ↦ (grind (arith, nat_tests), let e : ◌≡◌ {A = Option ℕ} (Some (24 * (b - 111))) (Some higher) = rw small at is in cc)
      | inr other ↦ absurd (clash_none higher (rw other at is))
    ]

not_zero : (b higher : ℕ) → higher_of b ≡ Some higher → (higher == 0) ≡ false
not_zero b higher is =
    let h = higher_is b higher is in
    let low : 112 ≤ b = h.0 in
    let same : higher ≡ 24 * (b - 111) = h.1 in
    let some : 0 < higher = omega arith in
    grind (arith, nat_tests)

two_letters : (b c higher : ℕ) (mark : Mark) → higher_of b ≡ Some higher → mark_of higher c ≡ Some mark → IsTagOf mark (b ∷ c ∷ [])
two_letters b c higher mark first second =
    let h = higher_is b higher first in
    elim (cases_Bool (nat_le 65 c && nat_le c 88)) [
      | inl capital ↦
          (let low : 65 ≤ c = grind (arith, nat_tests) in
          let few : c ≤ 88 = grind (arith, nat_tests) in
          let same : 24 * (b - 111) + (c - 64) ≡ higher + (c - 64) = ap (λ n. n + (c - 64)) (sym h.1) in
          alive_tag (higher + (c - 64)) mark (b ∷ c ∷ []) (rw capital at second) (omega arith) (long_state b c h.0 low few ∙ ap state_tag same))
      | inr other ↦ absurd (clash_none mark (rw (other, not_zero b higher first) at second))
    ]

-- a text begins with a tag
record Tagged (text : List ℕ) : Type 0 where
  mark : Mark
  tag : List ℕ
  rest : List ℕ
  is : IsTagOf mark tag
  same : text ≡ tag ++ rest
  less : length rest < length text

-- after any number a character without a meaning stands at the front
abbrev Untagged : List ℕ → Type 0
Untagged text = (line : ℕ) (number : Option ℕ) (n : ℕ) → count_of number ≡ Some n → pieces_from line number 0 text ≡ Err (BadCell line) ∷ []

alone : (b : ℕ) (bs : List ℕ) → is_ascii_digit b ≡ false → is_between b ≡ false → higher_of b ≡ None → (o : Option Mark) → mark_of 0 b ≡ o → Tagged (b ∷ bs) ⊎ Untagged (b ∷ bs)
alone b bs other more none (Some m) e = inl (record { mark = m; tag = b ∷ []; rest = bs; is = one_letter b m e; same = refl; less = omega arith })
alone b bs other more none None e = inr (λ line number n is. rw (other, is, more, none, e) refl)

paired : (b c : ℕ) (cs : List ℕ) (higher : ℕ) → is_ascii_digit b ≡ false → is_between b ≡ false → higher_of b ≡ Some higher → (o : Option Mark) → mark_of higher c ≡ o → Tagged (b ∷ c ∷ cs) ⊎ Untagged (b ∷ c ∷ cs)
paired b c cs higher other more first (Some m) e = inl (record { mark = m; tag = b ∷ c ∷ []; rest = cs; is = two_letters b c higher m first e; same = refl; less = omega arith })
paired b c cs higher other more first None e = inr (λ line number n is. rw (other, is, more, first, not_zero b higher first, e) refl)

cut_off : (b higher : ℕ) → is_ascii_digit b ≡ false → is_between b ≡ false → higher_of b ≡ Some higher → Untagged (b ∷ [])
cut_off b higher other more first line number n is =
    let zero : (higher == 0) ≡ false = not_zero b higher first in
    let some : nat_lt 0 higher ≡ true = grind (arith, nat_tests) in
    rw (other, is, more, first, some) refl

tagged : (b : ℕ) (bs : List ℕ) → is_ascii_digit b ≡ false → is_between b ≡ false → (o : Option ℕ) → higher_of b ≡ o → Tagged (b ∷ bs) ⊎ Untagged (b ∷ bs)
tagged b bs other more None e = alone b bs other more e (mark_of 0 b) refl
tagged b [] other more (Some higher) e = inr (cut_off b higher other more e)
tagged b (c ∷ cs) other more (Some higher) e = paired b c cs higher other more e (mark_of higher c) refl

pieces_clash : (run : Run) (fault : PatternFault) (ps : List (Result Run PatternFault)) → ◌≡◌ {A = List (Result Run PatternFault)} (Ok run ∷ ps) (Err fault ∷ []) → ⊥
pieces_clash run fault ps e = cc

-- where no tag is read, none stands
no_tag : (text : List ℕ) → Untagged text → (mark : Mark) (tag rest : List ℕ) → IsTagOf mark tag → text ≡ tag ++ rest → ⊥
no_tag text never mark tag rest is same =
    pieces_clash (a_run 0 1 mark) (BadCell 0) (pieces_from 0 None 0 rest)
    (sym ((tag_read mark tag is).single 0 rest) ∙ ap (pieces_from 0 None 0) (sym same) ∙ never 0 None 1 refl)

not_true : (t : Bool) → (t ≡ true → ⊥) → t ≡ false
not_true true never = absurd (never refl)
not_true false never = refl

-- a character without a meaning
cell_refused : (behind : List ℕ) (line : ℕ) (number : Option ℕ) (n : ℕ) → count_of number ≡ Some n → EndsDigits behind → (EndsRuns behind → ⊥)
    → ((mark : Mark) (tag rest : List ℕ) → IsTagOf mark tag → behind ≡ tag ++ rest → ⊥) → pieces_from line number 0 behind ≡ Err (BadCell line) ∷ []
cell_refused [] line number n is ends more none = absurd (more tt)
cell_refused (b ∷ bs) line number n is ends more none =
    elim (tagged b bs ends (not_true (is_between b) more) (higher_of b) refl) [
      | inl t ↦ absurd (none t.mark t.tag t.rest t.is t.same)
      | inr never ↦ never line number n is
    ]

numbered : (digits behind : List ℕ) (line n : ℕ) → IsCountOf n digits → EndsDigits behind → (EndsRuns behind → ⊥)
    → ((mark : Mark) (tag rest : List ℕ) → IsTagOf mark tag → behind ≡ tag ++ rest → ⊥) → pieces_from line None 0 (digits ++ behind) ≡ Err (BadCell line) ∷ []
numbered digits behind line n (inl (none, one)) ends more never = rw none (cell_refused behind line None 1 refl ends more never)
numbered digits behind line n (inr (numeral, value, count)) ends more never =
    numeral_read digits line behind numeral
    ∙ ap (λ k. pieces_from line (Some k) 0 behind) value
    ∙ cell_refused behind line (Some n) n (rw (counted n count) refl) ends more never

fault_passed : (fault : PatternFault) (line : ℕ) (text : List ℕ) → IsFaultAt line text fault → pieces_from line None 0 text ≡ Err fault ∷ []
fault_passed NoEnd line text is = rw is refl
fault_passed (BadCount l) line text (e, (digits, behind, same, numeral, ends, why)) =
    ap (pieces_from line None 0) same ∙ numeral_read digits line behind numeral ∙ count_refused behind line (digits_value 10 digits) ends why ∙ ap (λ k. Err (BadCount k) ∷ []) (sym e)
fault_passed (BadCell l) line text (e, (n, digits, behind, same, is, ends, more, never)) =
    ap (pieces_from line None 0) same ∙ numbered digits behind line n is ends more never ∙ ap (λ k. Err (BadCell k) ∷ []) (sym e)
fault_passed _ line text is = absurd is

-- the pieces by the grammar are those byte by byte
same_pieces : (pieces : List (Result Run PatternFault)) (line : ℕ) (text : List ℕ) → AreRuns line pieces text → pieces_from line None 0 text ≡ pieces
same_pieces [] line text (blanks, behind, all, same) = ap (pieces_from line None 0) same ∙ gap_passed blanks line (33 ∷ behind) all
same_pieces (Ok run ∷ pieces) line text (blanks, digits, tag, rest, all, same, at_line, is_count, is_tag, more) =
    ap (pieces_from line None 0) same
    ∙ gap_passed blanks line (digits ++ (tag ++ rest)) all
    ∙ run_passed (line_after line blanks) run.count digits tag rest run.mark is_count is_tag
    ∙ ap (λ l. Ok (a_run l run.count run.mark) ∷ pieces_from l None 0 rest) (line_same blanks line ∙ sym at_line)
    ∙ ap (λ ps. Ok run ∷ ps) (same_pieces pieces run.line rest more)
same_pieces (Err fault ∷ pieces) line text (none, (blanks, rest, all, same, is)) =
    ap (pieces_from line None 0) same
    ∙ gap_passed blanks line rest all
    ∙ ap (λ l. pieces_from l None 0 rest) (line_same blanks line)
    ∙ fault_passed fault (line_behind line blanks) rest is
    ∙ ap (λ ps. Err fault ∷ ps) (sym none)

-- each text has pieces by the grammar: those that are read byte by byte
abbrev Read : ℕ → List ℕ → Type 0
Read line text = AreRuns line (pieces_from line None 0 text) text

at_once : (line : ℕ) → line ≡ line_behind line []
at_once line = omega arith

-- a blank before a text
blank_passed : (pieces : List (Result Run PatternFault)) (line b : ℕ) (text : List ℕ) → is_blank b ≡ true → AreRuns (line_past line b) pieces text → AreRuns line pieces (b ∷ text)
blank_passed [] line b text is (blanks, behind, all, same) = (b ∷ blanks, behind, rw is all, ap (λ bs. b ∷ bs) same)
blank_passed (Ok run ∷ pieces) line b text is (blanks, digits, tag, rest, all, same, at_line, is_count, is_tag, more) =
    (b ∷ blanks, digits, tag, rest, rw is all, ap (λ bs. b ∷ bs) same, at_line ∙ feed_counted line b blanks, is_count, is_tag, more)
blank_passed (Err fault ∷ pieces) line b text is (none, (blanks, rest, all, same, is_fault)) =
    (none, (b ∷ blanks, rest, rw is all, ap (λ bs. b ∷ bs) same, subst (λ l. IsFaultAt l rest fault) (feed_counted line b blanks) is_fault))

fault_here : (fault : PatternFault) (line : ℕ) (text : List ℕ) → IsFaultAt line text fault → AreRuns line (Err fault ∷ []) text
fault_here fault line text is = (refl, ([], text, refl, refl, subst (λ l. IsFaultAt l text fault) (at_once line) is))

is_number : (line n : ℕ) (digits behind : List ℕ) → IsNumeral 10 digits → digits_value 10 digits ≡ n → EndsDigits behind → ((IsCount n → ⊥) ⊎ EndsRuns behind) → AreRuns line (Err (BadCount line) ∷ []) (digits ++ behind)
is_number line n digits behind numeral value ends why =
    fault_here (BadCount line) line (digits ++ behind) (refl, (digits, behind, refl, numeral, ends, subst (λ k. (IsCount k → ⊥) ⊎ EndsRuns behind) (sym value) why))

true_is : (t : Bool) → t ≡ true → t ≡ false → ⊥
true_is t yes_it no_it = cc

-- a tag after a count, or a character without a meaning
tag_told : (b : ℕ) (bs : List ℕ) (line n : ℕ) (number : Option ℕ) (digits : List ℕ) → IsCountOf n digits → count_of number ≡ Some n → pieces_from line None 0 (digits ++ (b ∷ bs)) ≡ pieces_from line number 0 (b ∷ bs)
    → is_ascii_digit b ≡ false → is_between b ≡ false → ((rest : List ℕ) → length rest ≤ length bs → Read line rest) → AreRuns line (pieces_from line number 0 (b ∷ bs)) (digits ++ (b ∷ bs))
tag_told b bs line n number digits is_count is ahead other more later =
    elim (tagged b bs other more (higher_of b) refl) [
      | inl t ↦
          (let whole : digits ++ (b ∷ bs) ≡ digits ++ (t.tag ++ t.rest) = ap (λ ys. digits ++ ys) t.same in
          let few : length t.rest < length (b ∷ bs) = t.less in
          subst (λ ps. AreRuns line ps (digits ++ (b ∷ bs)))
          (sym (run_passed line n digits t.tag t.rest t.mark is_count t.is) ∙ ap (pieces_from line None 0) (sym whole) ∙ ahead)
          ([], digits, t.tag, t.rest, refl, whole, at_once line, is_count, t.is, later t.rest (omega arith)))
      | inr never ↦
          subst (λ ps. AreRuns line ps (digits ++ (b ∷ bs))) (sym (never line number n is))
          (fault_here (BadCell line) line (digits ++ (b ∷ bs))
          (refl, (n, digits, b ∷ bs, refl, is_count, other, λ between. true_is (is_between b) between more, no_tag (b ∷ bs) never)))
    ]

digit_range : (d : ℕ) → is_ascii_digit d ≡ true → (48 ≤ d) × (d ≤ 57)
digit_range d digit = (grind (arith, nat_tests), grind (arith, nat_tests))

digit_behind : (ds : List ℕ) (d : ℕ) → is_ascii_digit d ≡ true → IsNumeral 10 ds → IsNumeral 10 (ds ++ d ∷ []) × (digits_value 10 (ds ++ d ∷ []) ≡ 10 * digits_value 10 ds + (d - 48))
digit_behind ds d digit numeral =
    let range = digit_range d digit in
    let value : digit_value d + 48 ≡ d = digit_value_digit d range in
    let longer = length-append ds (d ∷ []) in (
      (omega arith, digits_push 10 ds d numeral.1 (omega arith)),
      digits_value_push 10 ds d ∙ omega arith,
    )

one_digit : (d : ℕ) → is_ascii_digit d ≡ true → IsNumeral 10 (d ∷ [])
one_digit d digit =
    let range = digit_range d digit in
    let value : digit_value d + 48 ≡ d = digit_value_digit d range in
    (omega arith, (omega arith, tt))

-- a number
number_told : (bs : List ℕ) (line : ℕ) (digits : List ℕ) → IsNumeral 10 digits → ((rest : List ℕ) → length rest ≤ length bs → Read line rest) → AreRuns line (pieces_from line (Some (digits_value 10 digits)) 0 bs) (digits ++ bs)
number_told [] line digits numeral later = is_number line (digits_value 10 digits) digits [] numeral refl tt (inr tt)
number_told (b ∷ bs) line digits numeral later =
    let n = digits_value 10 digits in
    elim (cases_Bool (is_ascii_digit b)) [
      | inl digit ↦
          (let (is, value) = digit_behind digits b digit numeral in
          let next : pieces_from line (Some n) 0 (b ∷ bs) ≡ pieces_from line (Some (digits_value 10 (digits ++ b ∷ []))) 0 bs = rw digit (ap (λ k. pieces_from line (Some k) 0 bs) (sym value)) in
          subst (λ ps. AreRuns line ps (digits ++ (b ∷ bs))) (sym next)
          (subst (AreRuns line (pieces_from line (Some (digits_value 10 (digits ++ b ∷ []))) 0 bs)) (append_assoc digits (b ∷ []) bs)
          (number_told bs line (digits ++ b ∷ []) is (λ rest few. later rest (omega arith)))))
      | inr other ↦ elim (cases_Bool (nat_lt 0 n && nat_le n 999999999)) [
        | inr none ↦
            (let never : IsCount n → ⊥ = λ count. true_is (nat_lt 0 n && nat_le n 999999999) (counted n count) none in
            subst (λ ps. AreRuns line ps (digits ++ (b ∷ bs))) (sym (count_refused (b ∷ bs) line n other (inl never))) (is_number line n digits (b ∷ bs) numeral refl other (inl never)))
        | inl fits ↦ elim (cases_Bool (is_between b)) [
          | inl between ↦
              subst (λ ps. AreRuns line ps (digits ++ (b ∷ bs))) (sym (count_refused (b ∷ bs) line n other (inr between))) (is_number line n digits (b ∷ bs) numeral refl other (inr between))
          | inr more ↦
              tag_told b bs line n (Some n) digits (inr (numeral, refl, count_from n fits)) (rw fits refl) (numeral_read digits line (b ∷ bs) numeral) other more (λ rest few. later rest (omega arith))
        ]
      ]
    ]

blank_read : (b : ℕ) (bs : List ℕ) (line : ℕ) → is_ascii_digit b ≡ false → is_blank b ≡ true → pieces_from line None 0 (b ∷ bs) ≡ pieces_from (line_past line b) None 0 bs
blank_read b bs line other blank = rw (other, blank) refl

end_read : (b : ℕ) (bs : List ℕ) (line : ℕ) → b ≡ 33 → pieces_from line None 0 (b ∷ bs) ≡ []
end_read b bs line is = rw is refl

neither : (b : ℕ) → is_blank b ≡ false → (b == 33) ≡ false → is_between b ≡ false
neither b sign more = rw (sign, more) refl

told : (k : ℕ) (bs : List ℕ) (line : ℕ) → length bs ≤ k → Read line bs
told k [] line few = fault_here NoEnd line [] refl
told zero (b ∷ bs) line few = absurd (omega arith)
told (suc k) (b ∷ bs) line few =
    elim (cases_Bool (is_ascii_digit b)) [
      | inl digit ↦
          subst (λ ps. AreRuns line ps (b ∷ bs)) (sym (numeral_read (b ∷ []) line bs (one_digit b digit)))
          (number_told bs line (b ∷ []) (one_digit b digit) (λ rest less. told k rest line (omega arith)))
      | inr other ↦ elim (cases_Bool (is_blank b)) [
        | inl blank ↦
            subst (λ ps. AreRuns line ps (b ∷ bs)) (sym (blank_read b bs line other blank))
            (blank_passed (pieces_from (line_past line b) None 0 bs) line b bs blank (told k bs (line_past line b) (omega arith)))
        | inr sign ↦ elim (cases_Bool (b == 33)) [
          | inl last ↦
              (let is : b ≡ 33 = grind (arith, nat_tests) in
              subst (λ ps. AreRuns line ps (b ∷ bs)) (sym (end_read b bs line is)) ([], bs, refl, ap (λ x. x ∷ bs) is))
          | inr more ↦ tag_told b bs line 1 None [] (inl (refl, refl)) refl refl other (neither b sign more) (λ rest less. told k rest line (omega arith))
        ]
      ]
    ]

-- the text of either kind
kind_told : (text : List ℕ) (l : ℕ × List ℕ) (runs : Bool) → AreOfKind runs text l (if runs then pieces_from (l.0 + 1) None 0 (after_first is_line_feed l.1) else plain_pieces 1 (is_comment text) text)
kind_told text l true = told (length (after_first is_line_feed l.1)) (after_first is_line_feed l.1) (l.0 + 1) (omega arith)
kind_told text l false = refl

kind_same : (text : List ℕ) (l : ℕ × List ℕ) (runs : Bool) (pieces : List (Result Run PatternFault)) → AreOfKind runs text l pieces
    → (if runs then pieces_from (l.0 + 1) None 0 (after_first is_line_feed l.1) else plain_pieces 1 (is_comment text) text) ≡ pieces
kind_same text l true pieces are = same_pieces pieces (l.0 + 1) (after_first is_line_feed l.1) are
kind_same text l false pieces are = sym are

pieces_told : (text : List ℕ) (lines : List (ℕ × List ℕ)) → ArePiecesBehind text lines (pieces_behind text lines)
pieces_told text [] = refl
pieces_told text (l ∷ ls) = kind_told text l (slice_index l.1 0 == 120)

pieces_same : (text : List ℕ) (lines : List (ℕ × List ℕ)) (pieces : List (Result Run PatternFault)) → ArePiecesBehind text lines pieces → pieces_behind text lines ≡ pieces
pieces_same text [] pieces are = sym are
pieces_same text (l ∷ ls) pieces are = kind_same text l (slice_index l.1 0 == 120) pieces are

-- what is read byte by byte is what a text says, and it says nothing else
pub says : (text : List ℕ) {answer : Result (List Cell) PatternFault} → pattern_in text ≡ answer → IsPattern text answer
says text is = (pieces_behind text (told_from 1 text), pieces_told text (told_from 1 text), is)

pub says_one : (text : List ℕ) (answer : Result (List Cell) PatternFault) → IsPattern text answer → pattern_in text ≡ answer
says_one text answer (pieces, are, same) = ap pattern_of (pieces_same text (told_from 1 text) pieces are) ∙ same

-- an answer, by what a text says
pub says_answer : {B : Type 0} (view : B → List Cell) (text : List ℕ) (r : Result B PatternFault) → IsAnswer view (pattern_in text) r
    → MatchResult r (λ v. IsPattern text (Ok (view v))) (λ fault. fault ≢ Memory → IsPattern text (Err fault))
says_answer view text (Ok v) is = says text is
says_answer view text (Err fault) is = λ other. says text (is other)

pub answer_one : {B : Type 0} (view : B → List Cell) (text : List ℕ) (r : Result B PatternFault) → IsAnswer view (pattern_in text) r → (answer : Result (List Cell) PatternFault) → IsPattern text answer → IsAnswer view answer r
answer_one view text r is answer said = subst (λ a. IsAnswer view a r) (says_one text answer said) is
