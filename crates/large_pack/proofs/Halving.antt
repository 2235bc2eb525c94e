-- Lines cut in two, and what was read of both.
use Rattle.std.proofs.Common.{◌≡◌, ◌≢◌, ◌∙◌, ℕ, suc, ◌+◌, ◌≤◌, Bool, true, false, not, max, ◌==◌, List, [], ◌∷◌, ◌++◌, length, take, drop, filter, slice_get, refl, sym, ap, append_assoc, one-add, add-one, Option, Result, Ok, Err, arith, inl, inr}
use Rattle.std.proofs.lemmas.Bool.{cases_Bool}
use Rattle.std.proofs.lemmas.Bool.Decides.{nat_tests}
use Rattle.std.specs.List.{slice_split, onto_first, enumerate_from, count_by, filter_map, fold, position_or_len, before_first, after_first}
use Rattle.std.specs.Option.{option_or, IfSome}
use Rattle.std.specs.Result.{IsErrAnd}
use Rattle.std.proofs.Math.Seq.{take-add, take-append_seam}
use Rattle.std.proofs.lemmas.List.{take-append-drop}
use Rattle.std.proofs.lemmas.List.Splits.{length-slice_split}
use Rattle.std.proofs.lemmas.List.Sums.{fold-append}
use Rattle.std.proofs.lemmas.List.Elements.{filter-append, filter_map-append}
use Rattle.import_lines.specs.Texts.{is_line_feed, words_of, say_nothing, told_from}
use Rattle.large_pack.specs.declared.edge_line.EdgeLine.{EdgeLine}
use Rattle.large_pack.specs.declared.fault.PackFault.{PackFault}
use Rattle.large_pack.specs.declared.options.PackOptions.{PackOptions}
use Rattle.large_pack.specs.declared.survey.Survey.{Survey}
use Rattle.large_pack.specs.declared.survey.Reading.{Reading}
use Rattle.large_pack.specs.Lines.{and_then, edge_of, edges_in}
use Rattle.large_pack.specs.Sound.{reach, first_fault, outside_fault, loop_fault}
use Rattle.large_pack.specs.Surveys.{survey_of, survey_in}
use Rattle.large_pack.specs.Keys.{AreKeyed, IsRead, IsReadOf}

-- ---- lines

enumerated : {X : Type 0} (n : ℕ) (xs ys : List X) → enumerate_from n (xs ++ ys) ≡ enumerate_from n xs ++ enumerate_from (n + length xs) ys
enumerated n [] ys = ap (λ k. enumerate_from k ys) (omega arith)
enumerated n (x ∷ xs) ys = ap (λ t. (n, x) ∷ t) (enumerated (n + 1) xs ys ∙ ap (λ k. enumerate_from (n + 1) xs ++ enumerate_from k ys) (omega arith))

-- the first part of a list that is cut is there, so that what is put onto it stays before the others
onto_both : {X : Type 0} (x : X) (parts others : List (List X)) → 1 ≤ length parts → onto_first x (parts ++ others) ≡ onto_first x parts ++ others
onto_both x [] others some = absurd (omega arith)
onto_both x (part ∷ parts) others some = refl

some_part : {X : Type 0} (p : X → Bool) (xs : List X) → 1 ≤ length (slice_split p xs)
some_part p xs = omega (arith, length-slice_split p xs)

split_at : {X : Type 0} (p : X → Bool) (xs : List X) (y : X) (ys : List X) → p y ≡ true → slice_split p (xs ++ y ∷ ys) ≡ slice_split p xs ++ slice_split p ys
split_at p [] y ys is = rw is refl
split_at p (x ∷ xs) y ys is =
    elim (cases_Bool (p x)) [
      | inl one ↦ rw (one, split_at p xs y ys is) refl
      | inr other ↦ rw (other, split_at p xs y ys is) (onto_both x (slice_split p xs) (slice_split p ys) (some_part p xs))
    ]

abbrev told : ℕ × List ℕ → Bool
told l = not (say_nothing (words_of l.1))

-- the lines of bytes that are cut at a line feed
pub told_both : (n : ℕ) (xs ys : List ℕ) → told_from n (xs ++ 10 ∷ ys) ≡ told_from n xs ++ told_from (n + count_by is_line_feed xs + 1) ys
told_both n xs ys =
    let parts = slice_split is_line_feed xs in
    ap (λ t. filter told (enumerate_from n t)) (split_at is_line_feed xs 10 ys refl)
    ∙ (ap (filter told) (enumerated n parts (slice_split is_line_feed ys))
    ∙ (filter-append told (enumerate_from n parts) (enumerate_from (n + length parts) (slice_split is_line_feed ys))
    ∙ ap (λ k. filter told (enumerate_from n parts) ++ filter told (enumerate_from k (slice_split is_line_feed ys))) (omega (arith, length-slice_split is_line_feed xs))))

first_cut : (xs : List ℕ) → after_first is_line_feed xs ≢ [] → xs ≡ before_first is_line_feed xs ++ 10 ∷ after_first is_line_feed xs
first_cut [] some = absurd (some refl)
first_cut (x ∷ xs) some =
    elim (cases_Bool (is_line_feed x)) [
      | inl is ↦ (let same : x ≡ 10 = grind (arith, nat_tests) in rw is (ap (λ t. t ∷ xs) same))
      | inr other ↦
          let again : after_first is_line_feed (x ∷ xs) ≡ after_first is_line_feed xs = rw (other, one-add (position_or_len is_line_feed xs), add-one (suc (position_or_len is_line_feed xs)), add-one (position_or_len is_line_feed xs)) refl in
          rw (again, other, one-add (position_or_len is_line_feed xs)) (ap (λ t. x ∷ t) (first_cut xs (λ none. some (again ∙ none))))
    ]

-- bytes cut at the first line feed from a place on
cut_from : (bs : List ℕ) (place : ℕ) → after_first is_line_feed (drop place bs) ≢ []
    → bs ≡ take (place + length (before_first is_line_feed (drop place bs))) bs ++ 10 ∷ after_first is_line_feed (drop place bs)
cut_from bs place some =
    let behind = drop place bs in
    let line = before_first is_line_feed behind in
    let rest = after_first is_line_feed behind in
    let shape : behind ≡ line ++ 10 ∷ rest = first_cut behind some in
    let here : take (length line) behind ≡ line = ap (take (length line)) shape ∙ take-append_seam line (10 ∷ rest) in
    let front : take (place + length line) bs ≡ take place bs ++ line = take-add place (length line) bs ∙ ap (λ t. take place bs ++ t) here in
    sym (take-append-drop place bs) ∙ (ap (λ t. take place bs ++ t) shape ∙ (sym (append_assoc (take place bs) line (10 ∷ rest)) ∙ ap (λ t. t ++ 10 ∷ rest) (sym front)))

no_bytes : (rest : List ℕ) (empty : Bool) → empty ≡ (length rest == 0) → empty ≡ false → rest ≢ []
no_bytes [] empty tells holds is = cc
no_bytes (b ∷ rest) empty tells holds is = cc

-- the lines of bytes that are cut so
pub told_halves : (n m place : ℕ) (bs last rest front : List ℕ) (feeds : ℕ) (empty : Bool) → last ≡ before_first is_line_feed (drop place bs) → rest ≡ after_first is_line_feed (drop place bs)
    → empty ≡ (length rest == 0) → empty ≡ false → front ≡ take (place + length last) bs → feeds ≡ count_by is_line_feed front → m ≡ n + feeds + 1 → told_from n bs ≡ told_from n front ++ told_from m rest
told_halves n m place bs last rest front feeds empty is behind tells holds cut counted number =
    let some : after_first is_line_feed (drop place bs) ≢ [] = λ none. no_bytes rest empty tells holds (behind ∙ none) in
    rw (number, counted, cut, is, behind)
    (ap (told_from n) (cut_from bs place some) ∙ told_both n (take (place + length (before_first is_line_feed (drop place bs))) bs) (after_first is_line_feed (drop place bs)))

-- ---- what edges tell

abbrev further : ℕ → EdgeLine → ℕ
further n e = max (max n (e.first + 1)) (e.second + 1)

max_moved : (n a b r : ℕ) → max (max (max n a) b) r ≡ max n (max (max (max 0 a) b) r)
max_moved n a b r = omega arith

reach_from : (n : ℕ) (es : List EdgeLine) → fold further n es ≡ max n (fold further 0 es)
reach_from n [] = omega arith
reach_from n (e ∷ es) =
    reach_from (further n e) es
    ∙ (max_moved n (e.first + 1) (e.second + 1) (fold further 0 es) ∙ ap (λ r. max n r) (sym (reach_from (further 0 e) es)))

reach_both : (es fs : List EdgeLine) → reach (es ++ fs) ≡ max (reach es) (reach fs)
reach_both es fs = fold-append further 0 es fs ∙ reach_from (fold further 0 es) fs

get_both : (xs ys : List PackFault) → slice_get (xs ++ ys) 0 ≡ option_or (slice_get xs 0) (slice_get ys 0)
get_both [] ys = refl
get_both (x ∷ xs) ys = refl

fault_both : (fault_of : EdgeLine → Option PackFault) (es fs : List EdgeLine) → first_fault fault_of (es ++ fs) ≡ option_or (first_fault fault_of es) (first_fault fault_of fs)
fault_both fault_of es fs = ap (λ xs. slice_get xs 0) (filter_map-append fault_of es fs) ∙ get_both (filter_map fault_of es) (filter_map fault_of fs)

abbrev told_as : ℕ → Option PackFault → Option PackFault → Survey
told_as n outside loop = record { reach = n; outside = outside; self_loop = loop }

alike : (m n : ℕ) (a b c d : Option PackFault) → m ≡ n → a ≡ b → c ≡ d → told_as m a c ≡ told_as n b d
alike m n a b c d p q r = cc

pub survey_both : (o : PackOptions) (es fs : List EdgeLine) (first second both : Survey) → first ≡ survey_of o es → second ≡ survey_of o fs
    → both.reach ≡ max first.reach second.reach → both.outside ≡ option_or first.outside second.outside → both.self_loop ≡ option_or first.self_loop second.self_loop → both ≡ survey_of o (es ++ fs)
survey_both o es fs first second both one two reaches outside loop =
    alike both.reach (reach (es ++ fs)) both.outside (first_fault (outside_fault o.nodes) (es ++ fs)) both.self_loop (first_fault (loop_fault o.self_loops) (es ++ fs))
    (rw (reaches, one, two) (sym (reach_both es fs)))
    (rw (outside, one, two) (sym (fault_both (outside_fault o.nodes) es fs)))
    (rw (loop, one, two) (sym (fault_both (loop_fault o.self_loops) es fs)))

-- ---- their arcs

-- ---- what was read

abbrev both_of : Result (List EdgeLine) PackFault → Result (List EdgeLine) PackFault → Result (List EdgeLine) PackFault
both_of x y = and_then x (λ es. and_then y (λ fs. Ok (es ++ fs)))

behind_one : (e : EdgeLine) (x y : Result (List EdgeLine) PackFault) → and_then (both_of x y) (λ gs. Ok (e ∷ gs)) ≡ both_of (and_then x (λ es. Ok (e ∷ es))) y
behind_one e (Ok es) (Ok fs) = refl
behind_one e (Ok es) (Err fault) = refl
behind_one e (Err fault) y = refl

after_nothing : (y : Result (List EdgeLine) PackFault) → y ≡ both_of (Ok []) y
after_nothing (Ok fs) = refl
after_nothing (Err fault) = refl

with_line : (line : Result EdgeLine PackFault) (x y z : Result (List EdgeLine) PackFault) → z ≡ both_of x y
    → and_then line (λ e. and_then z (λ es. Ok (e ∷ es))) ≡ both_of (and_then line (λ e. and_then x (λ es. Ok (e ∷ es)))) y
with_line (Ok e) x y z is = rw is (behind_one e x y)
with_line (Err fault) x y z is = refl

edges_both : (o : PackOptions) (front back : List (ℕ × List ℕ)) → edges_in o (front ++ back) ≡ both_of (edges_in o front) (edges_in o back)
edges_both o [] back = after_nothing (edges_in o back)
edges_both o (l ∷ front) back = with_line (edge_of o l) (edges_in o front) (edges_in o back) (edges_in o (front ++ back)) (edges_both o front back)

after_good : (o : PackOptions) (a : Reading) (x : Result (List EdgeLine) PackFault) (fault : PackFault) → survey_in o x ≡ Ok a.survey → both_of x (Err fault) ≡ Err fault
after_good o a (Ok es) fault is = refl
after_good o a (Err other) fault is = cc

module _ (o : PackOptions) (front back : List (ℕ × List ℕ)) (first : Result Reading PackFault) where
  -- the fault of the lines before is that of all
  pub first_bad : (r : Result Reading PackFault) (fault : PackFault) → first ≡ Err fault → IsErrAnd r (λ e. e ≡ fault) → IsReadOf o front first → IsReadOf o (front ++ back) r
  first_bad (Ok reading) fault was is read = absurd is
  first_bad (Err other) fault was is read =
      let bad : edges_in o front ≡ Err fault = rw was at read in
      rw is (edges_both o front back ∙ rw bad refl)

  -- that of the lines after is, where those before have none
  pub second_bad : (second r : Result Reading PackFault) (a : Reading) (fault : PackFault) → first ≡ Ok a → second ≡ Err fault → IsErrAnd r (λ e. e ≡ fault)
      → IsReadOf o front first → IsReadOf o back second → IsReadOf o (front ++ back) r
  second_bad second (Ok reading) a fault good was is one two = absurd is
  second_bad second (Err other) a fault good was is one two =
      let read : IsRead o (edges_in o front) a = rw good at one in
      let bad : edges_in o back ≡ Err fault = rw was at two in
      rw is (edges_both o front back ∙ rw bad (after_good o a (edges_in o front) fault read.survey))

module _ (o : PackOptions) (a b c : Reading)
    (surveys : (es fs : List EdgeLine) → a.survey ≡ survey_of o es → b.survey ≡ survey_of o fs → c.survey ≡ survey_of o (es ++ fs))
    (keyed : (es fs : List EdgeLine) → IfSome a.keyed (λ k. AreKeyed o es k) → IfSome b.keyed (λ k. AreKeyed o fs k) → IfSome c.keyed (λ k. AreKeyed o (es ++ fs) k)) where
  read_of_both : (x y : Result (List EdgeLine) PackFault) → IsRead o x a → IsRead o y b → IsRead o (both_of x y) c
  read_of_both (Err fault) y was is = absurd (let bad = was.survey in cc)
  read_of_both (Ok es) (Err fault) was is = absurd (let bad = is.survey in cc)
  read_of_both (Ok es) (Ok fs) was is = record {
    survey = ap Ok (sym (surveys es fs (let s = was.survey in cc) (let s = is.survey in cc)));
    keyed = λ gs same. (let whole : es ++ fs ≡ gs = cc in rw (← whole) (keyed es fs (was.keyed es refl) (is.keyed fs refl)));
  }

-- what both tell is what all lines tell
pub both_read : (o : PackOptions) (front back : List (ℕ × List ℕ)) (first second : Result Reading PackFault) (a b c : Reading) → first ≡ Ok a → second ≡ Ok b
    → ((es fs : List EdgeLine) → a.survey ≡ survey_of o es → b.survey ≡ survey_of o fs → c.survey ≡ survey_of o (es ++ fs))
    → ((es fs : List EdgeLine) → IfSome a.keyed (λ k. AreKeyed o es k) → IfSome b.keyed (λ k. AreKeyed o fs k) → IfSome c.keyed (λ k. AreKeyed o (es ++ fs) k))
    → IsReadOf o front first → IsReadOf o back second → IsRead o (edges_in o (front ++ back)) c
both_read o front back first second a b c good well surveys keyed one two =
    let x : IsRead o (edges_in o front) a = rw good at one in
    let y : IsRead o (edges_in o back) b = rw well at two in
    rw (edges_both o front back) (read_of_both o a b c surveys keyed (edges_in o front) (edges_in o back) x y)
