-- The lines of names, an LF after each.
use Rattle.std.proofs.Common.{◌≡◌, ◌≢◌, ℕ, suc, ◌+◌, ◌<◌, ◌==◌, inl, inr, Bool, true, false, cond, List, [], ◌∷◌, ◌++◌, length, length-append, map, get_or, drop, refl, sym, ap, ◌∙◌, arith, append_assoc, append-nil, add-one, if◌then◌else◌}
use Rattle.std.specs.Str.{IsUtf8}
use Rattle.std.proofs.lemmas.Bool.{ne_eqb}
use Rattle.std.proofs.lemmas.List.{append_cancel_right, drop_all, map-append}
use Rattle.std.proofs.Math.Seq.{drop-cons}
use Rattle.std.proofs.lemmas.List.Sums.{sum_by-append, sum_by-cons}
use Rattle.report_text.specs.Lines.{lines_of, put_byte}
use Rattle.report_text.proofs.Lines.{IsInLine, line_split}
use Rattle.model_rules.specs.Models.{GivenTree}
use Rattle.app_calls.specs.declared.models.fault.ConstantsFault.{ConstantsFault}
use Rattle.app_calls.specs.declared.models.fault.ConstantsFault.TheVariants.{NotUtf8, Unended, ValueCount}
use Rattle.app_calls.specs.Constants.{AreConstants, AreNoConstants, IsEnded, OneSetting, line_feeds, name_line, set_value}

-- ---- a text without an LF

-- no byte is LF
abbrev pub LacksFeed : List ℕ → Type 0
LacksFeed bytes = (i : ℕ) → i < length bytes → get_or bytes i 0 ≢ 10

lacks_tail : (b : ℕ) (bytes : List ℕ) → LacksFeed (b ∷ bytes) → LacksFeed bytes
lacks_tail b bytes none = λ i inside. none (suc i) (omega arith)

in_line : (bytes : List ℕ) → LacksFeed bytes → IsInLine bytes
in_line [] none = tt
in_line (b ∷ bytes) none = (none 0 (omega arith), in_line bytes (lacks_tail b bytes none))

-- how many LFs there are with one byte more
feeds-cons : (b : ℕ) (bytes : List ℕ) → line_feeds (b ∷ bytes) ≡ cond (b == 10) 1 0 + line_feeds bytes
feeds-cons b bytes = sum_by-cons (λ (d : ℕ). cond (d == 10) 1 0) b bytes

pub no_feeds : (bytes : List ℕ) → LacksFeed bytes → line_feeds bytes ≡ 0
no_feeds [] none = refl
no_feeds (b ∷ bytes) none =
    let other : (b == 10) ≡ false = ne_eqb b 10 (none 0 (omega arith)) in
    let rest = no_feeds bytes (lacks_tail b bytes none) in
    feeds-cons b bytes ∙ rw other (omega (arith, rest))

-- ---- the first name

feeds_behind : (name more : List ℕ) → LacksFeed name → line_feeds (name ++ (10 ∷ more)) ≡ line_feeds more + 1
feeds_behind name more none =
    let parts = sum_by-append (λ (b : ℕ). cond (b == 10) 1 0) name (10 ∷ more) in
    let here = no_feeds name none in
    let behind = feeds-cons 10 more in
    omega (arith, parts, here, behind)

-- what stands before the first LF is the first line
pub first_line : (names name more : List ℕ) → names ≡ name ++ (10 ∷ more) → LacksFeed name → lines_of names ≡ (name ++ 10 ∷ []) ∷ lines_of more
first_line names name more cut none = ap lines_of cut ∙ line_split name more (in_line name none)

pub first_feed : (names name more : List ℕ) → names ≡ name ++ (10 ∷ more) → LacksFeed name → line_feeds names ≡ line_feeds more + 1
first_feed names name more cut none = ap line_feeds cut ∙ feeds_behind name more none

-- ---- how many lines there are

some_put : (b : ℕ) (lines : List (List ℕ)) → 0 < length (put_byte b lines)
some_put b [] = omega arith
some_put b (line ∷ lines) = omega arith

some_pick : (b : ℕ) (bytes : List ℕ) (ends : Bool) → 0 < length (if ends then (10 ∷ []) ∷ lines_of bytes else put_byte b (lines_of bytes))
some_pick b bytes true = omega arith
some_pick b bytes false = some_put b (lines_of bytes)

some_lines : (bytes : List ℕ) → 0 < length bytes → 0 < length (lines_of bytes)
some_lines [] some = absurd (omega arith)
some_lines (b ∷ bytes) some = some_pick b bytes (b == 10)

length-put : (b : ℕ) (lines : List (List ℕ)) → 0 < length lines → length (put_byte b lines) ≡ length lines
length-put b [] some = absurd (omega arith)
length-put b (line ∷ lines) some = refl

length-pick : (b : ℕ) (bytes : List ℕ) (ends : Bool) → 0 < length bytes → length (lines_of bytes) ≡ line_feeds bytes
    → length (if ends then (10 ∷ []) ∷ lines_of bytes else put_byte b (lines_of bytes)) ≡ cond ends 1 0 + line_feeds bytes
length-pick b bytes true some same = omega arith
length-pick b bytes false some same = (let put = length-put b (lines_of bytes) (some_lines bytes some) in omega arith)

ended_lines : (front : List ℕ) → length (lines_of (front ++ 10 ∷ [])) ≡ line_feeds (front ++ 10 ∷ [])
ended_lines [] = refl
ended_lines (b ∷ front) =
    length-pick b (front ++ 10 ∷ []) (b == 10) (omega (arith, length-append front (10 ∷ []))) (ended_lines front) ∙ sym (feeds-cons b (front ++ 10 ∷ []))

-- a text that is empty or ends with LF has as many lines as LFs
pub length-ended : (text : List ℕ) → IsEnded text → length (lines_of text) ≡ line_feeds text
length-ended text (inl none) = ap (λ (t : List ℕ). length (lines_of t)) none ∙ sym (ap line_feeds none)
length-ended text (inr end) = ap (λ (t : List ℕ). length (lines_of t)) end.1 ∙ ended_lines end.0 ∙ sym (ap line_feeds end.1)

-- nothing is wrong with such a text, and as many values
pub sound : (names : List ℕ) (values : ℕ) → IsUtf8 names → IsEnded names → length (lines_of names) ≡ values → (f : ConstantsFault) → AreNoConstants names values f → ⊥
sound names values text ended same NotUtf8 wrong = wrong text
sound names values text ended same Unended wrong = wrong.1 ended
sound names values text ended same ValueCount wrong = wrong.2 same

no_lines : (lines : List (List ℕ)) → length lines ≡ 0 → lines ≡ []
no_lines [] none = refl
no_lines (line ∷ lines) none = absurd (omega arith)

-- ---- constants, one after the other

-- the constants so far, and what is left of names and values
pub record AreSetTo (names values : List ℕ) (given : List GivenTree) (rest : List ℕ) (count : ℕ) : Type 0 where
  pub named : map name_line given ++ lines_of rest ≡ lines_of names
  pub valued : map set_value given ++ drop count values ≡ values
  pub lines : length (lines_of rest) + count ≡ length values
  pub feeds : line_feeds rest + count ≡ length values

-- one constant more
pub set_next : (names values : List ℕ) (given : List GivenTree) (rest : List ℕ) (count : ℕ) (x : GivenTree) (more : List ℕ)
    → AreSetTo names values given rest count → count < length values → x.value ≡ get_or values count 0
    → lines_of rest ≡ name_line x ∷ lines_of more → line_feeds rest ≡ line_feeds more + 1 → AreSetTo names values (given ++ x ∷ []) more (count + 1)
set_next names values given rest count x more so_far inside is line feed =
    let lines = so_far.lines in
    let feeds = so_far.feeds in
    let one_less : length (lines_of rest) ≡ suc (length (lines_of more)) = ap length line in
    let next : drop count values ≡ x.value ∷ drop (count + 1) values =
    drop-cons values count 0 inside ∙ ap (λ v. v ∷ drop (suc count) values) (sym is) ∙ ap (λ n. x.value ∷ drop n values) (sym (add-one count)) in
    record {
      named = ap (λ ls. ls ++ lines_of more) (map-append name_line given (x ∷ []))
          ∙ append_assoc (map name_line given) (name_line x ∷ []) (lines_of more)
          ∙ ap (λ ls. map name_line given ++ ls) (sym line)
          ∙ so_far.named;
      valued = ap (λ vs. vs ++ drop (count + 1) values) (map-append set_value given (x ∷ []))
          ∙ append_assoc (map set_value given) (x.value ∷ []) (drop (count + 1) values)
          ∙ ap (λ vs. map set_value given ++ vs) (sym next)
          ∙ so_far.valued;
      lines = omega (arith, one_less, lines);
      feeds = omega (arith, feed, feeds);
    }

-- all of them, where no value is left
pub set_all : (names values : List ℕ) (given : List GivenTree) (rest : List ℕ) (count : ℕ) → AreSetTo names values given rest count → count ≡ length values → AreConstants names values given
set_all names values given rest count so_far all =
    let lines = so_far.lines in
    let nothing : lines_of rest ≡ [] = no_lines (lines_of rest) (omega (arith, lines, all)) in
    record {
      named = sym so_far.named ∙ ap (λ ls. map name_line given ++ ls) nothing ∙ append-nil (map name_line given);
      valued = sym (append-nil (map set_value given)) ∙ ap (λ vs. map set_value given ++ vs) (sym (drop_all count values (omega (arith, all)))) ∙ so_far.valued;
    }

-- ---- there is one list of them

given_of : List ℕ → ℕ → GivenTree
given_of name value = record { name = name; value = value }

same_line : (x y : GivenTree) → name_line x ≡ name_line y → x.value ≡ y.value → x ≡ y
unfolding given_of
same_line x y named valued =
    let name = append_cancel_right x.name y.name (10 ∷ []) named in
    ap (λ (n : List ℕ). given_of n x.value) name ∙ ap (λ (v : ℕ). given_of y.name v) valued

same_constants : (one other : List GivenTree) → map name_line one ≡ map name_line other → map set_value one ≡ map set_value other → one ≡ other
same_constants [] [] named valued = refl
same_constants [] (y ∷ ys) named valued = cc
same_constants (x ∷ xs) [] named valued = cc
same_constants (x ∷ xs) (y ∷ ys) named valued =
    let line : name_line x ≡ name_line y = cc in
    let lines : map name_line xs ≡ map name_line ys = cc in
    let value : x.value ≡ y.value = cc in
    let values : map set_value xs ≡ map set_value ys = cc in
    let here = same_line x y line value in
    let more = same_constants xs ys lines values in
    cc

pub one_setting : OneSetting
one_setting names values one other left right = same_constants one other (sym left.named ∙ right.named) (left.valued ∙ sym right.valued)
