-- The lines of texts.
use Rattle.std.proofs.Common.{◌≡◌, ◌≢◌, ℕ, zero, suc, ◌<◌, ◌==◌, Bool, true, false, List, [], ◌∷◌, ◌++◌, length, refl, ap, ◌∙◌, arith, Some, None, slice_get, if◌then◌else◌}
use Rattle.std.proofs.lemmas.Bool.Decides.{nat_tests, Decides-eqb}
use Rattle.std.specs.List.{AllByRecursion}
use Rattle.report_text.specs.Lines.{put_byte, lines_of}

-- no LF stands among the bytes
abbrev pub IsInLine : List ℕ → Type 0
IsInLine bytes = AllByRecursion (λ b. b ≢ 10) bytes

other_byte : (b : ℕ) → b ≢ 10 → (b == 10) ≡ false
other_byte b other = grind (arith, nat_tests)

add_byte : (b : ℕ) (bytes line : List ℕ) (lines : List (List ℕ)) → b ≢ 10 → lines_of bytes ≡ line ∷ lines → lines_of (b ∷ bytes) ≡ (b ∷ line) ∷ lines
add_byte b bytes line lines other is = rw (other_byte b other) (ap (put_byte b) is)

-- a line, and what stands after it
pub line_split : (body rest : List ℕ) → IsInLine body → lines_of (body ++ (10 ∷ rest)) ≡ (body ++ 10 ∷ []) ∷ lines_of rest
line_split [] rest inline = refl
line_split (b ∷ body) rest inline = add_byte b (body ++ (10 ∷ rest)) (body ++ 10 ∷ []) (lines_of rest) inline.0 (line_split body rest inline.1)

-- the line stands at the front of the bytes
pub record BeginsWith (bytes line : List ℕ) : Type 0 where
  pub rest : List ℕ
  pub cut : bytes ≡ line ++ rest

put_first : (b : ℕ) (bytes line : List ℕ) (found : List (List ℕ)) → slice_get (put_byte b found) 0 ≡ Some line → ((first : List ℕ) → slice_get found 0 ≡ Some first → BeginsWith bytes first) → BeginsWith (b ∷ bytes) line
put_first b bytes line [] is before = let only : b ∷ [] ≡ line = cc in record { rest = bytes; cut = ap (λ l. l ++ bytes) only }
put_first b bytes line (first ∷ more) is before =
    let whole : b ∷ first ≡ line = cc in
    let h = before first refl in
    record { rest = h.rest; cut = ap (λ bs. b ∷ bs) h.cut ∙ ap (λ l. l ++ h.rest) whole }

pick : (b : ℕ) (bytes line : List ℕ) (ends : Bool) → (b == 10) ≡ ends → slice_get (if ends then (10 ∷ []) ∷ lines_of bytes else put_byte b (lines_of bytes)) 0 ≡ Some line → ((first : List ℕ) → slice_get (lines_of bytes) 0 ≡ Some first → BeginsWith bytes first) → BeginsWith (b ∷ bytes) line
pick b bytes line true at is before =
    let ten : b ≡ 10 = (Decides-eqb b 10).0 at in
    let only : 10 ∷ [] ≡ line = cc in
    record { rest = bytes; cut = ap (λ x. x ∷ bytes) ten ∙ ap (λ l. l ++ bytes) only }
pick b bytes line false at is before = put_first b bytes line (lines_of bytes) is before

-- the first line of a text stands at its front
pub first_line : (bytes line : List ℕ) → slice_get (lines_of bytes) 0 ≡ Some line → BeginsWith bytes line
first_line [] line is = cc
first_line (b ∷ bytes) line is = pick b bytes line (b == 10) refl is (λ first h. first_line bytes first h)

some_put : (b : ℕ) (found : List (List ℕ)) → slice_get (put_byte b found) 0 ≢ None
some_put b [] is = cc
some_put b (first ∷ more) is = cc

some_line : (b : ℕ) (bytes : List ℕ) (ends : Bool) → slice_get (if ends then (10 ∷ []) ∷ lines_of bytes else put_byte b (lines_of bytes)) 0 ≢ None
some_line b bytes true is = cc
some_line b bytes false is = some_put b (lines_of bytes) is

-- a text with no line is empty
pub no_line : (bytes : List ℕ) → slice_get (lines_of bytes) 0 ≡ None → bytes ≡ []
no_line [] is = refl
no_line (b ∷ bytes) is = absurd (some_line b bytes (b == 10) is)

pub get_front : {X : Type 0} (xs ys : List X) (i : ℕ) → i < length xs → slice_get (xs ++ ys) i ≡ slice_get xs i
get_front [] ys i inside = absurd (omega arith)
get_front (x ∷ xs) ys zero inside = refl
get_front (x ∷ xs) ys (suc i) inside = get_front xs ys i (omega arith)

pub get_behind : {X : Type 0} (xs ys : List X) (i : ℕ) → i ≡ length xs → slice_get (xs ++ ys) i ≡ slice_get ys 0
get_behind [] ys i at = ap (slice_get ys) at
get_behind (x ∷ xs) ys zero at = absurd (omega arith)
get_behind (x ∷ xs) ys (suc i) at = get_behind xs ys i (omega arith)

pub inline_append : (xs ys : List ℕ) → IsInLine xs → IsInLine ys → IsInLine (xs ++ ys)
inline_append [] ys first second = second
inline_append (x ∷ xs) ys first second = (first.0, inline_append xs ys first.1 second)
