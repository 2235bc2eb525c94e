-- The first line of bytes.
use Rattle.std.proofs.Common.{◌≡◌, ℕ, ◌+◌, ◌-◌, ◌<◌, Bool, true, false, not, eqb, List, [], ◌∷◌, ◌++◌, length, get_or, take, drop, refl, ap, sym, subst, ◌∙◌, arith, nat_lt, nat_le, ◌&&◌}
use Rattle.std.specs.List.{list_any, position_or_len, slice_split, AllByRecursion}
use Rattle.std.specs.Str.{is_utf8}
use Rattle.std.specs.Str.Lines.{lines, lines_of_parts, strip_carriage_return}
use Rattle.std.proofs.lemmas.Bool.{and_parts, both_ways, eq-eqb, ne_eqb, ltb-true, not-true, false_from_ne_true}
use Rattle.std.proofs.lemmas.List.Elements.{All-from_get_or}
use Rattle.std.proofs.lemmas.List.Folds.{list_any_at}
use Rattle.std.proofs.lemmas.List.Splits.{slice_split_first, slice_split_none, slice_split_at, length-slice_split}
use Rattle.std.proofs.lemmas.List.Sums.{position_or_len_is}
use Rattle.net_names.specs.Naming.{most_name_bytes, is_control, is_name}
use Rattle.net_names.specs.NamesFiles.{text_of}

-- the test of an end of a line
abbrev is_end : ℕ → Bool
is_end b = eqb b 10

more_parts : (x : List ℕ) (parts : List (List ℕ)) → 0 < length parts → lines_of_parts (x ∷ parts) ≡ strip_carriage_return x ∷ lines_of_parts parts
more_parts x [] some = absurd (omega arith)
more_parts x (part ∷ parts) some = refl

-- a line that ends, and what stands after it
ended : (bytes line rest : List ℕ) → slice_split is_end bytes ≡ line ∷ slice_split is_end rest → lines bytes ≡ strip_carriage_return line ∷ lines rest
ended bytes line rest split = ap lines_of_parts split ∙ more_parts line (slice_split is_end rest) (omega (arith, length-slice_split is_end rest))

pub line_first : (bytes : List ℕ) (end : ℕ) → end < length bytes → get_or bytes end 0 ≡ 10 → ((k : ℕ) → k < end → eqb (get_or bytes k 0) 10 ≡ false)
    → lines bytes ≡ strip_carriage_return (take end bytes) ∷ lines (drop (end + 1) bytes)
line_first bytes end low here before =
    let at : position_or_len is_end bytes ≡ end = position_or_len_is is_end bytes end 0 (omega arith) before (λ _. eq-eqb _ _ here) in
    let first = slice_split_first is_end bytes 0 (subst (λ n. n < length bytes) (sym at) low) in
    ended bytes (take end bytes) (drop (end + 1) bytes) (first ∙ ap (λ n. take n bytes ∷ slice_split is_end (drop (n + 1) bytes)) at)

pub line_last : (bytes : List ℕ) → 0 < length bytes → ((k : ℕ) → k < length bytes → eqb (get_or bytes k 0) 10 ≡ false) → lines bytes ≡ bytes ∷ []
line_last bytes some none =
    let whole = slice_split_none is_end bytes (All-from_get_or (λ b. is_end b ≡ false) bytes 0 none) in
    ap lines_of_parts whole ∙ rw (ne_eqb (length bytes) 0 (λ e. omega (arith, e))) refl

-- a byte that is no control character is none of them
apart : (b c : ℕ) → is_control b ≡ false → is_control c ≡ true → eqb b c ≡ false
apart b c plain control = ne_eqb b c (λ e. both_ways (is_control b) plain (ap is_control e ∙ control))

no_control : (name : List ℕ) → is_name name ≡ true → (0 < length name) × (list_any is_control name ≡ false)
no_control name named =
    let parts = and_parts (nat_lt 0 (length name) && nat_le (length name) most_name_bytes) (is_utf8 name && not (list_any is_control name)) named in
    let lengths = and_parts (nat_lt 0 (length name)) (nat_le (length name) most_name_bytes) parts.0 in
    let texts = and_parts (is_utf8 name) (not (list_any is_control name)) parts.1 in
    (ltb-true 0 (length name) lengths.0, not-true (list_any is_control name) texts.1)

no_control_at : (name : List ℕ) → list_any is_control name ≡ false → (k : ℕ) → k < length name → is_control (get_or name k 0) ≡ false
no_control_at name none k low = false_from_ne_true (is_control (get_or name k 0)) (λ control. both_ways (list_any is_control name) none (list_any_at is_control name k 0 low control))

-- the lines of a file of names
pub lines-text_of : (names : List (List ℕ)) → AllByRecursion (λ name. is_name name ≡ true) names → lines (text_of names) ≡ names
lines-text_of [] all = refl
lines-text_of (name ∷ names) all =
    let (some, none) = no_control name all.0 in
    let at = no_control_at name none in
    let split = slice_split_at is_end name 10 (text_of names) (All-from_get_or (λ b. is_end b ≡ false) name 0 (λ k low. apart (get_or name k 0) 10 (at k low) refl)) refl in
    let kept : strip_carriage_return name ≡ name = rw (apart (get_or name (length name - 1) 0) 13 (at (length name - 1) (omega arith)) refl) refl in
    ended (name ++ 10 ∷ text_of names) name (text_of names) split ∙ (λ j. kept j ∷ lines-text_of names all.1 j)
