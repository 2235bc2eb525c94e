-- The elements of an array.
use Rattle.std.proofs.Common.{◌≡◌, ◌∙◌, ℕ, ◌+◌, ◌-◌, ◌*◌, ◌^◌, ◌<◌, ◌≤◌, List, [], ◌∷◌, length, get_or, take, drop, zero, suc, true, false, not, nat_lt, refl, sym, ap, None, Ok, eqb, arith}
use Rattle.report_files.specs.declared.npy.element.Element.{Element}
use Rattle.report_files.specs.declared.npy.element.Element.TheVariants.{U8, U16, U32, U64, I32, I64}
use Rattle.std.specs.Int.{to_le_bytes, from_le_bytes, w32}
use Rattle.std.specs.List.{find, flat_map, range_with_len}
use Rattle.std.proofs.lemmas.Bool.Decides.{nat_tests}
use Rattle.std.proofs.lemmas.List.{length-append}
use Rattle.std.proofs.lemmas.List.FromFn.{fill_by_all}
use Rattle.std.proofs.lemmas.Nat.{from_le_bytes-to_le_bytes_4}
use Rattle.report_files.specs.npy.Arrays.{size, value_bound, number_at, is_misfit, values, unless, verdict}
use Rattle.report_files.specs.npy.Parts.{AreValues}
use Rattle.report_files.proofs.npy.Searches.{none_found, found_none}

-- where no misfit is found, each element is a value
pub fitting : (e : Element) (count : ℕ) (body : List ℕ) → find (is_misfit e body) (range_with_len 0 count) ≡ None → AreValues e count body
fitting e count body none place low =
    let fits : not (nat_lt (number_at e body place) (value_bound e)) ≡ false = none_found (is_misfit e body) 0 count none place (omega arith) (omega arith) in
    grind (arith, nat_tests)

-- the bytes of words
pub words_length : (xs : List ℕ) → length (flat_map (to_le_bytes w32) xs) ≡ 4 * length xs
words_length [] = refl
words_length (x ∷ xs) = omega (arith, words_length xs, length-append (to_le_bytes w32 x) (flat_map (to_le_bytes w32) xs))

piece_back : (ws : List ℕ) (i : ℕ) → i < length ws → take 4 (drop (4 * i) (flat_map (to_le_bytes w32) ws)) ≡ to_le_bytes w32 (get_or ws i 0)
piece_back [] i low = absurd (omega arith)
piece_back (x ∷ xs) zero low = refl
piece_back (x ∷ xs) (suc i) low =
    let next : 4 * suc i ≡ suc (suc (suc (suc (4 * i)))) = omega arith in
    rw next (piece_back xs i (omega arith))

word_back : (ws : List ℕ) (i : ℕ) → ((k : ℕ) → get_or ws k 0 < 2 ^ 32) → i < length ws → number_at U32 (flat_map (to_le_bytes w32) ws) i ≡ get_or ws i 0
word_back ws i small low =
    let long : 4 * i + 4 - 4 * i ≡ 4 = omega arith in
    ap (λ n. from_le_bytes w32 (take n (drop (4 * i) (flat_map (to_le_bytes w32) ws)))) long
    ∙ ap (from_le_bytes w32) (piece_back ws i low)
    ∙ from_le_bytes-to_le_bytes_4 (get_or ws i 0) (small i)

-- words are read as they were written
pub words_back : (ws : List ℕ) (n : ℕ) → n ≡ length ws → ((k : ℕ) → get_or ws k 0 < 2 ^ 32) → verdict U32 n (flat_map (to_le_bytes w32) ws) ≡ Ok ws
words_back ws n is small =
    let body = flat_map (to_le_bytes w32) ws in
    let whole : eqb (length body) (4 * n) ≡ true = let long = words_length ws in grind (arith, nat_tests) in
    let fits : (u : ℕ) → 0 ≤ u → u < 0 + n → is_misfit U32 body u ≡ false = λ u from to.
    let value = word_back ws u small (omega (arith, is)) in
    let few = small u in
    let below : nat_lt (number_at U32 body u) 4294967296 ≡ true = grind (arith, nat_tests) in
    rw below refl
    in
    let none = found_none (is_misfit U32 body) 0 n fits in
    let all : ws ≡ values U32 n body = fill_by_all (number_at U32 body) ws n 0 (sym is) (λ k low. sym (word_back ws k small (omega (arith, is)))) in
    rw whole (ap (λ o. unless o (values U32 n body)) none ∙ ap (λ xs. Ok xs) (sym all))
