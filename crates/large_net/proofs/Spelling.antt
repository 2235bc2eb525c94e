-- What is written is read.
use Rattle.std.proofs.Common.{◌≡◌, ◌∙◌, ℕ, ◌+◌, ◌*◌, ◌^◌, ◌%◌, ◌<◌, ◌≤◌, Bool, true, false, not, ◌||◌, ◌&&◌, eqb, List, [], ◌∷◌, ◌++◌, length, get_or, suc, nat_eq, nat_lt, cond, refl, sym, ap, drop, append_assoc, Some, None, Ok, if◌then◌else◌, arith}
use mir.Val.{bool_byte}
use Rattle.std.specs.Prelude.{codes, replicate}
use Rattle.std.specs.Int.{to_le_bytes, w32, w64}
use Rattle.std.specs.List.{flat_map, list_any, starts_with}
use Rattle.std.proofs.lemmas.Bool.Decides.{nat_tests}
use Rattle.std.proofs.lemmas.List.{length-append, drop-drop, drop_at}
use Rattle.std.proofs.lemmas.Nat.{from_le_bytes-to_le_bytes_4, from_le_bytes-to_le_bytes_8}
use Rattle.link_net.specs.Limits.{most_rows}
use Rattle.link_net.specs.Layout.{rows_of}
use Rattle.large_net.specs.Large.{AreLaidOut}
use Rattle.large_net.specs.declared.header.FileHeader.{FileHeader}
use Rattle.large_net.specs.File.{magic, long_at, longs, words, neighbours_start, length_for, has_length, header_of, rows_fault, offsets_in, neighbours_in, weights_in, and_then, unless, large_of, with_header, tail_in, tail_of}
use Rattle.large_net.proofs.Clean.{clean_lists}
use Rattle.large_net.proofs.Parts.{few_nodes}

-- numbers of eight and of four bytes are read as they were written
pub longs_back : (xs rest : List ℕ) → ((i : ℕ) → get_or xs i 0 < 2 ^ 64) → longs (length xs) (flat_map (to_le_bytes w64) xs ++ rest) ≡ xs
longs_back [] rest small = refl
longs_back (x ∷ xs) rest small =
    ap (λ y. y ∷ longs (length xs) (flat_map (to_le_bytes w64) xs ++ rest)) (from_le_bytes-to_le_bytes_8 x (small 0))
    ∙ ap (λ ys. x ∷ ys) (longs_back xs rest (λ i. small (suc i)))

pub words_back : (xs rest : List ℕ) → ((i : ℕ) → get_or xs i 0 < 2 ^ 32) → words (length xs) (flat_map (to_le_bytes w32) xs ++ rest) ≡ xs
words_back [] rest small = refl
words_back (x ∷ xs) rest small =
    ap (λ y. y ∷ words (length xs) (flat_map (to_le_bytes w32) xs ++ rest)) (from_le_bytes-to_le_bytes_4 x (small 0))
    ∙ ap (λ ys. x ∷ ys) (words_back xs rest (λ i. small (suc i)))

pub longs_length : (xs : List ℕ) → length (flat_map (to_le_bytes w64) xs) ≡ 8 * length xs
longs_length [] = refl
longs_length (x ∷ xs) = omega (arith, longs_length xs, length-append (to_le_bytes w64 x) (flat_map (to_le_bytes w64) xs))

pub words_length : (xs : List ℕ) → length (flat_map (to_le_bytes w32) xs) ≡ 4 * length xs
words_length [] = refl
words_length (x ∷ xs) = omega (arith, words_length xs, length-append (to_le_bytes w32 x) (flat_map (to_le_bytes w32) xs))

-- as many bytes as are asked for, and after them what stands there, where something may
pub has_room : (tailed : Bool) (asked found : ℕ) (tail : List ℕ) → found ≡ asked + length tail → (tailed ≡ false → tail ≡ []) → has_length tailed asked found ≡ true
has_room true asked found tail is none = grind (arith, nat_tests)
has_room false asked found tail is none =
    let bare : length tail ≡ 0 = ap length (none refl) in
    let same : eqb found asked ≡ true = grind (arith, nat_tests) in
    ap (λ b. b || (false && nat_lt asked found)) same

-- the header of bytes of which these are the numbers
header_from : (bytes : List ℕ) (n e f : ℕ) (w t : Bool) → starts_with nat_eq bytes magic ≡ true → long_at bytes 8 ≡ n → long_at bytes 16 ≡ e → long_at bytes 24 ≡ f
    → 32 ≤ length bytes → f ≤ 3 → eqb (f % 2) 1 ≡ w → nat_lt 1 f ≡ t → 1 ≤ n → n ≤ most_rows → has_length t (length_for n e w) (length bytes) ≡ true
    → header_of bytes ≡ Ok (record { nodes = n; ends = e; weighted = w; tailed = t })
header_from bytes n e f w t starts nodes ends flags long low odd high some few whole =
    let header : (nat_lt (length bytes) 32 || nat_lt 3 f) ≡ false = grind (arith, nat_tests) in
    let count : (eqb n 0 || nat_lt most_rows n) ≡ false = grind (arith, nat_tests) in
    rw (starts, nodes, ends, flags, header, count, odd, high, whole) refl

-- the network in bytes of which these are the lists
back_from : (bytes : List ℕ) (h : FileHeader) (offsets ns ws : List ℕ) → header_of bytes ≡ Ok h → offsets_in h bytes ≡ offsets → neighbours_in h bytes ≡ ns → weights_in h bytes ≡ ws
    → rows_fault offsets ns ≡ None → large_of bytes ≡ Ok (rows_of offsets ns ws)
back_from bytes h offsets ns ws header first second third clean =
    ap (λ r. and_then r (λ header. unless (rows_fault (offsets_in header bytes) (neighbours_in header bytes)) (rows_of (offsets_in header bytes) (neighbours_in header bytes) (weights_in header bytes)))) header
    ∙ ap (λ x. unless (rows_fault x (neighbours_in h bytes)) (rows_of x (neighbours_in h bytes) (weights_in h bytes))) first
    ∙ ap (λ x. unless (rows_fault offsets x) (rows_of offsets x (weights_in h bytes))) second
    ∙ ap (λ x. unless (rows_fault offsets ns) (rows_of offsets ns x)) third
    ∙ ap (λ o. unless o (rows_of offsets ns ws)) clean

-- the header, and what follows it
abbrev head : ℕ → ℕ → ℕ → List ℕ
head n e f = codes "UNISONW1" ++ flat_map (to_le_bytes w64) (n ∷ e ∷ f ∷ [])

module _ (n e f : ℕ) (body : List ℕ) where
  head_length : length (head n e f ++ body) ≡ 32 + length body
  head_length = length-append (head n e f) body

  head_back : (w t : Bool) → n < 2 ^ 64 → e < 2 ^ 64 → f ≤ 3 → eqb (f % 2) 1 ≡ w → nat_lt 1 f ≡ t → 1 ≤ n → n ≤ most_rows → has_length t (length_for n e w) (32 + length body) ≡ true
      → header_of (head n e f ++ body) ≡ Ok (record { nodes = n; ends = e; weighted = w; tailed = t })
  head_back w t small room low odd high some few whole =
      header_from (head n e f ++ body) n e f w t refl (from_le_bytes-to_le_bytes_8 n small) (from_le_bytes-to_le_bytes_8 e room) (from_le_bytes-to_le_bytes_8 f (omega arith))
      (omega (arith, head_length)) low odd high some few (ap (has_length t (length_for n e w)) head_length ∙ whole)

-- weights none of which is not 1
pub all_ones : (ws : List ℕ) → list_any (λ w. not (eqb w 1)) ws ≡ false → replicate (length ws) 1 ≡ ws
all_ones [] h = refl
all_ones (w ∷ ws) h = both (eqb w 1) refl h (λ rest. all_ones ws rest) where
  both : (b : Bool) → eqb w 1 ≡ b → (not b || list_any (λ w. not (eqb w 1)) ws) ≡ false → (list_any (λ w. not (eqb w 1)) ws ≡ false → replicate (length ws) 1 ≡ ws) → replicate (length (w ∷ ws)) 1 ≡ w ∷ ws
  both true is rest ones =
      let one : w ≡ 1 = grind (arith, nat_tests) in
      ap (λ r. 1 ∷ r) (ones rest) ∙ ap (λ x. x ∷ ws) (sym one)
  both false is rest ones = absurd cc

-- what is written of the weights
abbrev pub written : List ℕ → List ℕ
written ws = cond (list_any (λ w. not (eqb w 1)) ws) ws []

regroup : (a b c d e : List ℕ) → (((a ++ b) ++ c) ++ d) ++ e ≡ a ++ (b ++ (c ++ (d ++ e)))
regroup a b c d e = simp append_assoc

-- the flags of a file with weights or without, with something after the rows or without
abbrev pub flags : Bool → Bool → ℕ
flags w t = bool_byte w + 2 * bool_byte t

flags_odd : (w t : Bool) → eqb (flags w t % 2) 1 ≡ w
flags_odd true true = refl
flags_odd true false = refl
flags_odd false true = refl
flags_odd false false = refl

flags_high : (w t : Bool) → nat_lt 1 (flags w t) ≡ t
flags_high true true = refl
flags_high true false = refl
flags_high false true = refl
flags_high false false = refl

flags_low : (w t : Bool) → flags w t ≤ 3
flags_low true true = omega arith
flags_low true false = omega arith
flags_low false true = omega arith
flags_low false false = omega arith

-- some weight is not 1
abbrev pub has_weight : List ℕ → Bool
has_weight ws = list_any (λ w. not (eqb w 1)) ws

-- all that is written
abbrev pub spelled : List ℕ → List ℕ → List ℕ → ℕ → ℕ → ℕ → List ℕ → List ℕ
spelled offsets ns ws nodes ends flag tail =
    (((head nodes ends flag ++ flat_map (to_le_bytes w64) offsets) ++ flat_map (to_le_bytes w32) ns) ++ flat_map (to_le_bytes w32) (written ws)) ++ tail

module _ (offsets ns ws : List ℕ) (paired : length ws ≡ length ns) (nodes ends : ℕ) (is_nodes : nodes + 1 ≡ length offsets) (is_ends : ends ≡ length ns)
    (tail : List ℕ) (tailed : Bool) (none : tailed ≡ false → tail ≡ []) (flag : ℕ) (is_flag : flag ≡ flags (has_weight ws) tailed) where
  abbrev a : List ℕ
  a = flat_map (to_le_bytes w64) offsets

  abbrev b : List ℕ
  b = flat_map (to_le_bytes w32) ns

  abbrev c : List ℕ
  c = flat_map (to_le_bytes w32) (written ws)

  abbrev file : List ℕ
  file = head nodes ends flag ++ (a ++ (b ++ (c ++ tail)))

  abbrev header : FileHeader
  header = record { nodes = nodes; ends = ends; weighted = has_weight ws; tailed = tailed }

  weights_length : 4 * ends + 4 * length (written ws) ≡ cond (has_weight ws) (8 * ends) (4 * ends)
  weights_length = at (has_weight ws) where
    at : (b : Bool) → 4 * ends + 4 * length (cond b ws []) ≡ cond b (8 * ends) (4 * ends)
    at true = omega arith
    at false = omega arith

  body_length : 32 + length (a ++ (b ++ (c ++ tail))) ≡ length_for nodes ends (has_weight ws) + length tail
  body_length =
      omega (arith, length-append a (b ++ (c ++ tail)), length-append b (c ++ tail), length-append c tail, longs_length offsets, words_length ns, words_length (written ws), weights_length)

  file_is : spelled offsets ns ws nodes ends flag tail ≡ file
  file_is = regroup (head nodes ends flag) a b c tail

  pub spelled_length : length (spelled offsets ns ws nodes ends flag tail) ≡ length_for nodes ends (has_weight ws) + length tail
  spelled_length = ap length file_is ∙ head_length nodes ends flag (a ++ (b ++ (c ++ tail))) ∙ body_length

  -- what stands after the offsets
  from_neighbours : (place : ℕ) → drop (neighbours_start nodes + place) file ≡ drop place (b ++ (c ++ tail))
  from_neighbours place =
      let rest = b ++ (c ++ tail) in
      sym (drop-drop place (neighbours_start nodes) file)
      ∙ ap (drop place) (sym (drop-drop (8 * (nodes + 1)) 32 file) ∙ drop_at a rest (8 * (nodes + 1)) (omega (arith, longs_length offsets)))

  written_back : ((i : ℕ) → get_or ws i 0 < 2 ^ 32) → (w : Bool) → has_weight ws ≡ w
      → cond w (words ends (drop (neighbours_start nodes + 4 * ends) file)) (replicate ends 1) ≡ ws
  written_back small false is =
      let long : ends ≡ length ws = omega (arith, paired) in
      ap (λ k. replicate k 1) long ∙ all_ones ws is
  written_back small true is =
      let long : ends ≡ length ws = omega (arith, paired) in
      ap (words ends) (from_neighbours (4 * ends) ∙ drop_at b (c ++ tail) (4 * ends) (omega (arith, words_length ns)) ∙ ap (λ w. flat_map (to_le_bytes w32) (cond w ws []) ++ tail) is)
      ∙ ap (λ k. words k (flat_map (to_le_bytes w32) ws ++ tail)) long
      ∙ words_back ws tail small

  module _ (laid : AreLaidOut offsets ns ws) (small_ends : ends < 2 ^ 64) where
    header_back : header_of file ≡ Ok header
    header_back =
        let few = few_nodes offsets ns ws laid in
        head_back nodes ends flag (a ++ (b ++ (c ++ tail))) (has_weight ws) tailed
        (omega (arith, few, is_nodes)) small_ends (rw is_flag (flags_low (has_weight ws) tailed))
        (ap (λ f. eqb (f % 2) 1) is_flag ∙ flags_odd (has_weight ws) tailed) (ap (nat_lt 1) is_flag ∙ flags_high (has_weight ws) tailed)
        (omega (arith, is_nodes, laid.some)) (omega (arith, few, is_nodes))
        (has_room tailed (length_for nodes ends (has_weight ws)) (32 + length (a ++ (b ++ (c ++ tail)))) tail body_length none)

    pub spelled_back : ((i : ℕ) → get_or offsets i 0 < 2 ^ 64) → ((i : ℕ) → get_or ns i 0 < 2 ^ 32) → ((i : ℕ) → get_or ws i 0 < 2 ^ 32)
        → large_of (spelled offsets ns ws nodes ends flag tail) ≡ Ok (rows_of offsets ns ws)
    spelled_back small_offsets small_neighbours small_weights =
        let first : neighbours_start nodes ≡ neighbours_start nodes + 0 = omega arith in
        ap large_of file_is
        ∙ back_from file header offsets ns ws header_back
        (ap (λ k. longs k (a ++ (b ++ (c ++ tail)))) is_nodes ∙ longs_back offsets (b ++ (c ++ tail)) small_offsets)
        (ap (words ends) (ap (λ k. drop k file) first ∙ from_neighbours 0) ∙ ap (λ k. words k (b ++ (c ++ tail))) is_ends ∙ words_back ns (c ++ tail) small_neighbours)
        (written_back small_weights (has_weight ws) refl)
        (clean_lists offsets ns ws laid)

    -- what stands after the rows
    from_tail : drop (length_for nodes ends (has_weight ws)) file ≡ tail
    from_tail =
        let front = head nodes ends flag ++ (a ++ (b ++ c)) in
        let same : file ≡ front ++ tail = simp append_assoc in
        ap (drop (length_for nodes ends (has_weight ws))) same
        ∙ drop_at front tail (length_for nodes ends (has_weight ws))
        (omega (arith, head_length nodes ends flag (a ++ (b ++ c)), length-append a (b ++ c), length-append b c, longs_length offsets, words_length ns, words_length (written ws), weights_length))

    pub tail_back : tail_of (spelled offsets ns ws nodes ends flag tail) ≡ Ok (if tailed then Some tail else None)
    tail_back =
        ap tail_of file_is ∙ ap (λ h. with_header h (λ header. tail_in header file)) header_back
        ∙ ap (λ rest. Ok (if tailed then Some rest else None)) from_tail
