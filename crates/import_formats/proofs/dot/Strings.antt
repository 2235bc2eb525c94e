-- Strings in double quotes, and in angle brackets: where they end.
use Rattle.std.proofs.Common.{◌≡◌, ℕ, zero, suc, ◌+◌, ◌-◌, ◌<◌, Bool, true, false, List, [], ◌∷◌, ◌++◌, length, refl, sym, ap, ◌∙◌, arith, eqb-true, ne_eqb, append_assoc, length-append}
use Rattle.std.specs.Prelude.{◌==◌}
use Rattle.std.proofs.lemmas.Bool.{eqb-false}
use Rattle.import_formats.specs.dot.Runs.{quote_place, bracket_place}
use Rattle.import_formats.specs.dot.Lexemes.{IsQuoted, quoted_end, quoted_byte, quoted_pair, IsBalanced, balanced_end, balanced_byte, balanced_pair}
use Rattle.import_formats.proofs.dot.ByteTests.{by_test, and_false}

-- ---- in double quotes

pub quote_place-IsQuoted : (inside : List ℕ) → IsQuoted inside → (behind : List ℕ) → quote_place false (inside ++ (34 ∷ behind)) ≡ length inside
quote_place-IsQuoted _ quoted_end behind = refl
quote_place-IsQuoted _ (quoted_byte b bytes quote slash is) behind =
    (let more = quote_place-IsQuoted bytes is behind in
    rw (ne_eqb b 34 quote, ne_eqb b 92 slash, more) (omega arith))
quote_place-IsQuoted _ (quoted_pair b bytes is) behind =
    (let more = quote_place-IsQuoted bytes is behind in
    rw (and_false (b == 34), and_false (b == 92), more) (omega arith))

pub record QuotedAt (bytes : List ℕ) : Type 0 where
  pub inside : List ℕ
  pub behind : List ℕ
  pub cut : bytes ≡ inside ++ (34 ∷ behind)
  pub is : IsQuoted inside

-- the rest of a string; escaped: after a backslash
abbrev pub StringAt : Bool → List ℕ → Type 0
StringAt false bytes = QuotedAt bytes
StringAt true [] = ⊥
StringAt true (b ∷ bytes) = QuotedAt bytes

pair_at : (b : ℕ) (bytes : List ℕ) → b ≡ 92 → StringAt true bytes → QuotedAt (b ∷ bytes)
pair_at b [] e at = absurd at
pair_at b (c ∷ bytes) e at = record { inside = 92 ∷ c ∷ at.inside; behind = at.behind; cut = ap (λ x. x ∷ c ∷ bytes) e ∙ ap (λ x. 92 ∷ c ∷ x) at.cut; is = quoted_pair c at.inside at.is }

byte_at : (b : ℕ) (bytes : List ℕ) → (b == 34) ≡ false → (b == 92) ≡ false → QuotedAt bytes → QuotedAt (b ∷ bytes)
byte_at b bytes quote slash at = record { inside = b ∷ at.inside; behind = at.behind; cut = ap (λ x. b ∷ x) at.cut; is = quoted_byte b at.inside (eqb-false b 34 quote) (eqb-false b 92 slash) at.is }

quote_at : (b : ℕ) (bytes : List ℕ) → b ≡ 34 → QuotedAt (b ∷ bytes)
quote_at b bytes e = record { inside = []; behind = bytes; cut = ap (λ x. x ∷ bytes) e; is = quoted_end }

pub quoted_found : (bytes : List ℕ) (escaped : Bool) → quote_place escaped bytes < length bytes → StringAt escaped bytes
quoted_found [] escaped h = absurd (omega arith)
quoted_found (b ∷ bytes) true h =
    (let passed : quote_place true (b ∷ bytes) ≡ 1 + quote_place false bytes = rw (and_false (b == 34), and_false (b == 92)) refl in
    quoted_found bytes false (omega (arith, passed, h)))
quoted_found (b ∷ bytes) false h =
    by_test (b == 34) (λ quote. quote_at b bytes (eqb-true b 34 quote))
    (λ quote. by_test (b == 92)
    (λ slash. let passed : quote_place false (b ∷ bytes) ≡ 1 + quote_place true bytes = rw (quote, slash) refl in pair_at b bytes (eqb-true b 92 slash) (quoted_found bytes true (omega (arith, passed, h))))
    (λ slash. let passed : quote_place false (b ∷ bytes) ≡ 1 + quote_place false bytes = rw (quote, slash) refl in byte_at b bytes quote slash (quoted_found bytes false (omega (arith, passed, h)))))

-- ---- in angle brackets

deeper : (depth : ℕ) (bytes : List ℕ) → bracket_place (depth + 1) (62 ∷ bytes) ≡ 1 + bracket_place depth bytes
deeper depth bytes =
    (let open_one : (depth + 1 == 0) ≡ false = ne_eqb (depth + 1) 0 (λ e. omega arith) in
    let left : depth + 1 - 1 ≡ depth = omega arith in
    rw (open_one, left) refl)

pub bracket_place-IsBalanced : (inside : List ℕ) → IsBalanced inside → (depth : ℕ) (rest : List ℕ) → bracket_place depth (inside ++ rest) ≡ length inside + bracket_place depth rest
bracket_place-IsBalanced _ balanced_end depth rest = omega arith
bracket_place-IsBalanced _ (balanced_byte b bytes opens closes is) depth rest =
    (let more = bracket_place-IsBalanced bytes is depth rest in
    rw (ne_eqb b 62 closes, ne_eqb b 60 opens, more) (omega arith))
bracket_place-IsBalanced _ (balanced_pair inside bytes is more) depth rest =
    (let first = bracket_place-IsBalanced inside is (depth + 1) (62 ∷ (bytes ++ rest)) in
    let last = bracket_place-IsBalanced bytes more depth rest in
    let size = length-append inside (62 ∷ bytes) in
    ap (λ x. 1 + bracket_place (depth + 1) x) (append_assoc inside (62 ∷ bytes) rest)
    ∙ ap (λ n. 1 + n) (first ∙ ap (λ n. length inside + n) (deeper depth (bytes ++ rest) ∙ ap (λ n. 1 + n) last))
    ∙ omega (arith, size))

pub record BalancedAt (bytes : List ℕ) : Type 0 where
  pub inside : List ℕ
  pub behind : List ℕ
  pub cut : bytes ≡ inside ++ (62 ∷ behind)
  pub is : IsBalanced inside

-- so many strings that are open, and one more, end one after another
abbrev pub ClosedAt : ℕ → List ℕ → Type 0
ClosedAt zero bytes = BalancedAt bytes
ClosedAt (suc depth) bytes = (inside : List ℕ) × (behind : List ℕ) × (bytes ≡ inside ++ (62 ∷ behind)) × IsBalanced inside × ClosedAt depth behind

both_cut : (b : ℕ) (bytes inside behind others last : List ℕ) → b ≡ 60 → bytes ≡ inside ++ (62 ∷ behind) → behind ≡ others ++ (62 ∷ last) → b ∷ bytes ≡ (60 ∷ (inside ++ (62 ∷ others))) ++ (62 ∷ last)
both_cut b bytes inside behind others last e cut next = rw (e, cut, next) (ap (λ x. 60 ∷ x) (sym (append_assoc inside (62 ∷ others) (62 ∷ last))))

opened_at : (b : ℕ) (bytes : List ℕ) (depth : ℕ) → b ≡ 60 → ClosedAt (suc depth) bytes → ClosedAt depth (b ∷ bytes)
opened_at b bytes zero e (inside, behind, cut, is, next) =
    record { inside = 60 ∷ (inside ++ (62 ∷ next.inside)); behind = next.behind; cut = both_cut b bytes inside behind next.inside next.behind e cut next.cut; is = balanced_pair inside next.inside is next.is }
opened_at b bytes (suc depth) e (inside, behind, cut, is, (others, last, next, are, more)) =
    (60 ∷ (inside ++ (62 ∷ others)), last, both_cut b bytes inside behind others last e cut next, balanced_pair inside others is are, more)

other_at : (b : ℕ) (bytes : List ℕ) (depth : ℕ) → (b == 60) ≡ false → (b == 62) ≡ false → ClosedAt depth bytes → ClosedAt depth (b ∷ bytes)
other_at b bytes zero opens closes at = record { inside = b ∷ at.inside; behind = at.behind; cut = ap (λ x. b ∷ x) at.cut; is = balanced_byte b at.inside (eqb-false b 60 opens) (eqb-false b 62 closes) at.is }
other_at b bytes (suc depth) opens closes (inside, behind, cut, is, more) = (b ∷ inside, behind, ap (λ x. b ∷ x) cut, balanced_byte b inside (eqb-false b 60 opens) (eqb-false b 62 closes) is, more)

closed_at : (b : ℕ) (bytes : List ℕ) (depth : ℕ) → b ≡ 62 → bracket_place depth (b ∷ bytes) < length (b ∷ bytes) → ((d : ℕ) → bracket_place d bytes < length bytes → ClosedAt d bytes) → ClosedAt depth (b ∷ bytes)
closed_at b bytes zero e h more = record { inside = []; behind = bytes; cut = ap (λ x. x ∷ bytes) e; is = balanced_end }
closed_at b bytes (suc depth) e h more =
    (let same : suc depth ≡ depth + 1 = omega arith in
    let passed : bracket_place (suc depth) (b ∷ bytes) ≡ 1 + bracket_place depth bytes = rw (e, same) (deeper depth bytes) in
    ([], bytes, ap (λ x. x ∷ bytes) e, balanced_end, more depth (omega (arith, passed, h))))

pub closed_found : (bytes : List ℕ) (depth : ℕ) → bracket_place depth bytes < length bytes → ClosedAt depth bytes
closed_found [] depth h = absurd (omega arith)
closed_found (b ∷ bytes) depth h =
    by_test (b == 62) (λ closes. closed_at b bytes depth (eqb-true b 62 closes) h (λ d k. closed_found bytes d k))
    (λ closes. by_test (b == 60)
    (λ opens.
    let same : depth + 1 ≡ suc depth = omega arith in
    let passed : bracket_place depth (b ∷ bytes) ≡ 1 + bracket_place (suc depth) bytes = rw (closes, opens, same) refl in
    opened_at b bytes depth (eqb-true b 60 opens) (closed_found bytes (suc depth) (omega (arith, passed, h))))
    (λ opens.
    let passed : bracket_place depth (b ∷ bytes) ≡ 1 + bracket_place depth bytes = rw (closes, opens) refl in
    other_at b bytes depth opens closes (closed_found bytes depth (omega (arith, passed, h)))))
