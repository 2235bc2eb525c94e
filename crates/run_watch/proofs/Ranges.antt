-- Numbers of nodes that are left.
use Rattle.std.proofs.Common.{◌≡◌, ◌∙◌, ◌<◌, ◌≤◌, ◌+◌, ◌-◌, ◌*◌, ◌++◌, ℕ, suc, List, ◌∷◌, Bool, true, false, if◌then◌else◌, ap, arith, length, map, sym, zero-add}
use Rattle.std.proofs.lemmas.Grind.{common_steps}
use Rattle.std.specs.List.{filter, flat_map, range_with_len}
use Rattle.run_watch.specs.Spans.{SpanView, round_at}

-- the first of them, and those after it
pub range_left : (i n : ℕ) → i < n → range_with_len i (n - i) ≡ i ∷ range_with_len (i + 1) (n - (i + 1))
range_left i n inside =
    let e : n - i ≡ suc (n - (i + 1)) = omega (arith, inside) in
    ap (range_with_len i) e

abbrev pub one : Bool → ℕ
one b = if b then 1 else 0

count_first : (b : Bool) (x : ℕ) (xs : List ℕ) → length (if b then x ∷ xs else xs) ≡ one b + length xs
count_first true x xs =
    let e : suc (length xs) ≡ 1 + length xs = omega arith in
    e
count_first false x xs = sym (zero-add (length xs))

-- how many of them are chosen
pub filter_left : (p : ℕ → Bool) (i n : ℕ) → i < n → length (filter p (range_with_len i (n - i))) ≡ one (p i) + length (filter p (range_with_len (i + 1) (n - (i + 1))))
filter_left p i n inside =
    ap (λ (xs : List ℕ). length (filter p xs)) (range_left i n inside) ∙ count_first (p i) i (filter p (range_with_len (i + 1) (n - (i + 1))))

-- what they are mapped to
pub flat_left : (f : ℕ → List ℕ) (i n : ℕ) → i < n → flat_map f (range_with_len i (n - i)) ≡ f i ++ flat_map f (range_with_len (i + 1) (n - (i + 1)))
flat_left f i n inside = ap (flat_map f) (range_left i n inside)

pub map_left : (f : ℕ → ℕ) (i n : ℕ) → i < n → map f (range_with_len i (n - i)) ≡ f i ∷ map f (range_with_len (i + 1) (n - (i + 1)))
map_left f i n inside = ap (map f) (range_left i n inside)

-- rounds rise
pub round_rises : (s : SpanView) (k : ℕ) → round_at s k ≤ round_at s (k + 1)
round_rises s k =
    let e : (k + 1) * s.every ≡ k * s.every + s.every = grind (arith, common_steps) in
    omega (arith, e)
