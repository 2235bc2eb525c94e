-- Each frame of a moving picture has its colours.
use Rattle.std.proofs.Common.{◌≡◌, ◌∙◌, ◌<◌, ◌≤◌, ◌+◌, ◌*◌, ◌/◌, ◌==◌, ℕ, zero, suc, List, [], ◌∷◌, ◌++◌, Bool, true, false, if◌then◌else◌, ap, arith, get_or, length, nat_le, refl, slice_index, sym}
use Rattle.std.proofs.lemmas.Bool.Decides.{nat_tests}
use Rattle.std.proofs.lemmas.Grind.{common_steps}
use Rattle.std.proofs.lemmas.List.{get_or_append_left, get_or-append-add}
use Rattle.std.proofs.lemmas.List.FromFn.{get_or-map-range_with_len, length-map-range_with_len}
use Rattle.std.proofs.lemmas.Nat.{div-add-mod', mod_below}
use Rattle.std.specs.List.{flat_map}
use Rattle.rounds_plan.specs.Plans.{PlanView}
use Rattle.run_watch.specs.Spans.{SpanView, count_of, round_at, rounds_in}
use Rattle.run_picture.specs.declared.changes.Change.{Change}
use Rattle.run_picture.specs.Frames.{values_after, values_in}
use Rattle.run_picture.specs.Moving.{EachFrameHasItsColours, EachFrameHasItsTime, begins, change_at, changes_from, changes_of, classes_of, shown_in}
use Rattle.run_picture.specs.Shades.{class_of}
use Rattle.run_picture.proofs.Counts.{values_count}

-- ---- colours

-- with a change of a frame or none before others, by whether there is one
change_by : (same : Bool) (class c r : ℕ) (changes : List Change) (s : ℕ) → (c == class) ≡ same → r ≤ s
    → shown_in class ((if same then [] else record { frame = r; class = c } ∷ []) ++ changes) s ≡ shown_in c changes s
change_by true class c r changes s is late =
    let e : c ≡ class = grind (arith, nat_tests, is) in
    ap (λ (k : ℕ). shown_in k changes s) (sym e)
change_by false class c r changes s is late =
    let e : nat_le r s ≡ true = grind (arith, nat_tests, late) in
    ap (λ (b : Bool). if b then shown_in c changes s else class) e

change_then : (class c r : ℕ) (changes : List Change) (s : ℕ) → r ≤ s → shown_in class (change_at class r c ++ changes) s ≡ shown_in c changes s
change_then class c r changes s late = change_by (c == class) class c r changes s refl late

early_by : (same : Bool) (class c r s : ℕ) (changes : List Change) → (c == class) ≡ same → s < r → shown_in c changes s ≡ c
    → shown_in class ((if same then [] else record { frame = r; class = c } ∷ []) ++ changes) s ≡ class
early_by true class c r s changes is early rest =
    let e : c ≡ class = grind (arith, nat_tests, is) in
    ap (λ (k : ℕ). shown_in k changes s) (sym e) ∙ rest ∙ e
early_by false class c r s changes is early rest =
    let e : nat_le r s ≡ false = grind (arith, nat_tests, early) in
    ap (λ (b : Bool). if b then shown_in c changes s else class) e

-- before the first change nothing has changed
early : (class r s : ℕ) (classes : List ℕ) → s < r → shown_in class (changes_from class r classes) s ≡ class
early class r s [] before = refl
early class r s (c ∷ classes) before = early_by (c == class) class c r s (changes_from c (r + 1) classes) refl before (early c (r + 1) s classes (omega (arith, before)))

-- the frame that comes k after the first shows the colour at place k
shown : (class r : ℕ) (classes : List ℕ) (k : ℕ) → k < length classes → shown_in class (changes_from class r classes) (r + k) ≡ get_or classes k 0
shown class r [] k inside = absurd (omega (arith, inside))
shown class r (c ∷ classes) zero inside =
    change_then class c r (changes_from c (r + 1) classes) (r + zero) (omega arith) ∙ early c (r + 1) (r + zero) classes (omega arith)
shown class r (c ∷ classes) (suc k) inside =
    let e : r + suc k ≡ r + 1 + k = omega arith in
    change_then class c r (changes_from c (r + 1) classes) (r + suc k) (omega arith)
    ∙ ap (λ (s : ℕ). shown_in c (changes_from c (r + 1) classes) s) e
    ∙ shown c (r + 1) classes k (omega (arith, inside))

shown_at : (classes : List ℕ) (r : ℕ) → r < length classes → shown_in (slice_index classes 0) (changes_of classes) r ≡ get_or classes r 0
shown_at classes r inside =
    let e : r ≡ 0 + r = omega arith in
    ap (λ (s : ℕ). shown_in (slice_index classes 0) (changes_of classes) s) e ∙ shown (slice_index classes 0) 0 classes r inside

-- ---- values

-- of lists of one length, one after the other, place u of the r-th
slot : (nodes : ℕ) (f : ℕ → List ℕ) → ((t : ℕ) → length (f t) ≡ nodes) → (ts : List ℕ) (r u : ℕ) → u < nodes → r < length ts
    → get_or (flat_map f ts) (r * nodes + u) 0 ≡ get_or (f (get_or ts r 0)) u 0
slot nodes f each [] r u low inside = absurd (omega (arith, inside))
slot nodes f each (t ∷ ts) zero u low inside =
    let e : zero * nodes + u ≡ u = grind (arith, common_steps) in
    let count = each t in
    ap (λ (k : ℕ). get_or (f t ++ flat_map f ts) k 0) e ∙ get_or_append_left (f t) (flat_map f ts) 0 u (omega (arith, low, count))
slot nodes f each (t ∷ ts) (suc r) u low inside =
    let count = each t in
    let e : suc r * nodes + u ≡ length (f t) + (r * nodes + u) = grind (arith, common_steps, count) in
    ap (λ (k : ℕ). get_or (f t ++ flat_map f ts) k 0) e
    ∙ get_or-append-add (f t) (flat_map f ts) (r * nodes + u) 0
    ∙ slot nodes f each ts r u low (omega (arith, inside))

value_at : (p : PlanView) (span : SpanView) (field u r : ℕ) → u < length p.network → r < count_of span
    → slice_index (values_in p span field) (r * length p.network + u) ≡ slice_index (values_after p field (round_at span r)) u
value_at p span field u r low inside =
    let many = length-map-range_with_len (round_at span) 0 (count_of span) in
    let e : 0 + r ≡ r = omega arith in
    slot (length p.network) (values_after p field) (values_count p field) (rounds_in span) r u low (omega (arith, inside, many))
    ∙ ap (λ (t : ℕ). get_or (values_after p field t) u 0) (get_or-map-range_with_len (round_at span) 0 (count_of span) r r 0 inside e)

pub each_frame_has_its_colours : EachFrameHasItsColours
each_frame_has_its_colours key p span field u r low inside =
    let values = values_in p span field in
    let nodes = length p.network in
    let colour = λ (s : ℕ). class_of key (slice_index values (s * nodes + u)) in
    let many = length-map-range_with_len colour 0 (count_of span) in
    let e : 0 + r ≡ r = omega arith in
    shown_at (classes_of key values nodes (count_of span) u) r (omega (arith, inside, many))
    ∙ get_or-map-range_with_len colour 0 (count_of span) r r 0 inside e
    ∙ ap (class_of key) (value_at p span field u r low inside)

-- ---- times

-- a quotient, and how near it comes
record IsNear (q n d : ℕ) : Type 0 where
  low : q * d ≤ n
  high : n < q * d + d

near : (n d : ℕ) → 1 ≤ d → IsNear (n / d) n d
near n d some =
    let whole = div-add-mod' n d in
    let rest = mod_below n d some in
    record { low = omega (arith, whole, rest); high = omega (arith, whole, rest) }

pub each_frame_has_its_time : EachFrameHasItsTime
each_frame_has_its_time frames r s some few =
    let is = near (s * 1000000) frames some in
    let e : begins frames s * (2 * frames) ≡ 2 * (begins frames s * frames) = grind (arith, common_steps) in (
      λ begun. omega (arith, begun, e, is.low, is.high, few),
      λ come. omega (arith, come, e, is.low, is.high, few),
    )
