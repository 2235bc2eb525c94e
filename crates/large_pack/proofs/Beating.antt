-- Of sorted edges the first of those that join the same two nodes is the one that none goes before.
use Rattle.std.proofs.Common.{◌≡◌, ◌≢◌, ◌∙◌, ℕ, ◌+◌, ◌<◌, ◌≤◌, ◌==◌, Bool, true, false, not, ◌&&◌, ◌||◌, List, [], ◌∷◌, get_or, suc, nat_lt, refl, sym, ap, Ordering, Less, Equal, nat_cmp, arith, inl, inr}
use Rattle.std.proofs.lemmas.Bool.{cases_Bool, or_cases, and_parts}
use Rattle.std.proofs.lemmas.Bool.Decides.{nat_tests}
use Rattle.std.specs.Cmp.{IsTotalOrder, tied_itself, then_total, on_total, nat_eq_equiv}
use Rattle.std.proofs.lemmas.Cmp.{nat_cmp_total}
use Rattle.std.specs.Ordering.{is_lt, ordering_then}
use Rattle.std.specs.List.{list_any, filter, dedup, dedup_from, AllByRecursion, IsDistinct}
use Rattle.std.specs.List.Sorted.{IsPermutation, IsSorted}
use Rattle.std.proofs.lemmas.List.Elements.{All-from_recursion, recursion_from_All, filter_agree}
use Rattle.std.proofs.lemmas.List.Sorted.{list_any-IsPermutation, sorted_far, ranks_by}
use Rattle.std.proofs.lemmas.Map.Keys.{IsDistinct-head, IsDistinct-tail, IsDistinct-IsPermutation}
use Rattle.large_pack.specs.declared.ranked.Ranked.{Ranked}
use Rattle.large_pack.specs.Ranks.{alike, beats, is_beaten, unbeaten, LinesRise}
use Rattle.large_pack.proofs.Permuting.{filter_moved}

-- x stands before y: by the ends, the rank, the line
pub record Precedes (x y : Ranked) : Type 0 where
  pub first : x.first ≤ y.first
  pub second : x.first ≡ y.first → x.second ≤ y.second
  pub rank : x.first ≡ y.first → x.second ≡ y.second → x.rank ≤ y.rank
  pub line : x.first ≡ y.first → x.second ≡ y.second → x.rank ≡ y.rank → x.line < y.line

-- each edge stands before those after it
abbrev pub AllRise : List Ranked → Type 0
AllRise [] = Unit {0}
AllRise (x ∷ xs) = AllByRecursion (Precedes x) xs × AllRise xs

-- ---- two edges

abbrev SameEnds : Ranked → Ranked → Type 0
SameEnds x y = (x.first ≡ y.first) × (x.second ≡ y.second)

eq_of : (a b : ℕ) → (a == b) ≡ true → a ≡ b
eq_of a b h = grind (arith, nat_tests)

eq_test : (a b : ℕ) → a ≡ b → (a == b) ≡ true
eq_test a b h = grind (arith, nat_tests)

lt_test : (a b : ℕ) → a < b → nat_lt a b ≡ true
lt_test a b h = grind (arith, nat_tests)

not_lt : (a b : ℕ) → b ≤ a → nat_lt a b ≡ false
not_lt a b h = grind (arith, nat_tests)

pub le_of : (a b : ℕ) → nat_lt a b ≡ false → b ≤ a
le_of a b h = grind (arith, nat_tests)

pub alike_ends : (x y : Ranked) → alike x y ≡ true → SameEnds x y
alike_ends x y h =
    let (one, two) = and_parts (x.first == y.first) (x.second == y.second) h in
    (eq_of x.first y.first one, eq_of x.second y.second two)

alike_test : (x y : Ranked) → SameEnds x y → alike x y ≡ true
alike_test x y ends = rw (eq_test x.first y.first ends.0, eq_test x.second y.second ends.1) refl

pub alike_flips : (x y : Ranked) → alike x y ≡ true → alike y x ≡ true
alike_flips x y h = let ends = alike_ends x y h in alike_test y x (sym ends.0, sym ends.1)

pub alike_chain : (x y z : Ranked) → alike x y ≡ true → alike y z ≡ true → alike x z ≡ true
alike_chain x y z h g =
    let one = alike_ends x y h in
    let two = alike_ends y z g in
    alike_test x z (one.0 ∙ two.0, one.1 ∙ two.1)

-- an edge beats those of its ends that stand after it
pub beats_behind : (x y : Ranked) → Precedes x y → alike x y ≡ true → beats x y ≡ true
beats_behind x y before same =
    let ends = alike_ends x y same in
    let low : x.rank ≤ y.rank = before.rank ends.0 ends.1 in
    elim (cases_Bool (nat_lt x.rank y.rank)) [
      | inl less ↦ rw (same, less) refl
      | inr more ↦
          let high : y.rank ≤ x.rank = le_of x.rank y.rank more in
          let tie : x.rank ≡ y.rank = omega arith in
          rw (same, more, eq_test x.rank y.rank tie, lt_test x.line y.line (before.line ends.0 ends.1 tie)) refl
    ]

-- and is beaten by none of them
unbeaten_by : (x y : Ranked) → Precedes x y → beats y x ≡ false
unbeaten_by x y before =
    elim (cases_Bool (alike y x)) [
      | inl same ↦
          let ends = alike_ends x y (alike_flips y x same) in
          let more : nat_lt y.rank x.rank ≡ false = not_lt y.rank x.rank (before.rank ends.0 ends.1) in
          elim (cases_Bool (y.rank == x.rank)) [
            | inl tie ↦
                let line : x.line < y.line = before.line ends.0 ends.1 (sym (eq_of y.rank x.rank tie)) in
                rw (same, more, tie) (not_lt y.line x.line (omega arith))
            | inr other ↦ rw (same, more, other) refl
          ]
      | inr other ↦ rw other refl
    ]

pub unbeaten_by_itself : (x : Ranked) → beats x x ≡ false
unbeaten_by_itself x =
    rw (alike_test x x (refl, refl), not_lt x.rank x.rank (omega arith), eq_test x.rank x.rank refl) (not_lt x.line x.line (omega arith))

-- what stands between edges of the same ends has these ends
pub between : (k x y : Ranked) → Precedes k x → Precedes x y → alike k y ≡ true → alike x k ≡ true
between k x y low high same =
    let ends = alike_ends k y same in
    let e : k.first ≡ y.first = ends.0 in
    let first : x.first ≡ k.first = omega (arith, low.first, high.first) in
    let second : x.second ≡ k.second = omega (arith, ends.1, low.second (sym first), high.second (first ∙ e)) in
    alike_test x k (first, second)

pub beats_alike : (x y : Ranked) → beats x y ≡ true → alike x y ≡ true
beats_alike x y h = (and_parts (alike x y) (nat_lt x.rank y.rank || (x.rank == y.rank && nat_lt x.line y.line)) h).0

-- ---- tests

pub or_second : (a b c : Bool) → b ≡ true → (a || (b || c)) ≡ true
or_second true b c h = refl
or_second false true c h = refl
or_second false false c h = cc

pub or_none : (a b c d : Bool) → a ≡ false → b ≡ false → c ≡ false → d ≡ false → (a || (b || (c || d))) ≡ false
or_none a b c d p q r s = rw (p, q, r, s) refl

pub turn : (a b c d : Bool) → ((a || c) || (b || d)) ≡ (a || (b || (c || d)))
turn true b c d = refl
turn false true true d = refl
turn false false true d = refl
turn false b false d = refl

pub shift : (a b c d : Bool) → ((a || b) || (c || d)) ≡ (a || (b || (c || d)))
shift true b c d = refl
shift false true c d = refl
shift false false c d = refl

pub clash : {A : Type 0} (b : Bool) → b ≡ true → b ≡ false → A
clash b t f = cc

pub not_true : (b : Bool) → (b ≡ true → ⊥) → b ≡ false
not_true true h = absurd (h refl)
not_true false h = refl

pub both_weaker : {P Q R : Ranked → Type 0} (ys : List Ranked) → AllByRecursion P ys → AllByRecursion Q ys → ((y : Ranked) → P y → Q y → R y) → AllByRecursion R ys
both_weaker [] p q step = tt
both_weaker {P} {Q} {R} (y ∷ ys) p q step = (step y p.0 q.0, both_weaker {P = P} {Q = Q} {R = R} ys p.1 q.1 step)

none_passes : (p : Ranked → Bool) (xs : List Ranked) → AllByRecursion (λ y. p y ≡ false) xs → list_any p xs ≡ false
none_passes p [] h = refl
none_passes p (x ∷ xs) h = rw (h.0) (none_passes p xs h.1)

-- ---- lists

-- beaten by none of k, the edges after it, and what P speaks of
abbrev stays : (Ranked → Bool) → Ranked → List Ranked → Ranked → Bool
stays P k xs y = not (P y || list_any (λ d. beats d y) (k ∷ xs))

pub none_behind : (x : Ranked) (xs : List Ranked) → AllByRecursion (Precedes x) xs → list_any (λ d. beats d x) xs ≡ false
none_behind x xs up = none_passes (λ d. beats d x) xs (both_weaker {P = Precedes x} {Q = Precedes x} {R = λ d. beats d x ≡ false} xs up up (λ y p q. unbeaten_by x y p))

-- P speaks of edges before k: what they beat after k has the ends of k
firsts_stay : (P : Ranked → Bool) (k : Ranked) (xs : List Ranked) → AllByRecursion (λ y. P y ≡ true → alike k y ≡ true) xs → AllRise (k ∷ xs)
    → dedup_from alike k xs ≡ k ∷ filter (stays P k xs) xs
firsts_stay P k [] near up = refl
firsts_stay P k (x ∷ rest) near up =
    elim (cases_Bool (alike x k)) [
      | inl same ↦
          let P' : Ranked → Bool = λ y. P y || beats x y in
          let near' : AllByRecursion (λ y. P' y ≡ true → alike k y ≡ true) rest =
          both_weaker {P = λ y. P y ≡ true → alike k y ≡ true} {Q = Precedes x} {R = λ y. P' y ≡ true → alike k y ≡ true} rest near.1 up.1.0
          (λ y old high h. elim (or_cases (P y) (beats x y) h) [
            | inl before ↦ old before
            | inr here ↦ alike_chain k x y (alike_flips x k same) (beats_alike x y here)
          ]) in
          let drops : stays P k (x ∷ rest) x ≡ false = ap not (or_second (P x) (beats k x) (list_any (λ d. beats d x) (x ∷ rest)) (beats_behind k x up.0.0 (alike_flips x k same))) in
          let tests : filter (stays P' k rest) rest ≡ filter (stays P k (x ∷ rest)) rest =
          filter_agree (stays P' k rest) (stays P k (x ∷ rest)) (λ y. ap not (turn (P y) (beats k y) (beats x y) (list_any (λ d. beats d y) rest))) rest in
          rw (same, drops) (firsts_stay P' k rest near' (up.0.1, up.1.1) ∙ ap (λ t. k ∷ t) tests)
      | inr other ↦
          let P' : Ranked → Bool = λ y. P y || beats k y in
          let near' : AllByRecursion (λ y. P' y ≡ true → alike x y ≡ true) rest =
          both_weaker {P = λ y. P y ≡ true → alike k y ≡ true} {Q = Precedes x} {R = λ y. P' y ≡ true → alike x y ≡ true} rest near.1 up.1.0
          (λ y old high h. elim (or_cases (P y) (beats k y) h) [
            | inl before ↦ clash (alike x k) (between k x y up.0.0 high (old before)) other
            | inr here ↦ clash (alike x k) (between k x y up.0.0 high (beats_alike k y here)) other
          ]) in
          let apart : P x ≡ false = not_true (P x) (λ h. clash (alike x k) (alike_flips k x (near.0 h)) other) in
          let free : beats k x ≡ false = not_true (beats k x) (λ h. clash (alike x k) (alike_flips k x (beats_alike k x h)) other) in
          let keeps : stays P k (x ∷ rest) x ≡ true = ap not (or_none (P x) (beats k x) (beats x x) (list_any (λ d. beats d x) rest) apart free (unbeaten_by_itself x) (none_behind x rest up.1.0)) in
          let tests : filter (stays P' x rest) rest ≡ filter (stays P k (x ∷ rest)) rest =
          filter_agree (stays P' x rest) (stays P k (x ∷ rest)) (λ y. ap not (shift (P y) (beats k y) (beats x y) (list_any (λ d. beats d y) rest))) rest in
          rw (other, keeps) (ap (λ t. k ∷ t) (firsts_stay P' x rest near' up.1 ∙ ap (λ t. x ∷ t) tests))
    ]

pub no_one_near : (k : Ranked) (xs : List Ranked) → AllByRecursion (λ y. false ≡ true → alike k y ≡ true) xs
no_one_near k [] = tt
no_one_near k (x ∷ xs) = ((λ h. clash false h refl), no_one_near k xs)

-- no edge goes before the first
pub head_free : (k : Ranked) (xs : List Ranked) → AllRise (k ∷ xs) → is_beaten (k ∷ xs) k ≡ false
head_free k xs up = or_none false (beats k k) false (list_any (λ d. beats d k) xs) refl (unbeaten_by_itself k) refl (none_behind k xs up.0)

-- of edges in order those stay that none goes before
pub dedup_unbeaten : (edges : List Ranked) → AllRise edges → dedup alike edges ≡ unbeaten edges
dedup_unbeaten [] up = refl
dedup_unbeaten (k ∷ xs) up =
    let keeps : not (is_beaten (k ∷ xs) k) ≡ true = ap not (head_free k xs up) in
    rw keeps (firsts_stay (λ _. false) k xs (no_one_near k xs) up)

-- ---- the order of a sort

abbrev pub full_cmp : Ranked → Ranked → Ordering
full_cmp x y =
    ordering_then (nat_cmp x.first y.first) (ordering_then (nat_cmp x.second y.second)
    (ordering_then (nat_cmp x.rank y.rank) (ordering_then (nat_cmp x.line y.line) (nat_cmp x.weight y.weight))))

full_total : IsTotalOrder full_cmp
full_total =
    then_total (on_total (λ (x : Ranked). x.first) nat_cmp_total) (then_total (on_total (λ (x : Ranked). x.second) nat_cmp_total)
    (then_total (on_total (λ (x : Ranked). x.rank) nat_cmp_total) (then_total (on_total (λ (x : Ranked). x.line) nat_cmp_total) (on_total (λ (x : Ranked). x.weight) nat_cmp_total))))

-- what an order by one number and then another says
head_le : (a b : ℕ) (later : Ordering) → is_lt (ordering_then (nat_cmp b a) later) ≡ false → a ≤ b
head_le a b later h =
    elim (cases_Bool (nat_lt b a)) [
      | inl less ↦ let is : nat_cmp b a ≡ Less = grind (arith, nat_tests) in let bad = rw is at h in cc
      | inr more ↦ le_of b a more
    ]

then_later : (a b : ℕ) (later : Ordering) → a ≡ b → is_lt (ordering_then (nat_cmp b a) later) ≡ false → is_lt later ≡ false
then_later a b later same h =
    let tie : nat_cmp b a ≡ Equal = rw same (tied_itself nat_cmp_total b) in
    rw tie at h

precedes : (x y : Ranked) → is_lt (full_cmp y x) ≡ false → x.line ≢ y.line → Precedes x y
precedes x y h apart = record {
  first = head_le x.first y.first _ h;
  second = λ p. head_le x.second y.second _ (then_later x.first y.first _ p h);
  rank = λ p q. head_le x.rank y.rank _ (then_later x.second y.second _ q (then_later x.first y.first _ p h));
  line = λ p q r.
      let low : x.line ≤ y.line = head_le x.line y.line _ (then_later x.rank y.rank _ r (then_later x.second y.second _ q (then_later x.first y.first _ p h))) in
      omega (arith, apart);
}

abbrev pub same_line : Ranked → Ranked → Bool
same_line x y = x.line == y.line

one_on : (k : ℕ) → suc k + 1 ≡ suc (k + 1)
one_on k = omega arith

rest_sorted : (x : Ranked) (xs : List Ranked) → IsSorted full_cmp (x ∷ xs) → IsSorted full_cmp xs
rest_sorted x xs sorted k d low high =
    let next = sorted (suc k) d (omega arith) (omega arith) in
    rw (one_on k) at next

lines_apart : (x y : Ranked) → same_line x y ≡ false → x.line ≢ y.line
lines_apart x y h same = clash (same_line x y) (eq_test x.line y.line same) h

-- sorted edges of different lines are in order
sorted_rise : (xs : List Ranked) → IsSorted full_cmp xs → IsDistinct same_line xs → AllRise xs
sorted_rise [] sorted apart = tt
sorted_rise (x ∷ xs) sorted apart = (
  recursion_from_All (Precedes x) xs
      (λ k d low. precedes x (get_or xs k d)
      (sorted_far (λ (a : Ranked) (b : Ranked). is_lt (full_cmp a b)) (ranks_by full_total (λ (a : Ranked). a)) (x ∷ xs) sorted 0 (suc k) d (omega arith) (omega arith))
      (lines_apart x (get_or xs k d) (All-from_recursion (λ y. same_line x y ≡ false) xs (IsDistinct-head same_line x xs apart) k d low))),
  sorted_rise xs (rest_sorted x xs sorted) (IsDistinct-tail same_line x xs apart),
)

same_line_flips : (x y : Ranked) → same_line x y ≡ same_line y x
same_line_flips x y = nat_eq_equiv.symm x.line y.line

later_apart : (x : Ranked) (xs : List Ranked) → AllByRecursion (λ d. x.line < d.line) xs → AllByRecursion (λ d. same_line x d ≡ false) xs
later_apart x [] up = tt
later_apart x (y ∷ ys) up =
    let less : x.line < y.line = up.0 in
    ((let differ : (x.line == y.line) ≡ false = grind (arith, nat_tests) in differ), later_apart x ys up.1)

rising_apart : (xs : List Ranked) → LinesRise xs → IsDistinct same_line xs
unfolding IsDistinct
rising_apart [] up = tt
rising_apart (x ∷ xs) up = (later_apart x xs up.0, rising_apart xs up.1)

module _ (given sorted : List Ranked) (up : LinesRise given) (moved : IsPermutation given sorted) (order : IsSorted full_cmp sorted) where
  -- edges of different lines, sorted
  pub in_order : AllRise sorted
  in_order = sorted_rise sorted order (IsDistinct-IsPermutation same_line same_line_flips given sorted moved (rising_apart given up))

  pub beaten_alike : (e : Ranked) → is_beaten given e ≡ is_beaten sorted e
  beaten_alike e = list_any-IsPermutation (λ d. beats d e) given sorted moved

  unbeaten_moved : IsPermutation (unbeaten given) (unbeaten sorted)
  unbeaten_moved =
      let agree = filter_agree (λ e. not (is_beaten given e)) (λ e. not (is_beaten sorted e)) (λ e. ap not (beaten_alike e)) given in
      rw agree (filter_moved (λ e. not (is_beaten sorted e)) given sorted moved)

  -- of them those that none goes before
  pub merged : (kept : List Ranked) → kept ≡ dedup alike sorted → IsPermutation (unbeaten given) kept
  merged kept is = rw (is, dedup_unbeaten sorted in_order) unbeaten_moved
