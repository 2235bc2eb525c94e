-- The first edge that repeats another, found in sorted edges.
use Rattle.std.proofs.Common.{◌≡◌, ◌∙◌, ℕ, ◌<◌, ◌≤◌, ◌==◌, Bool, true, false, ◌||◌, List, [], ◌∷◌, length, get_or, zero, suc, nat_lt, nat_le, refl, sym, ap, Option, Some, None, arith, inl, inr, ◌⊎◌, if◌then◌else◌}
use Rattle.std.proofs.lemmas.Bool.{cases_Bool, or_cases, or_parts}
use Rattle.std.proofs.lemmas.Bool.Decides.{nat_tests}
use Rattle.std.specs.List.{list_any, find, AllByRecursion, Contains}
use Rattle.std.specs.List.Sorted.{IsPermutation, IsSorted}
use Rattle.std.proofs.lemmas.List.Elements.{All-from_recursion, recursion_from_All, All-contains, All-contains_itself}
use Rattle.std.proofs.lemmas.List.Sorted.{All-permutation, Contains-permutation, IsPermutation-sym, length_permutation}
use Rattle.large_pack.specs.declared.ranked.Ranked.{Ranked}
use Rattle.large_pack.specs.Ranks.{alike, beats, is_beaten, sooner, repeat_behind, least_repeat, repeat_in, LinesRise, AreTied}
use Rattle.large_pack.proofs.Beating.{AllRise, Precedes, full_cmp, alike_flips, alike_chain, beats_behind, beats_alike, between, clash, not_true, both_weaker, none_behind, no_one_near, turn, shift, or_second, or_none, unbeaten_by_itself, head_free, in_order, beaten_alike}

-- ---- what is found first

-- where lines rise, the edge of the least line that passes is found
find_least : (p : Ranked → Bool) (x : Ranked) (es : List Ranked) (k : ℕ) → LinesRise es → k < length es → get_or es k x ≡ x → p x ≡ true → AllByRecursion (λ d. p d ≡ true → x.line ≤ d.line) es → find p es ≡ Some x
find_least p x [] k up low is pass least = absurd (omega (arith, low))
find_least p x (y ∷ ys) zero up low is pass least =
    let hit : p y ≡ true = ap p is ∙ pass in
    rw hit (ap Some is)
find_least p x (y ∷ ys) (suc k) up low is pass least =
    elim (cases_Bool (p y)) [
      | inl hit ↦
          let less : y.line < x.line = All-contains (λ (d : Ranked). y.line < d.line) ys x (All-from_recursion (λ (d : Ranked). y.line < d.line) ys up.0) (k, omega (arith, low), is) in
          absurd (omega (arith, least.0 hit, less))
      | inr miss ↦ rw miss (find_least p x ys k up.1 (omega (arith, low)) is pass least.1)
    ]

find_none : (p : Ranked → Bool) (es : List Ranked) → AllByRecursion (λ d. p d ≡ false) es → find p es ≡ None
find_none p [] none = refl
find_none p (x ∷ xs) none = rw (none.0) (find_none p xs none.1)

-- ---- repeats of sorted edges

-- each edge after the head that repeats one, with that one
abbrev repeats_from : Ranked → List Ranked → List (Ranked × Ranked)
repeats_from k [] = []
repeats_from k (x ∷ xs) = if alike x k then (x, k) ∷ repeats_from k xs else repeats_from x xs

abbrev soonest : Option (ℕ × ℕ) → List (Ranked × Ranked) → Option (ℕ × ℕ)
soonest known [] = known
soonest known (p ∷ ps) = soonest (sooner known (p.0.line, p.1.line)) ps

repeats_scanned : (k : Ranked) (known : Option (ℕ × ℕ)) (xs : List Ranked) → repeat_behind k known xs ≡ soonest known (repeats_from k xs)
repeats_scanned k known [] = refl
repeats_scanned k known (x ∷ xs) =
    elim (cases_Bool (alike x k)) [
      | inl same ↦ rw same (repeats_scanned k (sooner known (x.line, k.line)) xs)
      | inr other ↦ rw other (repeats_scanned x known xs)
    ]

-- the lines are those of one of the pairs
abbrev Listed : ℕ × ℕ → List (Ranked × Ranked) → Type 0
Listed r [] = ⊥
Listed r (p ∷ ps) = (r ≡ (p.0.line, p.1.line)) ⊎ Listed r ps

record Chosen (q : ℕ × ℕ) (ps : List (Ranked × Ranked)) (r : ℕ × ℕ) : Type 0 where
  from : (r ≡ q) ⊎ Listed r ps
  low : r.0 ≤ q.0
  all : AllByRecursion (λ p. r.0 ≤ p.0.line) ps

le_test : (a b : ℕ) → nat_le a b ≡ true → a ≤ b
le_test a b h = grind (arith, nat_tests)

gt_test : (a b : ℕ) → nat_le a b ≡ false → b < a
gt_test a b h = grind (arith, nat_tests)

chosen : (q : ℕ × ℕ) (ps : List (Ranked × Ranked)) → (r : ℕ × ℕ) × (soonest (Some q) ps ≡ Some r) × Chosen q ps r
chosen q [] = (q, refl, record { from = inl refl; low = omega arith; all = tt })
chosen q (p ∷ ps) =
    elim (cases_Bool (nat_le q.0 p.0.line)) [
      | inl stays ↦
          let rest = chosen q ps in
          let below : q.0 ≤ p.0.line = le_test q.0 p.0.line stays in (
            rest.0,
            rw stays (rest.1),
            record {
              from = elim rest.2.from [ inl here ↦ inl here | inr later ↦ inr (inr later) ];
              low = rest.2.low;
              all = (omega (arith, rest.2.low), rest.2.all);
            },
          )
      | inr goes ↦
          let rest = chosen (p.0.line, p.1.line) ps in
          let below : p.0.line < q.0 = gt_test q.0 p.0.line goes in (
            rest.0,
            rw goes (rest.1),
            record {
              from = elim rest.2.from [ inl here ↦ inr (inl here) | inr later ↦ inr (inr later) ];
              low = omega (arith, rest.2.low);
              all = (rest.2.low, rest.2.all);
            },
          )
    ]

module _ (all : List Ranked) where
  -- an edge that repeats another, and that one, before which none goes
  record IsRepeat (p : Ranked × Ranked) : Type 0 where
    same : alike p.1 p.0 ≡ true
    beaten : is_beaten all p.0 ≡ true
    free : is_beaten all p.1 ≡ false
    later : Contains all p.0
    head : Contains all p.1

  -- what is known of the head k and of the edges after it, where P speaks of those before it
  record IsPlaced (P : Ranked → Bool) (k : Ranked) (xs : List Ranked) : Type 0 where
    near : AllByRecursion (λ y. P y ≡ true → alike k y ≡ true) xs
    up : AllRise (k ∷ xs)
    test : (y : Ranked) → is_beaten all y ≡ (P y || list_any (λ d. beats d y) (k ∷ xs))
    free : is_beaten all k ≡ false
    head : Contains all k
    inside : AllByRecursion (Contains all) xs

  on_same : (P : Ranked → Bool) (k x : Ranked) (rest : List Ranked) → alike x k ≡ true → IsPlaced P k (x ∷ rest) → IsPlaced (λ y. P y || beats x y) k rest
  on_same P k x rest same at = record {
    near = both_weaker {P = λ y. P y ≡ true → alike k y ≡ true} {Q = Precedes x} {R = λ y. (P y || beats x y) ≡ true → alike k y ≡ true} rest at.near.1 at.up.1.0
        (λ y old high h. elim (or_cases (P y) (beats x y) h) [
          | inl before ↦ old before
          | inr here ↦ alike_chain k x y (alike_flips x k same) (beats_alike x y here)
        ]);
    up = (at.up.0.1, at.up.1.1);
    test = λ y. at.test y ∙ sym (turn (P y) (beats k y) (beats x y) (list_any (λ d. beats d y) rest));
    free = at.free;
    head = at.head;
    inside = at.inside.1;
  }

  next_free : (P : Ranked → Bool) (k x : Ranked) (rest : List Ranked) → alike x k ≡ false → IsPlaced P k (x ∷ rest) → is_beaten all x ≡ false
  next_free P k x rest other at =
      let apart : P x ≡ false = not_true (P x) (λ h. clash (alike x k) (alike_flips k x (at.near.0 h)) other) in
      let free : beats k x ≡ false = not_true (beats k x) (λ h. clash (alike x k) (alike_flips k x (beats_alike k x h)) other) in
      at.test x ∙ or_none (P x) (beats k x) (beats x x) (list_any (λ d. beats d x) rest) apart free (unbeaten_by_itself x) (none_behind x rest at.up.1.0)

  on_other : (P : Ranked → Bool) (k x : Ranked) (rest : List Ranked) → alike x k ≡ false → IsPlaced P k (x ∷ rest) → IsPlaced (λ y. P y || beats k y) x rest
  on_other P k x rest other at = record {
    near = both_weaker {P = λ y. P y ≡ true → alike k y ≡ true} {Q = Precedes x} {R = λ y. (P y || beats k y) ≡ true → alike x y ≡ true} rest at.near.1 at.up.1.0
        (λ y old high h. elim (or_cases (P y) (beats k y) h) [
          | inl before ↦ clash (alike x k) (between k x y at.up.0.0 high (old before)) other
          | inr here ↦ clash (alike x k) (between k x y at.up.0.0 high (beats_alike k y here)) other
        ]);
    up = at.up.1;
    test = λ y. at.test y ∙ sym (shift (P y) (beats k y) (beats x y) (list_any (λ d. beats d y) rest));
    free = next_free P k x rest other at;
    head = at.inside.0;
    inside = at.inside.1;
  }

  here_repeats : (P : Ranked → Bool) (k x : Ranked) (rest : List Ranked) → alike x k ≡ true → IsPlaced P k (x ∷ rest) → IsRepeat (x, k)
  here_repeats P k x rest same at = record {
    same = alike_flips x k same;
    beaten = at.test x ∙ or_second (P x) (beats k x) (list_any (λ d. beats d x) (x ∷ rest)) (beats_behind k x at.up.0.0 (alike_flips x k same));
    free = at.free;
    later = at.inside.0;
    head = at.head;
  }

  all_repeats : (P : Ranked → Bool) (k : Ranked) (xs : List Ranked) → IsPlaced P k xs → AllByRecursion IsRepeat (repeats_from k xs)
  all_repeats P k [] at = tt
  all_repeats P k (x ∷ rest) at =
      elim (cases_Bool (alike x k)) [
        | inl same ↦ rw same (here_repeats P k x rest same at, all_repeats (λ y. P y || beats x y) k rest (on_same P k x rest same at))
        | inr other ↦ rw other (all_repeats (λ y. P y || beats k y) x rest (on_other P k x rest other at))
      ]

  abbrev EachBeaten : (Ranked → Type 0) → List Ranked → Type 0
  EachBeaten Q xs = AllByRecursion (λ y. is_beaten all y ≡ true → Q y) xs

  -- what holds of the edges that repeat one holds of those that one goes before
  each_beaten : (Q : Ranked → Type 0) (P : Ranked → Bool) (k : Ranked) (xs : List Ranked) → IsPlaced P k xs → AllByRecursion (λ p. Q p.0) (repeats_from k xs) → EachBeaten Q xs
  each_beaten Q P k [] at holds = tt
  each_beaten Q P k (x ∷ rest) at holds =
      elim (cases_Bool (alike x k)) [
        | inl same ↦
            let both = rw same at holds in
            ((λ h. both.0), each_beaten Q (λ y. P y || beats x y) k rest (on_same P k x rest same at) both.1)
        | inr other ↦
            let later = rw other at holds in
            ((λ h. clash (is_beaten all x) h (next_free P k x rest other at)), each_beaten Q (λ y. P y || beats k y) x rest (on_other P k x rest other at) later)
      ]

abbrev Of : List Ranked → ℕ × ℕ → Type 0
Of all r = (p : Ranked × Ranked) × IsRepeat all p × (r ≡ (p.0.line, p.1.line))

listed_repeat : (all : List Ranked) (r : ℕ × ℕ) (ps : List (Ranked × Ranked)) → AllByRecursion (IsRepeat all) ps → Listed r ps → Of all r
listed_repeat all r [] repeats listed = absurd listed
listed_repeat all r (p ∷ ps) repeats listed =
    elim listed [
      | inl here ↦ (p, repeats.0, here)
      | inr later ↦ listed_repeat all r ps repeats.1 later
    ]

placed : (k : Ranked) (xs : List Ranked) → AllRise (k ∷ xs) → IsPlaced (k ∷ xs) (λ _. false) k xs
placed k xs up =
    let inside : AllByRecursion (Contains (k ∷ xs)) (k ∷ xs) = recursion_from_All (Contains (k ∷ xs)) (k ∷ xs) (All-contains_itself (k ∷ xs)) in
    record {
      near = no_one_near k xs;
      up = up;
      test = λ y. refl;
      free = head_free k xs up;
      head = inside.0;
      inside = inside.1;
    }

none_pass : (p : Ranked → Bool) (xs : List Ranked) → list_any p xs ≡ false → AllByRecursion (λ y. p y ≡ false) xs
none_pass p [] h = tt
none_pass p (x ∷ xs) h = let parts = or_parts (p x) (list_any p xs) h in (parts.0, none_pass p xs parts.1)

no_line_before : (d h : Ranked) → alike d h ≡ true → d.rank ≡ 0 → h.rank ≡ 0 → beats d h ≡ false → h.line ≤ d.line
no_line_before d h same one two none =
    elim (cases_Bool (nat_lt d.line h.line)) [
      | inl less ↦
          let tie : (d.rank == h.rank) ≡ true = grind (arith, nat_tests) in
          let more : nat_lt d.rank h.rank ≡ false = grind (arith, nat_tests) in
          let bad : true ≡ false = rw (same, more, tie, less) at none in
          cc
      | inr more ↦ grind (arith, nat_tests)
    ]

module _ (given : List Ranked) (rising : LinesRise given) (tied : AreTied given) where
  module _ (k : Ranked) (xs : List Ranked) (moved : IsPermutation given (k ∷ xs)) (up : AllRise (k ∷ xs)) (alike_beaten : (e : Ranked) → is_beaten given e ≡ is_beaten (k ∷ xs) e) where
    back : IsPermutation (k ∷ xs) given
    back = IsPermutation-sym given (k ∷ xs) moved

    over_given : (Q : Ranked → Type 0) → EachBeaten (k ∷ xs) Q xs → AllByRecursion (λ y. is_beaten given y ≡ true → Q y) given
    over_given Q each =
        let R : Ranked → Type 0 = λ y. is_beaten (k ∷ xs) y ≡ true → Q y in
        let S : Ranked → Type 0 = λ y. is_beaten given y ≡ true → Q y in
        let whole : AllByRecursion R (k ∷ xs) = ((λ h. clash (is_beaten (k ∷ xs) k) h (head_free k xs up)), each) in
        let moved_back : AllByRecursion R given = recursion_from_All R given (All-permutation R (k ∷ xs) given back (All-from_recursion R (k ∷ xs) whole)) in
        both_weaker {P = R} {Q = R} {R = S} given moved_back moved_back (λ y one two h. one (sym (alike_beaten y) ∙ h))

    none_repeats : repeats_from k xs ≡ [] → repeat_in given ≡ None
    none_repeats none =
        let Never : Ranked → Type 0 = λ y. ⊥ in
        let each = each_beaten (k ∷ xs) Never (λ _. false) k xs (placed k xs up) (rw none tt) in
        let never = over_given Never each in
        let free : AllByRecursion (λ y. is_beaten given y ≡ false) given =
        both_weaker {P = λ y. is_beaten given y ≡ true → ⊥} {Q = λ y. is_beaten given y ≡ true → ⊥} {R = λ y. is_beaten given y ≡ false} given never never (λ y one two. not_true (is_beaten given y) one) in
        rw (find_none (is_beaten given) given free) refl

    heads_line : (x h : Ranked) → alike h x ≡ true → is_beaten given h ≡ false → Contains given h → AllByRecursion (λ d. alike d x ≡ true → h.line ≤ d.line) given
    heads_line x h same free inside =
        let zero_rank : h.rank ≡ 0 = All-contains (λ (e : Ranked). e.rank ≡ 0) given h (All-from_recursion (λ (e : Ranked). e.rank ≡ 0) given tied) inside in
        both_weaker {P = λ d. beats d h ≡ false} {Q = λ d. d.rank ≡ 0} {R = λ d. alike d x ≡ true → h.line ≤ d.line} given (none_pass (λ d. beats d h) given free) tied
        (λ d none rank near. no_line_before d h (alike_chain d x h near (alike_flips h x same)) rank zero_rank none)

    some_repeats : (r : ℕ × ℕ) → Of (k ∷ xs) r → AllByRecursion (λ p. r.0 ≤ p.0.line) (repeats_from k xs) → repeat_in given ≡ Some r
    some_repeats r of least =
        let x = of.0.0 in
        let h = of.0.1 in
        let is = of.1 in
        let Low : Ranked → Type 0 = λ y. r.0 ≤ y.line in
        let each = over_given Low (each_beaten (k ∷ xs) Low (λ _. false) k xs (placed k xs up) least) in
        let here : r.0 ≡ x.line = ap (λ (q : ℕ × ℕ). q.0) of.2 in
        let lows : AllByRecursion (λ d. is_beaten given d ≡ true → x.line ≤ d.line) given =
        both_weaker {P = λ y. is_beaten given y ≡ true → Low y} {Q = λ y. is_beaten given y ≡ true → Low y} {R = λ d. is_beaten given d ≡ true → x.line ≤ d.line} given each each (λ y one two b. omega (arith, one b, here)) in
        let at_x = Contains-permutation (k ∷ xs) given x back is.later in
        let at_h = Contains-permutation (k ∷ xs) given h back is.head in
        let found : find (is_beaten given) given ≡ Some x = find_least (is_beaten given) x given at_x.0 rising at_x.1 at_x.2 (alike_beaten x ∙ is.beaten) lows in
        let first : find (λ d. alike d x) given ≡ Some h = find_least (λ d. alike d x) h given at_h.0 rising at_h.1 at_h.2 is.same (heads_line x h is.same (alike_beaten h ∙ is.free) at_h) in
        rw (found, first) (ap Some (sym of.2))

    cases_of : (ps : List (Ranked × Ranked)) → repeats_from k xs ≡ ps → soonest None ps ≡ repeat_in given
    cases_of [] none = sym (none_repeats none)
    cases_of (p ∷ ps) some =
        let q : ℕ × ℕ = (p.0.line, p.1.line) in
        let best = chosen q ps in
        let repeats = rw some at (all_repeats (k ∷ xs) (λ _. false) k xs (placed k xs up)) in
        let listed : Listed best.0 (p ∷ ps) = elim best.2.from [ inl here ↦ inl here | inr later ↦ inr later ] in
        best.1 ∙ sym (some_repeats best.0 (listed_repeat (k ∷ xs) best.0 (p ∷ ps) repeats listed) (rw some (best.2.low, best.2.all)))

  -- the least repeat of sorted edges is the first of those that are given
  pub repeat_is : (sorted : List Ranked) → IsPermutation given sorted → IsSorted full_cmp sorted → least_repeat sorted ≡ repeat_in given
  repeat_is sorted moved order = at sorted moved (in_order given sorted rising moved order) (beaten_alike given sorted rising moved order) where
    at : (ys : List Ranked) → IsPermutation given ys → AllRise ys → ((e : Ranked) → is_beaten given e ≡ is_beaten ys e) → least_repeat ys ≡ repeat_in given
    at [] m up b = empty given (length_permutation given [] m) where
      empty : (es : List Ranked) → 0 ≡ length es → None ≡ repeat_in es
      empty [] h = refl
      empty (e ∷ es) h = absurd (omega (arith, h))
    at (k ∷ xs) m up b = repeats_scanned k None xs ∙ cases_of k xs m up b (repeats_from k xs) refl
