-- Edges whose arcs all lead apart: none joins what another joins.
use Rattle.std.proofs.Common.{◌≡◌, ℕ, ◌+◌, ◌*◌, ◌<◌, ◌≤◌, ◌==◌, Bool, true, false, not, ◌&&◌, ◌||◌, List, [], ◌∷◌, map, suc, nat_lt, refl, sym, ap, ◌∙◌, None, arith, inl, inr, find}
use Rattle.std.proofs.lemmas.Bool.{cases_Bool, and_parts}
use Rattle.std.proofs.lemmas.Bool.Decides.{nat_tests}
use Rattle.std.specs.Cmp.{nat_eq_equiv}
use Rattle.std.specs.List.{filter, AllByRecursion, IsDistinct}
use Rattle.std.specs.List.Sorted.{IsNonDecreasing}
use Rattle.std.proofs.lemmas.Map.Keys.{IsDistinct-head, IsDistinct-tail}
use Rattle.large_pack.specs.declared.edge_line.EdgeLine.{EdgeLine}
use Rattle.large_pack.specs.declared.options.PackOptions.{PackOptions}
use Rattle.large_pack.specs.declared.options.Parallel.{Parallel}
use Rattle.large_pack.specs.Sound.{is_loop}
use Rattle.large_pack.specs.Packing.{join_alike, goes_before, rank_of, is_behind, merges, refuses, kept_edges, arcs_of, repeat_fault}
use Rattle.large_pack.specs.Keys.{key_of, repeats_after, repeats}
use Rattle.large_pack.proofs.Beating.{not_true, clash}

-- ---- numbers that rise

abbrev pub same_key : ℕ → ℕ → Bool
same_key k l = k == l

abbrev RiseByRecursion : List ℕ → Type 0
RiseByRecursion [] = Unit {0}
RiseByRecursion (k ∷ ks) = AllByRecursion (λ l. k < l) ks × RiseByRecursion ks

above_too : (k l : ℕ) (ks : List ℕ) → k < l → AllByRecursion (λ m. l < m) ks → AllByRecursion (λ m. k < m) ks
above_too k l [] less all = tt
above_too k l (m ∷ ms) less all = (omega (arith, all.0), above_too k l ms less all.1)

less_of : (k l : ℕ) (later : Bool) → k ≤ l → (l == k || later) ≡ false → k < l
less_of k l later most none = grind (arith, nat_tests)

later_none : (a b : Bool) → (a || b) ≡ false → b ≡ false
later_none true b h = cc
later_none false b h = h

rise_after : (k : ℕ) (ks : List ℕ) → IsNonDecreasing (k ∷ ks) → repeats_after k ks ≡ false → RiseByRecursion (k ∷ ks)
rise_after k [] up none = (tt, tt)
rise_after k (l ∷ ls) up none =
    let later : RiseByRecursion (l ∷ ls) = rise_after l ls (λ i j d low high. up (suc i) (suc j) d (omega arith) (omega arith)) (later_none (l == k) (repeats_after l ls) none) in
    let first : k ≤ l = up 0 1 0 (omega arith) (omega arith) in
    let less : k < l = less_of k l (repeats_after l ls) first none in
    ((less, above_too k l ls less later.0), later)

rise_all : (ks : List ℕ) → IsNonDecreasing ks → repeats ks ≡ false → RiseByRecursion ks
rise_all [] up none = tt
rise_all (k ∷ ks) up none = rise_after k ks up none

differ_above : (k : ℕ) (ks : List ℕ) → AllByRecursion (λ l. k < l) ks → AllByRecursion (λ l. same_key k l ≡ false) ks
differ_above k [] all = tt
differ_above k (l ∷ ls) all =
    let less : k < l = all.0 in
    ((let differ : (k == l) ≡ false = grind (arith, nat_tests) in differ), differ_above k ls all.1)

rising_distinct : (ks : List ℕ) → RiseByRecursion ks → IsDistinct same_key ks
unfolding IsDistinct
rising_distinct [] up = tt
rising_distinct (k ∷ ks) up = (differ_above k ks up.0, rising_distinct ks up.1)

-- sorted numbers of which none is the one before it are different
pub distinct_keys : (ks : List ℕ) → IsNonDecreasing ks → repeats ks ≡ false → IsDistinct same_key ks
distinct_keys ks up none = rising_distinct ks (rise_all ks up none)

pub same_key_flips : (k l : ℕ) → same_key k l ≡ same_key l k
same_key_flips k l = nat_eq_equiv.symm k l

-- ---- edges apart

eq_of : (a b : ℕ) → (a == b) ≡ true → a ≡ b
eq_of a b h = grind (arith, nat_tests)

eq_test : (a b : ℕ) → a ≡ b → (a == b) ≡ true
eq_test a b h = grind (arith, nat_tests)

abbrev pub number : ℕ → ℕ → ℕ
number a b = a * 4294967296 + b

pub same_number : (a b c d : ℕ) → a ≡ c → b ≡ d → (number a b == number c d) ≡ true
same_number a b c d p q = eq_test (number a b) (number c d) (cc)

-- neither joins what the other joins
abbrev AreApart : Bool → EdgeLine → EdgeLine → Type 0
AreApart dir e d = (join_alike dir d e ≡ false) × (join_alike dir e d ≡ false)

and_turns : (a b : Bool) → (a && b) ≡ (b && a)
and_turns true true = refl
and_turns true false = refl
and_turns false true = refl
and_turns false false = refl

joins_flip : (dir : Bool) (d e : EdgeLine) → join_alike dir e d ≡ join_alike dir d e
joins_flip dir d e =
    rw (nat_eq_equiv.symm e.first d.first, nat_eq_equiv.symm e.second d.second, nat_eq_equiv.symm e.first d.second, nat_eq_equiv.symm e.second d.first)
    (ap (λ t. (d.first == e.first && d.second == e.second) || (not dir && t)) (and_turns (d.second == e.first) (d.first == e.second)))

straight_apart : (d e : EdgeLine) → same_key (number e.first e.second) (number d.first d.second) ≡ false → (d.first == e.first && d.second == e.second) ≡ false
straight_apart d e none = not_true (d.first == e.first && d.second == e.second) (λ h.
    let (one, two) = and_parts (d.first == e.first) (d.second == e.second) h in
    clash (number e.first e.second == number d.first d.second) (same_number e.first e.second d.first d.second (sym (eq_of d.first e.first one)) (sym (eq_of d.second e.second two))) none)

turned_apart : (d e : EdgeLine) → same_key (number e.first e.second) (number d.second d.first) ≡ false → (d.first == e.second && d.second == e.first) ≡ false
turned_apart d e none = not_true (d.first == e.second && d.second == e.first) (λ h.
    let (one, two) = and_parts (d.first == e.second) (d.second == e.first) h in
    clash (number e.first e.second == number d.second d.first) (same_number e.first e.second d.second d.first (sym (eq_of d.second e.first two)) (sym (eq_of d.first e.second one))) none)

loop_turned : (d e : EdgeLine) → is_loop d ≡ true → same_key (number e.first e.second) (number d.first d.second) ≡ false → same_key (number e.first e.second) (number d.second d.first) ≡ false
loop_turned d e loop none =
    let same : d.first ≡ d.second = eq_of d.first d.second loop in
    let is : number d.second d.first ≡ number d.first d.second = cc in
    rw is none

both_apart : (dir : Bool) (d e : EdgeLine) → (d.first == e.first && d.second == e.second) ≡ false → (not dir && (d.first == e.second && d.second == e.first)) ≡ false → AreApart dir e d
both_apart dir d e one two =
    let here : join_alike dir d e ≡ false = rw (one, two) refl in
    (here, joins_flip dir d e ∙ here)

one_way : (dir : Bool) (d e : EdgeLine) → (dir || is_loop d) ≡ true → same_key (number e.first e.second) (number d.first d.second) ≡ false → AreApart dir e d
one_way true d e way none = both_apart true d e (straight_apart d e none) refl
one_way false d e way none = both_apart false d e (straight_apart d e none) (turned_apart d e (loop_turned d e way none))

two_ways : (dir : Bool) (d e : EdgeLine) → same_key (number e.first e.second) (number d.first d.second) ≡ false → same_key (number e.first e.second) (number d.second d.first) ≡ false → AreApart dir e d
two_ways true d e one two = both_apart true d e (straight_apart d e one) refl
two_ways false d e one two = both_apart false d e (straight_apart d e one) (turned_apart d e two)

apart_from : (dir : Bool) (e : EdgeLine) (es : List EdgeLine) → AllByRecursion (λ k. same_key (number e.first e.second) k ≡ false) (map key_of (arcs_of dir es)) → AllByRecursion (AreApart dir e) es
apart_from dir e [] all = tt
apart_from dir e (d ∷ es) all =
    elim (cases_Bool (dir || is_loop d)) [
      | inl way ↦ (let here = rw way at all in (one_way dir d e way here.0, apart_from dir e es here.1))
      | inr way ↦ (let here = rw way at all in (two_ways dir d e here.0 here.1.0, apart_from dir e es here.1.1))
    ]

abbrev AllApart : Bool → List EdgeLine → Type 0
AllApart dir [] = Unit {0}
AllApart dir (e ∷ es) = AllByRecursion (AreApart dir e) es × AllApart dir es

abbrev numbers_of : Bool → List EdgeLine → List ℕ
numbers_of dir es = map key_of (arcs_of dir es)

-- what stands after an edge's arcs
behind_arcs : (dir : Bool) (e : EdgeLine) (es : List EdgeLine) → IsDistinct same_key (numbers_of dir (e ∷ es))
    → AllByRecursion (λ k. same_key (number e.first e.second) k ≡ false) (numbers_of dir es) × IsDistinct same_key (numbers_of dir es)
behind_arcs dir e es apart =
    elim (cases_Bool (dir || is_loop e)) [
      | inl way ↦
          let here : IsDistinct same_key (number e.first e.second ∷ numbers_of dir es) = rw way at apart in
          (IsDistinct-head same_key (number e.first e.second) (numbers_of dir es) here, IsDistinct-tail same_key (number e.first e.second) (numbers_of dir es) here)
      | inr way ↦
          let here : IsDistinct same_key (number e.first e.second ∷ number e.second e.first ∷ numbers_of dir es) = rw way at apart in
          let head = IsDistinct-head same_key (number e.first e.second) (number e.second e.first ∷ numbers_of dir es) here in
          let tail = IsDistinct-tail same_key (number e.first e.second) (number e.second e.first ∷ numbers_of dir es) here in
          (head.1, IsDistinct-tail same_key (number e.second e.first) (numbers_of dir es) tail)
    ]

all_apart : (dir : Bool) (es : List EdgeLine) → IsDistinct same_key (numbers_of dir es) → AllApart dir es
all_apart dir [] apart = tt
all_apart dir (e ∷ es) apart =
    let parts = behind_arcs dir e es apart in
    (apart_from dir e es parts.0, all_apart dir es parts.1)

-- ---- none goes before another

not_before_itself : (parallel : Parallel) (e : EdgeLine) → goes_before parallel e e ≡ false
not_before_itself parallel e =
    let r = rank_of parallel e.weight in
    let one : nat_lt r r ≡ false = grind (arith, nat_tests) in
    let two : nat_lt e.line e.line ≡ false = grind (arith, nat_tests) in
    let three : (r == r) ≡ true = eq_test r r refl in
    rw (one, two, three) refl

pub and_none : (a b : Bool) → a ≡ false → (a && b) ≡ false
and_none a b h = rw h refl

and_later : (a b : Bool) → b ≡ false → (a && b) ≡ false
and_later true b h = h
and_later false b h = refl

pub or_neither : (a b : Bool) → a ≡ false → b ≡ false → (a || b) ≡ false
or_neither a b p q = rw (p, q) refl

none_joins : (options : PackOptions) (e : EdgeLine) (es : List EdgeLine) → AllByRecursion (AreApart options.is_directed e) es → is_behind options es e ≡ false
none_joins options e [] apart = refl
none_joins options e (d ∷ es) apart =
    or_neither (join_alike options.is_directed d e && goes_before options.parallel d e) (is_behind options es e)
    (and_none (join_alike options.is_directed d e) (goes_before options.parallel d e) apart.0.0) (none_joins options e es apart.1)

first_beside : (options : PackOptions) (x : EdgeLine) (es later : List EdgeLine) → AllByRecursion (AreApart options.is_directed x) later → AllByRecursion (λ e. is_behind options es e ≡ false) later → AllByRecursion (λ e. is_behind options (x ∷ es) e ≡ false) later
first_beside options x es [] apart free = tt
first_beside options x es (e ∷ later) apart free = (
  or_neither (join_alike options.is_directed x e && goes_before options.parallel x e) (is_behind options es e)
      (and_none (join_alike options.is_directed x e) (goes_before options.parallel x e) apart.0.1) free.0,
  first_beside options x es later apart.1 free.1,
)

none_behind : (options : PackOptions) (es : List EdgeLine) → AllApart options.is_directed es → AllByRecursion (λ e. is_behind options es e ≡ false) es
none_behind options [] apart = tt
none_behind options (e ∷ es) apart = (
  or_neither (join_alike options.is_directed e e && goes_before options.parallel e e) (is_behind options es e)
      (and_later (join_alike options.is_directed e e) (goes_before options.parallel e e) (not_before_itself options.parallel e)) (none_joins options e es apart.0),
  first_beside options e es es apart.0 (none_behind options es apart.1),
)

find_none : (p : EdgeLine → Bool) (es : List EdgeLine) → AllByRecursion (λ e. p e ≡ false) es → find p es ≡ None
find_none p [] free = refl
find_none p (e ∷ es) free = rw (free.0) (find_none p es free.1)

keeps_all : (p : EdgeLine → Bool) (es : List EdgeLine) → AllByRecursion (λ e. p e ≡ false) es → filter (λ e. not (p e)) es ≡ es
keeps_all p [] free = refl
keeps_all p (e ∷ es) free = rw (free.0) (ap (λ t. e ∷ t) (keeps_all p es free.1))

-- edges stay as they are, and none is refused
pub record AreSettled (options : PackOptions) (es : List EdgeLine) : Type 0 where
  pub stay : kept_edges options es ≡ es
  pub none : repeat_fault options es ≡ None

settled_apart : (options : PackOptions) (es : List EdgeLine) → AllApart options.is_directed es → AreSettled options es
settled_apart options es apart =
    let free = none_behind options es apart in
    record {
      stay =
          elim (cases_Bool (merges options.parallel)) [
            | inl some ↦ rw some (keeps_all (is_behind options es) es free)
            | inr none ↦ rw none refl
          ];
      none =
          elim (cases_Bool (refuses options.parallel)) [
            | inl some ↦ rw (some, find_none (is_behind options es) es free) refl
            | inr none ↦ rw none refl
          ];
    }

-- edges all of whose arcs lead apart
pub settled_by_numbers : (options : PackOptions) (es : List EdgeLine) → IsDistinct same_key (map key_of (arcs_of options.is_directed es)) → AreSettled options es
settled_by_numbers options es apart = settled_apart options es (all_apart options.is_directed es apart)

-- edges that all stay whether they lead apart or not
pub settled_by_wish : (options : PackOptions) (es : List EdgeLine) → (merges options.parallel || refuses options.parallel) ≡ false → AreSettled options es
settled_by_wish options es wish =
    elim (cases_Bool (merges options.parallel)) [
      | inl some ↦ (let bad = rw some at wish in cc)
      | inr none ↦
          let other : refuses options.parallel ≡ false = later_none (merges options.parallel) (refuses options.parallel) wish in
          record { stay = rw none refl; none = rw other refl }
    ]
