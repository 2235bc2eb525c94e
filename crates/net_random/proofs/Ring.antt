-- Links round a ring: none stands twice, and each node begins so many.
use Rattle.std.proofs.Common.{◌≡◌, ℕ, ◌+◌, ◌-◌, ◌*◌, ◌%◌, ◌<◌, ◌≤◌, ◌==◌, Bool, true, false, ◌&&◌, ◌||◌, nat_lt, List, [], ◌∷◌, ◌++◌, map, length, length-append, refl, ap, sym, subst, ◌∙◌, inl, inr, arith, zero, suc, if◌then◌else◌}
use Rattle.std.specs.List.{list_any, filter, flat_map, range_with_len, AllByRecursion}
use Rattle.std.proofs.Math.Nat.{mod-eq_of_lt, mod-lt, mul-le-mul_left}
use Rattle.std.proofs.lemmas.Bool.{cases_Bool}
use Rattle.std.proofs.lemmas.Bool.Decides.{nat_tests}
use Rattle.std.proofs.lemmas.Nat.{mod-mul-add}
use Rattle.std.proofs.lemmas.List.Elements.{filter-append}
use Rattle.std.proofs.lemmas.List.Folds.{list_any-append}
use Rattle.std.proofs.lemmas.Grind.{flat_map-append}
use Rattle.std.proofs.lemmas.List.{append-nil}
use Rattle.std.proofs.lemmas.List.FromFn.{length-map-range_with_len}
use Rattle.link_net.specs.Links.{is_self_link, has_link_twice, joins, are_linked}
use Rattle.link_net.specs.Neighbours.{numbers_below}
use Rattle.net_text.specs.Listing.{Link}
use Rattle.net_random.specs.RandomNetworks.{pair_count, AreSimpleLinks, following, ring_link, ring_links}
use Rattle.net_random.proofs.Growing.{all-append, range_more}

-- twice as many neighbours before and after a node as there are other nodes at most
pub few_near : (n near : ℕ) → 1 ≤ n → n * near ≤ pair_count n → 2 * near < n
few_near n near some room =
    elim (cases_Bool (nat_lt (2 * near) n)) [
      | inl few ↦ grind (arith, nat_tests)
      | inr many ↦
          let least : n ≤ 2 * near = grind (arith, nat_tests) in
          let more : n * n ≤ n * (2 * near) = mul-le-mul_left n least in
          let same : n * (2 * near) ≡ 2 * (n * near) = omega arith in
          let less : n * (n - 1) + n ≡ n * n = product n some in
          absurd (omega arith)
    ] where
      product : (n : ℕ) → 1 ≤ n → n * (n - 1) + n ≡ n * n
      product zero some = absurd (omega arith)
      product (suc m) some = let less : suc m - 1 ≡ m = omega arith in rw less (omega arith)

not_both : (p q r s : Bool) → (p ≡ true → q ≡ true → ⊥) → (r ≡ true → s ≡ true → ⊥) → ((p && q) || (r && s)) ≡ false
not_both true true r s a b = absurd (a refl refl)
not_both true false true true a b = absurd (b refl refl)
not_both true false true false a b = refl
not_both true false false s a b = refl
not_both false q true true a b = absurd (b refl refl)
not_both false q true false a b = refl
not_both false q false s a b = refl

none_self : (ls : List Link) → AllByRecursion (λ l. is_self_link l ≡ false) ls → list_any is_self_link ls ≡ false
none_self [] all = refl
none_self (l ∷ ls) all = rw (all.0, none_self ls all.1) refl

module _ (n near : ℕ) (few : 2 * near < n) where
  -- the node that follows, without a remainder
  step_is : (u s : ℕ) → u < n → s < n → (u + 1 + s) % n ≡ (if nat_lt (u + 1 + s) n then u + 1 + s else u + 1 + s - n)
  step_is u s low short =
      elim (cases_Bool (nat_lt (u + 1 + s) n)) [
        | inl before ↦ let less : u + 1 + s < n = grind (arith, nat_tests) in rw before (mod-eq_of_lt less)
        | inr past ↦
            let more : n ≤ u + 1 + s = grind (arith, nat_tests) in
            let whole : 1 * n + (u + 1 + s - n) ≡ u + 1 + s = omega arith in
            rw past (ap (λ k. k % n) (sym whole) ∙ mod-mul-add 1 n (u + 1 + s - n) (omega arith))
      ]

  -- two links of the ring that differ join different nodes
  other_ring : (u s v t : ℕ) → u < n → v < n → s < near → t < near → (u ≡ v → s ≡ t → ⊥) → joins (ring_link n u s).0 (ring_link n u s).1 (ring_link n v t) ≡ false
  other_ring u s v t a b c d differ =
      rw (step_is u s a (omega arith), step_is v t b (omega arith))
      (elim (cases_Bool (nat_lt (u + 1 + s) n)) [
        | inl first ↦
            elim (cases_Bool (nat_lt (v + 1 + t) n)) [
              | inl second ↦ rw (first, second) (apart (u + 1 + s) (v + 1 + t) (λ e f. omega arith) (λ e f. omega arith))
              | inr second ↦ let more : n ≤ v + 1 + t = grind (arith, nat_tests) in rw (first, second) (apart (u + 1 + s) (v + 1 + t - n) (λ e f. omega arith) (λ e f. omega arith))
            ]
        | inr first ↦
            let wrapped : n ≤ u + 1 + s = grind (arith, nat_tests) in
            elim (cases_Bool (nat_lt (v + 1 + t) n)) [
              | inl second ↦ rw (first, second) (apart (u + 1 + s - n) (v + 1 + t) (λ e f. omega arith) (λ e f. omega arith))
              | inr second ↦ let more : n ≤ v + 1 + t = grind (arith, nat_tests) in rw (first, second) (apart (u + 1 + s - n) (v + 1 + t - n) (λ e f. omega arith) (λ e f. omega arith))
            ]
      ]) where
        apart : (x y : ℕ) → (u ≡ v → x ≡ y → s ≡ t) → (u ≡ y → x ≡ v → ⊥) → ((u == v && x == y) || (u == y && x == v)) ≡ false
        apart x y same turned =
            not_both (u == v) (x == y) (u == y) (x == v)
            (λ e f. let p : u ≡ v = grind (arith, nat_tests) in let q : x ≡ y = grind (arith, nat_tests) in differ p (same p q))
            (λ e f. let p : u ≡ y = grind (arith, nat_tests) in let q : x ≡ v = grind (arith, nat_tests) in turned p q)

  -- no link of another node, or of later steps, joins the ends of a link
  block_apart : (u s v a k : ℕ) → u < n → v < n → s < near → a + k ≤ near → (u ≡ v → s < a) → are_linked (map (ring_link n v) (range_with_len a k)) (ring_link n u s).0 (ring_link n u s).1 ≡ false
  block_apart u s v a zero low below short fits later = refl
  block_apart u s v a (suc k) low below short fits later =
      rw (other_ring u s v a low below short (omega arith) (λ e f. let before = later e in absurd (omega arith)), block_apart u s v (a + 1) k low below short (omega arith) (λ e. let before = later e in omega arith)) refl

  -- no link of later nodes does
  later_apart : (u s v k : ℕ) → s < near → u < v → v + k ≤ n → are_linked (flat_map (following n near) (range_with_len v k)) (ring_link n u s).0 (ring_link n u s).1 ≡ false
  later_apart u s v zero short later fits = refl
  later_apart u s v (suc k) short later fits =
      rw (
        list_any-append (joins (ring_link n u s).0 (ring_link n u s).1) (following n near v) (flat_map (following n near) (range_with_len (v + 1) k)),
        block_apart u s v 0 near (omega arith) (omega arith) short (omega arith) (λ e. absurd (omega arith)),
        later_apart u s (v + 1) k short (omega arith) (omega arith),
      ) refl

  once_before : (u a k : ℕ) (rest : List Link) → u < n → a + k ≤ near → has_link_twice rest ≡ false
      → ((s : ℕ) → s < near → are_linked rest (ring_link n u s).0 (ring_link n u s).1 ≡ false) → has_link_twice (map (ring_link n u) (range_with_len a k) ++ rest) ≡ false
  once_before u a zero rest low fits once apart = once
  once_before u a (suc k) rest low fits once apart =
      rw (
        list_any-append (joins (ring_link n u a).0 (ring_link n u a).1) (map (ring_link n u) (range_with_len (a + 1) k)) rest,
        block_apart u a u (a + 1) k low low (omega arith) (omega arith) (λ e. omega arith),
        apart a (omega arith),
        once_before u (a + 1) k rest low (omega arith) once apart,
      ) refl

  ring_once : (v k : ℕ) → v + k ≤ n → has_link_twice (flat_map (following n near) (range_with_len v k)) ≡ false
  ring_once v zero fits = refl
  ring_once v (suc k) fits =
      once_before v 0 near (flat_map (following n near) (range_with_len (v + 1) k)) (omega arith) (omega arith) (ring_once (v + 1) k (omega arith))
      (λ s short. later_apart v s (v + 1) k short (omega arith) (omega arith))

  -- what holds of each link of the ring
  block_all : (P : Link → Type 0) (u a k : ℕ) → ((s : ℕ) → s < near → P (ring_link n u s)) → a + k ≤ near → AllByRecursion P (map (ring_link n u) (range_with_len a k))
  block_all P u a zero each fits = tt
  block_all P u a (suc k) each fits = (each a (omega arith), block_all P u (a + 1) k each (omega arith))

  ring_all : (P : Link → Type 0) → ((u s : ℕ) → u < n → s < near → P (ring_link n u s)) → (v k : ℕ) → v + k ≤ n → AllByRecursion P (flat_map (following n near) (range_with_len v k))
  ring_all P each v zero fits = tt
  ring_all P each v (suc k) fits =
      all-append P (following n near v) (flat_map (following n near) (range_with_len (v + 1) k))
      (block_all P v 0 near (λ s short. each v s (omega arith) short) (omega arith))
      (ring_all P each (v + 1) k (omega arith))

  straight : (u s : ℕ) → u < n → s < near → is_self_link (ring_link n u s) ≡ false
  straight u s low short =
      rw (step_is u s low (omega arith))
      (elim (cases_Bool (nat_lt (u + 1 + s) n)) [
        | inl before ↦ rw before (grind (arith, nat_tests))
        | inr past ↦ let more : n ≤ u + 1 + s = grind (arith, nat_tests) in rw past (grind (arith, nat_tests))
      ])

  pub ring_simple : AreSimpleLinks n (ring_links n near)
  ring_simple = record {
    weights = ring_all (λ l. l.2 ≡ 1) (λ u s low short. refl) 0 n (omega arith);
    within = ring_all (λ l. (l.0 < n) × (l.1 < n)) (λ u s low short. (low, mod-lt (u + 1 + s) (omega arith))) 0 n (omega arith);
    apart = none_self (ring_links n near) (ring_all (λ l. is_self_link l ≡ false) straight 0 n (omega arith));
    once = ring_once 0 n (omega arith);
  }

-- one node more
pub ring_more : (n near k : ℕ) → flat_map (following n near) (numbers_below (k + 1)) ≡ flat_map (following n near) (numbers_below k) ++ following n near k
ring_more n near k =
    let up : k + 1 ≡ suc k = omega arith in
    let last : 0 + k ≡ k = omega arith in
    let more : range_with_len 0 (k + 1) ≡ range_with_len 0 k ++ k ∷ [] = ap (λ m. range_with_len 0 m) up ∙ range_more 0 k ∙ ap (λ m. range_with_len 0 k ++ m ∷ []) last in
    ap (λ xs. flat_map (following n near) xs) more
    ∙ flat_map-append (following n near) (range_with_len 0 k) (k ∷ [])
    ∙ ap (λ ls. flat_map (following n near) (range_with_len 0 k) ++ ls) (append-nil (following n near k))

-- how many links the ring has
ring_length : (n near v k : ℕ) → length (flat_map (following n near) (range_with_len v k)) ≡ k * near
ring_length n near v zero = omega arith
ring_length n near v (suc k) =
    let both = length-append (following n near v) (flat_map (following n near) (range_with_len (v + 1) k)) in
    let first = length-map-range_with_len (ring_link n v) 0 near in
    let rest = ring_length n near (v + 1) k in
    let more : suc k * near ≡ near + k * near = omega arith in
    omega arith

pub ring_count : (n near : ℕ) → length (ring_links n near) ≡ n * near
ring_count n near = ring_length n near 0 n

-- how many links begin at a node
block_begun : (n u a k : ℕ) → length (filter (λ l. l.0 == u) (map (ring_link n u) (range_with_len a k))) ≡ k
block_begun n u a zero = refl
block_begun n u a (suc k) = let same : (u == u) ≡ true = grind (arith, nat_tests) in rw same (ap (λ m. suc m) (block_begun n u (a + 1) k))

other_begun : (n u v a k : ℕ) → (v == u) ≡ false → length (filter (λ l. l.0 == u) (map (ring_link n v) (range_with_len a k))) ≡ 0
other_begun n u v a zero other = refl
other_begun n u v a (suc k) other = rw other (other_begun n u v (a + 1) k other)

begun_more : (n near u v : ℕ) (rest : List Link) → length (filter (λ l. l.0 == u) (following n near v ++ rest)) ≡ length (filter (λ l. l.0 == u) (following n near v)) + length (filter (λ l. l.0 == u) rest)
begun_more n near u v rest =
    ap length (filter-append (λ l. l.0 == u) (following n near v) rest)
    ∙ length-append (filter (λ l. l.0 == u) (following n near v)) (filter (λ l. l.0 == u) rest)

past_begun : (n near u v k : ℕ) → u < v → length (filter (λ l. l.0 == u) (flat_map (following n near) (range_with_len v k))) ≡ 0
past_begun n near u v zero later = refl
past_begun n near u v (suc k) later =
    let both = begun_more n near u v (flat_map (following n near) (range_with_len (v + 1) k)) in
    let none = other_begun n u v 0 near (grind (arith, nat_tests)) in
    let rest = past_begun n near u (v + 1) k (omega arith) in
    omega arith

begun_from : (n near u v k : ℕ) → v ≤ u → u < v + k → length (filter (λ l. l.0 == u) (flat_map (following n near) (range_with_len v k))) ≡ near
begun_from n near u v zero low high = absurd (omega arith)
begun_from n near u v (suc k) low high =
    let both = begun_more n near u v (flat_map (following n near) (range_with_len (v + 1) k)) in
    elim (cases_Bool (v == u)) [
      | inl here ↦
          let is : v ≡ u = grind (arith, nat_tests) in
          let first : length (filter (λ l. l.0 == u) (following n near v)) ≡ near = subst (λ k. length (filter (λ l. l.0 == u) (following n near k)) ≡ near) (sym is) (block_begun n u 0 near) in
          let rest = past_begun n near u (v + 1) k (omega arith) in
          omega arith
      | inr other ↦
          let above : v + 1 ≤ u = grind (arith, nat_tests) in
          let none = other_begun n u v 0 near other in
          let rest = begun_from n near u (v + 1) k above (omega arith) in
          omega arith
    ]

pub ring_begun : (n near u : ℕ) → u < n → length (filter (λ l. l.0 == u) (ring_links n near)) ≡ near
ring_begun n near u low = begun_from n near u 0 n (omega arith) (omega arith)
