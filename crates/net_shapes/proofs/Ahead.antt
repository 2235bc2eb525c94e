-- Links that lead from each node to some others: which nodes they join, and that they are sound.
use Rattle.std.proofs.Common.{◌≡◌, ℕ, ◌+◌, ◌<◌, ◌≤◌, ◌==◌, Bool, true, false, ◌||◌, ◌&&◌, nat_lt, nat_le, List, [], ◌∷◌, ◌++◌, map, append_assoc, refl, ap, sym, ◌∙◌, inl, inr, arith, zero, suc}
use Rattle.std.specs.List.{list_any, range_with_len, AllByRecursion}
use Rattle.std.proofs.lemmas.Bool.{cases_Bool}
use Rattle.std.proofs.lemmas.Bool.Decides.{nat_tests}
use Rattle.std.proofs.lemmas.List.Folds.{list_any-append}
use Rattle.link_net.specs.Links.{AllWithin, is_self_link, has_link_twice, joins, are_linked}
use Rattle.link_net.specs.Neighbours.{numbers_below}
use Rattle.net_text.specs.Listing.{Link}
use Rattle.net_shapes.specs.Ahead.{link_to, links_ahead}

-- the number stands in the list
abbrev pub has : ℕ → List ℕ → Bool
has w [] = false
has w (x ∷ xs) = (w == x) || has w xs

-- some number stands twice
abbrev pub has_twice : List ℕ → Bool
has_twice [] = false
has_twice (x ∷ xs) = has x xs || has_twice xs

-- the lists lead as the test says, to each node once, and never back
pub record IsAhead (n : ℕ) (next : ℕ → List ℕ) (leads : ℕ → ℕ → Bool) : Type 0 where
  pub member : (u w : ℕ) → u < n → has w (next u) ≡ (nat_lt w n && leads u w)
  pub once : (u : ℕ) → u < n → has_twice (next u) ≡ false
  pub one_way : (u w : ℕ) → u < n → w < n → leads u w ≡ true → leads w u ≡ false

-- one more node in a row
pub range_more : (a k : ℕ) → range_with_len a (suc k) ≡ range_with_len a k ++ (a + k) ∷ []
range_more a zero = let same : a + 0 ≡ a = omega arith in rw same refl
range_more a (suc k) = let same : (a + 1) + k ≡ a + suc k = omega arith in ap (λ t. a ∷ t) (rw same at (range_more (a + 1) k))

pub no_more : (xs : List Link) → xs ++ [] ≡ xs
no_more [] = refl
no_more (x ∷ xs) = ap (λ t. x ∷ t) (no_more xs)

ahead-append : (next : ℕ → List ℕ) (us vs : List ℕ) → links_ahead next (us ++ vs) ≡ links_ahead next us ++ links_ahead next vs
ahead-append next [] vs = refl
ahead-append next (u ∷ us) vs =
    ap (λ t. map (link_to u) (next u) ++ t) (ahead-append next us vs)
    ∙ sym (append_assoc (map (link_to u) (next u)) (links_ahead next us) (links_ahead next vs))

-- the links of one more node
pub ahead_more : (next : ℕ → List ℕ) (k : ℕ) → links_ahead next (range_with_len 0 (k + 1)) ≡ links_ahead next (range_with_len 0 k) ++ map (link_to k) (next k)
ahead_more next k =
    let on : k + 1 ≡ suc k = omega arith in
    let from_zero : 0 + k ≡ k = omega arith in
    let more = rw from_zero at (range_more 0 k) in
    ap (λ m. links_ahead next (range_with_len 0 m)) on ∙ ap (links_ahead next) more ∙ ahead-append next (range_with_len 0 k) (k ∷ [])
    ∙ ap (λ t. links_ahead next (range_with_len 0 k) ++ t) (no_more (map (link_to k) (next k)))

-- which links from u join a and b
mixed : (p q s t c d : Bool) → (((p && s) || (t && q)) || ((p && c) || (q && d))) ≡ ((p && (s || c)) || (q && (t || d)))
mixed p q s t c d = grind (arith, nat_tests)

any_joins : (a b u : ℕ) (xs : List ℕ) → list_any (joins a b) (map (link_to u) xs) ≡ ((a == u && has b xs) || (b == u && has a xs))
any_joins a b u [] = grind arith
any_joins a b u (x ∷ xs) = rw (any_joins a b u xs) (mixed (a == u) (b == u) (b == x) (a == x) (has b xs) (has a xs))

-- the number is one of k from i on
abbrev pub between : ℕ → ℕ → ℕ → Bool
between i k a = nat_le i a && nat_lt a (i + k)

pub between_none : (i a : ℕ) → between i 0 a ≡ false
between_none i a = grind (arith, nat_tests)

pub between_more : (i k a : ℕ) → between i (suc k) a ≡ ((a == i) || between (i + 1) k a)
between_more i k a = grind (arith, nat_tests)

at_same : (a i : ℕ) (p : ℕ → Bool) → (a == i && p i) ≡ (a == i && p a)
at_same a i p =
    elim (cases_Bool (a == i)) [
      | inl here ↦ let is : a ≡ i = grind (arith, nat_tests) in rw is refl
      | inr other ↦ rw other refl
    ]

gathered : (p q x y s t : Bool) → (((p && s) || (q && t)) || ((x && s) || (y && t))) ≡ (((p || x) && s) || ((q || y) && t))
gathered p q x y s t = grind (arith, nat_tests)

-- which links from k nodes join a and b
joined_between : (next : ℕ → List ℕ) (a b i k : ℕ)
    → list_any (joins a b) (links_ahead next (range_with_len i k)) ≡ ((between i k a && has b (next a)) || (between i k b && has a (next b)))
joined_between next a b i zero = rw (between_none i a, between_none i b) refl
joined_between next a b i (suc k) =
    list_any-append (joins a b) (map (link_to i) (next i)) (links_ahead next (range_with_len (i + 1) k))
    ∙ rw (any_joins a b i (next i), joined_between next a b (i + 1) k, at_same a i (λ u. has b (next u)), at_same b i (λ u. has a (next u)), between_more i k a, between_more i k b)
    (gathered (a == i) (b == i) (between (i + 1) k a) (between (i + 1) k b) (has b (next a)) (has a (next b)))

all-append : (P : Link → Type 0) (xs ys : List Link) → AllByRecursion P xs → AllByRecursion P ys → AllByRecursion P (xs ++ ys)
all-append P [] ys a b = b
all-append P (x ∷ xs) ys a b = (a.0, all-append P xs ys a.1 b)

all_to : (P : Link → Type 0) (u : ℕ) (xs : List ℕ) → ((w : ℕ) → has w xs ≡ true → P (link_to u w)) → AllByRecursion P (map (link_to u) xs)
all_to P u [] h = tt
all_to P u (x ∷ xs) h = (h x (grind (arith, nat_tests)), all_to P u xs (λ w e. h w (rw e (grind (arith, nat_tests)))))

-- what holds of each link from k nodes
pub all_between : (P : Link → Type 0) (next : ℕ → List ℕ) (i k : ℕ)
    → ((u w : ℕ) → i ≤ u → u < i + k → has w (next u) ≡ true → P (link_to u w)) → AllByRecursion P (links_ahead next (range_with_len i k))
all_between P next i zero h = tt
all_between P next i (suc k) h =
    all-append P (map (link_to i) (next i)) (links_ahead next (range_with_len (i + 1) k))
    (all_to P i (next i) (λ w e. h i w (omega arith) (omega arith) e))
    (all_between P next (i + 1) k (λ u w a b e. h u w (omega arith) (omega arith) e))

none_of : (p : Link → Bool) (ls : List Link) → AllByRecursion (λ l. p l ≡ false) ls → list_any p ls ≡ false
none_of p [] h = refl
none_of p (l ∷ ls) h = rw h.0 (none_of p ls h.1)

-- the links from i, each to another node, before links that join none of them again
once_before : (i : ℕ) (xs : List ℕ) (rest : List Link) → has_twice xs ≡ false → has i xs ≡ false
    → ((w : ℕ) → has w xs ≡ true → list_any (joins i w) rest ≡ false) → has_link_twice rest ≡ false → has_link_twice (map (link_to i) xs ++ rest) ≡ false
once_before i [] rest twice self again once = once
once_before i (x ∷ xs) rest twice self again once =
    let tail = once_before i xs rest (grind (arith, nat_tests)) (grind (arith, nat_tests)) (λ w e. again w (rw e (grind (arith, nat_tests)))) once in
    rw (list_any-append (joins i x) (map (link_to i) xs) rest, any_joins i x i xs, again x (grind (arith, nat_tests)), tail) (grind (arith, nat_tests))

module _ (n : ℕ) (next : ℕ → List ℕ) (leads : ℕ → ℕ → Bool) (is : IsAhead n next leads) where
  inside : (u w : ℕ) → u < n → has w (next u) ≡ true → (w < n) × (leads u w ≡ true)
  inside u w low h = let m = is.member u w low in (grind (arith, nat_tests), grind (arith, nat_tests))

  never_back : (u w : ℕ) → u < n → has w (next u) ≡ true → has u (next w) ≡ false
  never_back u w low h =
      let (below, led) = inside u w low h in
      let back = is.one_way u w low below led in
      rw (is.member w u below, back) (grind (arith, nat_tests))

  not_self : (u : ℕ) → u < n → has u (next u) ≡ false
  not_self u low =
      elim (cases_Bool (has u (next u))) [
        | inl there ↦ never_back u u low there
        | inr none ↦ none
      ]

  pub within : AllWithin n (links_ahead next (numbers_below n))
  within = all_between (λ l. (l.0 < n) × (l.1 < n)) next 0 n (λ u w a b e. (omega arith, (inside u w (omega arith) e).0))

  pub straight : list_any is_self_link (links_ahead next (numbers_below n)) ≡ false
  straight = none_of is_self_link (links_ahead next (numbers_below n)) (all_between (λ l. is_self_link l ≡ false) next 0 n (λ u w a b e. other u w (omega arith) e)) where
    other : (u w : ℕ) → u < n → has w (next u) ≡ true → (u == w) ≡ false
    other u w low e =
        elim (cases_Bool (u == w)) [
          | inl same ↦ let at : u ≡ w = grind (arith, nat_tests) in let self = rw (← at) at e in absurd (grind (arith, nat_tests, not_self u low))
          | inr different ↦ different
        ]

  not_again : (i k w : ℕ) → i < n → has w (next i) ≡ true → list_any (joins i w) (links_ahead next (range_with_len (i + 1) k)) ≡ false
  not_again i k w low e =
      rw (joined_between next i w (i + 1) k, never_back i w low e) (grind (arith, nat_tests))

  once_between : (i k : ℕ) → i + k ≤ n → has_link_twice (links_ahead next (range_with_len i k)) ≡ false
  once_between i zero le = refl
  once_between i (suc k) le =
      once_before i (next i) (links_ahead next (range_with_len (i + 1) k)) (is.once i (omega arith)) (not_self i (omega arith))
      (λ w e. not_again i k w (omega arith) e) (once_between (i + 1) k (omega arith))

  pub once : has_link_twice (links_ahead next (numbers_below n)) ≡ false
  once = once_between 0 n (omega arith)

  -- the links join what the test says, either way round
  pub linked : (u w : ℕ) → u < n → w < n → are_linked (links_ahead next (numbers_below n)) u w ≡ (leads u w || leads w u)
  linked u w a b =
      rw (joined_between next u w 0 n, is.member u w a, is.member w u b) (grind (arith, nat_tests))
