-- One more node, which is linked with some of those before it.
use Rattle.std.proofs.Common.{◌≡◌, ℕ, ◌+◌, ◌-◌, ◌<◌, ◌≤◌, ◌==◌, ◌*◌, nat_lt, min, Bool, false, ◌||◌, ◌&&◌, List, [], ◌∷◌, ◌++◌, map, length, length-append, refl, ap, subst, ◌∙◌, inl, inr, arith, zero, suc}
use Rattle.std.specs.List.{list_any, range_with_len, sum_by, AllByRecursion}
use Rattle.std.proofs.lemmas.Bool.{cases_Bool}
use Rattle.std.proofs.lemmas.Bool.Decides.{nat_tests}
use Rattle.std.proofs.lemmas.List.{length-map}
use Rattle.std.proofs.lemmas.List.Folds.{list_any-append}
use Rattle.std.proofs.lemmas.List.Sums.{sum_by-append, sum_by-cons}
use Rattle.link_net.specs.Links.{AllWithin, is_self_link, has_link_twice, joins, are_linked, linked_with}
use Rattle.net_text.specs.Listing.{Link}
use Rattle.net_random.specs.declared.random_network.RandomNetwork.{RandomNetwork}
use Rattle.net_random.specs.RandomNetworks.{grown_count, AreSimpleLinks, AreLinkedBack, IsOutcome}
use Rattle.net_random.specs.Growth.{IsGrown, link_to, has, has_twice, IsChoice}
use Rattle.net_random.proofs.Counting.{filter_same, count_in}
use Rattle.net_random.proofs.Walks.{all_reach}

pub all-append : (P : Link → Type 0) (xs ys : List Link) → AllByRecursion P xs → AllByRecursion P ys → AllByRecursion P (xs ++ ys)
all-append P [] ys a b = b
all-append P (x ∷ xs) ys a b = (a.0, all-append P xs ys a.1 b)

-- which links from u join a and b
mixed : (p q s t c d : Bool) → (((p && s) || (t && q)) || ((p && c) || (q && d))) ≡ ((p && (s || c)) || (q && (t || d)))
mixed p q s t c d = grind (arith, nat_tests)

turned : (a b : ℕ) → (a == b) ≡ (b == a)
turned a b = grind (arith, nat_tests)

any_joins : (a b u : ℕ) (xs : List ℕ) → list_any (joins a b) (map (link_to u) xs) ≡ ((a == u && has b xs) || (b == u && has a xs))
any_joins a b u [] = grind arith
any_joins a b u (x ∷ xs) = rw (any_joins a b u xs, turned b x, turned a x) (mixed (a == u) (b == u) (x == b) (x == a) (has b xs) (has a xs))

module _ (n : ℕ) where
  -- no link within n nodes joins another one
  outside : (w : ℕ) (ls : List Link) → AllWithin n ls → list_any (joins n w) ls ≡ false
  outside w [] all = refl
  outside w (l ∷ ls) all =
      let (first, second) = all.0 in
      rw (outside w ls all.1) (grind (arith, nat_tests))

  wider : (ls : List Link) → AllWithin n ls → AllWithin (n + 1) ls
  wider [] all = tt
  wider (l ∷ ls) all = let (first, second) = all.0 in ((omega arith, omega arith), wider ls all.1)

  new_within : (xs : List ℕ) → AllByRecursion (λ x. x < n) xs → AllWithin (n + 1) (map (link_to n) xs)
  new_within [] below = tt
  new_within (x ∷ xs) below = let low = below.0 in ((omega arith, omega arith), new_within xs below.1)

  new_weights : (xs : List ℕ) → AllByRecursion (λ l. l.2 ≡ 1) (map (link_to n) xs)
  new_weights [] = tt
  new_weights (x ∷ xs) = (refl, new_weights xs)

  new_apart : (xs : List ℕ) → AllByRecursion (λ x. x < n) xs → list_any is_self_link (map (link_to n) xs) ≡ false
  new_apart [] below = refl
  new_apart (x ∷ xs) below =
      let low = below.0 in
      let other : (n == x) ≡ false = grind (arith, nat_tests) in
      rw (other, new_apart xs below.1) refl

  new_once : (xs : List ℕ) → AllByRecursion (λ x. x < n) xs → has_twice xs ≡ false → has_link_twice (map (link_to n) xs) ≡ false
  new_once [] below once = refl
  new_once (x ∷ xs) below once =
      let low = below.0 in
      let rest = new_once xs below.1 (grind (arith, nat_tests)) in
      rw (any_joins n x n xs, rest) (grind (arith, nat_tests))

  once_after : (ls : List Link) (xs : List ℕ) → AllWithin n ls → has_link_twice ls ≡ false → has_link_twice (map (link_to n) xs) ≡ false → has_link_twice (ls ++ map (link_to n) xs) ≡ false
  once_after [] xs all once new = new
  once_after (l ∷ ls) xs all once new =
      let (first, second) = all.0 in
      let rest = once_after ls xs all.1 (grind (arith, nat_tests)) new in
      rw (list_any-append (joins l.0 l.1) ls (map (link_to n) xs), any_joins l.0 l.1 n xs, rest) (grind (arith, nat_tests))

  -- the new node is linked with the chosen ones
  linked_new : (ls : List Link) (xs : List ℕ) → AllWithin n ls → (w : ℕ) → w < n → are_linked (ls ++ map (link_to n) xs) n w ≡ has w xs
  linked_new ls xs all w low = rw (list_any-append (joins n w) ls (map (link_to n) xs), outside w ls all, any_joins n w n xs) (grind (arith, nat_tests))

  -- the others are linked as before
  linked_before : (ls : List Link) (xs : List ℕ) (u w : ℕ) → u < n → w < u → are_linked (ls ++ map (link_to n) xs) u w ≡ are_linked ls u w
  linked_before ls xs u w high low = rw (list_any-append (joins u w) ls (map (link_to n) xs), any_joins u w n xs) (grind (arith, nat_tests))

  module _ (each : ℕ) (ls : List Link) (xs : List ℕ) (grown : IsGrown each n ls) (choice : IsChoice n xs) (count : length xs ≡ min each n) where
    simple : AreSimpleLinks (n + 1) (ls ++ map (link_to n) xs)
    simple = record {
      weights = all-append (λ l. l.2 ≡ 1) ls (map (link_to n) xs) grown.simple.weights (new_weights xs);
      within = all-append (λ l. (l.0 < n + 1) × (l.1 < n + 1)) ls (map (link_to n) xs) (wider ls grown.simple.within) (new_within xs choice.below);
      apart = rw (list_any-append is_self_link ls (map (link_to n) xs), grown.simple.apart, new_apart xs choice.below) refl;
      once = once_after ls xs grown.simple.within grown.simple.once (new_once xs choice.below choice.once);
    }

    back : AreLinkedBack each (n + 1) (ls ++ map (link_to n) xs)
    back u low =
        elim (cases_Bool (u == n)) [
          | inl new ↦
              let is : n ≡ u = grind (arith, nat_tests) in
              subst (λ k. length (linked_with k (ls ++ map (link_to n) xs) k) ≡ min each k) is
              (ap length (filter_same (are_linked (ls ++ map (link_to n) xs) n) (λ w. has w xs) 0 n (λ w a b. linked_new ls xs grown.simple.within w (omega arith)))
              ∙ count_in xs n choice.below choice.once ∙ count)
          | inr old ↦
              let before : u < n = grind (arith, nat_tests) in
              ap length (filter_same (are_linked (ls ++ map (link_to n) xs) u) (are_linked ls u) 0 u (λ w a b. linked_before ls xs u w before (omega arith)))
              ∙ grown.back u before
        ]

-- one more number in a row
pub range_more : (a k : ℕ) → range_with_len a (suc k) ≡ range_with_len a k ++ (a + k) ∷ []
range_more a zero = let same : a + 0 ≡ a = omega arith in rw same refl
range_more a (suc k) = let same : a + 1 + k ≡ a + suc k = omega arith in ap (λ xs. a ∷ xs) (range_more (a + 1) k ∙ rw same refl)

zero_plus : (n : ℕ) → 0 + n ≡ n
zero_plus n = omega arith

pub count_more : (each n : ℕ) → grown_count each (n + 1) ≡ grown_count each n + min each n
count_more each n =
    let up : n + 1 ≡ suc n = omega arith in
    let both = sum_by-append (λ u. min each u) (range_with_len 0 n) (n ∷ []) in
    rw (up, range_more 0 n, zero_plus n) (omega arith)

-- twice as many, without a sum
pub doubled : (each n : ℕ) → grown_count each n * 2 + min each n * (min each n + 1) ≡ 2 * (min each n * n)
doubled each zero = let none : min each 0 ≡ 0 = omega arith in rw none refl
doubled each (suc n) =
    let up : n + 1 ≡ suc n = omega arith in
    let more : grown_count each (suc n) ≡ grown_count each n + min each n = rw up at (count_more each n) in
    elim (cases_Bool (nat_lt n each)) [
      | inl few ↦
          let before : min each n ≡ n = grind (arith, nat_tests) in
          let now : min each (suc n) ≡ suc n = grind (arith, nat_tests) in
          let known : grown_count each n * 2 + n * (n + 1) ≡ 2 * (n * n) = rw before at (doubled each n) in
          rw (now, more, before) (omega arith)
      | inr all ↦
          let before : min each n ≡ each = grind (arith, nat_tests) in
          let now : min each (suc n) ≡ each = grind (arith, nat_tests) in
          let known : grown_count each n * 2 + each * (each + 1) ≡ 2 * (each * n) = rw before at (doubled each n) in
          rw (now, more, before) (omega arith)
    ]

pub none_grown : (each : ℕ) → IsGrown each 0 []
none_grown each = record {
  count = refl;
  simple = record { weights = tt; within = tt; apart = refl; once = refl };
  back = λ u low. absurd (omega arith);
}

pub grow : (n each : ℕ) (ls : List Link) (xs : List ℕ) → IsGrown each n ls → IsChoice n xs → length xs ≡ min each n → IsGrown each (n + 1) (ls ++ map (link_to n) xs)
grow n each ls xs grown choice count = record {
  count =
      let before = grown.count in
      let both = length-append ls (map (link_to n) xs) in
      let new = length-map xs (link_to n) in
      let more = count_more each n in
      omega arith;
  simple = simple n each ls xs grown choice count;
  back = back n each ls xs grown choice count;
}

-- node 0 is linked with none
pub first_grown : (each : ℕ) → IsGrown each 1 []
first_grown each = grow 0 each [] [] (none_grown each) (record { below = tt; once = refl }) (omega arith)

-- a tree
ones : (a k : ℕ) → 1 ≤ a → sum_by (λ u. min 1 u) (range_with_len a k) ≡ k
ones a zero some = refl
ones a (suc k) some =
    let first = sum_by-cons (λ u. min 1 u) a (range_with_len (a + 1) k) in
    let rest = ones (a + 1) k (omega arith) in
    omega arith

pub tree_count : (n : ℕ) → 1 ≤ n → grown_count 1 n ≡ n - 1
tree_count zero some = absurd (omega arith)
tree_count (suc n) some =
    let first = sum_by-cons (λ u. min 1 u) 0 (range_with_len 1 n) in
    let rest = ones 1 n (omega arith) in
    omega arith

pub tree_has : (n : ℕ) (links : List Link) → 1 ≤ n → IsGrown 1 n links → IsOutcome (RandomNetwork.Tree n) links
tree_has n links some grown = record { count = grown.count ∙ tree_count n some; simple = grown.simple; back = grown.back; degrees = λ u h. tt; connected = all_reach 1 n links (omega arith) grown.back; begun = tt; ring = tt }

pub preferential_has : (n each : ℕ) (links : List Link) → IsGrown each n links → IsOutcome (RandomNetwork.Preferential n each) links
preferential_has n each links grown = record { count = grown.count; simple = grown.simple; back = grown.back; degrees = λ u h. tt; connected = λ some. all_reach each n links some grown.back; begun = tt; ring = tt }
