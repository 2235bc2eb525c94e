-- How many links there are, by the pairs of nodes that they join.
use Rattle.std.proofs.Common.{◌≡◌, ℕ, ◌+◌, ◌<◌, ◌≤◌, ◌==◌, Bool, true, false, ◌||◌, ◌&&◌, nat_lt, List, [], ◌∷◌, length, refl, inl, inr, arith, zero, suc, if◌then◌else◌}
use Rattle.std.specs.List.{list_any, filter, range_with_len}
use Rattle.std.proofs.lemmas.Bool.{cases_Bool}
use Rattle.std.proofs.lemmas.Bool.Decides.{nat_tests}
use Rattle.link_net.specs.Links.{AllWithin, is_self_link, has_link_twice, joins, are_linked}
use Rattle.net_text.specs.Listing.{Link}

-- how many numbers of a row pass
abbrev kept : (ℕ → Bool) → ℕ → ℕ → ℕ
kept p a k = length (filter p (range_with_len a k))

-- numbers added up over a row
abbrev pub total : (ℕ → ℕ) → ℕ → ℕ → ℕ
total f a zero = 0
total f a (suc k) = f a + total f (a + 1) k

pub total_same : (f g : ℕ → ℕ) (a k : ℕ) → ((u : ℕ) → a ≤ u → u < a + k → f u ≡ g u) → total f a k ≡ total g a k
total_same f g a zero h = refl
total_same f g a (suc k) h =
    let here = h a (omega arith) (omega arith) in
    let rest = total_same f g (a + 1) k (λ u low high. h u (omega arith) (omega arith)) in
    omega arith

total_add : (f g h : ℕ → ℕ) (a k : ℕ) → ((u : ℕ) → f u ≡ g u + h u) → total f a k ≡ total g a k + total h a k
total_add f g h a zero e = refl
total_add f g h a (suc k) e =
    let here = e a in
    let rest = total_add f g h (a + 1) k e in
    omega arith

-- one number alone counts
total_none : (x a k : ℕ) → x < a → total (λ u. if u == x then 1 else 0) a k ≡ 0
total_none x a zero low = refl
total_none x a (suc k) low = let other : (a == x) ≡ false = grind (arith, nat_tests) in rw (other, total_none x (a + 1) k (omega arith)) refl

total_one : (x a k : ℕ) → a ≤ x → x < a + k → total (λ u. if u == x then 1 else 0) a k ≡ 1
total_one x a zero low high = absurd (omega arith)
total_one x a (suc k) low high =
    elim (cases_Bool (a == x)) [
      | inl here ↦
          let is : a ≡ x = grind (arith, nat_tests) in
          rw (here, total_none x (a + 1) k (omega arith)) refl
      | inr other ↦
          let later : a + 1 ≤ x = grind (arith, nat_tests) in
          rw (other, total_one x (a + 1) k later (omega arith)) refl
    ]

pub kept_same : (p q : ℕ → Bool) (a k : ℕ) → ((w : ℕ) → a ≤ w → w < a + k → p w ≡ q w) → kept p a k ≡ kept q a k
kept_same p q a zero h = refl
kept_same p q a (suc k) h =
    let rest = kept_same p q (a + 1) k (λ w low high. h w (omega arith) (omega arith)) in
    elim (cases_Bool (q a)) [
      | inl keeps ↦ rw (h a (omega arith) (omega arith), keeps) (omega arith)
      | inr drops ↦ rw (h a (omega arith) (omega arith), drops) rest
    ]

-- tests of which never both pass
kept_either : (p q : ℕ → Bool) (a k : ℕ) → ((w : ℕ) → p w ≡ true → q w ≡ false) → kept (λ w. p w || q w) a k ≡ kept p a k + kept q a k
kept_either p q a zero apart = refl
kept_either p q a (suc k) apart =
    let rest = kept_either p q (a + 1) k apart in
    elim (cases_Bool (p a)) [
      | inl first ↦ rw (first, apart a first) (omega arith)
      | inr none ↦
          elim (cases_Bool (q a)) [
            | inl second ↦ rw (none, second) (omega arith)
            | inr neither ↦ rw (none, neither) rest
          ]
    ]

kept_none : (a k : ℕ) → kept (λ w. false) a k ≡ 0
kept_none a zero = refl
kept_none a (suc k) = kept_none (a + 1) k

kept_past : (x a k : ℕ) → x < a → kept (λ w. w == x) a k ≡ 0
kept_past x a zero low = refl
kept_past x a (suc k) low = let other : (a == x) ≡ false = grind (arith, nat_tests) in rw other (kept_past x (a + 1) k (omega arith))

kept_one : (x a k : ℕ) → a ≤ x → x < a + k → kept (λ w. w == x) a k ≡ 1
kept_one x a zero low high = absurd (omega arith)
kept_one x a (suc k) low high =
    elim (cases_Bool (a == x)) [
      | inl here ↦
          let is : a ≡ x = grind (arith, nat_tests) in
          rw here (omega (arith, kept_past x (a + 1) k (omega arith)))
      | inr other ↦
          let later : a + 1 ≤ x = grind (arith, nat_tests) in
          rw other (kept_one x (a + 1) k later (omega arith))
    ]

kept_if : (c : Bool) (x n : ℕ) → x < n → kept (λ w. c && w == x) 0 n ≡ (if c then 1 else 0)
kept_if true x n low = kept_one x 0 n (omega arith) (omega arith)
kept_if false x n low = kept_none 0 n

-- how many pairs of nodes a test joins
abbrev pub pairs : ℕ → (ℕ → ℕ → Bool) → ℕ
pairs n p = total (λ u. kept (λ w. nat_lt u w && p u w) 0 n) 0 n

-- the pair of a link, the lower end first
ordered : (u w a b x y : ℕ) → x < y → ((a ≡ x) × (b ≡ y)) → (nat_lt u w && ((u == a && w == b) || (u == b && w == a))) ≡ (u == x && w == y)
ordered u w a b x y low ends = grind (arith, nat_tests)

turned : (u w a b x y : ℕ) → x < y → ((a ≡ y) × (b ≡ x)) → (nat_lt u w && ((u == a && w == b) || (u == b && w == a))) ≡ (u == x && w == y)
turned u w a b x y low ends = grind (arith, nat_tests)

one_pair_at : (n x y : ℕ) (p : ℕ → ℕ → Bool) → x < y → y < n → ((u w : ℕ) → (nat_lt u w && p u w) ≡ (u == x && w == y)) → pairs n p ≡ 1
one_pair_at n x y p low high same =
    rw (total_same (λ u. kept (λ w. nat_lt u w && p u w) 0 n) (λ u. if u == x then 1 else 0) 0 n (λ u a b. at u)) (total_one x 0 n (omega arith) (omega arith)) where
      at : (u : ℕ) → kept (λ w. nat_lt u w && p u w) 0 n ≡ (if u == x then 1 else 0)
      at u = rw (kept_same (λ w. nat_lt u w && p u w) (λ w. u == x && w == y) 0 n (λ w a b. same u w)) (kept_if (u == x) y n high)

one_pair : (n : ℕ) (l : Link) → l.0 < n → l.1 < n → is_self_link l ≡ false → pairs n (λ u w. joins u w l) ≡ 1
one_pair n l first second apart =
    elim (cases_Bool (nat_lt l.0 l.1)) [
      | inl up ↦
          let low : l.0 < l.1 = grind (arith, nat_tests) in
          one_pair_at n l.0 l.1 (λ u w. joins u w l) low second (λ u w. ordered u w l.0 l.1 l.0 l.1 low (refl, refl))
      | inr down ↦
          let low : l.1 < l.0 = grind (arith, nat_tests) in
          one_pair_at n l.1 l.0 (λ u w. joins u w l) low first (λ u w. turned u w l.0 l.1 l.1 l.0 low (refl, refl))
    ]

-- links join both ways
both_ways : (ls : List Link) (u w : ℕ) → are_linked ls u w ≡ are_linked ls w u
both_ways [] u w = refl
both_ways (l ∷ ls) u w = rw (both_ways ls u w) (grind (arith, nat_tests))

-- where a link joins two nodes, no other one does
alone : (l : Link) (ls : List Link) (u w : ℕ) → are_linked ls l.0 l.1 ≡ false → joins u w l ≡ true → are_linked ls u w ≡ false
alone l ls u w none here =
    elim (cases_Bool (u == l.0 && w == l.1)) [
      | inl same ↦
          let first : u ≡ l.0 = grind (arith, nat_tests) in
          let second : w ≡ l.1 = grind (arith, nat_tests) in
          rw (first, second) none
      | inr other ↦
          let first : u ≡ l.1 = grind (arith, nat_tests) in
          let second : w ≡ l.0 = grind (arith, nat_tests) in
          rw (first, second, both_ways ls l.1 l.0) none
    ]

parts : (a b : Bool) → (a || b) ≡ false → (a ≡ false) × (b ≡ false)
parts true b h = cc
parts false b h = (refl, h)

-- each link joins one pair, and no two the same
pub links_are_pairs : (n : ℕ) (ls : List Link) → AllWithin n ls → list_any is_self_link ls ≡ false → has_link_twice ls ≡ false → length ls ≡ pairs n (are_linked ls)
links_are_pairs n [] within straight once = empty n 0 where
  empty : (k a : ℕ) → 0 ≡ total (λ u. kept (λ w. nat_lt u w && false) 0 n) a k
  empty zero a = refl
  empty (suc k) a = rw (kept_same (λ w. nat_lt a w && false) (λ w. false) 0 n (λ w low high. grind (arith, nat_tests)), kept_none 0 n) (omega (arith, empty k (a + 1)))
links_are_pairs n (l ∷ ls) within straight once =
    let (not_self, straight_rest) = parts (is_self_link l) (list_any is_self_link ls) straight in
    let (not_again, once_rest) = parts (are_linked ls l.0 l.1) (has_link_twice ls) once in
    let rest = links_are_pairs n ls within.1 straight_rest once_rest in
    let here = one_pair n l within.0.0 within.0.1 not_self in
    let both = total_add (λ u. kept (λ w. nat_lt u w && are_linked (l ∷ ls) u w) 0 n) (λ u. kept (λ w. nat_lt u w && joins u w l) 0 n) (λ u. kept (λ w. nat_lt u w && are_linked ls u w) 0 n) 0 n (λ u. split u not_again) in
    omega arith where
      spread : (c a b : Bool) → (c && (a || b)) ≡ ((c && a) || (c && b))
      spread true a b = refl
      spread false a b = refl

      apart : (c a b : Bool) → (c && a) ≡ true → (a ≡ true → b ≡ false) → (c && b) ≡ false
      apart true a b h f = f h
      apart false a b h f = refl

      split : (u : ℕ) → are_linked ls l.0 l.1 ≡ false → kept (λ w. nat_lt u w && are_linked (l ∷ ls) u w) 0 n ≡ kept (λ w. nat_lt u w && joins u w l) 0 n + kept (λ w. nat_lt u w && are_linked ls u w) 0 n
      split u none =
          rw (kept_same (λ w. nat_lt u w && are_linked (l ∷ ls) u w) (λ w. (nat_lt u w && joins u w l) || (nat_lt u w && are_linked ls u w)) 0 n (λ w a b. spread (nat_lt u w) (joins u w l) (are_linked ls u w)))
          (kept_either (λ w. nat_lt u w && joins u w l) (λ w. nat_lt u w && are_linked ls u w) 0 n (λ w h. apart (nat_lt u w) (joins u w l) (are_linked ls u w) h (alone l ls u w none)))

-- links of the same nodes that join alike are equally many
pub same_count : (n : ℕ) (ks ls : List Link) → AllWithin n ks → list_any is_self_link ks ≡ false → has_link_twice ks ≡ false
    → AllWithin n ls → list_any is_self_link ls ≡ false → has_link_twice ls ≡ false
    → ((u w : ℕ) → u < n → w < n → are_linked ks u w ≡ are_linked ls u w) → length ks ≡ length ls
same_count n ks ls a b c d e f alike =
    let first = links_are_pairs n ks a b c in
    let second = links_are_pairs n ls d e f in
    let same = total_same (λ u. kept (λ w. nat_lt u w && are_linked ks u w) 0 n) (λ u. kept (λ w. nat_lt u w && are_linked ls u w) 0 n) 0 n
    (λ u low high. kept_same (λ w. nat_lt u w && are_linked ks u w) (λ w. nat_lt u w && are_linked ls u w) 0 n (λ w from to. under (nat_lt u w) (alike u w (omega arith) (omega arith)))) in
    omega arith where
      under : {a b : Bool} (c : Bool) → a ≡ b → (c && a) ≡ (c && b)
      under true h = h
      under false h = refl
