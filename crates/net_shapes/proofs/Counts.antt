-- How many links lead from some nodes.
use Rattle.std.proofs.Common.{◌≡◌, ℕ, ◌+◌, ◌-◌, ◌*◌, ◌≤◌, Bool, true, false, List, map, length, length-append, nat_lt, refl, arith, zero, suc, if◌then◌else◌}
use Rattle.std.specs.List.{range_with_len}
use Rattle.std.proofs.lemmas.Bool.Decides.{nat_tests}
use Rattle.std.proofs.lemmas.List.{length-map}
use Rattle.net_shapes.specs.Ahead.{link_to, links_ahead, when}

pub length_when : (wanted : Bool) (x : ℕ) → length (when wanted x) ≡ (if wanted then 1 else 0)
length_when true x = refl
length_when false x = refl

pub one_above : (u x : ℕ) → 1 ≤ u → length (when (nat_lt 0 u) x) ≡ 1
one_above u x some = let above : nat_lt 0 u ≡ true = grind (arith, nat_tests) in rw above refl

-- how many links lead from one more node
pub one_more : (next : ℕ → List ℕ) (a k : ℕ) → length (links_ahead next (range_with_len a (suc k))) ≡ length (next a) + length (links_ahead next (range_with_len (a + 1) k))
one_more next a k =
    let both = length-append (map (link_to a) (next a)) (links_ahead next (range_with_len (a + 1) k)) in
    let same = length-map (next a) (link_to a) in
    omega arith

-- so many from each of k nodes
pub each_ahead : (next : ℕ → List ℕ) (each a k : ℕ) → ((u : ℕ) → a ≤ u → length (next u) ≡ each) → length (links_ahead next (range_with_len a k)) ≡ k * each
each_ahead next each a zero h = omega arith
each_ahead next each a (suc k) h =
    let here = h a (omega arith) in
    let rest = each_ahead next each (a + 1) k (λ u low. h u (omega arith)) in
    let both = one_more next a k in
    omega arith

-- one from each node but the first
pub all_but_first : (next : ℕ → List ℕ) (n : ℕ) → 1 ≤ n → length (next 0) ≡ 0 → ((u : ℕ) → 1 ≤ u → length (next u) ≡ 1) → length (links_ahead next (range_with_len 0 n)) ≡ n - 1
all_but_first next zero some none one = absurd (omega arith)
all_but_first next (suc n) some none one = omega (arith, one_more next 0 n, each_ahead next 1 1 n one)

-- one from each node but the last
pub all_but_last : (next : ℕ → List ℕ) (n a k : ℕ) → a + k ≡ n → ((u : ℕ) → length (next u) ≡ (if nat_lt (u + 1) n then 1 else 0)) → length (links_ahead next (range_with_len a k)) ≡ k - 1
all_but_last next n a zero whole one = omega arith
all_but_last next n a (suc k) whole one =
    let here = one a in
    let rest = all_but_last next n (a + 1) k (omega arith) one in
    let both = one_more next a k in
    grind (arith, nat_tests)

-- those from the first nodes, and those from the others
pub split_ahead : (next : ℕ → List ℕ) (a j k : ℕ)
    → length (links_ahead next (range_with_len a (j + k))) ≡ length (links_ahead next (range_with_len a j)) + length (links_ahead next (range_with_len (a + j) k))
split_ahead next a zero k =
    let first : 0 + k ≡ k = omega arith in
    let start : a + 0 ≡ a = omega arith in
    rw (first, start) (omega arith)
split_ahead next a (suc j) k =
    let on : suc j + k ≡ suc (j + k) = omega arith in
    let start : a + suc j ≡ (a + 1) + j = omega arith in
    rw (on, start) (omega (arith, one_more next a (j + k), one_more next a j, split_ahead next (a + 1) j k))
