-- One link in place of another.
use Rattle.std.proofs.Common.{◌≡◌, ℕ, ◌<◌, ◌≤◌, ◌==◌, Bool, true, false, not, ◌&&◌, ◌||◌, min, max, List, [], ◌∷◌, ◌++◌, length, slice_get, slice_set, slice_index_or, Some, refl, ap, sym, nat_le, cond, ◌⊎◌, ◌∙◌, inl, inr, arith, zero, suc}
use Rattle.std.specs.List.{list_any, AllByRecursion}
use Rattle.std.proofs.lemmas.Bool.{cases_Bool}
use Rattle.std.proofs.lemmas.Bool.Decides.{nat_tests}
use Rattle.std.proofs.lemmas.List.Folds.{list_any-append}
use Rattle.link_net.specs.Links.{AllWithin, is_self_link, has_link_twice, joins, are_linked}
use Rattle.net_text.specs.Listing.{Link}
use Rattle.net_random.specs.RandomNetworks.{starts}
use Rattle.net_random.specs.Changed.{AreKnown, ArePairsAfter, ArePairsOf, has_pair, is_free}

-- the links but for the one at a place
abbrev without : ℕ → List Link → List Link
without k [] = []
without zero (l ∷ ls) = ls
without (suc k) (l ∷ ls) = l ∷ without k ls

-- a link joins the same nodes either way round
joins_turned : (u w : ℕ) (l : Link) → joins u w l ≡ joins w u l
joins_turned u w l = grind (arith, nat_tests)

joins_back : (k l : Link) → joins k.0 k.1 l ≡ joins l.0 l.1 k
joins_back k l = grind (arith, nat_tests)

linked_turned : (u w : ℕ) (ls : List Link) → are_linked ls u w ≡ are_linked ls w u
linked_turned u w [] = refl
linked_turned u w (l ∷ ls) = rw (joins_turned u w l, linked_turned u w ls) refl

-- what links join, with the link at a place looked at first
linked_at : (u w k : ℕ) (l : Link) (ls : List Link) → slice_get ls k ≡ Some l → are_linked ls u w ≡ (joins u w l || are_linked (without k ls) u w)
linked_at u w k l [] at = cc
linked_at u w zero l (x ∷ ls) at = let same : x ≡ l = cc in rw same refl
linked_at u w (suc k) l (x ∷ ls) at = rw (linked_at u w k l ls at) (grind arith)

twice_at : (k : ℕ) (l : Link) (ls : List Link) → slice_get ls k ≡ Some l → has_link_twice ls ≡ (are_linked (without k ls) l.0 l.1 || has_link_twice (without k ls))
twice_at k l [] at = cc
twice_at zero l (x ∷ ls) at = let same : x ≡ l = cc in rw same refl
twice_at (suc k) l (x ∷ ls) at = rw (linked_at x.0 x.1 k l ls at, twice_at k l ls at, joins_back l x) (grind arith)

set_at : (k : ℕ) (l v : Link) (ls : List Link) → slice_get ls k ≡ Some l → slice_get (slice_set ls k v) k ≡ Some v
set_at k l v [] at = cc
set_at zero l v (x ∷ ls) at = refl
set_at (suc k) l v (x ∷ ls) at = set_at k l v ls at

without_set : (k : ℕ) (v : Link) (ls : List Link) → without k (slice_set ls k v) ≡ without k ls
without_set k v [] = refl
without_set zero v (x ∷ ls) = refl
without_set (suc k) v (x ∷ ls) = ap (λ r. x ∷ r) (without_set k v ls)

-- what stands at a place
pub stands : (k : ℕ) (l d : Link) (ls : List Link) → k < length ls → l ≡ slice_index_or ls k d → slice_get ls k ≡ Some l
stands k l d [] low is = absurd (omega arith)
stands zero l d (x ∷ ls) low is = rw is refl
stands (suc k) l d (x ∷ ls) low is = stands k l d ls (omega arith) is

all_set : (P : Link → Type 0) (k : ℕ) (v : Link) (ls : List Link) → AllByRecursion P ls → P v → AllByRecursion P (slice_set ls k v)
all_set P k v [] all new = all
all_set P zero v (x ∷ ls) all new = (new, all.1)
all_set P (suc k) v (x ∷ ls) all new = (all.0, all_set P k v ls all.1 new)

apart_set : (k : ℕ) (v : Link) (ls : List Link) → list_any is_self_link ls ≡ false → is_self_link v ≡ false → list_any is_self_link (slice_set ls k v) ≡ false
apart_set k v [] all new = all
apart_set zero v (x ∷ ls) all new = rw new (grind arith)
apart_set (suc k) v (x ∷ ls) all new = rw (apart_set k v ls (grind arith) new) (grind arith)

pub starts_set : (k : ℕ) (l v : Link) (ls : List Link) → slice_get ls k ≡ Some l → v.0 ≡ l.0 → starts (slice_set ls k v) ≡ starts ls
starts_set k l v [] at same = cc
starts_set zero l v (x ∷ ls) at same = let here : x ≡ l = cc in rw (same, here) refl
starts_set (suc k) l v (x ∷ ls) at same = ap (λ r. x.0 ∷ r) (starts_set k l v ls at same)

within_at : (n k : ℕ) (l : Link) (ls : List Link) → slice_get ls k ≡ Some l → AllWithin n ls → l.0 < n
within_at n k l [] at all = cc
within_at n zero l (x ∷ ls) at all = let here : x ≡ l = cc in rw here at all.0.0
within_at n (suc k) l (x ∷ ls) at all = within_at n k l ls at all.1

-- two nodes that a link joins are joined by others where its ends are
pub joined_alike : (u w : ℕ) (l : Link) (ls : List Link) → joins u w l ≡ true → are_linked ls u w ≡ are_linked ls l.0 l.1
joined_alike u w l ls h =
    elim (cases_Bool (u == l.0 && w == l.1)) [
      | inl straight ↦
          let first : u ≡ l.0 = grind (arith, nat_tests) in
          let second : w ≡ l.1 = grind (arith, nat_tests) in
          rw (first, second) refl
      | inr other ↦
          let first : u ≡ l.1 = grind (arith, nat_tests) in
          let second : w ≡ l.0 = grind (arith, nat_tests) in
          rw (first, second) (linked_turned l.1 l.0 ls)
    ]

-- ends of a free link are linked by none
unlinked : (ls : List Link) (pairs : List (ℕ × ℕ)) (v : Link) → ArePairsOf ls pairs → is_free pairs v ≡ true → are_linked ls v.0 v.1 ≡ false
unlinked ls pairs v known free =
    elim (cases_Bool (nat_le v.0 v.1)) [
      | inl straight ↦
          let low : min v.0 v.1 ≡ v.0 = grind (arith, nat_tests) in
          let high : max v.0 v.1 ≡ v.1 = grind (arith, nat_tests) in
          let none : has_pair pairs v.0 v.1 ≡ false = rw (low, high) at (free_has pairs v free) in
          sym (known v.0 v.1 (grind (arith, nat_tests))) ∙ none
      | inr turned ↦
          let low : min v.0 v.1 ≡ v.1 = grind (arith, nat_tests) in
          let high : max v.0 v.1 ≡ v.0 = grind (arith, nat_tests) in
          let none : has_pair pairs v.1 v.0 ≡ false = rw (low, high) at (free_has pairs v free) in
          linked_turned v.0 v.1 ls ∙ sym (known v.1 v.0 (grind (arith, nat_tests))) ∙ none
    ] where
      free_has : (pairs : List (ℕ × ℕ)) (v : Link) → is_free pairs v ≡ true → has_pair pairs (min v.0 v.1) (max v.0 v.1) ≡ false
      free_has pairs v free = grind arith

module _ (n k : ℕ) (l v : Link) (ls : List Link) (before after : List (ℕ × ℕ))
    (at : slice_get ls k ≡ Some l) (weight : v.2 ≡ 1) (first : v.0 < n) (second : v.1 < n)
    (is : AreKnown n ls before) (free : is_free before v ≡ true) (put : ArePairsAfter l v before after) where
  others_once : (are_linked (without k ls) l.0 l.1 ≡ false) × (has_link_twice (without k ls) ≡ false)
  others_once =
      let both : (are_linked (without k ls) l.0 l.1 || has_link_twice (without k ls)) ≡ false = sym (twice_at k l ls at) ∙ is.simple.once in
      (grind arith, grind arith)

  others_apart : are_linked (without k ls) v.0 v.1 ≡ false
  others_apart =
      let both : (joins v.0 v.1 l || are_linked (without k ls) v.0 v.1) ≡ false = sym (linked_at v.0 v.1 k l ls at) ∙ unlinked ls before v is.known free in
      grind arith

  after_linked : (u w : ℕ) → are_linked (slice_set ls k v) u w ≡ (joins u w v || are_linked (without k ls) u w)
  after_linked u w = linked_at u w k v (slice_set ls k v) (set_at k l v ls at) ∙ rw (without_set k v ls) refl

  after_once : has_link_twice (slice_set ls k v) ≡ false
  after_once =
      twice_at k v (slice_set ls k v) (set_at k l v ls at)
      ∙ rw (without_set k v ls, others_apart, others_once.1) refl

  after_pairs : ArePairsOf (slice_set ls k v) after
  after_pairs u w low =
      put u w low
      ∙ ap (λ b. joins u w v || (not (joins u w l) && b)) (is.known u w low ∙ linked_at u w k l ls at)
      ∙ settled (cases_Bool (joins u w l))
      ∙ sym (after_linked u w) where
        settled : (joins u w l ≡ true) ⊎ (joins u w l ≡ false)
            → (joins u w v || (not (joins u w l) && (joins u w l || are_linked (without k ls) u w))) ≡ (joins u w v || are_linked (without k ls) u w)
        settled (inl there) = let none : are_linked (without k ls) u w ≡ false = joined_alike u w l (without k ls) there ∙ others_once.0 in rw (there, none) refl
        settled (inr other) = rw other refl

  -- a free link in the place of another one
  pub known_put : AreKnown n (slice_set ls k v) after
  known_put = record {
    simple = record {
      weights = all_set (λ l. l.2 ≡ 1) k v ls is.simple.weights weight;
      within = all_set (λ l. (l.0 < n) × (l.1 < n)) k v ls is.simple.within (first, second);
      apart = apart_set k v ls is.simple.apart (grind arith);
      once = after_once;
    };
    known = after_pairs;
  }

pub start_within : (n k : ℕ) (l : Link) (ls : List Link) (pairs : List (ℕ × ℕ)) → AreKnown n ls pairs → slice_get ls k ≡ Some l → l.0 < n
start_within n k l ls pairs is at = within_at n k l ls at is.simple.within

-- the pair of a link is u and w, the lower one first, where the link joins them
pair_is : (l : Link) (u w : ℕ) → u ≤ w → (min l.0 l.1 == u && max l.0 l.1 == w) ≡ joins u w l
pair_is l u w low =
    elim (cases_Bool (nat_le l.0 l.1)) [
      | inl straight ↦
          let least : min l.0 l.1 ≡ l.0 = grind (arith, nat_tests) in
          let most : max l.0 l.1 ≡ l.1 = grind (arith, nat_tests) in
          rw (least, most) (grind (arith, nat_tests))
      | inr turned ↦
          let least : min l.0 l.1 ≡ l.1 = grind (arith, nat_tests) in
          let most : max l.0 l.1 ≡ l.0 = grind (arith, nat_tests) in
          rw (least, most) (grind (arith, nat_tests))
    ]

-- a pair goes and another one comes
pub pairs_put : (h l : Link) (u w : ℕ) (b : Bool) → u ≤ w
    → cond (min l.0 l.1 == u && max l.0 l.1 == w) true (cond (min h.0 h.1 == u && max h.0 h.1 == w) false b) ≡ (joins u w l || (not (joins u w h) && b))
pairs_put h l u w b low = rw (pair_is l u w low, pair_is h u w low) (told (joins u w l) (joins u w h) b) where
  told : (p q b : Bool) → cond p true (cond q false b) ≡ (p || (not q && b))
  told true q b = refl
  told false true b = refl
  told false false b = refl

-- one pair more
pub pairs_more : (ls : List Link) (l : Link) (u w : ℕ) (b : Bool) → u ≤ w → b ≡ are_linked ls u w
    → cond (min l.0 l.1 == u && max l.0 l.1 == w) true b ≡ are_linked (ls ++ l ∷ []) u w
pairs_more ls l u w b low known = rw (pair_is l u w low, list_any-append (joins u w) ls (l ∷ []), known) (told (joins u w l) (are_linked ls u w)) where
  told : (p q : Bool) → cond p true q ≡ (q || (p || false))
  told true true = refl
  told true false = refl
  told false true = refl
  told false false = refl
