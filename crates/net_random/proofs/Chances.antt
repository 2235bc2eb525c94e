-- Places that are drawn.
use Rattle.std.proofs.Common.{◌≡◌, ◌≢◌, ℕ, zero, suc, ◌+◌, ◌-◌, ◌<◌, ◌≤◌, List, [], ◌∷◌, ◌++◌, length, map, nat_lt, refl, ap, sym, ◌∙◌, arith, inl, inr, Bool}
use Rattle.std.specs.Prelude.{All, AllPairs}
use Rattle.std.proofs.lemmas.Bool.{cases_Bool}
use Rattle.std.proofs.lemmas.List.{length-map}
use Rattle.rand_core.specs.Stream.{Stream}
use Rattle.rand.specs.Sample.{IsSampleOf}
use Rattle.net_text.specs.Listing.{Link}
use Rattle.net_random.specs.Chances.{chance_at, links_by_chance, number_in, place_before, places_from, stream_by}
use Rattle.net_random.specs.Pairs.{link_at, place_count}
use Rattle.net_random.specs.RandomNetworks.{AreSimpleLinks}
use Rattle.net_random.proofs.Places.{places_are_pairs, simple_at}

all_none : (P : ℕ → Type 0) → All P []
all_none P i d low = absurd (omega (arith, low))

all_more : (P : ℕ → Type 0) (x : ℕ) (xs : List ℕ) → P x → All P xs → All P (x ∷ xs)
all_more P x xs here all zero d low = here
all_more P x xs here all (suc i) d low = all i d (omega (arith, low))

all_weaker : (P Q : ℕ → Type 0) (xs : List ℕ) → ((x : ℕ) → P x → Q x) → All P xs → All Q xs
all_weaker P Q xs f all i d low = f _ (all i d low)

-- the places are those from one on
above : (f : ℕ → ℕ) (k place : ℕ) (s : Stream) → All (λ x. (place ≤ x) × (x < place + k)) (places_from f k place s)
above f zero place s = all_none (λ x. (place ≤ x) × (x < place + zero))
above f (suc k) place s =
    let rest = all_weaker (λ x. (place + 1 ≤ x) × (x < place + 1 + k)) (λ x. (place ≤ x) × (x < place + suc k)) (places_from f k (place + 1) (number_in s).1) (λ x h. (omega (arith, h.0), omega (arith, h.1))) (above f k (place + 1) (number_in s).1) in
    elim (cases_Bool (nat_lt (number_in s).0 (f place))) [
      | inl hit ↦ rw hit (all_more (λ x. (place ≤ x) × (x < place + suc k)) place (places_from f k (place + 1) (number_in s).1) (omega arith, omega arith) rest)
      | inr none ↦ rw none rest
    ]

pairs_none : AllPairs {X = ℕ} (λ a b. a ≢ b) []
pairs_none i j d before low = absurd (omega (arith, low))

pairs_more : (x : ℕ) (xs : List ℕ) → All (λ y. x ≢ y) xs → AllPairs (λ a b. a ≢ b) xs → AllPairs (λ a b. a ≢ b) (x ∷ xs)
pairs_more x xs all apart i zero d before low = absurd (omega (arith, before))
pairs_more x xs all apart zero (suc j) d before low = all j d (omega (arith, low))
pairs_more x xs all apart (suc i) (suc j) d before low = apart i j d (omega (arith, before)) (omega (arith, low))

different : (x y : ℕ) → x + 1 ≤ y → x ≢ y
different x y later same = absurd (omega (arith, later, same))

apart_all : (f : ℕ → ℕ) (k place : ℕ) (s : Stream) → AllPairs (λ x y. x ≢ y) (places_from f k place s)
apart_all f zero place s = pairs_none
apart_all f (suc k) place s =
    let rest = apart_all f k (place + 1) (number_in s).1 in
    elim (cases_Bool (nat_lt (number_in s).0 (f place))) [
      | inl hit ↦
          rw hit
          (pairs_more place (places_from f k (place + 1) (number_in s).1)
          (all_weaker (λ x. (place + 1 ≤ x) × (x < place + 1 + k)) (λ y. place ≢ y) (places_from f k (place + 1) (number_in s).1) (λ x h. different place x h.0) (above f k (place + 1) (number_in s).1))
          rest)
      | inr none ↦ rw none rest
    ]

pub are_places : (f : ℕ → ℕ) (count : ℕ) (s : Stream) → All (λ x. x < count) (places_from f count 0 s)
are_places f count s = all_weaker (λ x. (0 ≤ x) × (x < 0 + count)) (λ x. x < count) (places_from f count 0 s) (λ x h. omega (arith, h.1)) (above f count 0 s)

sampled : (f : ℕ → ℕ) (count : ℕ) (s : Stream) → IsSampleOf count (length (places_from f count 0 s)) (places_from f count 0 s)
sampled f count s = record { len = refl; in_range = are_places f count s; distinct = apart_all f count 0 s }

-- the links at drawn places
pub chance_simple : (f : ℕ → ℕ) (n : ℕ) (s : Stream) → 1 ≤ n → AreSimpleLinks n (map (link_at n) (places_from f (place_count n) 0 s))
chance_simple f n s some = simple_at n some (length (places_from f (place_count n) 0 s)) (places_from f (place_count n) 0 s) (sampled f (place_count n) s)

pub chance_places : (chance : Link → ℕ) (n seed : ℕ) → map (link_at n) (places_from (chance_at chance n) (place_count n) 0 (stream_by seed)) ≡ links_by_chance chance n seed
chance_places chance n seed = ap (λ count. map (link_at n) (places_from (chance_at chance n) count 0 (stream_by seed))) (sym (places_are_pairs n))

-- one place: its number, and what that leaves of the stream
pub next_place : (f : ℕ → ℕ) (k place number : ℕ) (s after : Stream) (hit : Bool) → (number, after) ≡ number_in s → hit ≡ nat_lt number (f place)
    → place_before hit place (places_from f k (place + 1) after) ≡ places_from f (suc k) place s
next_place f k place number s after hit drawn is =
    ap (λ h. place_before h place (places_from f k (place + 1) after)) is
    ∙ ap (λ (p : ℕ × Stream). place_before (nat_lt p.0 (f place)) place (places_from f k (place + 1) p.1)) drawn

-- the places so far, and those that are left
module _ (f : ℕ → ℕ) (count place : ℕ) (s : Stream) (done whole : List ℕ) (less : place < count) (before : done ++ places_from f (count - place) place s ≡ whole) where
  pub next_places : done ++ places_from f (suc (count - (place + 1))) place s ≡ whole
  next_places = ap (λ k. done ++ places_from f k place s) (later count place less) ∙ before where
    later : (count place : ℕ) → place < count → suc (count - (place + 1)) ≡ count - place
    later count place less = omega arith

  -- one number more is drawn
  module _ (number : ℕ) (after : Stream) (hit : Bool) (drawn : (number, after) ≡ number_in s) (is : hit ≡ nat_lt number (f place)) where
    whole_is : done ++ place_before hit place (places_from f (count - (place + 1)) (place + 1) after) ≡ whole
    whole_is = ap (λ ps. done ++ ps) (next_place f (count - (place + 1)) place number s after hit drawn is) ∙ next_places

    pub places_left : {all : List ℕ} → all ≡ done ++ place_before hit place (places_from f (count - (place + 1)) (place + 1) after) → all ≡ whole
    places_left same = same ∙ whole_is

    pub places_many : (most : ℕ) → most < length (done ++ place_before hit place (places_from f (count - (place + 1)) (place + 1) after)) → most < length whole
    places_many most more = rw whole_is at more

pub chance_many : (chance : Link → ℕ) (n seed most : ℕ) → most < length (places_from (chance_at chance n) (place_count n) 0 (stream_by seed)) → most < length (links_by_chance chance n seed)
chance_many chance n seed most more =
    let same = ap length (sym (chance_places chance n seed)) ∙ length-map (places_from (chance_at chance n) (place_count n) 0 (stream_by seed)) (link_at n) in
    omega (arith, same, more)
