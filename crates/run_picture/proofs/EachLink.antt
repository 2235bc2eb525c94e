-- Each link of a network is drawn once.
use Rattle.std.proofs.Common.{◌≡◌, ◌∙◌, ◌⊎◌, ◌<◌, ◌≤◌, ◌+◌, ℕ, zero, suc, List, [], ◌∷◌, ◌++◌, Bool, true, false, if◌then◌else◌, All, ap, append-nil, arith, inl, inr, length, nat_lt, refl, slice_index_or, subst, sym}
use Rattle.std.proofs.lemmas.Bool.{cases_lt}
use Rattle.std.proofs.lemmas.Bool.Decides.{nat_tests}
use Rattle.std.proofs.lemmas.List.Concat.{flat_map-append}
use Rattle.std.proofs.lemmas.List.Elements.{All-append, Contains-append_left, Contains-append_right}
use Rattle.std.specs.List.{AllPairs, Contains, flat_map, range_with_len}
use Rattle.link_net.specs.Neighbours.{IsNetwork, Neighbours, degree, neighbour, numbers_below, weight}
use Rattle.run_picture.specs.Drawn.{link_line}
use Rattle.run_picture.specs.DrawnLinks.{AreAllLinks, EachLinkIsDrawnOnce, HasLink}
use Rattle.run_picture.specs.Nets.{EachLinkHasItsLine, link_stroke}

-- ---- pairs of elements

pairs_first : {X : Type 0} (R : X → X → Type 0) (x : X) (xs : List X) → All (R x) xs → AllPairs R xs → AllPairs R (x ∷ xs)
pairs_first R x xs first rest zero zero d less inside = absurd (omega (arith, less))
pairs_first R x xs first rest zero (suc j) d less inside = first j d (omega (arith, inside))
pairs_first R x xs first rest (suc i) zero d less inside = absurd (omega (arith, less))
pairs_first R x xs first rest (suc i) (suc j) d less inside = rest i j d (omega (arith, less)) (omega (arith, inside))

pairs_append : {X : Type 0} (R : X → X → Type 0) (xs ys : List X) → AllPairs R xs → AllPairs R ys → All (λ x. All (R x) ys) xs → AllPairs R (xs ++ ys)
pairs_append R [] ys left right cross = right
pairs_append R (x ∷ xs) ys left right cross =
    pairs_first R x (xs ++ ys) (All-append (R x) xs ys (λ k d inside. left 0 (suc k) d (omega arith) (omega (arith, inside))) (cross 0 x (omega arith)))
    (pairs_append R xs ys (λ i j d less inside. left (suc i) (suc j) d (omega (arith, less)) (omega (arith, inside))) right (λ k d inside. cross (suc k) d (omega (arith, inside))))

-- ---- what stands in the lists of numbers in order

all_range : {X : Type 0} (P : X → Type 0) (f : ℕ → List X) (i n : ℕ) → ((j : ℕ) → i ≤ j → j < i + n → All P (f j)) → All P (flat_map f (range_with_len i n))
all_range P f i zero each = λ k d inside. absurd (omega (arith, inside))
all_range P f i (suc n) each =
    All-append P (f i) (flat_map f (range_with_len (i + 1) n)) (each i (omega arith) (omega arith))
    (all_range P f (i + 1) n (λ j from below. each j (omega (arith, from)) (omega (arith, below))))

has_range : {X : Type 0} (f : ℕ → List X) (i n j : ℕ) (x : X) → i ≤ j → j < i + n → Contains (f j) x → Contains (flat_map f (range_with_len i n)) x
has_range f i zero j x from below has = absurd (omega (arith, from, below))
has_range f i (suc n) j x from below has =
    let rest = flat_map f (range_with_len (i + 1) n) in
    elim (cases_lt i j) [
      | inl more ↦ Contains-append_right (f i) rest x (has_range f (i + 1) n j x (omega (arith, more)) (omega (arith, below)) has)
      | inr less ↦ (let same : j ≡ i = omega (arith, from, less) in Contains-append_left (f i) rest x (subst (λ (k : ℕ). Contains (f k) x) same has))
    ]

pairs_range : {X : Type 0} (R : X → X → Type 0) (f : ℕ → List X) (i n : ℕ) → ((j : ℕ) → i ≤ j → j < i + n → AllPairs R (f j))
    → ((j k : ℕ) → i ≤ j → j < k → k < i + n → All (λ x. All (R x) (f k)) (f j)) → AllPairs R (flat_map f (range_with_len i n))
pairs_range R f i zero each cross = λ a b d less inside. absurd (omega (arith, inside))
pairs_range R f i (suc n) each cross =
    pairs_append R (f i) (flat_map f (range_with_len (i + 1) n)) (each i (omega arith) (omega arith))
    (pairs_range R f (i + 1) n (λ j from below. each j (omega (arith, from)) (omega (arith, below))) (λ j k from less below. cross j k (omega (arith, from)) less (omega (arith, below))))
    (λ a d inside. all_range (R (slice_index_or (f i) a d)) f (i + 1) n (λ k from below. cross i k (omega arith) (omega (arith, from)) (omega (arith, below)) a d inside))

-- ---- one element, where a test is true

abbrev one_if : {X : Type 0} → Bool → X → List X
one_if b x = if b then x ∷ [] else []

all_one : {X : Type 0} (P : X → Type 0) (x : X) → P x → All P (x ∷ [])
all_one P x is zero d inside = is
all_one P x is (suc k) d inside = absurd (omega (arith, inside))

all_if : {X : Type 0} (P : X → Type 0) (b : Bool) (x : X) → (b ≡ true → P x) → All P (one_if b x)
all_if P true x is = all_one P x (is refl)
all_if P false x is = λ k d inside. absurd (omega (arith, inside))

has_if : {X : Type 0} (b : Bool) (x : X) → b ≡ true → Contains (one_if b x) x
has_if true x is = (0, omega arith, refl)
has_if false x is = absurd (let e : false ≡ true = is in cc)

pairs_if : {X : Type 0} (R : X → X → Type 0) (b : Bool) (x : X) → AllPairs R (one_if b x)
pairs_if R true x = λ i j d less inside. absurd (omega (arith, less, inside))
pairs_if R false x = λ i j d less inside. absurd (omega (arith, inside))

-- ---- the links

-- the texts of links, one after the other
texts_flat : (text : ℕ × ℕ × ℕ → List ℕ) (f : ℕ → List (ℕ × ℕ × ℕ)) (g : ℕ → List ℕ) (xs : List ℕ) → ((x : ℕ) → flat_map text (f x) ≡ g x) → flat_map text (flat_map f xs) ≡ flat_map g xs
texts_flat text f g [] each = refl
texts_flat text f g (x ∷ xs) each =
    flat_map-append text (f x) (flat_map f xs)
    ∙ ap (λ (t : List ℕ). t ++ flat_map text (flat_map f xs)) (each x)
    ∙ ap (λ (t : List ℕ). g x ++ t) (texts_flat text f g xs each)

text_if : (text : ℕ × ℕ × ℕ → List ℕ) (b : Bool) (l : ℕ × ℕ × ℕ) → flat_map text (one_if b l) ≡ (if b then text l else [])
text_if text true l = append-nil (text l)
text_if text false l = refl

inside_node : (network : Neighbours) (u j : ℕ) → j < degree network u → u < length network
inside_node [] u j inside = absurd (omega (arith, inside))
inside_node (row ∷ network) zero j inside = omega arith
inside_node (row ∷ network) (suc u) j inside = omega (arith, inside_node network u j inside)

module _ (network : Neighbours) where
  abbrev slot_link : ℕ → ℕ → ℕ × ℕ × ℕ
  slot_link u j = (u, neighbour network u j, weight network u j)

  abbrev slot_links : ℕ → ℕ → List (ℕ × ℕ × ℕ)
  slot_links u j = one_if (nat_lt u (neighbour network u j)) (slot_link u j)

  abbrev node_links : ℕ → List (ℕ × ℕ × ℕ)
  node_links u = flat_map (slot_links u) (numbers_below (degree network u))

  abbrev drawn_links : List (ℕ × ℕ × ℕ)
  drawn_links = flat_map node_links (numbers_below (length network))

  -- the text of a slot, where the neighbour has the greater number, and that of a node
  abbrev slot_text : (ℕ × ℕ × ℕ → List ℕ) → ℕ → ℕ → List ℕ
  slot_text text u j = if nat_lt u (neighbour network u j) then text (slot_link u j) else []

  abbrev node_text : (ℕ × ℕ × ℕ → List ℕ) → ℕ → List ℕ
  node_text text u = flat_map (slot_text text u) (numbers_below (degree network u))

  text_is : (text : ℕ × ℕ × ℕ → List ℕ) → flat_map text drawn_links ≡ flat_map (node_text text) (numbers_below (length network))
  text_is text =
      texts_flat text node_links (node_text text) (numbers_below (length network))
      (λ u. texts_flat text (slot_links u) (slot_text text u) (numbers_below (degree network u)) (λ j. text_if text (nat_lt u (neighbour network u j)) (slot_link u j)))

  rises : (a b : ℕ) → nat_lt a b ≡ true → a < b
  rises a b is = grind (arith, nat_tests, is)

  only_links : All (λ l. (l.0 < l.1) × HasLink network l.0 l.1 l.2) drawn_links
  only_links =
      all_range (λ (l : ℕ × ℕ × ℕ). (l.0 < l.1) × HasLink network l.0 l.1 l.2) node_links 0 (length network)
      (λ u first last.
      all_range (λ (l : ℕ × ℕ × ℕ). (l.0 < l.1) × HasLink network l.0 l.1 l.2) (slot_links u) 0 (degree network u)
      (λ j from below.
      all_if (λ (l : ℕ × ℕ × ℕ). (l.0 < l.1) × HasLink network l.0 l.1 l.2) (nat_lt u (neighbour network u j)) (slot_link u j)
      (λ is. (rises u (neighbour network u j) is, (j, omega (arith, below), refl, refl)))))

  has_upward : (u w x : ℕ) → HasLink network u w x → u < w → Contains drawn_links (u, w, x)
  has_upward u w x link less =
      let j = link.0 in
      let upward : nat_lt u (neighbour network u j) ≡ true = (let to = link.2 in grind (arith, nat_tests, to, less)) in
      let slot = has_if (nat_lt u (neighbour network u j)) (slot_link u j) upward in
      let named : slot_link u j ≡ (u, w, x) = λ i. (u, link.2 i, link.3 i) in
      let at_slot = subst (λ (l : ℕ × ℕ × ℕ). Contains (slot_links u j) l) named slot in
      let at_node = has_range (slot_links u) 0 (degree network u) j (u, w, x) (omega arith) (omega (arith, link.1)) at_slot in
      has_range node_links 0 (length network) u (u, w, x) (omega arith) (omega (arith, inside_node network u j link.1)) at_node

  starts_at : (u : ℕ) → All (λ l. l.0 ≡ u) (node_links u)
  starts_at u =
      all_range (λ (l : ℕ × ℕ × ℕ). l.0 ≡ u) (slot_links u) 0 (degree network u)
      (λ j from below. all_if (λ (l : ℕ × ℕ × ℕ). l.0 ≡ u) (nat_lt u (neighbour network u j)) (slot_link u j) (λ is. refl))

  module _ (is : IsNetwork network) where
    other_way : (u w x : ℕ) → HasLink network u w x → HasLink network w u x
    other_way u w x link =
        let back = is.both_ways u link.0 link.1 in
        let there : (neighbour network w back.0 ≡ u) × (weight network w back.0 ≡ weight network u link.0) × (back.0 < degree network w) =
        subst (λ (v : ℕ). (neighbour network v back.0 ≡ u) × (weight network v back.0 ≡ weight network u link.0) × (back.0 < degree network v)) link.2 (back.2, back.3, back.1) in
        (back.0, there.2, there.0, there.1 ∙ link.3)

    has_all : (u w x : ℕ) → HasLink network u w x → Contains drawn_links (u, w, x) ⊎ Contains drawn_links (w, u, x)
    has_all u w x link =
        let apart = is.apart u link.0 link.1 in
        let to = link.2 in
        elim (cases_lt u w) [
          | inl less ↦ inl (has_upward u w x link less)
          | inr more ↦ (let less : w < u = omega (arith, more, apart, to) in inr (has_upward w u x (other_way u w x link) less))
        ]

    abbrev Other : ℕ × ℕ × ℕ → ℕ × ℕ × ℕ → Type 0
    Other k l = k.0 ≡ l.0 → k.1 ≡ l.1 → ⊥

    node_once : (u : ℕ) → AllPairs Other (node_links u)
    node_once u =
        pairs_range Other (slot_links u) 0 (degree network u) (λ j from below. pairs_if Other (nat_lt u (neighbour network u j)) (slot_link u j))
        (λ j k from less below.
        let rise = is.rising u j k less (omega (arith, below)) in
        all_if (λ (l : ℕ × ℕ × ℕ). All (Other l) (slot_links u k)) (nat_lt u (neighbour network u j)) (slot_link u j)
        (λ up. all_if (Other (slot_link u j)) (nat_lt u (neighbour network u k)) (slot_link u k) (λ high start same. absurd (omega (arith, same, rise)))))

    once_each : AllPairs Other drawn_links
    once_each =
        pairs_range Other node_links 0 (length network) (λ u from below. node_once u)
        (λ u v from less below a d inside b e within start same.
        let one : (slice_index_or (node_links u) a d).0 ≡ u = starts_at u a d inside in
        let other : (slice_index_or (node_links v) b e).0 ≡ v = starts_at v b e within in
        omega (arith, one, other, start, less))

  are_all : IsNetwork network → AreAllLinks network drawn_links
  are_all is = record { only = only_links; all = has_all is; once = once_each is }

pub each_link_is_drawn_once : EachLinkIsDrawnOnce
each_link_is_drawn_once network is = (drawn_links network, sym (text_is network (λ (l : ℕ × ℕ × ℕ). link_line l.0 l.1 l.2)), are_all network is)

pub each_link_has_its_line : EachLinkHasItsLine
each_link_has_its_line network is = (drawn_links network, sym (text_is network (λ (l : ℕ × ℕ × ℕ). link_stroke (length network) l.0 l.1)), are_all network is)
