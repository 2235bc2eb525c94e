-- Nodes that are reached, and ways of links between them.
use Rattle.std.proofs.Common.{◌≡◌, ℕ, zero, suc, ◌+◌, ◌-◌, ◌<◌, ◌≤◌, Bool, true, false, List, [], ◌∷◌, ◌++◌, length, get_or, set, map, replicate, refl, sym, ap, subst, ◌∙◌, arith, append_assoc, length-append, All, inl, inr, ◌⊎◌}
use Rattle.std.specs.Prelude.{Contains}
use Rattle.std.proofs.lemmas.Bool.{cases_lt, cases_eq}
use Rattle.std.proofs.lemmas.List.{append-nil, get_or_append_left, get_or-append-add, get_or-set_same, get_or-set_other, length-set, length-replicate, get_or-replicate, get_or_past, get_or_default, length-map}
use Rattle.std.proofs.lemmas.List.Elements.{All-append}
use Rattle.link_net.specs.Neighbours.{Neighbours, IsNetwork, row}
use Rattle.net_facts.specs.Parts.{AreJoined, HasParts, IsNeighbour, IsWay}
use Rattle.net_facts.specs.Reaching.{AreReached, Grows, IsClosed, IsClosedBelow, unmarked}
use Rattle.net_facts.proofs.Ranges.{in_front, at_end}

-- ---- lists that grow

pub same_list : (Fits : ℕ → Type 0) (xs : List ℕ) → Grows Fits xs xs
same_list Fits xs = record { more = []; whole = sym (append-nil xs); each = λ k d inside. absurd (omega arith) }

pub one_more : (Fits : ℕ → Type 0) (xs : List ℕ) (x : ℕ) → Fits x → Grows Fits xs (xs ++ x ∷ [])
one_more Fits xs x fits = record { more = x ∷ []; whole = refl; each = λ k d inside. let at : k ≡ 0 = omega arith in rw at fits }

pub grow_on : (Fits Suits : ℕ → Type 0) (a b c : List ℕ) → ((x : ℕ) → Suits x → Fits x) → Grows Fits a b → Grows Suits b c → Grows Fits a c
grow_on Fits Suits a b c are first second = record {
  more = first.more ++ second.more;
  whole = second.whole ∙ ap (λ xs. xs ++ second.more) first.whole ∙ append_assoc a first.more second.more;
  each = All-append Fits first.more second.more first.each (λ k d inside. are (get_or second.more k d) (second.each k d inside));
}

pub still_in : (Fits : ℕ → Type 0) (a b : List ℕ) (x : ℕ) → Grows Fits a b → Contains a x → Contains b x
still_in Fits a b x grows has = subst (λ xs. Contains xs x) (sym grows.whole) (in_front a grows.more x has)

grown_size : (Fits : ℕ → Type 0) (a b : List ℕ) → (grows : Grows Fits a b) → length b ≡ length a + length grows.more
grown_size Fits a b grows = ap length grows.whole ∙ length-append a grows.more

pub not_less : (Fits : ℕ → Type 0) (a b : List ℕ) → Grows Fits a b → length a ≤ length b
not_less Fits a b grows = omega (arith, grown_size Fits a b grows)

pub old_at : (Fits : ℕ → Type 0) (a b : List ℕ) (i : ℕ) → Grows Fits a b → i < length a → get_or b i 0 ≡ get_or a i 0
old_at Fits a b i grows inside = ap (λ xs. get_or xs i 0) grows.whole ∙ get_or_append_left a grows.more 0 i inside

-- what stands after the old elements fits
pub new_at : (Fits : ℕ → Type 0) (a b : List ℕ) (i : ℕ) → Grows Fits a b → length a ≤ i → i < length b → Fits (get_or b i 0)
new_at Fits a b i grows behind inside =
    let k = i - length a in
    let at : length a + k ≡ i = omega arith in
    let size = grown_size Fits a b grows in
    let is : get_or b i 0 ≡ get_or grows.more k 0 = ap (λ xs. get_or xs i 0) grows.whole ∙ ap (λ n. get_or (a ++ grows.more) n 0) (sym at) ∙ get_or-append-add a grows.more k 0 in
    subst Fits (sym is) (grows.each k 0 (omega (arith, size)))

pub is_in : (xs : List ℕ) (i : ℕ) → i < length xs → Contains xs (get_or xs i 0)
is_in xs i inside = (i, inside, get_or_default xs i (get_or xs i 0) 0 inside)

pub old_or_new : (Fits : ℕ → Type 0) (a b : List ℕ) (x : ℕ) → Grows Fits a b → Contains b x → Contains a x ⊎ Fits x
old_or_new Fits a b x grows (i, inside, is) =
    let same : get_or b i 0 ≡ x = get_or_default b i 0 x inside ∙ is in
    elim (cases_lt i (length a)) [
      | inl below ↦ inl (i, below, get_or_default a i x 0 below ∙ sym (old_at Fits a b i grows below) ∙ same)
      | inr above ↦ inr (subst Fits same (new_at Fits a b i grows above inside))
    ]

-- ---- marks

marked_one : (marks : List Bool) (i : ℕ) → i < length marks → get_or marks i false ≡ false → unmarked marks ≡ unmarked (set marks i true) + 1
marked_one [] i inside none = absurd (omega arith)
marked_one (true ∷ marks) zero inside none = cc
marked_one (false ∷ marks) zero inside none = omega arith
marked_one (true ∷ marks) (suc i) inside none = marked_one marks i (omega arith) none
marked_one (false ∷ marks) (suc i) inside none = (let less = marked_one marks i (omega arith) none in omega (arith, less))

none_unmarked : (n : ℕ) → unmarked (replicate n false) ≡ n
none_unmarked zero = refl
none_unmarked (suc n) = ap suc (none_unmarked n)

pub none_are_reached : (marks : List Bool) (n : ℕ) → marks ≡ replicate n false → AreReached marks []
none_are_reached marks n is = record {
  listed = λ u holds. let bad : true ≡ false = sym holds ∙ ap (λ ms. get_or ms u false) is ∙ no_mark u in cc;
  marked = λ u has. absurd (omega (arith, has.1));
  room = (let free = ap unmarked is ∙ none_unmarked n in let all = ap length is ∙ length-replicate n false in omega (arith, free, all));
}
  where
    no_mark : (u : ℕ) → get_or (replicate n false) u false ≡ false
    no_mark u = elim (cases_lt u n) [ inl near ↦ get_or-replicate n u false false near | inr far ↦ get_or_past (replicate n false) u false (omega (arith, length-replicate n false)) ]

module _ (marks : List Bool) (nodes : List ℕ) (are : AreReached marks nodes) where
  pub few_nodes : length nodes ≤ length marks
  few_nodes = omega (arith, are.room)

  pub one_reached : (node : ℕ) → node < length marks → get_or marks node false ≡ false → AreReached (set marks node true) (nodes ++ node ∷ [])
  one_reached node inside none = record {
    listed = λ u holds. elim (cases_eq u node) [
      | inl here ↦ subst (Contains (nodes ++ node ∷ [])) (sym here) (at_end nodes node)
      | inr other ↦ in_front nodes (node ∷ []) u (are.listed u (sym (get_or-set_other marks node u true false other) ∙ holds))
    ];
    marked = λ u has. elim (cases_eq u node) [
      | inl here ↦ ap (λ v. get_or (set marks node true) v false) here ∙ get_or-set_same marks node true false inside
      | inr other ↦ elim (old_or_new (λ v. v ≡ node) nodes (nodes ++ node ∷ []) u (one_more (λ v. v ≡ node) nodes node refl) has) [
        | inl old ↦ get_or-set_other marks node u true false other ∙ are.marked u old
        | inr new ↦ absurd (other new)
      ]
    ];
    room = omega (arith, are.room, marked_one marks node inside none, length-append nodes (node ∷ []), length-set marks node true);
  }

-- ---- ways

pub way_on : (network : Neighbours) (u v w : ℕ) (way : List ℕ) → IsWay network u way v → IsNeighbour network v w → IsWay network u (way ++ w ∷ []) w
way_on network u v w [] is next = (subst (λ x. IsNeighbour network x w) (sym is) next, refl)
way_on network u v w (x ∷ way) is next = (is.0, way_on network x v w way is.1 next)

pub joined_on : (network : Neighbours) (u v w : ℕ) → AreJoined network u v → IsNeighbour network v w → AreJoined network u w
joined_on network u v w (way, is) next = (way ++ w ∷ [], way_on network u v w way is next)

pub joined_self : (network : Neighbours) (u v : ℕ) → v ≡ u → AreJoined network u v
joined_self network u v same = ([], sym same)

-- ways do not lead out of closed nodes
pub stays_in : (network : Neighbours) (nodes : List ℕ) → IsClosed network nodes → (u w : ℕ) (way : List ℕ) → IsWay network u way w → Contains nodes u → Contains nodes w
stays_in network nodes closed u w [] is has = subst (Contains nodes) is has
stays_in network nodes closed u w (v ∷ way) is has =
    let same : get_or nodes has.0 0 ≡ u = get_or_default nodes has.0 0 u has.1 ∙ has.2 in
    stays_in network nodes closed v w way is.1 (closed has.0 v has.1 (subst (λ x. IsNeighbour network x v) (sym same) is.0))

pub closed_on : (network : Neighbours) (Fits : ℕ → Type 0) (a b : List ℕ) (k : ℕ) → Grows Fits a b → k ≤ length a → IsClosedBelow network a k → IsClosedBelow network b k
closed_on network Fits a b k grows short closed i v within next =
    still_in Fits a b v grows (closed i v within (subst (λ u. IsNeighbour network u v) (old_at Fits a b i grows (omega arith)) next))

pub closed_more : (network : Neighbours) (nodes : List ℕ) (k : ℕ) → IsClosedBelow network nodes k → ((v : ℕ) → IsNeighbour network (get_or nodes k 0) v → Contains nodes v) → IsClosedBelow network nodes (k + 1)
closed_more network nodes k before here i v within next = elim (cases_lt i k) [
  | inl below ↦ before i v below next
  | inr last ↦ (let same : i ≡ k = omega arith in here v (subst (λ n. IsNeighbour network (get_or nodes n 0) v) same next))
]

pub all_closed : (network : Neighbours) (nodes : List ℕ) (k : ℕ) → length nodes ≤ k → IsClosedBelow network nodes k → IsClosed network nodes
all_closed network nodes k all closed i v within next = closed i v (omega arith) next

-- ---- the parts so far

pub record PartsOf (network : Neighbours) (nodes : List ℕ) (count : ℕ) : Type 0 where
  pub firsts : List ℕ
  pub counted : length firsts ≡ count
  pub reached : All (Contains nodes) firsts
  pub apart : (i j : ℕ) → i < j → j < length firsts → AreJoined network (get_or firsts i 0) (get_or firsts j 0) → ⊥
  pub all : (u : ℕ) → Contains nodes u → (i : ℕ) × (i < length firsts) × AreJoined network (get_or firsts i 0) u

module _ (network : Neighbours) (old later : List ℕ) (count node : ℕ) (parts : PartsOf network old count) (closed : IsClosed network old) (grows : Grows (AreJoined network node) old later) (has : Contains later node) (other : Contains old node → ⊥) where
  size : length (parts.firsts ++ node ∷ []) ≡ length parts.firsts + 1
  size = length-append parts.firsts (node ∷ [])

  one : Grows (λ v. v ≡ node) parts.firsts (parts.firsts ++ node ∷ [])
  one = one_more (λ v. v ≡ node) parts.firsts node refl

  first_at : (i : ℕ) → i < length parts.firsts → get_or (parts.firsts ++ node ∷ []) i 0 ≡ get_or parts.firsts i 0
  first_at i inside = old_at (λ v. v ≡ node) parts.firsts (parts.firsts ++ node ∷ []) i one inside

  last_at : (i : ℕ) → i ≡ length parts.firsts → get_or (parts.firsts ++ node ∷ []) i 0 ≡ node
  last_at i at = new_at (λ v. v ≡ node) parts.firsts (parts.firsts ++ node ∷ []) i one (omega arith) (omega (arith, size))

  still_apart : (i j : ℕ) → i < j → j < length (parts.firsts ++ node ∷ []) → AreJoined network (get_or (parts.firsts ++ node ∷ []) i 0) (get_or (parts.firsts ++ node ∷ []) j 0) → ⊥
  still_apart i j before inside joined =
      let first = first_at i (omega (arith, size)) in
      let from = subst (λ u. AreJoined network u (get_or (parts.firsts ++ node ∷ []) j 0)) first joined in
      elim (cases_lt j (length parts.firsts)) [
        | inl below ↦ parts.apart i j before below (subst (AreJoined network (get_or parts.firsts i 0)) (first_at j below) from)
        | inr last ↦
            (let to = subst (AreJoined network (get_or parts.firsts i 0)) (last_at j (omega (arith, size))) from in
            other (stays_in network old closed (get_or parts.firsts i 0) node to.0 to.1 (parts.reached i 0 (omega (arith, size)))))
      ]

  still_all : (u : ℕ) → Contains later u → (i : ℕ) × (i < length (parts.firsts ++ node ∷ [])) × AreJoined network (get_or (parts.firsts ++ node ∷ []) i 0) u
  still_all u in_later = elim (old_or_new (AreJoined network node) old later u grows in_later) [
    | inl before ↦ (let h = parts.all u before in (h.0, omega (arith, size, h.1), subst (λ f. AreJoined network f u) (sym (first_at h.0 h.1)) h.2))
    | inr joined ↦ (length parts.firsts, omega (arith, size), subst (λ f. AreJoined network f u) (sym (last_at (length parts.firsts) refl)) joined)
  ]

  pub part_more : PartsOf network later (count + 1)
  part_more = record {
    firsts = parts.firsts ++ node ∷ [];
    counted = omega (arith, size, parts.counted);
    reached = All-append (Contains later) parts.firsts (node ∷ []) (λ k d inside. still_in (AreJoined network node) old later (get_or parts.firsts k d) grows (parts.reached k d inside)) (λ k d inside. let at : k ≡ 0 = omega arith in rw at has);
    apart = still_apart;
    all = still_all;
  }

pub all_parts : (network : Neighbours) (nodes : List ℕ) (count k : ℕ) → PartsOf network nodes count → length network ≤ k → ((u : ℕ) → u < k → Contains nodes u) → HasParts network count
all_parts network nodes count k parts all passed = record { firsts = parts.firsts; counted = parts.counted; apart = parts.apart; all = λ u inside. parts.all u (passed u (omega arith)) }

-- ---- the neighbours of a node

pub near : (network : Neighbours) → IsNetwork network → (u k : ℕ) (list : List ℕ) → list ≡ map (λ a. a.0) (row network u) → k < length list → get_or list k 0 < length network
near network is u k list same inside =
    let size = ap length same ∙ length-map (row network u) (λ a. a.0) in
    subst (λ v. v < length network) (sym (ap (λ ns. get_or ns k 0) same ∙ get_or-map_at (row network u) k)) (is.within u k (omega (arith, size)))
  where
    get_or-map_at : (slots : List (ℕ × ℕ)) (i : ℕ) → get_or (map (λ a. a.0) slots) i 0 ≡ (get_or slots i (0, 0)).0
    get_or-map_at [] i = refl
    get_or-map_at (a ∷ slots) zero = refl
    get_or-map_at (a ∷ slots) (suc i) = get_or-map_at slots i

pub all_more : (nodes list : List ℕ) (k : ℕ) → ((j : ℕ) → j < k → Contains nodes (get_or list j 0)) → Contains nodes (get_or list k 0) → (j : ℕ) → j < k + 1 → Contains nodes (get_or list j 0)
all_more nodes list k before here j within = elim (cases_lt j k) [
  | inl below ↦ before j below
  | inr last ↦ (let same : j ≡ k = omega arith in subst (λ i. Contains nodes (get_or list i 0)) (sym same) here)
]

pub all_in : (nodes list : List ℕ) (k : ℕ) → length list ≤ k → ((j : ℕ) → j < k → Contains nodes (get_or list j 0)) → (v : ℕ) → Contains list v → Contains nodes v
all_in nodes list k all each v (i, inside, is) = subst (Contains nodes) (get_or_default list i 0 v inside ∙ is) (each i (omega arith))

pub passed_more : (nodes : List ℕ) (k : ℕ) → ((u : ℕ) → u < k → Contains nodes u) → Contains nodes k → (u : ℕ) → u < k + 1 → Contains nodes u
passed_more nodes k before here u within = elim (cases_lt u k) [
  | inl below ↦ before u below
  | inr last ↦ (let same : u ≡ k = omega arith in subst (Contains nodes) (sym same) here)
]
