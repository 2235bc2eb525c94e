-- The weight between two nodes, in a list of links and in the neighbours of a node.
use Rattle.std.proofs.Common.{◌≡◌, ℕ, ◌+◌, ◌<◌, ◌≤◌, ◌==◌, Bool, true, false, ◌&&◌, nat_lt, nat_le, List, [], ◌∷◌, ◌++◌, Option, Some, None, option_map, is_some, refl, ap, sym, ◌∙◌, inl, inr, arith, zero, suc, if◌then◌else◌}
use Rattle.std.specs.List.{find, range_with_len}
use Rattle.std.specs.Option.{option_or}
use Rattle.std.proofs.lemmas.Bool.{cases_Bool}
use Rattle.std.proofs.lemmas.Bool.Decides.{nat_tests}
use Rattle.std.proofs.lemmas.List.Folds.{find-append}
use Rattle.link_net.specs.Links.{joins, are_linked}
use Rattle.link_net.specs.Neighbours.{Neighbours, row}
use Rattle.net_text.specs.Listing.{Link}
use Rattle.net_initial.specs.Ahead.{links_up, links_from}

-- the weight with which w stands among the neighbours
abbrev pub entry : List (ℕ × ℕ) → ℕ → Option ℕ
entry [] w = None
entry (a ∷ ends) w = if w == a.0 then Some a.1 else entry ends w

-- the weight of the first link that joins the two nodes
abbrev pub weighs : List Link → ℕ → ℕ → Option ℕ
weighs ls u w = option_map (λ l. l.2) (find (joins u w) ls)

-- two nodes are linked where there is a weight
pub linked_weighs : (ls : List Link) (u w : ℕ) → are_linked ls u w ≡ is_some (weighs ls u w)
linked_weighs [] u w = refl
linked_weighs (l ∷ ls) u w =
    elim (cases_Bool (joins u w l)) [
      | inl hit ↦ rw hit refl
      | inr miss ↦ rw miss (linked_weighs ls u w)
    ]

-- a link has no direction
joins_back : (u w : ℕ) (l : Link) → joins u w l ≡ joins w u l
joins_back u w l = grind (arith, nat_tests)

pub weighs_back : (ls : List Link) (u w : ℕ) → weighs ls u w ≡ weighs ls w u
weighs_back [] u w = refl
weighs_back (l ∷ ls) u w =
    elim (cases_Bool (joins u w l)) [
      | inl hit ↦ let back : joins w u l ≡ true = joins_back w u l ∙ hit in rw (hit, back) refl
      | inr miss ↦ let back : joins w u l ≡ false = joins_back w u l ∙ miss in rw (miss, back) (weighs_back ls u w)
    ]

first_weight : (o p : Option Link) → option_map (λ l. l.2) (option_or o p) ≡ option_or (option_map (λ l. l.2) o) (option_map (λ l. l.2) p)
first_weight None p = refl
first_weight (Some l) p = refl

weighs-append : (xs ys : List Link) (u w : ℕ) → weighs (xs ++ ys) u w ≡ option_or (weighs xs u w) (weighs ys u w)
weighs-append xs ys u w = ap (option_map (λ (l : Link). l.2)) (find-append (joins u w) xs ys) ∙ first_weight (find (joins u w) xs) (find (joins u w) ys)

-- a link to a greater node joins a pair one way round alone
joins_up : (u w i x y : ℕ) → u ≤ w → i < x → joins u w (i, x, y) ≡ (u == i && w == x)
joins_up u w i x y order up = grind (arith, nat_tests)

-- the links from i to those above it: which weights they have
abbrev upward : ℕ → List (ℕ × ℕ) → ℕ → ℕ → Option ℕ
upward i ends u w = if u == i && nat_lt i w then entry ends w else None

not_this : (u w i x y : ℕ) (ends : List (ℕ × ℕ)) → (u == i && w == x) ≡ false → upward i ((x, y) ∷ ends) u w ≡ upward i ends u w
not_this u w i x y ends miss =
    elim (cases_Bool (u == i)) [
      | inl here ↦ let other : (w == x) ≡ false = grind (arith, nat_tests) in rw (here, other) refl
      | inr away ↦ rw away refl
    ]

pub weighs_up : (u w i : ℕ) (ends : List (ℕ × ℕ)) → u ≤ w → weighs (links_up i ends) u w ≡ upward i ends u w
weighs_up u w i [] order =
    elim (cases_Bool (u == i && nat_lt i w)) [
      | inl hit ↦ rw hit refl
      | inr miss ↦ rw miss refl
    ]
weighs_up u w i (a ∷ ends) order =
    elim (cases_Bool (nat_lt i a.0)) [
      | inl above ↦
          let up : i < a.0 = grind (arith, nat_tests) in
          elim (cases_Bool (u == i && w == a.0)) [
            | inl hit ↦
                let joined : joins u w (i, a.0, a.1) ≡ true = joins_up u w i a.0 a.1 order up ∙ hit in
                let here : (u == i && nat_lt i w) ≡ true = grind (arith, nat_tests) in
                let same : (w == a.0) ≡ true = grind (arith, nat_tests) in
                rw (above, joined, here, same) refl
            | inr miss ↦
                let joined : joins u w (i, a.0, a.1) ≡ false = joins_up u w i a.0 a.1 order up ∙ miss in
                rw (above, joined) (weighs_up u w i ends order ∙ sym (not_this u w i a.0 a.1 ends miss))
          ]
      | inr below ↦ rw below (weighs_up u w i ends order ∙ sym (skipped below))
    ] where
      skipped : nat_lt i a.0 ≡ false → upward i (a ∷ ends) u w ≡ upward i ends u w
      skipped below =
          elim (cases_Bool (u == i && nat_lt i w)) [
            | inl here ↦ let other : (w == a.0) ≡ false = grind (arith, nat_tests) in rw (here, other) refl
            | inr away ↦ rw away refl
          ]

-- the number is one of k from a on
abbrev between : ℕ → ℕ → ℕ → Bool
between a k u = nat_le a u && nat_lt u (a + k)

abbrev part : Neighbours → ℕ → ℕ → ℕ → ℕ → Option ℕ
part net a k u w = if between a k u && nat_lt u w then entry (row net u) w else None

or_none : (o : Option ℕ) → option_or o None ≡ o
or_none None = refl
or_none (Some x) = refl

pub weighs_from : (net : Neighbours) (u w a k : ℕ) → u ≤ w → weighs (links_from net (range_with_len a k)) u w ≡ part net a k u w
weighs_from net u w a zero order =
    let none : between a zero u ≡ false = grind (arith, nat_tests) in
    rw none refl
weighs_from net u w a (suc k) order =
    weighs-append (links_up a (row net a)) (links_from net (range_with_len (a + 1) k)) u w
    ∙ rw (weighs_up u w a (row net a) order, weighs_from net u w (a + 1) k order) joined where
      joined : option_or (upward a (row net a) u w) (part net (a + 1) k u w) ≡ part net a (suc k) u w
      joined =
          elim (cases_Bool (u == a)) [
            | inl here ↦
                let is : u ≡ a = grind (arith, nat_tests) in
                let past : between (a + 1) k u ≡ false = grind (arith, nat_tests) in
                let inside : between a (suc k) u ≡ true = grind (arith, nat_tests) in
                rw (here, past, inside, is) (or_none _)
            | inr away ↦
                let same : between (a + 1) k u ≡ between a (suc k) u = grind (arith, nat_tests) in
                rw (away, same) refl
          ]
