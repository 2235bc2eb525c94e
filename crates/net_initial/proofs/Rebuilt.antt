-- The neighbours of a node, from the weights between it and the others.
use Rattle.std.proofs.Common.{◌≡◌, ℕ, ◌+◌, ◌<◌, ◌≤◌, ◌==◌, Bool, true, false, List, [], ◌∷◌, length, get_or, map, Some, None, is_some, refl, ap, ◌∙◌, inl, inr, arith, zero, suc}
use Rattle.std.specs.List.{filter, range_with_len}
use Rattle.std.specs.Option.{unwrap_or}
use Rattle.std.proofs.lemmas.Bool.{cases_Bool}
use Rattle.std.proofs.lemmas.Bool.Decides.{nat_tests}
use Rattle.net_initial.proofs.Lookups.{entry}

-- neighbours by rising number
abbrev pub Up : List (ℕ × ℕ) → Type 0
Up ends = (i j : ℕ) → i < j → j < length ends → (get_or ends i (0, 0)).0 < (get_or ends j (0, 0)).0

abbrev pub From : ℕ → List (ℕ × ℕ) → Type 0
From a ends = (j : ℕ) → j < length ends → a ≤ (get_or ends j (0, 0)).0

abbrev pub Below : ℕ → List (ℕ × ℕ) → Type 0
Below n ends = (j : ℕ) → j < length ends → (get_or ends j (0, 0)).0 < n

pub tail_up : (a : ℕ × ℕ) (ends : List (ℕ × ℕ)) → Up (a ∷ ends) → Up ends
tail_up a ends up i j order low = up (suc i) (suc j) (omega arith) (omega arith)

tail_from : (n : ℕ) (a : ℕ × ℕ) (ends : List (ℕ × ℕ)) → Up (a ∷ ends) → n ≤ a.0 → From (n + 1) ends
tail_from n a ends up least j low = let more = up 0 (suc j) (omega arith) (omega arith) in omega arith

-- what stands at a place has its weight
pub entry_at : (ends : List (ℕ × ℕ)) (j : ℕ) → Up ends → j < length ends → entry ends (get_or ends j (0, 0)).0 ≡ Some (get_or ends j (0, 0)).1
entry_at [] j up low = absurd (omega arith)
entry_at (a ∷ ends) zero up low =
    let here : (a.0 == a.0) ≡ true = grind (arith, nat_tests) in
    rw here refl
entry_at (a ∷ ends) (suc j) up low =
    let more : a.0 < (get_or ends j (0, 0)).0 = up 0 (suc j) (omega arith) low in
    let other : ((get_or ends j (0, 0)).0 == a.0) ≡ false = grind (arith, nat_tests) in
    rw other (entry_at ends j (tail_up a ends up) (omega arith))

-- and what has a weight stands at a place
abbrev pub Stands : List (ℕ × ℕ) → ℕ → ℕ → Type 0
Stands ends w x = (j : ℕ) × (j < length ends) × ((get_or ends j (0, 0)).0 ≡ w) × ((get_or ends j (0, 0)).1 ≡ x)

pub entry_stands : (ends : List (ℕ × ℕ)) (w x : ℕ) → entry ends w ≡ Some x → Stands ends w x
entry_stands [] w x h = cc
entry_stands (a ∷ ends) w x h =
    elim (cases_Bool (w == a.0)) [
      | inl here ↦
          let is : a.0 ≡ w = grind (arith, nat_tests) in
          let some = rw here at h in
          let weight : a.1 ≡ x = cc in
          (0, omega arith, is, weight)
      | inr other ↦
          let later = rw other at h in
          let s = entry_stands ends w x later in
          (suc s.0, omega (arith, s.1), s.2, s.3)
    ]

pub entry_none : (w : ℕ) (ends : List (ℕ × ℕ)) → From (w + 1) ends → entry ends w ≡ None
entry_none w [] above = refl
entry_none w (a ∷ ends) above =
    let least : w + 1 ≤ a.0 = above 0 (omega arith) in
    let other : (w == a.0) ≡ false = grind (arith, nat_tests) in
    rw other (entry_none w ends (λ j low. above (suc j) (omega arith)))

paired : (a x : ℕ) (b : ℕ × ℕ) (xs ys : List (ℕ × ℕ)) → a ≡ b.0 → x ≡ b.1 → xs ≡ ys → (a, x) ∷ xs ≡ b ∷ ys
paired a x b xs ys p q r = rw (p, q, r) refl

-- neighbours that rise are those numbers of the range that have a weight
pub rebuilt : (n a : ℕ) (ends : List (ℕ × ℕ)) (p : ℕ → Bool) (g : ℕ → ℕ) → Up ends → From a ends → Below (a + n) ends
    → ((w : ℕ) → a ≤ w → w < a + n → p w ≡ is_some (entry ends w)) → ((w : ℕ) → a ≤ w → w < a + n → g w ≡ unwrap_or (entry ends w) 0)
    → map (λ w. (w, g w)) (filter p (range_with_len a n)) ≡ ends
rebuilt zero a [] p g up least below there weight = refl
rebuilt zero a (b ∷ bs) p g up least below there weight = absurd (omega (arith, least 0 (omega arith), below 0 (omega arith)))
rebuilt (suc n) a [] p g up least below there weight =
    rw (there a (omega arith) (omega arith))
    (rebuilt n (a + 1) [] p g (λ i j order low. absurd (omega arith)) (λ j low. absurd (omega arith)) (λ j low. absurd (omega arith))
    (λ w low high. there w (omega arith) (omega arith)) (λ w low high. weight w (omega arith) (omega arith)))
rebuilt (suc n) a (b ∷ bs) p g up least below there weight =
    elim (cases_Bool (a == b.0)) [
      | inl same ↦
          let is : a ≡ b.0 = grind (arith, nat_tests) in
          let kept : p a ≡ true = there a (omega arith) (omega arith) ∙ rw same refl in
          let heavy : g a ≡ b.1 = weight a (omega arith) (omega arith) ∙ rw same refl in
          let rest =
          rebuilt n (a + 1) bs p g (tail_up b bs up) (tail_from a b bs up (least 0 (omega arith)))
          (λ j low. let high = below (suc j) (omega arith) in omega arith)
          (λ w low high. there w (omega arith) (omega arith) ∙ (let other : (w == b.0) ≡ false = grind (arith, nat_tests) in rw other refl))
          (λ w low high. weight w (omega arith) (omega arith) ∙ (let other : (w == b.0) ≡ false = grind (arith, nat_tests) in rw other refl)) in
          rw kept (paired a (g a) b (map (λ w. (w, g w)) (filter p (range_with_len (a + 1) n))) bs is heavy rest)
      | inr other ↦
          let first : a ≤ b.0 = least 0 (omega arith) in
          let more : a + 1 ≤ b.0 = grind (arith, nat_tests) in
          let above : From (a + 1) (b ∷ bs) = from_head b bs up more in
          let left : p a ≡ false = there a (omega arith) (omega arith) ∙ ap is_some (entry_none a (b ∷ bs) above) in
          rw left
          (rebuilt n (a + 1) (b ∷ bs) p g up above (λ j low. let high = below j low in omega arith)
          (λ w low high. there w (omega arith) (omega arith)) (λ w low high. weight w (omega arith) (omega arith)))
    ] where
      from_head : {m : ℕ} (c : ℕ × ℕ) (cs : List (ℕ × ℕ)) → Up (c ∷ cs) → m ≤ c.0 → From m (c ∷ cs)
      from_head c cs rise least zero low = least
      from_head c cs rise least (suc j) low = let more = rise 0 (suc j) (omega arith) low in omega arith
