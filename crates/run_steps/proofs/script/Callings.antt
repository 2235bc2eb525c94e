-- Nodes, slots and counts that words call.
use Rattle.std.proofs.Common.{◌≡◌, ◌≢◌, ◌↔◌, ℕ, ◌<◌, ◌≤◌, ◌^◌, ◌==◌, true, ◌&&◌, List, [], length, position, nat_le, nat_lt, slice_get, refl, sym, ap, ◌∙◌, Option, Some, None, Result, Ok, Err, inl, inr, arith}
use Rattle.std.specs.Fmt.{decimal}
use Rattle.std.specs.Option.{option_and_then, ok_or}
use Rattle.std.specs.Str.{bytes_eq}
use Rattle.std.proofs.lemmas.Bool.{cases_Bool}
use Rattle.std.proofs.lemmas.Bool.Decides.{nat_tests, Decides-eqb}
use Rattle.std.proofs.lemmas.Option.{slice_get_within, get_or_from_slice_get}
use Rattle.std.proofs.lemmas.Slice.Eq.{bytes_eq-Decides}
use Rattle.std.proofs.lemmas.List.{length-map, get_or-map}
use Rattle.link_net.specs.Neighbours.{Neighbours, row, degree, neighbour, neighbour_at}
use Rattle.link_net.specs.Simple.{IsSimple}
use Rattle.run_steps.specs.declared.script.fault.StepTextFault.{StepTextFault}
use Rattle.run_steps.specs.declared.script.fault.StepTextFault.TheVariants.{BadCount, NoNode, NotNeighbour}
use Rattle.run_steps.specs.script.Words.{most_repeats, number_in, within, node_of, node_called, node_at, slot_at, count_at}
use Rattle.run_steps.specs.script.Spelled.{Calls}
use Rattle.run_steps.proofs.script.Numbers.{number-spelled, number-of}
use Rattle.run_steps.proofs.script.Places.{found-first, first-found, none-found}
use Rattle.run_steps.proofs.script.Slots.{neighbours_of, neighbour-is}

-- ---- what is there, or else a fault

or-ok : (o : Option ℕ) (e : StepTextFault) (x : ℕ) → ok_or o e ≡ Ok x → o ≡ Some x
or-ok None e x h = absurd (cc)
or-ok (Some y) e x h = cc

or-err : (o : Option ℕ) (e fault : StepTextFault) → ok_or o e ≡ Err fault → (o ≡ None) × (e ≡ fault)
or-err None e fault h = (refl, cc)
or-err (Some y) e fault h = absurd (cc)

then-some : (f : ℕ → Option ℕ) (o : Option ℕ) (y : ℕ) → option_and_then f o ≡ Some y → (x : ℕ) × (o ≡ Some x) × (f x ≡ Some y)
then-some f None y h = absurd (cc)
then-some f (Some x) y h = (x, refl, h)

-- ---- nodes

pub node-within : (network : Neighbours) (u v : ℕ) → node_of network u ≡ Some v → (u ≡ v) × (u < length network)
node-within network u v h =
    elim (cases_Bool (nat_lt u (length network))) [
      | inl is ↦ (let same : Some u ≡ Some v = rw is at h in (cc, grind (arith, nat_tests)))
      | inr other ↦ (let none : ◌≡◌ {A = Option ℕ} None (Some v) = rw other at h in absurd (cc))
    ]

pub within-node : (network : Neighbours) (u : ℕ) → u < length network → node_of network u ≡ Some u
within-node network u less = (let t : nat_lt u (length network) ≡ true = grind (arith, nat_tests) in rw t refl)

module _ (network : Neighbours) where
  -- a word that is read as a node calls it
  pub called : (names : Option (List (List ℕ))) (word : List ℕ) (u : ℕ) → node_called network names word ≡ Some u → Calls network names word u
  called None word u h =
      let x = then-some (node_of network) (number_in word) u h in
      let n = node-within network x.0 u x.2 in
      let s = number-spelled word x.0 x.1 in
      let same = n.0 in
      (omega (arith, n.1), s.0 ∙ ap decimal n.0)
  called (Some names) word u h =
      let x = then-some (node_of network) (position (bytes_eq word) names) u h in
      let n = node-within network x.0 u x.2 in
      let same = n.0 in
      let place : position (bytes_eq word) names ≡ Some u = x.1 ∙ ap Some n.0 in
      let f = found-first word [] (bytes_eq word) (bytes_eq-Decides word) names u place in
      (omega (arith, n.1), f.0, f.1)

  module _ (few : length network ≤ 4294967295) where
    -- and a word that calls a node is read as it
    pub calls : (names : Option (List (List ℕ))) (word : List ℕ) (u : ℕ) → Calls network names word u → node_called network names word ≡ Some u
    calls None word u h =
        let low = h.0 in
        let small : u < 2 ^ 32 = omega (arith, few) in
        ap (option_and_then (node_of network)) (ap number_in h.1 ∙ number-of u small) ∙ within-node network u h.0
    calls (Some names) word u h = ap (option_and_then (node_of network)) (first-found word [] (bytes_eq word) (bytes_eq-Decides word) names u h.1 h.2) ∙ within-node network u h.0

    -- what is read of a word is the node that it calls
    pub nodes-read : (names : Option (List (List ℕ))) (word : List ℕ) (r : Option ℕ) → r ≡ node_called network names word → (u : ℕ) → (r ≡ Some u) ↔ Calls network names word u
    nodes-read names word r is u = (λ h. called names word u (sym is ∙ h), λ h. is ∙ calls names word u h)

    module _ (names : Option (List (List ℕ))) (line place : ℕ) (word : List ℕ) where
      pub node-read : (u : ℕ) → Calls network names word u → node_at network names line place word ≡ Ok u
      node-read u h = ap (λ o. ok_or o (NoNode line place)) (calls names word u h)

      pub node-none : (fault : StepTextFault) → node_at network names line place word ≡ Err fault → (NoNode line place ≡ fault) × ((u : ℕ) → Calls network names word u → ⊥)
      node-none fault h =
          let e = or-err (node_called network names word) (NoNode line place) fault h in
          let none = e.0 in
          (e.1, λ u is. (let some = calls names word u is in let bad : ◌≡◌ {A = Option ℕ} None (Some u) = sym none ∙ some in cc))

  pub node-calls : (names : Option (List (List ℕ))) (line place : ℕ) (word : List ℕ) (u : ℕ) → node_at network names line place word ≡ Ok u → Calls network names word u
  node-calls names line place word u h = called names word u (or-ok (node_called network names word) (NoNode line place) u h)

-- ---- slots

module _ (network : Neighbours) where
  -- the place of a neighbour among those of its node is its slot
  pub place-stands : (u v j : ℕ) → position (λ w. v == w) (neighbours_of network u) ≡ Some j → neighbour_at network u j ≡ Some v
  place-stands u v j h = neighbour-is network u j ∙ (found-first v 0 (λ w. v == w) (Decides-eqb v) (neighbours_of network u) j h).0

  pub place-none : (u v j : ℕ) → position (λ w. v == w) (neighbours_of network u) ≡ None → neighbour_at network u j ≢ Some v
  place-none u v j h is = none-found v 0 (λ w. v == w) (Decides-eqb v) (neighbours_of network u) j h (sym (neighbour-is network u j) ∙ is)

  pub slot-stands : (line u v j : ℕ) → slot_at network line u v ≡ Ok j → neighbour_at network u j ≡ Some v
  slot-stands line u v j h = place-stands u v j (or-ok (position (λ w. v == w) (neighbours_of network u)) (NotNeighbour line) j h)

  pub slot-none : (line u v : ℕ) (fault : StepTextFault) → slot_at network line u v ≡ Err fault → (NotNeighbour line ≡ fault) × ((j : ℕ) → neighbour_at network u j ≢ Some v)
  slot-none line u v fault h =
      let e = or-err (position (λ w. v == w) (neighbours_of network u)) (NotNeighbour line) fault h in
      (e.1, λ j. place-none u v j e.0)

  -- where v stands in the row of u, by its number
  there : (u v j : ℕ) → slice_get (neighbours_of network u) j ≡ Some v → (j < degree network u) × (neighbour network u j ≡ v)
  there u v j h =
      let low = slice_get_within (neighbours_of network u) j v h in
      let many = length-map (row network u) (λ (a : ℕ × ℕ). a.0) in
      let less : j < degree network u = omega arith in
      (less, sym (get_or-map (λ (a : ℕ × ℕ). a.0) (row network u) j (0, 0) 0 less) ∙ get_or_from_slice_get (neighbours_of network u) j v 0 h)

  pub stands-place : IsSimple network → (u v j : ℕ) → neighbour_at network u j ≡ Some v → position (λ w. v == w) (neighbours_of network u) ≡ Some j
  stands-place whole u v j h =
      let here : slice_get (neighbours_of network u) j ≡ Some v = sym (neighbour-is network u j) ∙ h in
      let at = there u v j here in
      first-found v 0 (λ w. v == w) (Decides-eqb v) (neighbours_of network u) j here (λ k less is. (let also = there u v k is in let rise = whole.rising u k j less at.0 in omega (arith, at.1, also.1)))

  pub slot-read : IsSimple network → (line u v j : ℕ) → neighbour_at network u j ≡ Some v → slot_at network line u v ≡ Ok j
  slot-read whole line u v j h = ap (λ o. ok_or o (NotNeighbour line)) (stands-place whole u v j h)

-- ---- counts

pub count-spells : (line : ℕ) (word : List ℕ) (k : ℕ) → count_at line word ≡ Ok k → (word ≡ decimal k) × (1 ≤ k) × (k ≤ most_repeats)
count-spells line word k h =
    let x = then-some (within 1 most_repeats) (number_in word) k (or-ok (option_and_then (within 1 most_repeats) (number_in word)) (BadCount line) k h) in
    let s = number-spelled word x.0 x.1 in
    elim (cases_Bool (nat_le 1 x.0 && nat_le x.0 most_repeats)) [
      | inl is ↦ (
          let w = x.2 in
          let same : Some x.0 ≡ Some k = rw is at w in
          let one : x.0 ≡ k = cc in
          (s.0 ∙ ap decimal one, grind (arith, nat_tests), grind (arith, nat_tests)))
      | inr other ↦ (let w = x.2 in let none : ◌≡◌ {A = Option ℕ} None (Some k) = rw other at w in absurd (cc))
    ]

pub count-read : (line k : ℕ) → 1 ≤ k → k ≤ most_repeats → count_at line (decimal k) ≡ Ok k
count-read line k low high =
    let small : k < 2 ^ 32 = omega arith in
    let t : (nat_le 1 k && nat_le k most_repeats) ≡ true = grind (arith, nat_tests) in
    let fits : within 1 most_repeats k ≡ Some k = rw t refl in
    ap (λ o. ok_or o (BadCount line)) (ap (option_and_then (within 1 most_repeats)) (number-of k small) ∙ fits)

pub count-none : (line : ℕ) (word : List ℕ) (fault : StepTextFault) → count_at line word ≡ Err fault → (BadCount line ≡ fault) × ((k : ℕ) → 1 ≤ k → k ≤ most_repeats → word ≢ decimal k)
count-none line word fault h = (
  (or-err (option_and_then (within 1 most_repeats) (number_in word)) (BadCount line) fault h).1,
  λ k low high is. (let good = ap (count_at line) is ∙ count-read line k low high in let bad : ◌≡◌ {A = Result ℕ StepTextFault} (Err fault) (Ok k) = sym h ∙ good in cc),
)
