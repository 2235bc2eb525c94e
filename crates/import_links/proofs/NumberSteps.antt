-- Links of edges whose ends are numbers, edge by edge.
use Rattle.std.proofs.Common.{◌≡◌, ◌<◌, ◌≤◌, ◌+◌, ℕ, Bool, true, false, not, nat_lt, nat_le, None, arith, if◌then◌else◌, List, [], ◌∷◌, ◌++◌, refl, sym, ap, ◌∙◌, append_assoc, append-nil, Result, Ok, Err, Some}
use Rattle.std.specs.Result.{result_err}
use Rattle.std.specs.Str.Parse.{digits_value}
use Rattle.std.proofs.lemmas.Bool.{lt-ltb, le-ltb, leb-false}
use Rattle.std.proofs.lemmas.List.Sums.{fold-append}
use Rattle.import_lines.specs.Weights.{most_weight, is_whole, is_number, is_negative, bad_weight, weight_of}
use Rattle.import_lines.specs.declared.weight_fault.WeightFault.{WeightFault}
use Rattle.import_lines.specs.declared.weight_fault.WeightFault.TheVariants.{Negative, Decimal, BadWeight, TooManyDigits, WeightTooLarge}
use Rattle.import_lines.specs.declared.weight.Weight.{Weight}
use Rattle.import_lines.specs.Named.{NamedEdge}
use Rattle.import_links.specs.declared.placed.PlacedLink.{PlacedLink}
use Rattle.import_links.specs.declared.numbers.NumberFault.{NumberFault}
use Rattle.import_links.specs.declared.numbers.NumberFault.TheVariants.{NoNumber, NumberTooLarge}
use Rattle.import_links.specs.Numbering.{and_then, number_fault, number_of, link_of, links_in, with_ends_of, nodes_of}

-- the links so far before those that are left
abbrev pub with_front : List PlacedLink → Result (List PlacedLink) NumberFault → Result (List PlacedLink) NumberFault
with_front front read = and_then read (λ ls. Ok (front ++ ls))

front_more : (front : List PlacedLink) (l : PlacedLink) (read : Result (List PlacedLink) NumberFault) → with_front (front ++ l ∷ []) read ≡ with_front front (and_then read (λ ls. Ok (l ∷ ls)))
front_more front l (Ok ls) = ap Ok (append_assoc front (l ∷ []) ls)
front_more front l (Err fault) = refl

-- one edge more
pub links_more : (most : ℕ) (front later : List PlacedLink) (l : PlacedLink) (e : NamedEdge) (edges rest : List NamedEdge) → later ≡ front ++ l ∷ [] → edges ≡ e ∷ rest → link_of most e ≡ Ok l → with_front later (links_in most rest) ≡ with_front front (links_in most edges)
links_more most front later l e edges rest is shape made = rw (is, shape, made) (front_more front l (links_in most rest))

-- no edge is left
pub links_all : (most : ℕ) (front : List PlacedLink) (edges : List NamedEdge) (defined : Result (List PlacedLink) NumberFault) → edges ≡ [] → with_front front (links_in most edges) ≡ defined → defined ≡ Ok front
links_all most front edges defined none is = sym (rw none at is) ∙ ap Ok (append-nil front)

fault_more : (l : PlacedLink) (read : Result (List PlacedLink) NumberFault) → result_err (and_then read (λ ls. Ok (l ∷ ls))) ≡ result_err read
fault_more l (Ok ls) = refl
fault_more l (Err fault) = refl

-- an edge between numbers does not change the first fault
pub skip_good : (most : ℕ) (l : PlacedLink) (e : NamedEdge) (edges rest : List NamedEdge) → edges ≡ e ∷ rest → link_of most e ≡ Ok l → result_err (links_in most edges) ≡ result_err (links_in most rest)
skip_good most l e edges rest shape made = rw (shape, made) (fault_more l (links_in most rest))

-- a bad edge at the front is the first
pub stop_bad : (most : ℕ) (fault : NumberFault) (e : NamedEdge) (edges rest : List NamedEdge) → edges ≡ e ∷ rest → link_of most e ≡ Err fault → result_err (links_in most edges) ≡ Some fault
stop_bad most fault e edges rest shape made = rw (shape, made) refl

-- one link more asks for no other nodes
pub nodes_more : (ps now : List PlacedLink) (p : PlacedLink) → now ≡ ps ++ p ∷ [] → nodes_of now ≡ with_ends_of (nodes_of ps) p
nodes_more ps now p is = ap nodes_of is ∙ fold-append with_ends_of 0 ps (p ∷ [])

-- ---- a name is a number where its digits say a weight that is less than a network may have nodes

abbrev said : List ℕ → Bool → Bool → ℕ → Result Weight WeightFault
said name whole small k = if not whole then Err (bad_weight name) else if small then Ok (record { value = k; exact = true }) else Err WeightTooLarge

value_said : (name : List ℕ) (whole small : Bool) (k : ℕ) (w : Weight) → said name whole small k ≡ Ok w → (whole ≡ true) × (k ≡ w.value)
value_said name false small k w h = cc
value_said name true false k w h = cc
value_said name true true k w h = (refl, cc)

bad_is_small : (name : List ℕ) → bad_weight name ≡ WeightTooLarge → ⊥
bad_is_small name h = by (is_negative name) (is_number name) h where
  by : (negative number : Bool) → (if negative then Negative else if number then Decimal else BadWeight) ≡ WeightTooLarge → ⊥
  by true number h = cc
  by false true h = cc
  by false false h = cc

large_said : (name : List ℕ) (whole small : Bool) (k : ℕ) → said name whole small k ≡ Err WeightTooLarge → (whole ≡ true) × (small ≡ false)
large_said name false small k h = (let same : bad_weight name ≡ WeightTooLarge = cc in absurd (bad_is_small name same))
large_said name true true k h = cc
large_said name true false k h = (refl, refl)

none_said : (name : List ℕ) (whole small : Bool) (k : ℕ) (fault : WeightFault) → said name whole small k ≡ Err fault → (fault ≡ WeightTooLarge → ⊥) → whole ≡ false
none_said name false small k fault h other = refl
none_said name true true k fault h other = cc
none_said name true false k fault h other = (let same : fault ≡ WeightTooLarge = cc in absurd (other same))

module _ (most : ℕ) (small_most : most ≤ most_weight + 1) (line : ℕ) (name : List ℕ) where
  abbrev small : Bool
  small = nat_le (digits_value 10 name) most_weight

  pub is_number_of : (w : Weight) → weight_of None name ≡ Ok w → w.value < most → Ok w.value ≡ number_of most line name
  is_number_of w h low =
      let t = value_said name (is_whole name) small (digits_value 10 name) w h in
      let is = t.1 in
      let few : nat_lt (digits_value 10 name) most ≡ true = lt-ltb (digits_value 10 name) most (omega (arith, is, low)) in
      rw (t.0, few, is) refl

  pub is_past : (w : Weight) → weight_of None name ≡ Ok w → most ≤ w.value → Err (NumberTooLarge line) ≡ number_of most line name
  is_past w h high =
      let t = value_said name (is_whole name) small (digits_value 10 name) w h in
      let is = t.1 in
      let many : nat_lt (digits_value 10 name) most ≡ false = le-ltb (digits_value 10 name) most (omega (arith, is, high)) in
      rw (t.0, many) refl

  pub is_large : weight_of None name ≡ Err WeightTooLarge → Err (NumberTooLarge line) ≡ number_of most line name
  is_large h =
      let t = large_said name (is_whole name) small (digits_value 10 name) h in
      let past = leb-false (digits_value 10 name) most_weight t.1 in
      let many : nat_lt (digits_value 10 name) most ≡ false = le-ltb (digits_value 10 name) most (omega (arith, past)) in
      rw (t.0, many) refl

  pub is_none : (fault : WeightFault) → weight_of None name ≡ Err fault → (fault ≡ WeightTooLarge → ⊥) → Err (NoNumber line) ≡ number_of most line name
  is_none fault h other =
      let t = none_said name (is_whole name) small (digits_value 10 name) fault h other in
      rw t refl

  pub is_fault : (fault : WeightFault) → weight_of None name ≡ Err fault → Err (number_fault line fault) ≡ number_of most line name
  is_fault WeightTooLarge h = is_large h
  is_fault Negative h = is_none Negative h (λ e. cc)
  is_fault Decimal h = is_none Decimal h (λ e. cc)
  is_fault BadWeight h = is_none BadWeight h (λ e. cc)
  is_fault TooManyDigits h = is_none TooManyDigits h (λ e. cc)
