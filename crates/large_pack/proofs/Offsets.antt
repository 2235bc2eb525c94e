-- Where the arcs of each node begin.
use Rattle.std.proofs.Common.{◌≡◌, ◌∙◌, ℕ, ◌+◌, ◌-◌, ◌<◌, ◌≤◌, ◌==◌, Bool, true, false, List, [], ◌∷◌, length, get_or, zero, suc, nat_le, nat_lt, refl, sym, ap, take, drop, ◌++◌, subst, length-take, length-drop, append-nil, below_more, arith, inl, inr}
use Rattle.std.proofs.lemmas.Bool.{cases_Bool}
use Rattle.std.proofs.lemmas.Bool.Decides.{nat_tests}
use Rattle.std.specs.List.{filter, AllByRecursion}
use Rattle.std.specs.List.Sorted.{IsNonDecreasingBy}
use Rattle.std.proofs.lemmas.List.{get_or_default, get_or-take, get_or-drop, get_or_push, get_or_append_left, length_push}
use Rattle.std.proofs.lemmas.List.Edits.{split_between}
use Rattle.std.proofs.lemmas.List.Elements.{filter-append, All-from_recursion}
use Rattle.std.proofs.lemmas.List.Sorted.{IsNonDecreasingBy-from_default}
use Rattle.link_net.specs.Arcs.{Arc, IsFirst}
use Rattle.link_net.specs.Layout.{AreOffsets}
use Rattle.link_net.specs.Links.{AllWithin}

-- the arcs from a node, in their order
abbrev pub from_node : ℕ → List Arc → List Arc
from_node u arcs = filter (λ a. a.0 == u) arcs

filter_none : (p : Arc → Bool) (xs : List Arc) → ((k : ℕ) (d : Arc) → k < length xs → p (get_or xs k d) ≡ false) → filter p xs ≡ []
filter_none p [] none = refl
filter_none p (x ∷ xs) none = rw (none 0 x (omega arith)) (filter_none p xs (λ k d h. none (suc k) d (omega arith)))

filter_all : (p : Arc → Bool) (xs : List Arc) → ((k : ℕ) (d : Arc) → k < length xs → p (get_or xs k d) ≡ true) → filter p xs ≡ xs
filter_all p [] all = refl
filter_all p (x ∷ xs) all = rw (all 0 x (omega arith)) (ap (λ t. x ∷ t) (filter_all p xs (λ k d h. all (suc k) d (omega arith))))

-- the place from which on no arc comes from below u
pub is_first : (arcs : List Arc) (u i : ℕ) → IsNonDecreasingBy (λ a. a.0) arcs → i ≤ length arcs → ((k : ℕ) (d : Arc) → k < i → (get_or arcs k d).0 < u)
    → u ≤ (get_or arcs i (0, 0, 0)).0 → IsFirst arcs u i
is_first arcs u i up bound before here = record {
  bound = bound;
  before = before;
  after = λ k d low high.
      let same : get_or arcs i d ≡ get_or arcs i (0, 0, 0) = get_or_default arcs i d (0, 0, 0) (omega arith) in
      omega (arith, ap (λ (a : Arc). a.0) same, here, up i k d low high);
}

-- one more node's place
pub firsts_more : (arcs : List Arc) (offsets : List ℕ) (n i : ℕ) → length offsets ≡ n → ((u : ℕ) → u < n → IsFirst arcs u (get_or offsets u 0)) → IsFirst arcs n i
    → (length (offsets ++ i ∷ []) ≡ n + 1) × ((u : ℕ) → u < n + 1 → IsFirst arcs u (get_or (offsets ++ i ∷ []) u 0))
firsts_more arcs offsets n i count before here = (
  length_push offsets i ∙ ap (λ k. k + 1) count,
  below_more (λ u. IsFirst arcs u (get_or (offsets ++ i ∷ []) u 0)) n
      (λ u below. subst (IsFirst arcs u) (sym (get_or_append_left offsets (i ∷ []) 0 u (omega arith))) (before u below))
      (subst (IsFirst arcs n) (sym (get_or_push offsets i 0 n count)) here),
)

from_within : (n : ℕ) (arcs : List Arc) → AllWithin n arcs → AllByRecursion (λ a. a.0 < n) arcs
from_within n [] within = tt
from_within n (a ∷ arcs) within = (within.0.0, from_within n arcs within.1)

-- a lower node's arcs begin no later
firsts_in_order : (arcs : List Arc) (u v i j : ℕ) → u ≤ v → IsFirst arcs u i → IsFirst arcs v j → i ≤ j
firsts_in_order arcs u v i j order low high =
    elim (cases_Bool (nat_le i j)) [
      | inl fine ↦ grind (arith, nat_tests)
      | inr past ↦
          let lt : j < i = grind (arith, nat_tests) in
          absurd (omega (arith, low.bound, low.before j (0, 0, 0) lt, high.after j (0, 0, 0) (omega arith) (omega (arith, low.bound))))
    ]

-- the part between two nodes' places is the arcs from the first
pub part_is : (arcs : List Arc) (u i j : ℕ) → IsFirst arcs u i → IsFirst arcs (u + 1) j → take (j - i) (drop i arcs) ≡ from_node u arcs
part_is arcs u i j low high =
    let order = firsts_in_order arcs u (u + 1) i j (omega arith) low high in
    let p : Arc → Bool = λ a. a.0 == u in
    let front : filter p (take i arcs) ≡ [] = filter_none p (take i arcs) (λ k d h.
    let here : k < i = omega (arith, length-take i arcs) in
    rw (get_or-take i arcs k d here) (grind (arith, nat_tests, low.before k d here))) in
    let middle : filter p (take (j - i) (drop i arcs)) ≡ take (j - i) (drop i arcs) = filter_all p (take (j - i) (drop i arcs)) (λ k d h.
    let here : k < j - i = omega (arith, length-take (j - i) (drop i arcs)) in
    rw (get_or-take (j - i) (drop i arcs) k d here, get_or-drop i arcs k d)
    (grind (arith, nat_tests, low.after (i + k) d (omega arith) (omega (arith, high.bound)), high.before (i + k) d (omega arith)))) in
    let back : filter p (drop j arcs) ≡ [] = filter_none p (drop j arcs) (λ k d h.
    rw (get_or-drop j arcs k d) (grind (arith, nat_tests, high.after (j + k) d (omega arith) (omega (arith, length-drop j arcs))))) in
    let whole = split_between arcs i j order in
    let cut : filter p arcs ≡ take (j - i) (drop i arcs) =
    ap (filter p) whole ∙ filter-append p (take i arcs) _ ∙ rw (front, filter-append, back, append-nil) middle in
    sym cut

first_at_start : (arcs : List Arc) (i : ℕ) → IsFirst arcs 0 i → i ≡ 0
first_at_start arcs zero first = refl
first_at_start arcs (suc i) first = absurd (omega (arith, first.before 0 (0, 0, 0) (omega arith)))

first_past_all : (arcs : List Arc) (n i : ℕ) → AllByRecursion (λ a. a.0 < n) arcs → IsFirst arcs n i → i ≡ length arcs
first_past_all arcs n i below first =
    elim (cases_Bool (nat_lt i (length arcs))) [
      | inl short ↦
          let lt : i < length arcs = grind (arith, nat_tests) in
          absurd (omega (arith, first.after i (0, 0, 0) (omega arith) lt, All-from_recursion (λ a. a.0 < n) arcs below i (0, 0, 0) lt))
      | inr past ↦
          let ge : length arcs ≤ i = grind (arith, nat_tests) in
          omega (arith, first.bound)
    ]

-- the places at which each node's arcs begin are offsets
pub are_offsets : (arcs : List Arc) (offsets : List ℕ) (n : ℕ) → length offsets ≡ n + 1 → ((u : ℕ) → u < length offsets → IsFirst arcs u (get_or offsets u 0)) → AllWithin n arcs → AreOffsets offsets (length arcs)
are_offsets arcs offsets n count firsts within = record {
  some = omega arith;
  first = first_at_start arcs (get_or offsets 0 0) (firsts 0 (omega arith));
  last = at_end (length offsets - 1) (omega arith);
  rising = IsNonDecreasingBy-from_default (λ x. x) offsets 0 (λ i j order high. firsts_in_order arcs i j _ _ order (firsts i (omega arith)) (firsts j high));
} where
  at_end : (k : ℕ) → k ≡ n → get_or offsets k 0 ≡ length arcs
  at_end k is = first_past_all arcs n (get_or offsets k 0) (from_within n arcs within) (rw is (firsts n (omega arith)))
