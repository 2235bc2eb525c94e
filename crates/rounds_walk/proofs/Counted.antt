-- Counts in a map, as a list.
use Rattle.std.proofs.Common.{◌≡◌, ◌<◌, ◌≤◌, ℕ, true, List, length, get_or, sym, ap, subst, ◌∙◌, refl, arith, cond, false, Option, Some, None, unwrap_or, IsSome, IfSome, zero, Bool, suc, []}
use Rattle.std.proofs.Common.{◌∷◌}
use Rattle.std.specs.BTreeMap.{BTreeMap, IsOrdered, get}
use Rattle.std.specs.Ordering.{nat_cmp}
use Rattle.std.specs.List.{filter}
use Rattle.std.proofs.lemmas.List.Sums.{length-filter}
use Rattle.std.proofs.lemmas.Cmp.{nat_cmp_total, nat_eq_equiv}
use Rattle.std.proofs.lemmas.Map.Lookups.{exact_unsigned}
use Rattle.std.proofs.lemmas.Map.Views.{All-found, btree_map_contains_key_iff}
use Rattle.rule_check.specs.declared.state.State.{State}
use Rattle.rounds_walk.specs.Counts.{AreCounts, IsTally, has_value}

-- where some number counts, it is there
some_of : (o : Option ℕ) → 1 ≤ unwrap_or o 0 → IsSome o
some_of None many = absurd (omega arith)
some_of (Some n) many = refl

-- a list with an element that passes keeps one at least
keeps_one : {X : Type 0} (p : X → Bool) (xs : List X) (i : ℕ) (d : X) → i < length xs → p (get_or xs i d) ≡ true → 1 ≤ length (filter p xs)
keeps_one p [] i d inside passes = absurd (omega arith)
keeps_one p (x ∷ xs) zero d inside passes = rw passes (omega arith)
keeps_one {X} p (x ∷ xs) (suc i) d inside passes =
    let more = keeps_one p xs i d (omega arith) passes in
    elim (p x) as (λ b. 1 ≤ length (cond b (x ∷ filter p xs) (filter p xs))) [ true ↦ omega arith | false ↦ more ]

-- the entries of a map with the counts of all values are their counts
pub counted : (field : ℕ) (states : List State) (m : BTreeMap ℕ ℕ) → IsOrdered nat_cmp m → IsTally field states (get nat_cmp m) → AreCounts field states m.entries
counted field states m ordered tally = record {
  rising = ordered;
  each = λ k d inside. sym (ap (λ o. unwrap_or o 0) (All-found nat_cmp_total m ordered k d inside)) ∙ tally.count (get_or m.entries k d).0;
  some = λ k d inside. subst (λ (o : Option ℕ). IfSome o (λ n. 1 ≤ n)) (All-found nat_cmp_total m ordered k d inside) (tally.some (get_or m.entries k d).0);
  all = λ k d inside.
      let value = get_or (get_or states k d).words field 0 in
      let many = keeps_one (has_value field value) states k d inside (nat_eq_equiv.refl value) in
      (btree_map_contains_key_iff nat_cmp_total exact_unsigned m value).0 (some_of (get nat_cmp m value) (omega (arith, many, length-filter (has_value field value) states, tally.count value)));
}
