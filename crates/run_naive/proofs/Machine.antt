-- What every step of the naive machine keeps.
use Rattle.std.proofs.Common.{◌≡◌, ℕ, ◌+◌, ◌<◌, ◌≤◌, ◌⊎◌, inl, inr, List, [], ◌∷◌, length, map, set, get_or, take, Option, Some, None, slice_get, Bool, true, false, nat_lt, if◌then◌else◌, refl, sym, ap, ◌∙◌, arith, zero-add}
use Rattle.std.proofs.lemmas.Bool.{cases_eq, cases_lt, ltb-true}
use Rattle.std.proofs.lemmas.List.{get_or-set_same, get_or-set_other, length-set, length-map}
use Rattle.std.proofs.lemmas.List.FromFn.{get_or-map-range_with_len, length-map-range_with_len}
use Rattle.std.proofs.lemmas.List.Sums.{fold_more}
use Rattle.std.proofs.lemmas.Option.{get_or_from_slice_get, slice_get_within}
use Rattle.std.proofs.Math.Seq.{set_out}
use Rattle.rule_check.specs.Value.{Rules}
use Rattle.rule_check.specs.declared.state.Near.{Near}
use Rattle.link_net.specs.Neighbours.{degree, row, slot_at}
use Rattle.rounds_plan.specs.Lockstep.{near_at, state_in}
use Rattle.rounds_plan.specs.Plans.{PlanView}
use Rattle.unison_world.specs.declared.step.Step.{Step}
use Rattle.unison_world.specs.declared.step.Step.TheVariants.{Read, Write}
use Rattle.run_naive.specs.Naive.{NaiveNode, after, after_read, after_write, moved, node_in, nobody, opening_node, opening_nodes, run, state_now, with_copy}
use Rattle.run_naive.specs.Differences.{nodes_after}
use Rattle.run_naive.specs.Keeping.{IsNaive}

-- an element that is set, and all others
pub set_cases : {X : Type 0} (xs : List X) (v : ℕ) (b d : X) (u : ℕ) → v < length xs
    → ((u ≡ v) × (get_or (set xs v b) u d ≡ b)) ⊎ ((u ≡ v → ⊥) × (get_or (set xs v b) u d ≡ get_or xs u d))
set_cases {X} xs v b d u inside = elim (cases_eq u v) as (λ _. ((u ≡ v) × (get_or (set xs v b) u d ≡ b)) ⊎ ((u ≡ v → ⊥) × (get_or (set xs v b) u d ≡ get_or xs u d))) [
  | inl same ↦ inl (same, ap (λ (i : ℕ). get_or (set xs v b) i d) same ∙ get_or-set_same xs v b d inside)
  | inr apart ↦ inr (apart, get_or-set_other xs v u b d apart)
]

-- what holds of one node
record Fits (p : PlanView) (stop u : ℕ) (n : NaiveNode) : Type 0 where
  pub started : p.start ≤ n.moves
  pub within : n.moves ≤ stop
  pub slots : length n.desk ≡ degree p.network u

fits_at : (p : PlanView) (stop : ℕ) (nodes : List NaiveNode) (u : ℕ) → IsNaive p stop nodes → u < length p.network → Fits p stop u (node_in nodes u)
fits_at p stop nodes u is inside = record { started = is.started u inside; within = is.within u inside; slots = is.slots u inside }

naive_by : (p : PlanView) (stop : ℕ) (nodes : List NaiveNode) → length nodes ≡ length p.network → ((u : ℕ) → u < length p.network → Fits p stop u (node_in nodes u)) → IsNaive p stop nodes
naive_by p stop nodes count each = record {
  one_each = count;
  started = λ u h. (each u h).started;
  within = λ u h. (each u h).within;
  slots = λ u h. (each u h).slots;
}

same_fits : (p : PlanView) (stop u v : ℕ) (a b : NaiveNode) → v ≡ u → a ≡ b → Fits p stop u b → Fits p stop v a
same_fits p stop u v a b where_ is fits = record {
  started = omega (arith, ap (λ (n : NaiveNode). n.moves) is, fits.started);
  within = omega (arith, ap (λ (n : NaiveNode). n.moves) is, fits.within);
  slots = ap (λ (n : NaiveNode). length n.desk) is ∙ fits.slots ∙ ap (degree p.network) (sym where_);
}

set_naive : (p : PlanView) (stop : ℕ) (nodes : List NaiveNode) (u : ℕ) (n : NaiveNode) → IsNaive p stop nodes → u < length p.network → Fits p stop u n → IsNaive p stop (set nodes u n)
set_naive p stop nodes u n is inside fits =
    naive_by p stop (set nodes u n) (length-set nodes u n ∙ is.one_each)
    (λ v h. elim (set_cases nodes u n nobody v (omega (arith, is.one_each, inside))) as (λ _. Fits p stop v (node_in (set nodes u n) v)) [
      | inl here ↦ same_fits p stop u v (node_in (set nodes u n) v) n here.0 here.1 fits
      | inr other ↦ same_fits p stop v v (node_in (set nodes u n) v) (node_in nodes v) refl other.1 (fits_at p stop nodes v is h)
    ])

set_any : (p : PlanView) (stop : ℕ) (nodes : List NaiveNode) (u : ℕ) (n : NaiveNode) → IsNaive p stop nodes → (u < length p.network → Fits p stop u n) → IsNaive p stop (set nodes u n)
set_any p stop nodes u n is fits = elim (cases_lt u (length p.network)) as (λ _. IsNaive p stop (set nodes u n)) [
  | inl inside ↦ set_naive p stop nodes u n is inside (fits inside)
  | inr past ↦ rw (set_out nodes u n (omega (arith, past, is.one_each))) is
]

read_naive : (p : PlanView) (stop : ℕ) (nodes : List NaiveNode) (u j : ℕ) (link : Option (ℕ × ℕ)) → IsNaive p stop nodes → IsNaive p stop (after_read nodes u j link)
read_naive p stop nodes u j None is = is
read_naive p stop nodes u j (Some link) is =
    set_any p stop nodes u (with_copy j (near_at (state_now nodes) link) (node_in nodes u)) is
    (λ inside.
    let old = fits_at p stop nodes u is inside in
    record { started = old.started; within = old.within; slots = length-set (node_in nodes u).desk j (near_at (state_now nodes) link) ∙ old.slots })

move_naive : (p : PlanView) (stop : ℕ) (nodes : List NaiveNode) (u : ℕ) (n : NaiveNode) (b : Bool) → nat_lt n.moves stop ≡ b → slice_get nodes u ≡ Some n → IsNaive p stop nodes
    → IsNaive p stop (if b then set nodes u (moved p.program u n) else nodes)
move_naive p stop nodes u n false below there is = is
move_naive p stop nodes u n true below there is =
    let same : node_in nodes u ≡ n = get_or_from_slice_get nodes u n nobody there in
    let lower : n.moves < stop = ltb-true n.moves stop below in
    set_any p stop nodes u (moved p.program u n) is
    (λ inside.
    let old = same_fits p stop u u n (node_in nodes u) refl (sym same) (fits_at p stop nodes u is inside) in
    record { started = omega (arith, old.started); within = omega (arith, lower); slots = old.slots })

write_naive : (p : PlanView) (stop : ℕ) (nodes : List NaiveNode) (u : ℕ) (o : Option NaiveNode) → slice_get nodes u ≡ o → IsNaive p stop nodes → IsNaive p stop (after_write p.program stop nodes u o)
write_naive p stop nodes u None there is = is
write_naive p stop nodes u (Some n) there is = move_naive p stop nodes u n (nat_lt n.moves stop) refl there is

after_naive : (p : PlanView) (stop : ℕ) (nodes : List NaiveNode) (step : Step) → IsNaive p stop nodes → IsNaive p stop (after p stop nodes step)
after_naive p stop nodes (Read u j) is = read_naive p stop nodes u j (slot_at p.network u j) is
after_naive p stop nodes (Write u) is = write_naive p stop nodes u (slice_get nodes u) refl is

run_naive : (p : PlanView) (stop : ℕ) (nodes : List NaiveNode) (steps : List Step) → IsNaive p stop nodes → IsNaive p stop (run p stop nodes steps)
run_naive p stop nodes [] is = is
run_naive p stop nodes (step ∷ steps) is = run_naive p stop (after p stop nodes step) steps (after_naive p stop nodes step is)

-- a node before any step
pub opening_at : (p : PlanView) (u : ℕ) → u < length p.network → node_in (opening_nodes p) u ≡ opening_node p u
opening_at p u inside = get_or-map-range_with_len (opening_node p) 0 (length p.network) u u nobody inside (zero-add u)

opening_naive : (p : PlanView) (stop : ℕ) → p.start ≤ stop → IsNaive p stop (opening_nodes p)
opening_naive p stop late =
    naive_by p stop (opening_nodes p) (length-map-range_with_len (opening_node p) 0 (length p.network))
    (λ u h.
    same_fits p stop u u (node_in (opening_nodes p) u) (opening_node p u) refl (opening_at p u h)
    (record { started = omega arith; within = late; slots = length-map (row p.network u) (near_at (state_in p.opening)) }))

-- after any number of steps
pub naive_after : (p : PlanView) (stop : ℕ) (steps : List Step) (k : ℕ) → p.start ≤ stop → IsNaive p stop (nodes_after p stop steps k)
naive_after p stop steps k late = run_naive p stop (opening_nodes p) (take k steps) (opening_naive p stop late)

-- one step more
pub after_more : (p : PlanView) (stop : ℕ) (steps : List Step) (k : ℕ) (d : Step) → k < length steps → nodes_after p stop steps (k + 1) ≡ after p stop (nodes_after p stop steps k) (get_or steps k d)
after_more p stop steps k d h = fold_more (after p stop) (opening_nodes p) steps k d h
