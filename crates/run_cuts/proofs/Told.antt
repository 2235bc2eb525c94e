-- What is told by tallies is what is told of occasions.
use Rattle.std.proofs.Common.{◌≡◌, ℕ, ◌+◌, ◌-◌, ◌*◌, ◌^◌, ◌<◌, ◌≤◌, List, [], ◌∷◌, ◌++◌, length, map, suc, refl, sym, ap, ◌∙◌, arith, add-zero, min, length-append}
use Rattle.std.specs.Prelude.{Bool, true, false, cond, ◌==◌, if◌then◌else◌}
use Rattle.std.proofs.lemmas.Bool.Decides.{nat_tests}
use Rattle.std.specs.List.{fold, filter, flat_map, range_with_len, enumerate_from}
use Rattle.std.proofs.lemmas.List.Sums.{length-filter, count_by-le-length}
use Rattle.std.proofs.lemmas.List.FromFn.{length-map-range_with_len, length-range_with_len}
use Rattle.link_net.specs.Neighbours.{AreRows}
use Rattle.rounds_plan.specs.Configs.{most_rounds}
use Rattle.rounds_plan.specs.Plans.{PlanView}
use Rattle.run_cuts.specs.declared.cut.Cut.{Cut}
use Rattle.run_cuts.specs.declared.operators.Operator.{Operator}
use Rattle.run_cuts.specs.declared.tally.Tally.{Tally}
use Rattle.run_cuts.specs.Operators.{OperatorTree}
use Rattle.run_cuts.specs.Cuts.{Occasion, occasion, here_in, is_cut, is_asked, kind_of, told_of, step_occasions, occasions}
use Rattle.run_cuts.specs.Counting.{after_all, form_of, fresh, noted, operator_of, told_by}

not_zero : (n : ℕ) → (suc n == 0) ≡ false
not_zero n = grind (arith, nat_tests)

-- a tally that has a first occasion already
later : (n r v : ℕ) (os : List Occasion) → suc n + length os < 2 ^ 64 → fold noted (record { times = suc n; round = r; node = v }) os ≡ record { times = suc n + length os; round = r; node = v }
later n r v [] few = ap (λ k. record { times = k; round = r; node = v }) (sym (add-zero (suc n)))
later n r v (o ∷ os) few =
    let next : min (suc n + 1) (2 ^ 64 - 1) ≡ suc (suc n) = omega arith in
    let all : suc (suc n) + length os ≡ suc n + suc (length os) = omega arith in
    ap (λ (b : Bool). fold noted (if b then record { times = 1; round = o.round; node = o.node } else record { times = min (suc n + 1) (2 ^ 64 - 1); round = r; node = v }) os) (not_zero n)
    ∙ ap (λ k. fold noted (record { times = k; round = r; node = v }) os) next
    ∙ later (suc n) r v os (omega arith)
    ∙ ap (λ k. record { times = k; round = r; node = v }) all

-- what is told of an operator
told_one : (k : ℕ) (op : Operator) (os : List Occasion) → length os < 2 ^ 64
    → told_by (record { number = k; operator = op; tally = fold noted (record { times = 0; round = 0; node = 0 }) os }) ≡ told_of k (form_of op.form) os
told_one k op [] few = refl
told_one k op (o ∷ os) few =
    let tally : fold noted (record { times = 0; round = 0; node = 0 }) (o ∷ os) ≡ record { times = suc (length os); round = o.round; node = o.node } =
    later 0 o.round o.node os (omega arith) ∙ ap (λ n. record { times = n; round = o.round; node = o.node }) (omega arith) in
    ap (λ (t : Tally). told_by (record { number = k; operator = op; tally = t })) tally
    ∙ ap (λ (b : Bool). if b then [] else record { operator = k; kind = kind_of (form_of op.form); round = o.round; node = o.node; times = suc (length os) } ∷ []) (not_zero (length os))

-- what is told of operators
pub told_all : (occ : OperatorTree → List Occasion) (below : Bool) (k : ℕ) (ops : List Operator) → ((op : OperatorTree) → length (occ op) < 2 ^ 64)
    → flat_map told_by (map (after_all occ) (map fresh (filter (λ x. is_asked below (form_of x.1.form)) (enumerate_from k ops))))
    ≡ flat_map (λ x. told_of x.0 x.1.form (occ x.1)) (filter (λ x. is_asked below x.1.form) (enumerate_from k (map operator_of ops)))
told_all occ below k [] few = refl
told_all occ below k (op ∷ ops) few = at (is_asked below (form_of op.form)) (told_all occ below (k + 1) ops few) where
  rest : List (ℕ × Operator)
  rest = filter (λ x. is_asked below (form_of x.1.form)) (enumerate_from (k + 1) ops)

  others : List (ℕ × OperatorTree)
  others = filter (λ x. is_asked below x.1.form) (enumerate_from (k + 1) (map operator_of ops))

  at : (b : Bool) → flat_map told_by (map (after_all occ) (map fresh rest)) ≡ flat_map (λ x. told_of x.0 x.1.form (occ x.1)) others
      → flat_map told_by (map (after_all occ) (map fresh (cond b ((k, op) ∷ rest) rest))) ≡ flat_map (λ x. told_of x.0 x.1.form (occ x.1)) (cond b ((k, operator_of op) ∷ others) others)
  at true same =
      ap (λ (cuts : List Cut). cuts ++ flat_map told_by (map (after_all occ) (map fresh rest))) (told_one k op (occ (operator_of op)) (few (operator_of op)))
      ∙ ap (λ (cuts : List Cut). told_of k (form_of op.form) (occ (operator_of op)) ++ cuts) same
  at false same = same

-- at most so many in each part
flat_few : (f : ℕ → List Occasion) (ts : List ℕ) → ((t : ℕ) → length (f t) ≤ 4294967295) → length (flat_map f ts) ≤ length ts * 4294967295
flat_few f [] few = omega arith
flat_few f (t ∷ ts) few =
    let head = few t in
    let rest = flat_few f ts few in
    omega (arith, length-append (f t) (flat_map f ts), head, rest)

step_few : (p : PlanView) (op : OperatorTree) (t : ℕ) → AreRows p.network → length (step_occasions p op t) ≤ 4294967295
step_few p op t network =
    let all : List Occasion = map (occasion t) (range_with_len 0 (length p.network)) in
    let kept = length-filter (λ o. is_cut (here_in p t o.node) op) all in
    let few = count_by-le-length (λ o. is_cut (here_in p t o.node) op) all in
    let long = length-map-range_with_len (occasion t) 0 (length p.network) in
    omega (arith, kept, few, long, network.nodes)

-- a count of them fits
pub occasions_few : (p : PlanView) (T : ℕ) (op : OperatorTree) → AreRows p.network → T ≤ most_rounds → length (occasions p T op) < 2 ^ 64
occasions_few p T op network few =
    let all = flat_few (step_occasions p op) (range_with_len p.start (T - p.start)) (λ t. step_few p op t network) in
    let long = length-range_with_len p.start (T - p.start) in
    omega (arith, all, long, few)
