-- How the moves that are kept grow.
use Rattle.std.proofs.Common.{◌≡◌, ℕ, ◌+◌, ◌<◌, ◌≤◌, ◌⊎◌, inl, inr, List, [], ◌∷◌, ◌++◌, length, map, set, get_or, Option, Some, None, slice_get, Bool, true, false, nat_lt, if◌then◌else◌, refl, sym, ap, ◌∙◌, subst, arith}
use Rattle.std.proofs.lemmas.Bool.{cases_eq, cases_lt, ltb-true}
use Rattle.std.proofs.lemmas.List.{get_or-set_same, get_or-set_other, get_or_append_left, get_or_at, length-append, length-set, length-map}
use Rattle.std.proofs.lemmas.Option.{get_or_from_slice_get, slice_get_within}
use Rattle.std.proofs.Math.Seq.{set_out}
use Rattle.link_net.specs.Neighbours.{slot_at}
use Rattle.rounds_plan.specs.Lockstep.{near_at, state_in}
use Rattle.rounds_plan.specs.Plans.{PlanView}
use Rattle.rule_check.specs.declared.state.State.{State}
use Rattle.unison_world.specs.declared.step.Step.{Step}
use Rattle.unison_world.specs.declared.step.Step.TheVariants.{Read, Write}
use Rattle.run_naive.specs.declared.node.Move.{Move}
use Rattle.run_naive.specs.Naive.{NaiveNode, after, after_read, after_write, moved, node_in, nobody, opening_node, opening_nodes, state_now, with_copy}
use Rattle.run_naive.specs.Keeping.{HasCome, IsKept, IsMade, IsNaive, IsReached, made_by, no_move, past_in, pasts_after, pasts_after_write}
use Rattle.run_naive.proofs.Machine.{opening_at, set_cases}

-- the same count and the same state
pub record AreAlike (a b : NaiveNode) : Type 0 where
  pub moves : a.moves ≡ b.moves
  pub state : a.state ≡ b.state

abbrev at_place : List (List Move) → ℕ → ℕ → Move
at_place pasts u i = get_or (past_in pasts u) i no_move

-- all moves stay in their places
record Grows (old new : List (List Move)) : Type 0 where
  pub longer : (u : ℕ) → length (past_in old u) ≤ length (past_in new u)
  pub same : (u i : ℕ) → i < length (past_in old u) → at_place new u i ≡ at_place old u i

later_made : (p : PlanView) (at : ℕ → List NaiveNode) (k l u i : ℕ) (m n : Move) → k ≤ l → n ≡ m → IsMade p at k u i m → IsMade p at l u i n
later_made p at k l u i m n late same made = subst (IsMade p at l u i) (sym same) (record { early = omega (arith, made.early, late); moves = made.moves; state = made.state })

later_come : (p : PlanView) (old new : List (List Move)) (j l u : ℕ) (a b : NaiveNode) → Grows old new → j ≤ l → AreAlike b a → HasCome p old j u a → HasCome p new l u b
later_come p old new j l u a b grows late alike (inl none) = inl (alike.moves ∙ none.0, alike.state ∙ none.1)
later_come p old new j l u a b grows late alike (inr come) = inr (record {
  place = come.place;
  there = omega (arith, come.there, grows.longer u);
  moves = alike.moves ∙ come.moves;
  state = alike.state ∙ come.state ∙ ap (λ (m : Move). m.state) (sym (grows.same u come.place come.there));
  early = omega (arith, come.early, late, ap (λ (m : Move). m.step) (grows.same u come.place come.there));
})

-- before any step
pub kept_none : (p : PlanView) (at : ℕ → List NaiveNode) (pasts : List (List Move)) → at 0 ≡ opening_nodes p → length pasts ≡ length p.network
    → ((u : ℕ) → past_in pasts u ≡ []) → IsKept p at 0 pasts
kept_none p at pasts first count none = record {
  one_each = count;
  count = λ u h. (let is = opened u h in omega (arith, ap (λ (n : NaiveNode). n.moves) is, ap length (none u)));
  made = λ u i h there. absurd (omega (arith, there, ap length (none u)));
  come = λ j u early h.
      (let zero_j : j ≡ 0 = omega (arith, early) in
      let is = ap (λ (k : ℕ). node_in (at k) u) zero_j ∙ opened u h in
      inl (ap (λ (n : NaiveNode). n.moves) is, ap (λ (n : NaiveNode). n.state) is));
}
  where
    opened : (u : ℕ) → u < length p.network → node_in (at 0) u ≡ opening_node p u
    opened u h = ap (λ ns. node_in ns u) first ∙ opening_at p u h

module _ (p : PlanView) (at : ℕ → List NaiveNode) (k : ℕ) (pasts : List (List Move)) (kept : IsKept p at k pasts) where
  -- a step that moves no node
  kept_still : ((u : ℕ) → u < length p.network → AreAlike (node_in (at (k + 1)) u) (node_in (at k) u)) → IsKept p at (k + 1) pasts
  kept_still alike = record {
    one_each = kept.one_each;
    count = λ u h. (alike u h).moves ∙ kept.count u h;
    made = λ u i h there. later_made p at k (k + 1) u i (at_place pasts u i) (at_place pasts u i) (omega arith) refl (kept.made u i h there);
    come = λ j u early h. elim (cases_lt j (k + 1)) as (λ _. HasCome p pasts j u (node_in (at j) u)) [
      | inl below ↦ kept.come j u (omega (arith, below)) h
      | inr last ↦
          (let here : k + 1 ≡ j = omega (arith, early, last) in
          subst (λ (l : ℕ). HasCome p pasts l u (node_in (at l) u)) here
          (later_come p pasts pasts k (k + 1) u (node_in (at k) u) (node_in (at (k + 1)) u) stays (omega arith) (alike u h) (kept.come k u (omega arith) h)))
    ];
  }
    where
      stays : Grows pasts pasts
      stays = record { longer = λ u. omega arith; same = λ u i h. refl }

  module _ (mover : ℕ) (m : Move) (inside : mover < length p.network) where
    abbrev longer_past : List Move
    longer_past = past_in pasts mover ++ m ∷ []

    abbrev more : List (List Move)
    more = set pasts mover longer_past

    past_cases : (u : ℕ) → ((u ≡ mover) × (past_in more u ≡ longer_past)) ⊎ ((u ≡ mover → ⊥) × (past_in more u ≡ past_in pasts u))
    past_cases u = set_cases pasts mover longer_past [] u (omega (arith, inside, kept.one_each))

    long : length longer_past ≡ length (past_in pasts mover) + 1
    long = length-append (past_in pasts mover) (m ∷ [])

    grows : Grows pasts more
    grows = record {
      longer = λ u. elim (past_cases u) as (λ _. length (past_in pasts u) ≤ length (past_in more u)) [
        | inl here ↦ omega (arith, ap length here.1, ap (λ (v : ℕ). length (past_in pasts v)) here.0, long)
        | inr other ↦ omega (arith, ap length other.1)
      ];
      same = λ u i there. elim (past_cases u) as (λ _. at_place more u i ≡ at_place pasts u i) [
        | inl here ↦
            ap (λ (ms : List Move). get_or ms i no_move) here.1
            ∙ get_or_append_left (past_in pasts mover) (m ∷ []) no_move i (omega (arith, there, ap (λ (v : ℕ). length (past_in pasts v)) here.0))
            ∙ ap (λ (v : ℕ). at_place pasts v i) (sym here.0)
        | inr other ↦ ap (λ (ms : List Move). get_or ms i no_move) other.1
      ];
    }

    module _ (step : m.step ≡ k + 1) (own_moves : (node_in (at (k + 1)) mover).moves ≡ (node_in (at k) mover).moves + 1)
        (own_state : (node_in (at (k + 1)) mover).state ≡ m.state)
        (others : (u : ℕ) → u < length p.network → (u ≡ mover → ⊥) → AreAlike (node_in (at (k + 1)) u) (node_in (at k) u)) where
      last_move : at_place more mover (length (past_in pasts mover)) ≡ m
      last_move =
          ap (λ (ms : List Move). get_or ms (length (past_in pasts mover)) no_move) (get_or-set_same pasts mover longer_past [] (omega (arith, inside, kept.one_each)))
          ∙ get_or_at (past_in pasts mover) m [] no_move (length (past_in pasts mover)) refl

      last_made : IsMade p at (k + 1) mover (length (past_in pasts mover)) m
      last_made = record {
        early = omega (arith, step);
        moves = ap (λ (l : ℕ). (node_in (at l) mover).moves) step ∙ own_moves ∙ (let e = kept.count mover inside in omega (arith, e));
        state = ap (λ (l : ℕ). (node_in (at l) mover).state) step ∙ own_state;
      }

      made_own : (i : ℕ) → i < length (past_in more mover) → IsMade p at (k + 1) mover i (at_place more mover i)
      made_own i there = elim (cases_lt i (length (past_in pasts mover))) as (λ _. IsMade p at (k + 1) mover i (at_place more mover i)) [
        | inl old ↦ later_made p at k (k + 1) mover i (at_place pasts mover i) (at_place more mover i) (omega arith) (grows.same mover i old) (kept.made mover i inside old)
        | inr new ↦
            (let whole = ap length (get_or-set_same pasts mover longer_past [] (omega (arith, inside, kept.one_each))) in
            let here : length (past_in pasts mover) ≡ i = omega (arith, new, there, whole, long) in
            subst (λ (l : ℕ). IsMade p at (k + 1) mover l (at_place more mover l)) here (subst (IsMade p at (k + 1) mover (length (past_in pasts mover))) (sym last_move) last_made))
      ]

      come_last : (u : ℕ) → u < length p.network → HasCome p more (k + 1) u (node_in (at (k + 1)) u)
      come_last u h = elim (past_cases u) as (λ _. HasCome p more (k + 1) u (node_in (at (k + 1)) u)) [
        | inl here ↦
            subst (λ (v : ℕ). HasCome p more (k + 1) v (node_in (at (k + 1)) v)) (sym here.0)
            (inr (record {
              place = length (past_in pasts mover);
              there = omega (arith, ap length (get_or-set_same pasts mover longer_past [] (omega (arith, inside, kept.one_each))), long);
              moves = own_moves ∙ (let e = kept.count mover inside in omega (arith, e));
              state = own_state ∙ ap (λ (x : Move). x.state) (sym last_move);
              early = omega (arith, step, ap (λ (x : Move). x.step) last_move);
            }))
        | inr other ↦ later_come p pasts more k (k + 1) u (node_in (at k) u) (node_in (at (k + 1)) u) grows (omega arith) (others u h other.0) (kept.come k u (omega arith) h)
      ]

      same_node : (a : NaiveNode) → AreAlike a a
      same_node a = record { moves = refl; state = refl }

      -- a step that moves a node
      kept_moved : IsKept p at (k + 1) more
      kept_moved = record {
        one_each = length-set pasts mover longer_past ∙ kept.one_each;
        count = λ u h. elim (past_cases u) as (λ _. (node_in (at (k + 1)) u).moves ≡ p.start + length (past_in more u)) [
          | inl here ↦
              ap (λ (v : ℕ). (node_in (at (k + 1)) v).moves) here.0 ∙ own_moves
              ∙ (let e = kept.count mover inside in omega (arith, e, ap length here.1, long))
          | inr other ↦ (others u h other.0).moves ∙ kept.count u h ∙ ap (λ (ms : List Move). p.start + length ms) (sym other.1)
        ];
        made = λ u i h there. elim (past_cases u) as (λ _. IsMade p at (k + 1) u i (at_place more u i)) [
          | inl here ↦
              subst (λ (v : ℕ). IsMade p at (k + 1) v i (at_place more v i)) (sym here.0)
              (made_own i (omega (arith, there, ap (λ (v : ℕ). length (past_in more v)) here.0)))
          | inr other ↦
              (let old : i < length (past_in pasts u) = omega (arith, there, ap length other.1) in
              later_made p at k (k + 1) u i (at_place pasts u i) (at_place more u i) (omega arith) (grows.same u i old) (kept.made u i h old))
        ];
        come = λ j u early h. elim (cases_lt j (k + 1)) as (λ _. HasCome p more j u (node_in (at j) u)) [
          | inl below ↦ later_come p pasts more j j u (node_in (at j) u) (node_in (at j) u) grows (omega arith) (same_node (node_in (at j) u)) (kept.come j u (omega (arith, below)) h)
          | inr last ↦ (let here : k + 1 ≡ j = omega (arith, early, last) in subst (λ (l : ℕ). HasCome p more l u (node_in (at l) u)) here (come_last u h))
        ];
      }

alike_by : (a b : NaiveNode) → a ≡ b → AreAlike a b
alike_by a b same = record { moves = ap (λ (n : NaiveNode). n.moves) same; state = ap (λ (n : NaiveNode). n.state) same }

-- where a node gets another desk alone, all are alike
alike_set : (nodes : List NaiveNode) (u : ℕ) (n : NaiveNode) → AreAlike n (node_in nodes u) → (v : ℕ) → AreAlike (node_in (set nodes u n) v) (node_in nodes v)
alike_set nodes u n alike v = elim (cases_lt u (length nodes)) as (λ _. AreAlike (node_in (set nodes u n) v) (node_in nodes v)) [
  | inl inside ↦ elim (set_cases nodes u n nobody v inside) as (λ _. AreAlike (node_in (set nodes u n) v) (node_in nodes v)) [
    | inl here ↦ record {
      moves = ap (λ (x : NaiveNode). x.moves) here.1 ∙ alike.moves ∙ ap (λ (w : ℕ). (node_in nodes w).moves) (sym here.0);
      state = ap (λ (x : NaiveNode). x.state) here.1 ∙ alike.state ∙ ap (λ (w : ℕ). (node_in nodes w).state) (sym here.0);
    }
    | inr other ↦ alike_by (node_in (set nodes u n) v) (node_in nodes v) other.1
  ]
  | inr past ↦ alike_by (node_in (set nodes u n) v) (node_in nodes v) (ap (λ ns. node_in ns v) (set_out nodes u n past))
]

module _ (p : PlanView) (stop : ℕ) (at : ℕ → List NaiveNode) (k : ℕ) (pasts : List (List Move)) (naive : IsNaive p stop (at k)) (kept : IsKept p at k pasts) where
  kept_same : at (k + 1) ≡ at k → IsKept p at (k + 1) pasts
  kept_same same = kept_still p at k pasts kept (λ u h. alike_by (node_in (at (k + 1)) u) (node_in (at k) u) (ap (λ ns. node_in ns u) same))

  kept_read : (u j : ℕ) (link : Option (ℕ × ℕ)) → at (k + 1) ≡ after_read (at k) u j link → IsKept p at (k + 1) pasts
  kept_read u j None is = kept_same is
  kept_read u j (Some link) is =
      let n = with_copy j (near_at (state_now (at k)) link) (node_in (at k) u) in
      kept_still p at k pasts kept (λ v h. subst (λ ns. AreAlike (node_in ns v) (node_in (at k) v)) (sym is) (alike_set (at k) u n (record { moves = refl; state = refl }) v))

  kept_move : (u : ℕ) (n : NaiveNode) (b : Bool) → slice_get (at k) u ≡ Some n → at (k + 1) ≡ (if b then set (at k) u (moved p.program u n) else at k)
      → IsKept p at (k + 1) (if b then set pasts u (past_in pasts u ++ made_by p.program u (k + 1) n ∷ []) else pasts)
  kept_move u n false there is = kept_same is
  kept_move u n true there is =
      let within : u < length (at k) = slice_get_within (at k) u n there in
      let own : node_in (at k) u ≡ n = get_or_from_slice_get (at k) u n nobody there in
      let new : node_in (at (k + 1)) u ≡ moved p.program u n =
      ap (λ ns. node_in ns u) is ∙ get_or-set_same (at k) u (moved p.program u n) nobody within in
      kept_moved p at k pasts kept u (made_by p.program u (k + 1) n) (omega (arith, within, naive.one_each)) refl
      (ap (λ (x : NaiveNode). x.moves) new ∙ ap (λ (x : NaiveNode). x.moves + 1) (sym own))
      (ap (λ (x : NaiveNode). x.state) new)
      (λ v h apart. alike_by (node_in (at (k + 1)) v) (node_in (at k) v) (ap (λ ns. node_in ns v) is ∙ get_or-set_other (at k) u v (moved p.program u n) nobody apart))

  kept_write : (u : ℕ) (o : Option NaiveNode) → slice_get (at k) u ≡ o → at (k + 1) ≡ after_write p.program stop (at k) u o
      → IsKept p at (k + 1) (pasts_after_write p.program stop (k + 1) u o pasts)
  kept_write u None there is = kept_same is
  kept_write u (Some n) there is = kept_move u n (nat_lt n.moves stop) there is

  -- one step more
  pub kept_more : (step : Step) → at (k + 1) ≡ after p stop (at k) step → IsKept p at (k + 1) (pasts_after p stop (at k) (k + 1) step pasts)
  kept_more (Read u j) is = kept_read u j (slot_at p.network u j) is
  kept_more (Write u) is = kept_write u (slice_get (at k) u) refl is
