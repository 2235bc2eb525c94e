use Rattle.std.proofs.Common.{◌≡◌, ◌∙◌, ◌<◌, ◌+◌, ◌-◌, ◌∷◌, ◌++◌, ℕ, List, [], ap, append_assoc, arith, map, sym}
use Rattle.std.specs.List.{range_with_len}
use Rattle.rounds_plan.specs.Plans.{PlanView}
use Rattle.rounds_walk.specs.Walking.{RoundView}
use Rattle.run_watch.specs.Spans.{count_of, round_at}
use Rattle.run_watch.proofs.Ranges.{map_left, round_rises}
use Rattle.serde_json.specs.Data.{Data}
use Rattle.serde_json.specs.View.{view}
use Rattle.run_page.specs.Pages.{numbers, values_at}
use Rattle.run_page.proofs.states.round_values.Goals as goal

pub loop-place-preserved : goal.loop-place-preserved
loop-place-preserved g c =
    let s = c.args.span.now in
    let l = c.loop-place in
    let k = l.place in
    let t = round_at s k in
    let plan = c.args.walk.now.plan in
    let fields = c.args.fields.now in
    let value = λ (r : ℕ). numbers (values_at plan fields r) in
    let e = c.in_ok-put_round.ensures in
    let old = map view l.items.items in
    let inside : k < count_of s = omega (arith, c.loop-place-test.true, l.auto.place-end, c.steps-place-end.ensures.steps) in
    let rest = map (round_at s) (range_with_len (k + 1) (count_of s - (k + 1))) in
    let round_is : c.round_at-round.result ≡ t = c.round_at-round.ensures.round in
    let walk_round : c.put_round.new.walk.round ≡ t = ap (λ (v : RoundView). v.round) e.walk ∙ round_is in
    let wrote : map view c.put_round.new.items.items ≡ old ++ value t ∷ [] =
    e.states
    ∙ ap (λ (p : PlanView). old ++ numbers (values_at p fields c.round_at-round.result) ∷ []) l.invariant.plan
    ∙ ap (λ (r : ℕ). old ++ value r ∷ []) round_is in
    record {
      plan = ap (λ (v : RoundView). v.plan) e.walk ∙ l.invariant.plan;
      late = λ _. omega (arith, walk_round, round_rises s k);
      states =
          ap (λ (ds : List Data). ds ++ map value rest) wrote
          ∙ append_assoc old (value t ∷ []) (map value rest)
          ∙ sym (ap (λ (rounds : List ℕ). old ++ map value rounds) (map_left (round_at s) k (count_of s) inside))
          ∙ l.invariant.states;
    }
