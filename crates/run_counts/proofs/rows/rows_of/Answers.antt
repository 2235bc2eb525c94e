use Rattle.std.proofs.Common.{◌≡◌, ◌∙◌, ◌<◌, ◌+◌, ◌-◌, ◌++◌, ℕ, List, [], ◌∷◌, true, false, All, ap, arith, length, map, subst, sym}
use Rattle.std.specs.List.{range_with_len}
use Rattle.rounds_plan.specs.Configs.{Configuration}
use Rattle.rounds_plan.specs.Lockstep.{lockstep_config, lockstep_states}
use Rattle.rounds_plan.specs.Plans.{PlanView}
use Rattle.rounds_walk.specs.Walking.{RoundView}
use Rattle.run_watch.specs.Spans.{count_of, round_at, rounds_in}
use Rattle.run_watch.proofs.Ranges.{map_left, round_rises}
use Rattle.run_counts.specs.Rows.{IsRowOf, RowView, is_over, rounds_until}
use Rattle.run_counts.proofs.Steps.{each_pushed, ends, goes_on}
use Rattle.run_counts.proofs.rows.rows_of.Goals as goal

pub loop-place-preserved : goal.loop-place-preserved
loop-place-preserved g c =
    let s = c.args.span.now in
    let p = c.args.walk.now.plan in
    let counting = c.args.counting.now in
    let l = c.loop-place in
    let k = l.place in
    let t = round_at s k in
    let row = c.in_ok-row.row in
    let all = rounds_until p counting.until (rounds_in s) in
    let rest = map (round_at s) (range_with_len (k + 1) (count_of s - (k + 1))) in
    let inside : k < count_of s = omega (arith, c.loop-place-test.true, l.auto.place-end, c.steps-place-end.ensures.steps) in
    let round_is : c.round_at-round.result ≡ t = c.round_at-round.ensures.round in
    let walk_round : c.config_at.new.walk.round ≡ t = ap (λ (v : RoundView). v.round) c.config_at.ensures.walk ∙ round_is in
    let config_is : c.in_ok-config.config ≡ lockstep_config p t =
    c.in_ok-config.ensures.config ∙ ap (λ (r : ℕ). lockstep_config l.walk.plan r) round_is ∙ ap (λ (q : PlanView). lockstep_config q t) l.invariant.plan in
    let row_is : IsRowOf counting (lockstep_config p t) row = subst (λ (d : Configuration). IsRowOf counting d row) config_is c.in_ok-row.ensures.row in
    let states_are : c.states.result.now ≡ lockstep_states p t (length p.network) = c.states.ensures.states ∙ ap (λ (d : Configuration). d.states) config_is in
    let more : is_over counting.until (lockstep_states p t (length p.network)) ≡ false = sym (ap (is_over counting.until) states_are) ∙ sym c.is_over.ensures ∙ c.if-is_over.false in
    let done : map (λ (r : RowView). r.round) l.rows.items ++ rounds_until p counting.until (t ∷ rest) ≡ all =
    sym (ap (λ (xs : List ℕ). map (λ (r : RowView). r.round) l.rows.items ++ rounds_until p counting.until xs) (map_left (round_at s) k (count_of s) inside)) ∙ l.invariant.rounds in
    let rows_are : c.push.new.self.items ≡ l.rows.items ++ row ∷ [] = c.in_ok-push.ensures.items in
    record {
      plan = ap (λ (v : RoundView). v.plan) c.config_at.ensures.walk ∙ l.invariant.plan;
      late = λ _. omega (arith, walk_round, round_rises s k);
      rounds =
          ap (λ (rows : List RowView). map (λ (r : RowView). r.round) rows ++ rounds_until p counting.until rest) rows_are
          ∙ goes_on p counting.until l.rows.items row t rest all row_is.round more done;
      each =
          subst (λ (rows : List RowView). All (λ (r : RowView). IsRowOf counting (lockstep_config p r.round) r) rows) (sym rows_are)
          (each_pushed p counting l.rows.items row t l.invariant.each row_is);
    }

pub returns-then-is_over : goal.returns-then-is_over
returns-then-is_over g c =
    let s = c.args.span.now in
    let p = c.args.walk.now.plan in
    let counting = c.args.counting.now in
    let l = c.loop-place in
    let k = l.place in
    let t = round_at s k in
    let row = c.in_ok-row.row in
    let all = rounds_until p counting.until (rounds_in s) in
    let rest = map (round_at s) (range_with_len (k + 1) (count_of s - (k + 1))) in
    let inside : k < count_of s = omega (arith, c.loop-place-test.true, l.auto.place-end, c.steps-place-end.ensures.steps) in
    let round_is : c.round_at-round.result ≡ t = c.round_at-round.ensures.round in
    let config_is : c.in_ok-config.config ≡ lockstep_config p t =
    c.in_ok-config.ensures.config ∙ ap (λ (r : ℕ). lockstep_config l.walk.plan r) round_is ∙ ap (λ (q : PlanView). lockstep_config q t) l.invariant.plan in
    let row_is : IsRowOf counting (lockstep_config p t) row = subst (λ (d : Configuration). IsRowOf counting d row) config_is c.in_ok-row.ensures.row in
    let states_are : c.states.result.now ≡ lockstep_states p t (length p.network) = c.states.ensures.states ∙ ap (λ (d : Configuration). d.states) config_is in
    let over : is_over counting.until (lockstep_states p t (length p.network)) ≡ true = sym (ap (is_over counting.until) states_are) ∙ sym c.is_over.ensures ∙ c.if-is_over.true in
    let done : map (λ (r : RowView). r.round) l.rows.items ++ rounds_until p counting.until (t ∷ rest) ≡ all =
    sym (ap (λ (xs : List ℕ). map (λ (r : RowView). r.round) l.rows.items ++ rounds_until p counting.until xs) (map_left (round_at s) k (count_of s) inside)) ∙ l.invariant.rounds in
    let rows_are : c.push.new.self.items ≡ l.rows.items ++ row ∷ [] = c.in_ok-push.ensures.items in
    record {
      rows = record {
        rounds =
            ap (map (λ (r : RowView). r.round)) rows_are ∙ ends p counting.until l.rows.items row t rest all row_is.round over done;
        each =
            subst (λ (rows : List RowView). All (λ (r : RowView). IsRowOf counting (lockstep_config p r.round) r) rows) (sym rows_are)
            (each_pushed p counting l.rows.items row t l.invariant.each row_is);
      };
    }
