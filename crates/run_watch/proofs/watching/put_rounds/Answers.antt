use Rattle.std.proofs.Common.{◌≡◌, ◌∙◌, ◌<◌, ◌+◌, ◌-◌, ◌++◌, ℕ, List, ap, append_assoc, arith, length, map, string_bytes, sym}
use Rattle.std.specs.List.{range_with_len}
use Rattle.rule_check.specs.declared.state.State.{State}
use Rattle.rule_check.specs.Value.{names_of}
use Rattle.rounds_plan.specs.Configs.{Configuration}
use Rattle.rounds_plan.specs.Lockstep.{lockstep_config, lockstep_states}
use Rattle.rounds_walk.specs.Walking.{RoundView}
use Rattle.run_watch.specs.Spans.{count_of, round_at}
use Rattle.run_watch.specs.Watching.{part_text, parts_text, states_in}
use Rattle.run_watch.proofs.Ranges.{map_left, round_rises}
use Rattle.run_watch.proofs.watching.put_rounds.Goals as goal

pub loop-place-preserved : goal.loop-place-preserved
loop-place-preserved g c =
    let s = c.args.span.now in
    let p = c.args.plan.now in
    let show = c.args.show.now in
    let l = c.loop-place in
    let k = l.place in
    let t = round_at s k in
    let n = length p.network in
    let e = c.in_ok-config.ensures in
    let before = states_in l.before in
    let inside : k < count_of s = omega (arith, c.loop-place-test.true, l.auto.place-end, c.steps-place-end.ensures.steps) in
    let rest = map (round_at s) (range_with_len (k + 1) (count_of s - (k + 1))) in
    let round_is : c.round_at-round.result ≡ t = c.round_at-round.ensures.round in
    let walk_round : c.put_round.new.walk.round ≡ t = ap (λ (v : RoundView). v.round) e.walk ∙ round_is in
    let part = part_text show (names_of p.program) before (lockstep_config p t) in
    let states_are : c.in_ok-config.config.states ≡ lockstep_states p t n = ap (λ (d : Configuration). d.states) e.config ∙ ap (λ (r : ℕ). lockstep_states p r n) round_is in
    let wrote : string_bytes c.put_round.new.out ≡ string_bytes l.out ++ part =
    e.text
    ∙ ap (λ (ss : List State). string_bytes l.out ++ part_text show (names_of p.program) ss (lockstep_config p c.round_at-round.result)) c.states_in.ensures
    ∙ ap (λ (r : ℕ). string_bytes l.out ++ part_text show (names_of p.program) before (lockstep_config p r)) round_is in
    record {
      plan = ap (λ (v : RoundView). v.plan) e.walk ∙ l.invariant.plan;
      late = λ _. omega (arith, walk_round, round_rises s k);
      text =
          ap (λ (text : List ℕ). text ++ parts_text p show c.in_ok-config.config.states rest) wrote
          ∙ ap (λ (ss : List State). (string_bytes l.out ++ part) ++ parts_text p show ss rest) states_are
          ∙ append_assoc (string_bytes l.out) part (parts_text p show (lockstep_states p t n) rest)
          ∙ sym (ap (λ (rounds : List ℕ). string_bytes l.out ++ parts_text p show before rounds) (map_left (round_at s) k (count_of s) inside))
          ∙ l.invariant.text;
    }
