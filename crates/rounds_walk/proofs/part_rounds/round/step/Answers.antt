use Rattle.std.proofs.Common.{◌≡◌, ◌∙◌, ◌+◌, ◌*◌, ◌++◌, ◌≤◌, ℕ, suc, List, ap, arith, cond, drop, length, map, not, sym, take}
use Rattle.std.proofs.Math.Nat.{suc-mul}
use Rattle.std.proofs.lemmas.List.{length-append}
use Rattle.std.specs.Str.{bytes_eq}
use Rattle.rule_check.specs.declared.state.State.{State}
use Rattle.link_net.specs.Neighbours.{numbers_below}
use Rattle.rounds_plan.specs.Lockstep.{state_in}
use Rattle.rounds_walk.specs.part_rounds.Fitting.{states_in}
use Rattle.rounds_walk.specs.part_rounds.Parts.{changed_count, is_changed, part_next}
use Rattle.rounds_walk.specs.part_rounds.States.{words_in}
use Rattle.rounds_walk.proofs.part_rounds.StateWords.{behind_node, count_more, put_more, words_more}
use Rattle.rounds_walk.proofs.part_rounds.round.step.Goals.{then-ne, else-ne}
use Rattle.rounds_walk.proofs.part_rounds.round.step.Goals as goal

pub loop-node-preserved : goal.loop-node-preserved
loop-node-preserved c =
    let l = c.loop-node in
    let part = c.args.part.now in
    let f = part.fields in
    let i = l.node in
    let first = i * f in
    let old = c.args.to.now in
    let states = states_in part in
    let rules = part.program.now in
    let next = part_next rules part.ids.now part.rows.now part.round states in
    let front = words_in f (map next (numbers_below i)) in
    let after = words_in f (map next (numbers_below (i + 1))) in
    let here = take f (next i).words in
    let more : after ≡ front ++ here = words_more f i next in
    let is : c.next_of-next.result ≡ next i = c.next_of-next.ensures.next in
    let count : length here ≡ f = ap (λ (s : State). length (take f s.words)) (sym is) ∙ c.put_state.ensures.count in
    let one_more : i + 1 ≡ suc i = omega arith in
    let place : (i + 1) * f ≡ first + f = ap (λ k. k * f) one_more ∙ suc-mul i f in
    let test = is_changed rules part.ids.now part.rows.now part.round states in
    let same : test i ≡ c.ne.result =
    ap (λ (s : State). not (bytes_eq s.words (state_in states i).words)) (sym is)
    ∙ ap (λ (s : State). not (bytes_eq c.next_of-next.result.words s.words)) (sym c.state_of_node-own.ensures.state)
    ∙ sym c.ne.ensures in
    let counted : changed_count rules part.ids.now part.rows.now part.round states (i + 1) ≡ l.changed + cond c.ne.result 1 0 =
    count_more test i ∙ ap (λ k. k + cond (test i) 1 0) (sym l.invariant.changed) ∙ ap (λ b. l.changed + cond b 1 0) same in
    let now : c.if-ne.changed ≡ l.changed + cond c.ne.result 1 0 =
    elim c.if-ne.branch [
      | then-ne w ↦ omega (arith, w.changed-is, ap (λ b. l.changed + cond b 1 0) w.if-ne.true)
      | else-ne w ↦ omega (arith, w.changed-is, ap (λ b. l.changed + cond b 1 0) w.if-ne.false)
    ] in
    let bound : c.if-ne.changed ≤ i + 1 =
    elim c.if-ne.branch [
      | then-ne w ↦ omega (arith, w.changed-is, l.invariant.few)
      | else-ne w ↦ omega (arith, w.changed-is, l.invariant.few)
    ] in
    record {
      words = c.put_state.ensures.put
          ∙ ap (λ (s : State). take first l.to ++ take f s.words ++ drop (first + f) l.to) is
          ∙ ap (λ (w : List ℕ). take first w ++ here ++ drop (first + f) w) l.invariant.words
          ∙ put_more front (drop first old) here first f l.invariant.front
          ∙ ap (λ (w : List ℕ). w ++ drop f (drop first old)) (sym more)
          ∙ ap (λ (w : List ℕ). after ++ w) (behind_node f i old);
      front = ap length more ∙ length-append front here ∙ omega (arith, l.invariant.front, count, place);
      changed = now ∙ sym counted;
      few = bound;
    }
