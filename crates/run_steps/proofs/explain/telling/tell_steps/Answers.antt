use Rattle.std.proofs.Common.{◌≡◌, ◌∙◌, ◌+◌, ◌∷◌, ◌++◌, ap, drop, get_or, max, string_bytes, subst, arith}
use Rattle.std.proofs.lemmas.List.{drop_more}
use Rattle.std.specs.Option.{option_map}
use Rattle.unison_world.specs.declared.step.Step.TheVariants.{Read}
use Rattle.unison_world.specs.Counting.{answer_of, after, answers, run}
use Rattle.unison_world.specs.View.{with_counts}
use Rattle.run_steps.specs.Previous.{HasPrevious}
use Rattle.run_steps.specs.explain.Differences.{difference_after, greatest_difference}
use Rattle.run_steps.specs.explain.Summaries.{answered_in, with_answer}
use Rattle.run_steps.specs.explain.Telling.{step_line, step_lines, counts_part}
use Rattle.run_steps.proofs.explain.Way.{lines-next, run-next, answered-next, difference-next, step-made}
use Rattle.run_steps.proofs.explain.telling.tell_steps.Goals as goal

pub loop-index-preserved : goal.loop-index-preserved
loop-index-preserved c =
    let first = c.args.world.now in
    let w = c.loop-index.world in
    let i = c.loop-index.invariant in
    let k = c.loop-index.index in
    let steps = c.args.steps.now in
    let s = get_or steps k (Read 0 0) in
    let plan = first.plan in
    let network = plan.network in
    let names = option_map (λ n. n.now) c.args.names in
    let show = c.args.show in
    let stop = first.stop in
    let new = c.tell_step.new.world in
    let rest = drop (k + 1) steps in
    let left : drop k steps ≡ s ∷ rest = drop_more steps k (Read 0 0) (omega arith) in
    let made = step-made first w new s i.same_plan i.same_stop c.in_ok-answer.ensures.after in
    let answer : c.in_ok-answer.answer ≡ answer_of network stop w.counts s =
    c.in_ok-answer.ensures.answer ∙ ap (λ p. answer_of p.network w.stop w.counts s) i.same_plan ∙ ap (λ t. answer_of network t w.counts s) i.same_stop in
    let line : string_bytes c.tell_step.new.out ≡ string_bytes c.loop-index.out ++ step_line names show plan stop (k + 1) w.counts s =
    c.in_ok-answer.ensures.line ∙ ap (λ p. string_bytes c.loop-index.out ++ step_line names show p w.stop (k + 1) w.counts s) i.same_plan
    ∙ ap (λ t. string_bytes c.loop-index.out ++ step_line names show plan t (k + 1) w.counts s) i.same_stop in
    let part = c.in_ok-put_counts_asked.ensures.part ∙ ap (λ x. string_bytes c.tell_step.new.out ++ counts_part show.counts x) made.2 in
    let tally = c.and-answered.ensures.more ∙ ap (with_answer c.loop-index.answered) answer in
    let far : c.difference_after.result ≡ difference_after network (after network stop w.counts s) s (answer_of network stop w.counts s) =
    c.difference_after.ensures ∙ ap (λ p. difference_after p.network new.counts s c.in_ok-answer.answer) made.0 ∙ ap (λ x. difference_after network x s c.in_ok-answer.answer) made.2
    ∙ ap (difference_after network (after network stop w.counts s) s) answer in
    let greatest = c.max-difference.ensures ∙ ap (λ d. max c.loop-index.difference d) far in
    rw made.2 (
    record {
      same_plan = made.0;
      same_stop = made.1;
      previous = subst (λ k. HasPrevious (with_counts new k) c.tell_step.new.previous) made.2 c.in_ok-answer.ensures.previous;
      lines = lines-next names show plan stop w.counts s (drop k steps) rest left (k + 1) (string_bytes c.loop-index.out) (string_bytes c.tell_step.new.out) (string_bytes c.put_counts_asked.new.out) (string_bytes c.args.out.now ++ step_lines names show plan stop 1 first.counts steps) line part i.lines;
      made = run-next network stop w.counts s (drop k steps) rest left (run network stop first.counts steps) i.made;
      tally = answered-next network stop w.counts s (drop k steps) rest left c.loop-index.answered c.and-answered.result (answered_in (answers network stop first.counts steps)) tally i.tally;
      far = difference-next network stop w.counts s (drop k steps) rest left c.loop-index.difference c.max-difference.result (greatest_difference network stop first.counts steps) greatest i.far;
      many = c.and-answered.ensures.one ∙ ap (λ n. n + 1) i.many;
    })
