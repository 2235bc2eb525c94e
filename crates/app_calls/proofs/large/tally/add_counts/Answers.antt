use Rattle.std.proofs.Common.{◌≡◌, ◌∙◌, ◌<◌, ◌++◌, ◌∷◌, [], ℕ, ap, arith, false, length, rules, slice_index, sym, take, true}
use Rattle.std.proofs.lemmas.List.{append-nil}
use Rattle.app_calls.specs.Counted.{is_in}
use Rattle.app_calls.proofs.Tallies.{all_others, counts_more, others_less, others_same}
use Rattle.app_calls.proofs.large.tally.add_counts.Goals as goal
use Rattle.app_calls.proofs.large.tally.add_counts.Goals.{then-not-is_in, else-not-is_in}

pub loop-place-init : goal.loop-place-init
loop-place-init c = record { words = sym (append-nil c.args.words.now.items); others = all_others c.args.numbers.now }

pub overflow_sub-others : goal.overflow_sub-others
overflow_sub-others c =
    let l = c.loop-place in
    let vs = c.args.values.now in
    let inside : l.place < length vs = omega (arith, c.loop-place-test.true) in
    let new : is_in (take l.place vs) (slice_index vs l.place) ≡ false = search rules in
    let less = others_less vs l.place c.args.numbers.now inside new in
    let count = c.count_of-count.ensures.count in
    let others = l.invariant.others in
    omega (arith, less, count, others)

pub loop-place-preserved : goal.loop-place-preserved
loop-place-preserved c =
    let l = c.loop-place in
    let vs = c.args.values.now in
    let ns = c.args.numbers.now in
    let inside : l.place < length vs = omega (arith, c.loop-place-test.true) in
    let count = c.count_of-count.ensures.count in
    let pushed = c.in_ok-push.ensures.items ∙ ap (λ (n : ℕ). l.words.items ++ n ∷ []) count in
    let words = counts_more vs ns c.args.words.now.items l.words.items c.push.new.self.items l.place inside l.invariant.words pushed in
    let others = l.invariant.others in
    elim c.if-not-is_in.branch [
      | then-not-is_in w ↦
          let new : is_in (take l.place vs) (slice_index vs l.place) ≡ false = search rules in
          let less = others_less vs l.place ns inside new in
          let is = w.others-is in
          record { words = words; others = omega (arith, less, count, others, is) }
      | else-not-is_in w ↦
          let old : is_in (take l.place vs) (slice_index vs l.place) ≡ true = search rules in
          let same = others_same vs l.place ns inside old in
          let is = w.others-is in
          record { words = words; others = omega (arith, same, others, is) }
    ]
