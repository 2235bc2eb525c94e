use Rattle.std.proofs.Common.{◌≡◌, length, vec_len, sym, ◌∙◌, arith}
use Rattle.std.proofs.lemmas.Grind.{common_steps}
use Rattle.net_initial.proofs.PutSets.{put_equal, put_new, any_other}
use Rattle.net_initial.proofs.field_sets.put_set.Goals as goal
use Rattle.net_initial.proofs.field_sets.put_set.Goals.{else-place-len-via-then-place-len+else-eq, else-place-len-via-else-place-len}

pub returns-then-eq : goal.returns-then-eq
returns-then-eq c =
    let items = c.args.sets.now.items in
    let place = c.place_of-place.result in
    let below = rw (c.as_slice.ensures.value, c.as_str.ensures.text) at c.place_of-place.ensures.below in
    let same = rw (c.as_str-then-place-len.ensures.text, c.as_str-then-place-len-2.ensures.text, c.index.ensures) at (sym c.eq.ensures ∙ c.if-eq.true) in
    put_equal c.args.set items place c.index.result.now (grind (arith, common_steps)) below same

pub returns : goal.returns
returns c =
    let items = c.args.sets.now.items in
    let place = c.place_of-place.result in
    let below = rw (c.as_slice.ensures.value, c.as_str.ensures.text) at c.place_of-place.ensures.below in
    let stops = rw (c.as_slice.ensures.value, c.as_str.ensures.text) at c.place_of-place.ensures.stops in
    let bound = rw c.as_slice.ensures.value at c.place_of-place.ensures.bound in
    elim c.else-place-len.branch [
      | else-place-len-via-then-place-len+else-eq w ↦
          let other = rw (w.as_str-then-place-len.ensures.text, w.as_str-then-place-len-2.ensures.text, w.index.ensures) at (sym w.eq.ensures ∙ w.if-eq.false) in
          rw c.in_ok-insert.ensures.items (put_new c.args.set items place bound below stops (λ d h. any_other c.args.set.name items place w.index.result.now other d h))
      | else-place-len-via-else-place-len w ↦
          let long : vec_len c.args.sets.now ≡ length items = grind (arith, common_steps) in
          rw c.in_ok-insert.ensures.items (put_new c.args.set items place bound below stops (λ d h. absurd (omega (arith, w.if-place-len.false, c.len.ensures, long, h))))
    ]
