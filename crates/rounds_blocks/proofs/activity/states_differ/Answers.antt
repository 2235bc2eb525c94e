use Rattle.std.proofs.Common.{◌≡◌, ◌<◌, ◌∙◌, ℕ, List, ap, sym, refl, length, arith, slice_index, slice_index_or, true, false}
use Rattle.std.specs.Global.{Vec}
use Rattle.rounds_blocks.proofs.States.{state_apart, state_same}
use Rattle.rounds_blocks.proofs.activity.states_differ.Goals as goal

pub returns : goal.returns
returns c =
    let left = c.args.left.now in
    let right = c.args.right.now in
    record {
      same = λ _ k d h.
          state_same left right (slice_index_or c.args.nodes.now k d) c.requires.fields
          (λ j e f low. c.loop-k.invariant j e f (omega (arith, low, c.loop-k-test.false)) k d h);
      apart = λ e. absurd (let never : false ≡ true = e in cc);
    }

pub returns-then-words_differ-clause-apart : goal.returns-then-words_differ-clause-apart
returns-then-words_differ-clause-apart c = λ _.
    let left = c.args.left.now in
    let right = c.args.right.now in
    let k = c.loop-k.k in
    let found = c.if-words_differ.ensures.apart refl in
    let inside : k < length left = c.loop-k-test.true in (
      found.0,
      found.1,
      state_apart left right found.0 k c.index-left-k.result c.index-right-k.result c.requires.few c.requires.fields inside
          (λ same. found.2
          (ap (λ (ws : List ℕ). slice_index ws found.0) c.deref.ensures.value
          ∙ ap (λ (v : Vec ℕ). slice_index v.items found.0) c.index-left-k.is
          ∙ same
          ∙ ap (λ (v : Vec ℕ). slice_index v.items found.0) (sym c.index-right-k.is)
          ∙ ap (λ (ws : List ℕ). slice_index ws found.0) (sym c.deref-in-loop-k.ensures.value))),
    )
