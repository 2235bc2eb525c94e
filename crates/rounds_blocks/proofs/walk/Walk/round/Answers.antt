use Rattle.std.proofs.Common.{◌≡◌, ◌<◌, ◌∙◌, ℕ, List, All, ap, sym, subst, arith, length, slice_index_or, true, Bool}
use Rattle.std.specs.Global.{Vec}
use Rattle.std.proofs.lemmas.Grind.{common_steps}
use Rattle.rule_check.specs.Value.{Rules}
use Rattle.rule_check.specs.Rounds.{reads_round}
use Rattle.rounds_code.specs.Block.{state_at}
use Rattle.rounds_code.proofs.Nodes.{refilled}
use Rattle.rounds_blocks.specs.declared.batch.Batch.{Batch}
use Rattle.rounds_blocks.specs.Nears.{IsDue, Sleeps}
use Rattle.rounds_blocks.specs.Rounds.{IsNext, round_from}
use Rattle.rounds_blocks.specs.Walks.{HasMoved, IsAsBefore, IsWalk, Walked, state_by}
use Rattle.rounds_blocks.proofs.Turns.{IsWritten, IsLookedAt, walked, walked_next, walked_moves, walked_rests}
use Rattle.rounds_blocks.proofs.walk.Walk.round.Goals as goal

new_is : (c : goal.After-swap) → c.swap.new.x.items ≡ c.step_due.new.to
new_is c = grind (arith, common_steps, c.swap.ensures.x_after, c.step_due.auto.to)

old_is : (c : goal.After-swap) → c.swap.new.y.items ≡ c.self.inside.from.items
old_is c = grind (arith, common_steps, c.swap.ensures.y_after)

from_is : (c : goal.After-swap) → c.columns_by-from.result ≡ c.self.inside.from.items
from_is c = c.columns_by-from.ensures.exact ∙ c.deref-3.ensures.value

written : (c : goal.After-swap) → IsWritten c.self.inside.block.rules c.self.inside.network.now c.self.inside.batches.now c.self.inside.activity.due.items c.args.round c.self.inside.from.items c.self.inside.to.items c.step_due.new.to
written c =
    let s = c.self.inside in
    let rules = s.block.rules in
    let network = s.network.now in
    let new = c.step_due.new.to in
    record {
      wide = c.step_due.auto.to ∙ ap length c.deref_mut.ensures.value ∙ c.self.invariant.next_wide;
      long = c.step_due.ensures.nodes;
      done = λ i d h is.
          subst (λ (from : List (Vec ℕ)). All (IsNext rules network c.args.round from new) (slice_index_or s.batches.now i d).nodes) (from_is c)
          (c.step_due.ensures.done i d (omega arith) h (subst (λ (due : List Bool). IsDue due i) (sym c.deref-5.ensures.value) is));
      kept = λ u here.
          subst (λ (from : List (Vec ℕ)). IsNext rules network c.args.round from new u) (from_is c)
          (c.step_due.ensures.kept u
          (subst (λ (from : List (Vec ℕ)). IsNext rules network c.args.round from c.deref_mut.result.now u) (sym (from_is c))
          (subst (λ (to : List (Vec ℕ)). IsNext rules network c.args.round s.from.items to u) (sym c.deref_mut.ensures.value) here)));
    }

looked : (c : goal.After-swap) → IsLookedAt c.self.inside.batches.now c.self.inside.activity c.look-moved.new.self c.self.inside.from.items c.step_due.new.to c.look-moved.result
looked c =
    let s = c.self.inside in
    let e = c.look-moved.ensures in
    let batches = s.batches.now in
    let changed = c.look-moved.new.self.changed.items in
    let made : c.deref-7.result.now ≡ c.step_due.new.to = c.deref-7.ensures.value ∙ refilled s.to.len c.step_due.new.to s.to.items (c.step_due.auto.to ∙ c.deref_mut.ensures.len) in
    let some =
    subst (λ (from : List (Vec ℕ)). c.look-moved.result ≡ true → s.activity.settles ≡ true → HasMoved batches from c.step_due.new.to) c.deref-6.ensures.value
    (subst (λ (to : List (Vec ℕ)). c.look-moved.result ≡ true → s.activity.settles ≡ true → HasMoved batches c.deref-6.result.now to) made e.some) in
    record {
      nears = e.nears;
      settles = e.settles;
      flags = e.flags;
      changes = e.changes;
      all = e.all;
      noted =
          subst (λ (from : List (Vec ℕ)). s.activity.settles ≡ true → (i : ℕ) (d : Batch) → i < length batches → Sleeps changed i → IsDue s.activity.due.items i → All (IsAsBefore from c.step_due.new.to) (slice_index_or batches i d).nodes) c.deref-6.ensures.value
          (subst (λ (to : List (Vec ℕ)). s.activity.settles ≡ true → (i : ℕ) (d : Batch) → i < length batches → Sleeps changed i → IsDue s.activity.due.items i → All (IsAsBefore c.deref-6.result.now to) (slice_index_or batches i d).nodes) made e.noted);
      awake = e.awake;
      some = some;
      none = e.none;
    }

pub invariant_of-self : goal.invariant_of-self
invariant_of-self c =
    let s = c.self.inside in
    let next = c.look-moved.new.self in
    subst (λ (rules : Rules). IsWalk rules s.network.now s.batches.now next s.shares c.swap.new.x.items c.swap.new.y.items) (sym c.step_due.ensures.rules)
    (subst (λ (from : List (Vec ℕ)). IsWalk s.block.rules s.network.now s.batches.now next s.shares from c.swap.new.y.items) (sym (new_is c))
    (subst (λ (to : List (Vec ℕ)). IsWalk s.block.rules s.network.now s.batches.now next s.shares c.step_due.new.to to) (sym (old_is c))
    (walked s.block.rules s.network.now s.batches.now s.activity next s.shares c.args.round s.from.items s.to.items c.step_due.new.to c.look-moved.result c.self.invariant (written c) (looked c))))

pub returns-clause-next : goal.returns-clause-next
returns-clause-next c = λ u inside.
    let s = c.self.inside in
    let view = c.self.view_is in
    let network_is : s.network.now ≡ c.args.self.now.network = ap (λ (w : Walked). w.network) view in
    ap (λ (columns : List (Vec ℕ)). state_at columns u) (new_is c)
    ∙ walked_next s.block.rules s.network.now s.batches.now s.activity c.look-moved.new.self s.shares c.args.round s.from.items s.to.items c.step_due.new.to c.look-moved.result c.self.invariant (written c) (looked c)
    u (omega (arith, inside, ap length network_is))
    ∙ ap (λ (w : Walked). round_from w.rules w.network c.args.round (state_by w.words) u) view

pub returns-clause-rests : goal.returns-clause-rests
returns-clause-rests c = λ still u inside.
    let s = c.self.inside in
    let view = c.self.view_is in
    let network_is : s.network.now ≡ c.args.self.now.network = ap (λ (w : Walked). w.network) view in
    ap (λ (columns : List (Vec ℕ)). state_at columns u) (new_is c)
    ∙ walked_rests s.block.rules s.network.now s.batches.now s.activity c.look-moved.new.self s.shares c.args.round s.from.items s.to.items c.step_due.new.to c.look-moved.result c.self.invariant (written c) (looked c)
    still u (omega (arith, inside, ap length network_is))
    ∙ ap (λ (w : Walked). state_by w.words u) view

pub returns-clause-moves : goal.returns-clause-moves
returns-clause-moves c = λ moved unread.
    let s = c.self.inside in
    let view = c.self.view_is in
    let network_is : s.network.now ≡ c.args.self.now.network = ap (λ (w : Walked). w.network) view in
    let rules_are : s.block.rules ≡ c.args.self.now.rules = ap (λ (w : Walked). w.rules) view in
    let found = walked_moves s.block.rules s.network.now s.batches.now s.activity c.look-moved.new.self s.shares c.args.round s.from.items s.to.items c.step_due.new.to c.look-moved.result c.self.invariant (written c) (looked c)
    moved (ap (λ (r : Rules). reads_round r) rules_are ∙ unread) in (
      found.0,
      omega (arith, found.1, ap length network_is),
      λ same.
          found.2
          (sym (ap (λ (columns : List (Vec ℕ)). state_at columns found.0) (new_is c))
          ∙ same
          ∙ sym (ap (λ (w : Walked). state_by w.words found.0) view)),
    )
