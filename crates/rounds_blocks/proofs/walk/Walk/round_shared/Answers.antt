use Rattle.std.proofs.Common.{◌≡◌, ◌∙◌, ℕ, List, All, ap, sym, subst, arith, length, slice_index_or, Bool}
use Rattle.std.specs.Global.{Vec}
use Rattle.std.proofs.lemmas.Grind.{common_steps}
use Rattle.rule_check.specs.Value.{Rules}
use Rattle.rule_check.specs.Rounds.{reads_round}
use Rattle.rounds_code.specs.Block.{state_at}
use Rattle.rounds_code.proofs.Nodes.{refilled}
use Rattle.rounds_plan.specs.Rounds.{round_from}
use Rattle.rounds_blocks.specs.Nears.{IsDue}
use Rattle.rounds_blocks.specs.Rounds.{IsNext}
use Rattle.rounds_blocks.specs.Walks.{AreGiven, IsWalk, Walked, state_by}
use Rattle.rounds_blocks.proofs.Turns.{IsWritten, IsLookedAt, looked_as, walked, walked_next, walked_moves, walked_rests, with_shares}
use Rattle.rounds_blocks.proofs.walk.Walk.round_shared.Given.{Over}
use Rattle.rounds_blocks.proofs.walk.Walk.round_shared.Goals as goal

new_is : (g : Over) (c : goal.After-swap g) → c.swap.new.x.items ≡ c.step_shared.new.to
new_is g c = grind (arith, common_steps, c.swap.ensures.x_after, c.step_shared.auto.to)

old_is : (g : Over) (c : goal.After-swap g) → c.swap.new.y.items ≡ c.self.inside.from.items
old_is g c = grind (arith, common_steps, c.swap.ensures.y_after)

given : (g : Over) (c : goal.After-swap g) → AreGiven c.self.inside.block.rules (length c.self.inside.network.now) c.self.inside.batches.now c.self.inside.shares
given g c = c.self.invariant.shared

from_is : (g : Over) (c : goal.After-swap g) → c.columns_by-from.result ≡ c.self.inside.from.items
from_is g c = c.columns_by-from.ensures.exact ∙ c.deref-5.ensures.value

written : (g : Over) (c : goal.After-swap g) → IsWritten c.self.inside.block.rules c.self.inside.network.now c.self.inside.batches.now c.self.inside.activity.due.items c.args.round c.self.inside.from.items c.self.inside.to.items c.step_shared.new.to
written g c =
    let s = c.self.inside in
    let rules = s.block.rules in
    let network = s.network.now in
    let new = c.step_shared.new.to in
    record {
      wide = c.step_shared.auto.to ∙ ap length c.deref_mut.ensures.value ∙ c.self.invariant.next_wide;
      long = c.step_shared.ensures.long;
      done = λ i d h is.
          subst (λ (from : List (Vec ℕ)). All (IsNext rules network c.args.round from new) (slice_index_or s.batches.now i d).nodes) (from_is g c)
          (c.step_shared.ensures.done rules (given g c) i d h (subst (λ (due : List Bool). IsDue due i) (sym c.deref-7.ensures.value) is));
      kept = λ u here.
          subst (λ (from : List (Vec ℕ)). IsNext rules network c.args.round from new u) (from_is g c)
          (c.step_shared.ensures.kept rules (given g c) u
          (subst (λ (from : List (Vec ℕ)). IsNext rules network c.args.round from c.deref_mut.result.now u) (sym (from_is g c))
          (subst (λ (to : List (Vec ℕ)). IsNext rules network c.args.round s.from.items to u) (sym c.deref_mut.ensures.value) here)));
    }

looked : (g : Over) (c : goal.After-swap g) → IsLookedAt c.self.inside.batches.now c.self.inside.activity c.look-moved.new.self c.self.inside.from.items c.step_shared.new.to c.look-moved.result
looked g c =
    let s = c.self.inside in
    let e = c.look-moved.ensures in
    let made : c.deref-9.result.now ≡ c.step_shared.new.to = c.deref-9.ensures.value ∙ refilled s.to.len c.step_shared.new.to s.to.items (c.step_shared.auto.to ∙ c.deref_mut.ensures.len) in
    looked_as s.batches.now s.activity c.look-moved.new.self s.from.items c.deref-8.result.now c.step_shared.new.to c.deref-9.result.now c.look-moved.result c.deref-8.ensures.value made
    (record { nears = e.nears; settles = e.settles; flags = e.flags; changes = e.changes; all = e.all; noted = e.noted; awake = e.awake; some = e.some; none = e.none })

pub invariant_of-self : goal.invariant_of-self
invariant_of-self g c =
    let s = c.self.inside in
    let next = c.look-moved.new.self in
    let rules = s.block.rules in
    let shares = c.step_shared.new.shares in
    subst (λ (from : List (Vec ℕ)). IsWalk rules s.network.now s.batches.now next shares from c.swap.new.y.items) (sym (new_is g c))
    (subst (λ (to : List (Vec ℕ)). IsWalk rules s.network.now s.batches.now next shares c.step_shared.new.to to) (sym (old_is g c))
    (with_shares rules s.network.now s.batches.now next s.shares shares c.step_shared.new.to s.from.items
    (walked rules s.network.now s.batches.now s.activity next s.shares c.args.round s.from.items s.to.items c.step_shared.new.to c.look-moved.result c.self.invariant (written g c) (looked g c))
    (c.step_shared.ensures.shares rules (given g c))))

pub returns-clause-next : goal.returns-clause-next
returns-clause-next g c = λ u inside.
    let s = c.self.inside in
    let view = c.self.view_is in
    let network_is : s.network.now ≡ c.args.self.now.network = ap (λ (w : Walked). w.network) view in
    ap (λ (columns : List (Vec ℕ)). state_at columns u) (new_is g c)
    ∙ walked_next s.block.rules s.network.now s.batches.now s.activity c.look-moved.new.self s.shares c.args.round s.from.items s.to.items c.step_shared.new.to c.look-moved.result c.self.invariant (written g c) (looked g c)
    u (omega (arith, inside, ap length network_is))
    ∙ ap (λ (w : Walked). round_from w.rules w.network c.args.round (state_by w.words) u) view

pub returns-clause-rests : goal.returns-clause-rests
returns-clause-rests g c = λ still u inside.
    let s = c.self.inside in
    let view = c.self.view_is in
    let network_is : s.network.now ≡ c.args.self.now.network = ap (λ (w : Walked). w.network) view in
    ap (λ (columns : List (Vec ℕ)). state_at columns u) (new_is g c)
    ∙ walked_rests s.block.rules s.network.now s.batches.now s.activity c.look-moved.new.self s.shares c.args.round s.from.items s.to.items c.step_shared.new.to c.look-moved.result c.self.invariant (written g c) (looked g c)
    still u (omega (arith, inside, ap length network_is))
    ∙ ap (λ (w : Walked). state_by w.words u) view

pub returns-clause-moves : goal.returns-clause-moves
returns-clause-moves g c = λ moved unread.
    let s = c.self.inside in
    let view = c.self.view_is in
    let network_is : s.network.now ≡ c.args.self.now.network = ap (λ (w : Walked). w.network) view in
    let rules_are : s.block.rules ≡ c.args.self.now.rules = ap (λ (w : Walked). w.rules) view in
    let found = walked_moves s.block.rules s.network.now s.batches.now s.activity c.look-moved.new.self s.shares c.args.round s.from.items s.to.items c.step_shared.new.to c.look-moved.result c.self.invariant (written g c) (looked g c)
    moved (ap (λ (r : Rules). reads_round r) rules_are ∙ unread) in (
      found.0,
      omega (arith, found.1, ap length network_is),
      λ same.
          found.2
          (sym (ap (λ (columns : List (Vec ℕ)). state_at columns found.0) (new_is g c))
          ∙ same
          ∙ sym (ap (λ (w : Walked). state_by w.words found.0) view)),
    )
