use Rattle.std.proofs.Common.{◌≡◌, ◌<◌, ◌∙◌, ℕ, List, All, ap, sym, subst, arith, length, slice_index, slice_index_or, slice_set, true, false}
use Rattle.std.specs.Vec.{with_items}
use Rattle.std.proofs.lemmas.List.Elements.{All-weaker}
use Rattle.rule_check.specs.Value.{Rules}
use Rattle.rounds_code.specs.Block.{state_at}
use Rattle.rounds_code.proofs.Nodes.{refilled}
use Rattle.rounds_blocks.specs.declared.share.Share.{Share}
use Rattle.rounds_blocks.specs.Rounds.{HasWordFrom, next_word, round_from}
use Rattle.rounds_blocks.specs.Walks.{AreGiven, AreShares, HasNext, HoldsOfDue}
use Rattle.rounds_blocks.proofs.Given.{done_in, next_by, ranges_after, word_by}
use Rattle.rounds_blocks.proofs.Turns.{covered_after, shares_after, some_share}
use Rattle.rounds_blocks.proofs.shared_round.step_shared.Given.{Over}
use Rattle.rounds_blocks.proofs.shared_round.step_shared.Goals as goal

pub returns-then-shares-clause-shares : goal.returns-then-shares-clause-shares
returns-then-shares-clause-shares g c = λ rules given. record {
  apart = λ is. absurd (let e : true ≡ false = sym c.if-shares.true ∙ is in cc);
  ranged = λ is. ranges_after rules c.args.task.now (length c.args.task.now.network.now) c.args.shares.now.all.items c.work_ranges.new.shares.items c.deref_mut.result.now c.work_ranges.new.column c.work_ranges.ensures.left (given.ranged is);
  one = given.one;
  together = given.together;
}

pub returns-then-shares-clause-done : goal.returns-then-shares-clause-done
returns-then-shares-clause-done g c = λ rules given i d inside is.
    let a = c.args in
    let task = a.task.now in
    let old = a.to.now in
    let first = slice_index_or old 0 c.index-to-0.result in
    let column = with_items first c.work_ranges.new.column in
    let one : length old ≡ 1 = c.requires.task.3 ∙ c.requires.task.2.one c.if-shares.true in
    let made = refilled first.len c.work_ranges.new.column first.items (c.work_ranges.auto.column ∙ c.deref_mut.ensures.len) in
    let done = done_in rules task (length task.network.now) a.shares.now.all.items c.work_ranges.new.shares.items c.deref_mut.result.now c.work_ranges.new.column c.work_ranges.ensures.left (given.ranged c.if-shares.true) c.requires.some i d inside is in
    All-weaker (HasWordFrom 0 (next_word rules task.network.now task.round task.from.now) c.work_ranges.new.column) (HasNext rules task (slice_set old 0 column))
    (λ u here. next_by rules task old column one u (subst (λ (ws : List ℕ). HasWordFrom 0 (next_word rules task.network.now task.round task.from.now) ws u) (sym made) here))
    (slice_index_or task.batches.now i d).nodes done

pub returns-then-shares-clause-kept : goal.returns-then-shares-clause-kept
returns-then-shares-clause-kept g c = λ rules given u here.
    let a = c.args in
    let task = a.task.now in
    let old = a.to.now in
    let first = slice_index_or old 0 c.index-to-0.result in
    let column = with_items first c.work_ranges.new.column in
    let one : length old ≡ 1 = c.requires.task.3 ∙ c.requires.task.2.one c.if-shares.true in
    let made = refilled first.len c.work_ranges.new.column first.items (c.work_ranges.auto.column ∙ c.deref_mut.ensures.len) in
    let word = next_word rules task.network.now task.round task.from.now in
    let was = subst (λ (ws : List ℕ). HasWordFrom 0 word ws u) (sym c.deref_mut.ensures.value) (word_by rules task old column one c.index-to-0.result u here) in
    next_by rules task old column one u
    (subst (λ (ws : List ℕ). HasWordFrom 0 word ws u) (sym made) ((c.work_ranges.ensures.left.written rules (given.ranged c.if-shares.true).each).kept u was))

were : (g : Over) (c : goal.After-to-else-shares-1 g) (rules : Rules) → AreGiven rules (length c.args.task.now.network.now) c.args.task.now.batches.now c.args.shares.now
    → AreShares rules (length c.args.task.now.network.now) (length c.args.task.now.batches.now) c.deref_mut-else-shares.result.now
were g c rules given =
    let task = c.args.task.now in
    subst (λ (shares : List Share). AreShares rules (length task.network.now) (length task.batches.now) shares) (sym c.deref_mut-else-shares.ensures.value) (given.apart c.if-shares.false)

made : (g : Over) (c : goal.After-to-else-shares-1 g) → (with_items c.args.shares.now.all c.work_all.new.shares).items ≡ c.work_all.new.shares
made g c =
    let all = c.args.shares.now.all in
    refilled all.len c.work_all.new.shares all.items (c.work_all.auto.shares ∙ c.deref_mut-else-shares.ensures.len)

worked : (g : Over) (c : goal.After-to-else-shares-1 g) (rules : Rules) → AreGiven rules (length c.args.task.now.network.now) c.args.task.now.batches.now c.args.shares.now
    → All (λ share. HoldsOfDue (HasNext rules c.args.task.now share.columns.items) c.args.task.now share.first share.behind) (with_items c.args.shares.now.all c.work_all.new.shares).items
worked g c rules given =
    let task = c.args.task.now in
    subst (All (λ (share : Share). HoldsOfDue (HasNext rules task share.columns.items) task share.first share.behind)) (sym (made g c)) (c.work_all.ensures.done rules (were g c rules given).each)

pub returns-else-shares-clause-shares : goal.returns-else-shares-clause-shares
returns-else-shares-clause-shares g c = λ rules given.
    let task = c.args.task.now in
    let n = length task.network.now in
    let many = length task.batches.now in
    let before = c.deref_mut-else-shares.result.now in
    let after = c.work_all.new.shares in
    let was = were g c rules given in
    record {
      apart = λ _. subst (AreShares rules n many) (sym (made g c))
          (shares_after rules n many before after c.work_all.auto.shares c.work_all.ensures.first c.work_all.ensures.behind was (c.work_all.ensures.shares rules was.each));
      ranged = λ is. absurd (let e : true ≡ false = sym is ∙ c.if-shares.false in cc);
      one = λ is. absurd (let e : true ≡ false = sym is ∙ c.if-shares.false in cc);
      together = given.together;
    }

pub returns-else-shares-clause-done : goal.returns-else-shares-clause-done
returns-else-shares-clause-done g c = λ rules given i d inside is.
    let task = c.args.task.now in
    let n = length task.network.now in
    let many = length task.batches.now in
    let before = c.deref_mut-else-shares.result.now in
    let after = c.work_all.new.shares in
    let new = c.copy_shares.new.to in
    let words = λ (u k : ℕ). slice_index (round_from rules task.network.now task.round (state_at task.from.now) u).words k in
    let copied = subst (All (λ (share : Share). HoldsOfDue (HasNext rules task new) task share.first share.behind)) (made g c) (c.copy_shares.ensures.copied words (worked g c rules given)) in
    let some : 0 < length before = omega (arith, c.requires.some, ap length c.deref_mut-else-shares.ensures.value) in
    let found = covered_after rules n many before after c.work_all.auto.shares c.work_all.ensures.first c.work_all.ensures.behind (were g c rules given) some i inside in
    let share = some_share after found.0 found.1.there in
    copied found.0 share found.1.there i d (found.1.from_first share) (found.1.before_end share) is

pub returns-else-shares-clause-kept : goal.returns-else-shares-clause-kept
returns-else-shares-clause-kept g c = λ rules given u here.
    let task = c.args.task.now in
    let words = λ (u k : ℕ). slice_index (round_from rules task.network.now task.round (state_at task.from.now) u).words k in
    c.copy_shares.ensures.kept words u (worked g c rules given) here
