use Rattle.std.proofs.Common.{◌≡◌, ◌≤◌, ◌∙◌, ap, sym, refl, arith}
use Rattle.std.specs.Prelude.{false}
use Rattle.rule_check.specs.Value.{Rules}
use Rattle.rule_check.specs.Rounds.{reads_round}
use Rattle.rounds_walk.proofs.Held.{held_more}
use Rattle.rounds_walk.proofs.Stays.{held_still}
use Rattle.rounds_walk.proofs.way.walk_to.Goals as goal

pub loop-round-preserved : goal.loop-round-preserved
loop-round-preserved g c = λ p within start here.
    let l = c.loop-round in
    let late : p.start ≤ l.round = omega (arith, start, l.auto.round) in
    held_more p l.round l.walk c.make.new.walk within late (l.invariant p within start here) c.make.ensures.rules c.make.ensures.network c.make.ensures.next

pub returns-then-not-make : goal.returns-then-not-make
returns-then-not-make g c =
    let l = c.loop-round in
    record {
      there = λ p within start here.
          let held = l.invariant p within start here in
          let late : p.start ≤ l.round = omega (arith, start, l.auto.round) in
          let early : l.round ≤ c.args.rounds = omega (arith, c.loop-round-test.true) in
          let unread : reads_round p.program ≡ false = ap (λ (r : Rules). reads_round r) (sym held.rules) ∙ c.if-not-make.ensures.unread refl in
          held_still p l.round c.args.rounds l.walk c.make.new.walk within unread late early held
          (held_more p l.round l.walk c.make.new.walk within late held c.make.ensures.rules c.make.ensures.network c.make.ensures.next)
          (c.if-not-make.ensures.rests refl);
    }
