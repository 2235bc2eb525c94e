use Rattle.std.proofs.Common.{◌≡◌, ◌<◌, ◌-◌, length, take, drop, arith}
use Rattle.std.proofs.lemmas.Grind.{common_steps}
use Rattle.report_text.proofs.Writes.{Appends-take}
use Rattle.report_text.proofs.tally.write_text.Goals as goal

pub loop-written-preserved : goal.loop-written-preserved
loop-written-preserved g c =
    let text = c.args.text.now in
    let i = c.loop-written.written in
    let more : 0 < c.in-Ok.taken = grind (arith, common_steps) in
    let rest : take (length text - i) (drop i text) ≡ drop i text = grind (arith, common_steps) in
    record {
      unmarked = grind (arith, common_steps);
      within = grind (arith, common_steps);
      rising = omega (arith, c.write_some.ensures.calls, c.loop-written.invariant.rising);
      few = omega (arith, c.write_some.ensures.calls, c.loop-written.invariant.few, more);
      went_out = Appends-take (g.W.Write.contents c.args.out.now.inner) (g.W.Write.contents c.loop-written.out.inner) (g.W.Write.contents c.write_some.new.self.inner) text i c.in-Ok.taken c.loop-written.invariant.went_out (rw rest at c.in-Ok.ensures.bytes);
    }
