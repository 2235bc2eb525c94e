use Rattle.std.proofs.Common.{◌<◌, ◌*◌, ℕ, Global, Vec, arith, drop, length, map, take}
use Rattle.link_net.specs.Neighbours.{numbers_below}
use Rattle.run_picture.specs.Series.{round_sheet}
use Rattle.run_picture.proofs.RoundParts.{one_more}
use Rattle.run_picture.proofs.each_round.sheets_of.Goals as goal

pub loop-place-preserved : goal.loop-place-preserved
loop-place-preserved c =
    let network = c.args.network.now in
    let sheet = λ (r : ℕ). round_sheet c.args.layout c.args.key.now network (take (length network) (drop (r * length network) c.args.values.now)) in
    let inside : c.loop-place.place < c.args.rounds = omega (arith, c.loop-place-test.true) in
    one_more (λ (text : Vec ℕ Global). text.items) sheet c.loop-place.texts.items c.push.new.self.items c.in_ok-text.text c.loop-place.place c.args.rounds
    (map sheet (numbers_below c.args.rounds)) c.in_ok-push.ensures.items c.in_ok-text.ensures.text inside c.loop-place.invariant
