use Rattle.std.proofs.Common.{◌≡◌, ◌∙◌, ◌+◌, ◌-◌, ◌*◌, ◌/◌, length, take, drop, length-take, length-drop, arith}
use Rattle.large_net.proofs.Pieces.{pieces_of_range}
use Rattle.large_net.proofs.numbers.fours.Goals as goal

pub returns-clause-pieces : goal.returns-clause-pieces
returns-clause-pieces c =
    let place = c.args.place in
    let count = c.args.count in
    let bytes = c.args.bytes.now in
    let m = place + 4 * count - place in
    let long : length (take m (drop place bytes)) ≡ 4 * count = omega (arith, length-take m (drop place bytes), length-drop place bytes, c.requires.within) in
    c.as_chunks.ensures.front
    ∙ pieces_of_range 4 count place bytes m (omega arith) (length (take m (drop place bytes)) / 4) (omega (arith, long))
