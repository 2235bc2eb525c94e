use Rattle.run_picture.specs.Frames.{values_drawn}
use Rattle.run_picture.specs.Keys.{key_of}
use Rattle.run_picture.proofs.OneKey.{is_key}
use Rattle.run_picture.proofs.each_round.round_pictures.Goals as goal

pub returns-clause-texts : goal.returns-clause-texts
returns-clause-texts g c =
    let values = values_drawn c.args.plan.now c.args.drawing.now in
    let styles = c.args.drawing.now.colouring.styles.now in
    (key_of styles values, is_key styles values, c.in_ok-texts.ensures.texts)
