use Rattle.run_picture.specs.Frames.{values_after}
use Rattle.run_picture.specs.Keys.{key_of}
use Rattle.run_picture.proofs.OneKey.{is_key}
use Rattle.run_picture.proofs.network.network_dot.Goals as goal

pub returns-clause-text : goal.returns-clause-text
returns-clause-text g c =
    let values = values_after c.args.plan.now c.args.colouring.now.field c.args.round in
    let styles = c.args.colouring.now.styles.now in
    (key_of styles values, is_key styles values, c.in_ok-text.ensures.text)
