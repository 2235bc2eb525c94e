use Rattle.std.proofs.Common.{◌<◌, arith, append_assoc}
use Rattle.std.proofs.lemmas.Grind.{common_steps}
use Rattle.run_picture.specs.Sheets.{class_style}
use Rattle.run_watch.proofs.Ranges.{flat_left}
use Rattle.run_picture.proofs.sheet.put_styles.Goals as goal

pub loop-class-preserved : goal.loop-class-preserved
loop-class-preserved c =
    let k = c.loop-class.class in
    let inside : k < c.args.count = omega arith in
    let more = flat_left (class_style c.args.key.now) k c.args.count inside in
    grind (arith, common_steps, more, append_assoc)
