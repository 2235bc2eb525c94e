use Rattle.std.proofs.Common.{Some, None}
use Rattle.run_page.proofs.Marks.{found_from, rest_whole}
use Rattle.run_page.proofs.embed.mark_from.Goals as goal

pub returns-in-Some : goal.returns-in-Some
returns-in-Some c =
    let found = rw (c.as_bytes.ensures.value, rest_whole c.args.from c.args.viewer.now) at c.in-Some.ensures in
    record { first = found_from c.args.viewer.now c.args.from c.requires.within (Some c.in-Some.place) found }

pub returns-in-None : goal.returns-in-None
returns-in-None c =
    let found = rw (c.as_bytes.ensures.value, rest_whole c.args.from c.args.viewer.now) at c.in-None.ensures in
    record { first = found_from c.args.viewer.now c.args.from c.requires.within None found }
