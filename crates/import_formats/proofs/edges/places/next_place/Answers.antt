use Rattle.std.proofs.Common.{Some, None, arith}
use Rattle.std.proofs.lemmas.Str.Pattern.{split_parts}
use Rattle.import_formats.proofs.edges.PlaceCuts.{split_whole, split_at_comma}
use Rattle.import_formats.proofs.edges.places.next_place.Goals as goal

pub returns-in-Some-clause-places : goal.returns-in-Some-clause-places
returns-in-Some-clause-places c =
    let parts = split_parts 44 c.args.text.now (Some (c.in-Some.place, c.in-Some.rest)) c.in-Some.ensures.cases (omega arith) in
    rw parts.0 (split_at_comma _ _ parts.1)

pub returns-in-None-clause-places : goal.returns-in-None-clause-places
returns-in-None-clause-places c = split_whole _ (split_parts 44 c.args.text.now None c.in-None.ensures.cases (omega arith))
