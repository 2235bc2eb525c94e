use Rattle.std.proofs.Common.{Some, None, arith}
use Rattle.std.proofs.lemmas.Str.Pattern.{split_parts}
use Rattle.app_calls.proofs.NameLines.{first_feed, first_line, no_feeds}
use Rattle.app_calls.proofs.models.constants.first_name.Goals as goal

pub returns-in-Some-clause-line : goal.returns-in-Some-clause-line
returns-in-Some-clause-line c =
    let parts = split_parts 10 c.args.names.now (Some c.in-Some.parts) c.in-Some.ensures.cases (omega arith) in
    λ some. first_line c.args.names.now c.in-Some.parts.0.now c.in-Some.parts.1.now parts.0 parts.1

pub returns-in-Some-clause-feeds : goal.returns-in-Some-clause-feeds
returns-in-Some-clause-feeds c =
    let parts = split_parts 10 c.args.names.now (Some c.in-Some.parts) c.in-Some.ensures.cases (omega arith) in
    λ some. first_feed c.args.names.now c.in-Some.parts.0.now c.in-Some.parts.1.now parts.0 parts.1

pub returns-in-None-clause-line : goal.returns-in-None-clause-line
returns-in-None-clause-line c =
    let none = no_feeds c.args.names.now (split_parts 10 c.args.names.now None c.in-None.ensures.cases (omega arith)) in
    λ some. absurd (omega (arith, some, none))

pub returns-in-None-clause-feeds : goal.returns-in-None-clause-feeds
returns-in-None-clause-feeds c =
    let none = no_feeds c.args.names.now (split_parts 10 c.args.names.now None c.in-None.ensures.cases (omega arith)) in
    λ some. absurd (omega (arith, some, none))
