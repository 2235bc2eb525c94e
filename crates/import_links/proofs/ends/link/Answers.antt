use Rattle.std.proofs.Common.{sym}
use Rattle.import_links.proofs.Stable.{ends_placed}
use Rattle.import_links.proofs.ends.link.Goals as goal

pub returns-clause-link : goal.returns-clause-link
returns-clause-link c =
    rw (c.in_ok-first.ensures.place, c.in_ok-second.ensures.place, c.in_ok-first.ensures.names, c.weight.ensures.weight, c.is_exact.ensures.exact, c.line-line.ensures.line, c.first.ensures.name, c.second.ensures.name)
    (sym (ends_placed c.args.names.now c.args.edge.now))
