use Rattle.std.proofs.Common.{rules, ◌≡◌, []}
use Rattle.unison_node.specs.Desks.{sums_over_none}
use Rattle.unison_node.proofs.desk.Desk.clear.Goals as goal

pub returns : goal.returns
returns c =
    let none : c.start-self-inside.result ≡ sums_over_none c.args.program.now = c.start-self-inside.ensures.none 0 0 0 (record { words = [] }) in
    rw none (search rules)
