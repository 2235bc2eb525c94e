use Rattle.std.proofs.Common.{rules, ◌≡◌, []}
use Rattle.unison_node.specs.Desks.{sums_over_none}
use Rattle.unison_node.proofs.desk.Desk.new.Goals as goal

pub returns : goal.returns
returns c =
    let none : c.start.result ≡ sums_over_none c.args.program.now = c.start.ensures.none 0 0 0 (record { words = [] }) in
    rw none (search rules)
