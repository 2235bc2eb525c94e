use Rattle.large_pack.proofs.Sounds.{Known, known}
use Rattle.large_pack.proofs.pack.pack_anew.Goals as goal
use Rattle.large_pack.proofs.pack.pack_anew.Goals.{In_ok-edges}

known_here : (c : In_ok-edges) → Known c.args.options.now c.args.nodes c.in_ok-edges.edges.items
known_here c =
    known c.args.options.now c.args.text.now c.args.nodes c.in_ok-edges.edges.items c.requires.counted
    (rw c.edge_lines.ensures.lines at c.in_ok-edges.ensures)

pub pack_ranked-requires-clause-some : goal.pack_ranked-requires-clause-some
pack_ranked-requires-clause-some c = (known_here c).0

pub pack_ranked-requires-clause-within : goal.pack_ranked-requires-clause-within
pack_ranked-requires-clause-within c = (known_here c).1

pub pack_ranked-requires-clause-rising : goal.pack_ranked-requires-clause-rising
pack_ranked-requires-clause-rising c = (known_here c).2

pub pack_ranked-requires-clause-tied : goal.pack_ranked-requires-clause-tied
pack_ranked-requires-clause-tied c = (known_here c).3
