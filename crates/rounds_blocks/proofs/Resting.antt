-- What a node's next state depends on.
use Rattle.std.proofs.Common.{sym, ap, ◌∙◌}
use Rattle.rule_check.specs.Value.{next_state}
use Rattle.rule_check.proofs.AnyRound.{next_state-any_round}
use Rattle.link_net.specs.Neighbours.{row}
use Rattle.rounds_plan.specs.Rounds.{nears_in}
use Rattle.rounds_plan.proofs.SameNears.{near_same}
use Rattle.rounds_blocks.specs.Walks.{RestsWhereNothingMoved}

pub rests : RestsWhereNothingMoved
rests rules network round later before after u unread next same nears =
    next_state-any_round rules later round u (after u) (nears_in network after u) unread
    ∙ ap (λ s. next_state rules round u s (nears_in network after u)) same
    ∙ ap (next_state rules round u (before u)) (near_same after before (row network u) nears)
    ∙ sym next
