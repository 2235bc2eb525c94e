use Rattle.std.proofs.Common.{◌≡◌, ℕ, List, Ok, Err, Result, length, subst}
use Rattle.std.specs.Result.{IfOk}
use Rattle.rule_lang.specs.Tree.{ItemTree}
use Rattle.rule_check.specs.Items.{rules_of}
use Rattle.rule_check.specs.Value.{Rules}
use Rattle.link_net.specs.Layout.{rows_of}
use Rattle.large_net.specs.Large.{AreLaidOut}
use Rattle.app_jobs.specs.Served.{IsAccepted}
use Rattle.app_calls.specs.declared.large.fault.LargeCallFault.{LargeCallFault}
use Rattle.app_calls.specs.Lists.{given_weights}
use Rattle.app_calls.specs.PartAnswers.{HasPartRound, IsPartRound}
use Rattle.app_calls.proofs.large.parts.write_part_round.Goals as goal

-- the round is made of an accepted program, on lists that are rows
of_lists : (program ids offsets ns ws : List ℕ) (round : ℕ) (from : List ℕ) (room : ℕ) (to : List ℕ) (items : List ItemTree) (result : Result ℕ LargeCallFault)
    → IsAccepted program items → AreLaidOut offsets ns (given_weights ns ws)
    → IfOk result (IsPartRound (rules_of items) ids (rows_of offsets ns (given_weights ns ws)) round from room to)
    → IfOk result (HasPartRound program ids offsets ns ws round from room to)
of_lists program ids offsets ns ws round from room to items (Ok changed) accepted rows made = record { items = items; accepted = accepted; rows = rows; made = made }
of_lists program ids offsets ns ws round from room to items (Err fault) accepted rows made = made

-- what is so of the program of these items is so of a program that is theirs
of_program : (program ids offsets ns ws : List ℕ) (round : ℕ) (from : List ℕ) (room : ℕ) (to : List ℕ) (items : List ItemTree) (rules : Rules) (result : Result ℕ LargeCallFault)
    → IsAccepted program items → rules ≡ rules_of items → AreLaidOut offsets ns (given_weights ns ws)
    → IfOk result (IsPartRound rules ids (rows_of offsets ns (given_weights ns ws)) round from room to)
    → IfOk result (HasPartRound program ids offsets ns ws round from room to)
of_program program ids offsets ns ws round from room to items rules result accepted are rows made =
    of_lists program ids offsets ns ws round from room to items result accepted rows
    (subst (λ (r : Rules). IfOk result (IsPartRound r ids (rows_of offsets ns (given_weights ns ws)) round from room to)) are made)

pub returns-clause-written : goal.returns-clause-written
returns-clause-written c =
    let a = c.args in
    let accepted = c.in_ok-_source.ensures.accepted in
    of_program a.program.now a.part.now.ids.now a.part.now.lists.offsets.now a.part.now.lists.neighbours.now a.part.now.lists.weights.now a.round a.from.now (length a.to.now) c.put_part.new.to _ _ c.put_part.result
    accepted.0 accepted.1 c.in_ok-check_lists.ensures.rows c.put_part.ensures.written
