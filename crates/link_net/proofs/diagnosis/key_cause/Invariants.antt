use Rattle.std.proofs.Common.{◌≡◌, ◌++◌, List}
use Rattle.toml.proofs.Views.{Entry}
use Rattle.toml.specs.View.{members_view}
use Rattle.link_net.specs.Document.{has_unknown_key}
use Rattle.link_net.proofs.diagnosis.key_cause.Given as goal

abbrev pub invariant-loop-key : goal.invariant-loop-key
invariant-loop-key l =
    (goal.iterator-loop-key).can_next l.key-iterator ×
    (goal.iterator-loop-key).is_finite l.key-iterator ×
    (has_unknown_key (members_view l.table.entries) ≡ has_unknown_key (members_view l.key-iterator)) ×
    ((done : List Entry) × (l.table.entries ≡ done ++ l.key-iterator))
