use Rattle.std.proofs.Common.{◌≡◌, ◌++◌, List, is_none}
use Rattle.toml.proofs.Views.{Entry}
use Rattle.toml.specs.View.{members_view}
use Rattle.link_net.specs.Document.{sets_of}
use Rattle.link_net.proofs.shape_causes.set_cause.Given as goal

abbrev pub invariant-loop-key : goal.invariant-loop-key
invariant-loop-key l =
    (goal.iterator-loop-key).can_next l.key-iterator ×
    (goal.iterator-loop-key).is_finite l.key-iterator ×
    (is_none (sets_of (members_view l.sets.entries)) ≡ is_none (sets_of (members_view l.key-iterator))) ×
    ((done : List Entry) × (l.sets.entries ≡ done ++ l.key-iterator))
