use Rattle.std.proofs.Common.{◌≡◌, drop}
use Rattle.std.specs.List.{list_any}
use Rattle.run_cuts.specs.Cuts.{is_outside}
use Rattle.run_cuts.specs.Counting.{form_of, here_of}
use Rattle.run_cuts.proofs.values.is_outside_somewhere.Given as goal

abbrev pub invariant-loop-near : goal.invariant-loop-near
invariant-loop-near l = list_any (is_outside (here_of l.node) (form_of l.form)) (drop l.near-index l.near-items) ≡ list_any (is_outside (here_of l.node) (form_of l.form)) l.near-items
