use Rattle.std.proofs.Common.{◌≡◌, ◌+◌, ◌≤◌, drop}
use Rattle.std.specs.List.{count_by}
use Rattle.std.specs.Option.{is_some}
use Rattle.run_steps.proofs.verify.objects.count_of.Given as goal

abbrev pub invariant-loop-value : goal.invariant-loop-value
invariant-loop-value l =
    record {
      count : l.count + count_by is_some (drop l.value-index l.given.values) ≡ count_by is_some l.given.values;
      few : l.count ≤ l.value-index;
    }
