use Rattle.std.proofs.Common.{◌≡◌, ◌++◌, drop, map}
use Rattle.std.specs.List.{enumerate_from, filter}
use Rattle.run_cuts.specs.Cuts.{is_asked}
use Rattle.run_cuts.specs.Counting.{form_of, fresh}
use Rattle.run_cuts.proofs.telling.counted_of.Given as goal

abbrev pub invariant-loop-number : goal.invariant-loop-number
invariant-loop-number l =
    l.counted.items ++ map fresh (filter (λ x. is_asked l.below (form_of x.1.form)) (enumerate_from l.number (drop l.number l.operators)))
    ≡ map fresh (filter (λ x. is_asked l.below (form_of x.1.form)) (enumerate_from 0 l.operators))
