use Rattle.std.proofs.Common.{◌+◌, ◌*◌, map}
use Rattle.std.specs.Prelude.{sum}
use Rattle.rule_check.specs.Value.{value}
use Rattle.run_cuts.proofs.Plain.{above_differs, below_differs}
use Rattle.run_cuts.proofs.laws.cut_where_values_differ.Goals as goal

pub returns : goal.returns
returns c = record {
  sum = λ here. λ a. λ b. λ near. above_differs (value here a near + value here b near);
  difference = λ here. λ a. λ b. λ near. below_differs (value here a near) (value here b near);
  product = λ here. λ a. λ b. λ near. above_differs (value here a near * value here b near);
  total = λ here. λ e. λ near. above_differs (sum (map (value here e) here.nears));
}
