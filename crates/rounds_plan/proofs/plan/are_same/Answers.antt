use Rattle.std.proofs.Common.{◌≡◌, ap}
use Rattle.std.specs.Bool.{Decides}
use Rattle.std.proofs.lemmas.Slice.Eq.{bytes_eq-Decides, slice_eq-Decides}
use Rattle.rule_check.specs.declared.state.State.{State}
use Rattle.rule_check.specs.contracts.state.StatePartialEq.TheImpl.{eq-value}
use Rattle.rounds_plan.proofs.plan.are_same.Goals as goal

-- states are equal where their words are
state_Decides : (a b : State) → Decides (eq-value.it a b) (a ≡ b)
state_Decides a b =
    let words = bytes_eq-Decides a.words b.words in
    (λ h. ap (λ ws. record { words = ws }) (words.0 h), λ e. words.1 (ap (λ (s : State). s.words) e))

pub returns : goal.returns
returns c = slice_eq-Decides state_Decides c.args.left.now c.args.right.now c.eq.result c.eq.ensures
