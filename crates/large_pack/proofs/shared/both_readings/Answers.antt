use Rattle.large_pack.proofs.Halving.{first_bad, second_bad, both_read}
use Rattle.large_pack.proofs.shared.both_readings.Goals as goal

pub returns-in_err-front : goal.returns-in_err-front
returns-in_err-front c = record {
  read = λ o front back one two. first_bad o front back c.args.first c.from_residual.result c.in_err-front.field-0.0 c.in_err-front.was c.from_residual.ensures.1 one;
}

pub returns-in_err-back : goal.returns-in_err-back
returns-in_err-back c = record {
  read = λ o front back one two.
      second_bad o front back c.args.first c.args.second c.from_residual-in_err-back.result c.in_ok-front.front c.in_err-back.field-0.0 c.in_ok-front.was c.in_err-back.was c.from_residual-in_err-back.ensures.1 one two;
}

pub returns : goal.returns
returns c = record {
  read = λ o front back one two.
      both_read o front back c.args.first c.args.second c.in_ok-front.front c.in_ok-back.back _ c.in_ok-front.was c.in_ok-back.was (c.both_surveys.ensures.exact o) (c.both_keyed.ensures.keyed o) one two;
}
