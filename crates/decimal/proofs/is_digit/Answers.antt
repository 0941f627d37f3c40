-- The tests are those of `is_digit`.
use Rattle.decimal.specs.Digits.{is_digit}
use Rattle.decimal.proofs.is_digit.Goals as goal

pub returns : goal.returns
unfolding is_digit
returns c = cc
