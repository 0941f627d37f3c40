-- A byte that is no digit never goes on with a number, and for a digit the two tests are those of `goes_on`.
use Rattle.decimal.proofs.DigitLaws.{digit-least, goes-on-digit, goes-on-other}
use Rattle.decimal.proofs.grows.Goals as goal

pub overflow_sub-result : goal.overflow_sub-result
overflow_sub-result c = search digit-least

pub returns-then-is_digit : goal.returns-then-is_digit
returns-then-is_digit c = search goes-on-digit

pub returns : goal.returns
returns c = search goes-on-other
