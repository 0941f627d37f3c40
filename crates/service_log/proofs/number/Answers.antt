-- A first digit begins a number, whose rest is read on; without one there is none.
use native.Mathlib.Omega.{arith}
use borrow.Author.Rules.{rules}
use Rattle.service_log.proofs.PieceLaws.{first-digit, number-none, number_read}
use Rattle.service_log.proofs.number.Goals as goal

pub returns-then-not-is_digit : goal.returns-then-not-is_digit
returns-then-not-is_digit c = number-none _ _ c.requires c.byte_at-x.ensures.0 c.is_digit.ensures c.if-not-is_digit.true

pub overflow_sub-x : goal.overflow_sub-x
overflow_sub-x c = (first-digit c.is_digit.ensures c.if-not-is_digit.false).least

pub rest-requires : goal.rest-requires
rest-requires c = (search rules, (first-digit c.is_digit.ensures c.if-not-is_digit.false).size, omega arith)

pub returns : goal.returns
returns c = number_read {n = c.rest.result} c.requires c.byte_at-x.ensures.0 c.is_digit.ensures c.if-not-is_digit.false c.rest.ensures
