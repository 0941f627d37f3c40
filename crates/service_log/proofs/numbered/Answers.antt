-- Too few bytes, or another word, are no piece of a line; where the word stands, the number after it counts.
use native.Mathlib.Omega.{arith}
use Rattle.service_log.proofs.PieceLaws.{numbered-short, numbered-none, numbered-some}
use Rattle.service_log.proofs.numbered.Goals as goal

pub returns-then-log-at-lt7 : goal.returns-then-log-at-lt7
returns-then-log-at-lt7 c = numbered-short c.args.log.now _ c.args.at c.requires.1 (omega (arith, c.if-log-at-lt7.true))

pub begins-requires : goal.begins-requires
begins-requires c = (omega (arith, c.if-log-at-lt7.false, c.requires.0), c.requires.1)

pub returns-then-not-begins : goal.returns-then-not-begins
returns-then-not-begins c = numbered-none c.args.log.now _ c.args.at c.begins.ensures c.if-not-begins.true

pub number-requires : goal.number-requires
number-requires c = omega (arith, c.if-log-at-lt7.false, c.requires.0)

pub returns : goal.returns
returns c = numbered-some c.args.log.now _ c.args.at _ c.requires.1 c.begins.ensures c.if-not-begins.false c.number.ensures
