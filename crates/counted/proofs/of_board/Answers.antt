-- Each count is small, and so are four of them.
use native.Mathlib.Omega.{arith}
use Rattle.std.proofs.Common.{rules}
use Rattle.words.specs.Words.{count_in}
use Rattle.counted.proofs.of_board.Goals as goal

pub returns : goal.returns
returns c = let a = c.args in
    (c.sum_of.ensures.value (λ m. count_in a.s a.w.now a.p m) (λ i x h q. search rules), omega (arith, c.sum_of.ensures.within 2000000 (λ i x h q. search rules), c.requires.0.types))
