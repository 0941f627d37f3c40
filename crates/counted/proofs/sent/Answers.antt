-- Each sent count is small, and it is that of its type.
use Prim.Native.Nat.{ℕ, ◌≤◌, ◌<◌}
use native.Mathlib.Omega.{arith}
use Rattle.words.specs.Facts.{at_end}
use Rattle.words.specs.Words.{sent_count_in}
use Rattle.counted.proofs.SumLaws.{sent-small}
use Rattle.counted.proofs.sent.Goals as goal

pub sum_of-requires-clause-small : goal.sum_of-requires-clause-small
sum_of-requires-clause-small c = let a = c.args in
    let small : (m : ℕ) → m < a.s.types → sent_count_in a.s a.w.now m ≤ at_end = λ m h. sent-small a.s a.w.now m c.requires.0 c.requires.1 h in
    λ m x h q. omega (arith, q, small)

pub returns : goal.returns
returns c = let a = c.args in c.sum_of.ensures.value (λ m. sent_count_in a.s a.w.now m) (λ m x h q. omega (arith, q))
