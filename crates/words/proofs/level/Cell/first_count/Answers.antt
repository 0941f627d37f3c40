-- Source 0 is in transit where the first count is below its limit, else source 1 where the second is below f. With one count the width is 1 too, so that both last answers are the same: none.
use mathlib.Core.Path.{ap, ◌∙◌}
use Prim.Native.Nat.{ℕ}
use native.Mathlib.Omega.{arith}
use Rattle.words.proofs.LevelCases.{limit_of, first-zero, first_one, first-none}
use Rattle.words.proofs.level.Cell.first_count.Goals as goal

pub returns-then-self-limit : goal.returns-then-self-limit
returns-then-self-limit c = let a = c.args in
    first-zero a.s.correct a.s.faulty a.self.first a.self.last a.out a.s.level c.requires.2 (omega (arith, c.if-self-limit.true, c.limit.ensures ∙ ap (λ (x : ℕ). limit_of x a.s.faulty a.out) c.requires.1))

pub returns-then-self-s : goal.returns-then-self-s
returns-then-self-s c = let a = c.args in
    first_one a.s.correct a.s.faulty a.self.first a.self.last a.out a.s.level c.requires.2 (omega (arith, c.if-self-limit.false, c.limit.ensures ∙ ap (λ (x : ℕ). limit_of x a.s.faulty a.out) c.requires.1)) c.if-self-s.true

pub returns : goal.returns
returns c = let a = c.args in
    c.requires.1 ∙ first-none a.s.correct a.s.faulty a.self.first a.self.last a.out a.s.level c.requires.2 (omega (arith, c.if-self-limit.false, c.limit.ensures ∙ ap (λ (x : ℕ). limit_of x a.s.faulty a.out) c.requires.1)) (omega (arith, c.if-self-s.false))
