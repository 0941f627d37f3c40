-- Source 0 is in transit where the first count is below its limit; another where the cell has a word for it and that is below f.
use mathlib.Core.Path.{ap, ◌∙◌}
use mathlib.Core.Bool.{◌&&◌}
use Prim.Native.Nat.{ℕ}
use Rattle.fault.specs.Tests.{◌below◌}
use Rattle.words.proofs.LevelCases.{limit_of, first-transit, other-transit}
use Rattle.words.proofs.level.Cell.count_in_transit.Goals as goal

pub returns-then-q-eq0 : goal.returns-then-q-eq0
returns-then-q-eq0 c = let a = c.args in
    ap (λ (x : ℕ). a.self.first below x) (c.limit.ensures ∙ ap (λ (x : ℕ). limit_of x a.s.faulty a.out) c.requires.1) ∙ first-transit a.s.level a.s.correct a.s.faulty a.q a.self.first a.self.last a.out c.requires.2 c.if-q-eq0.true

pub returns : goal.returns
returns c = let a = c.args in
    ap (λ (x : ℕ). a.q below x && a.self.last below a.s.faulty) c.requires.1 ∙ other-transit a.s.level a.s.correct a.s.faulty a.q a.self.first a.self.last a.out c.requires.2 c.if-q-eq0.false
