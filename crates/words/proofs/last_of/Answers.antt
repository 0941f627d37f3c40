-- The width less one is where slot 1 is; it is inside the cell, since a cell has one word or two.
use mathlib.Core.Path.{ap, ◌∙◌}
use Prim.Native.Nat.{ℕ, ◌+◌, ◌-◌}
use native.Mathlib.Omega.{arith}
use Rattle.paper.proofs.FormLaws.{wide-some}
use Rattle.words.proofs.LevelCases.{slot-last}
use Rattle.words.proofs.last_of.Goals as goal

pub overflow_sub-result : goal.overflow_sub-result
overflow_sub-result c = omega (arith, c.requires.0.wide, (wide-some c.args.s.level).0)

pub overflow_add-result : goal.overflow_add-result
overflow_add-result c = omega (arith, c.requires.0.wide, (wide-some c.args.s.level).1, c.requires.1)

pub returns : goal.returns
returns c = let k = c.args.s.level in
    (ap (λ (x : ℕ). c.args.i + (x - 1)) c.requires.0.wide ∙ ap (λ (x : ℕ). c.args.i + x) (slot-last k), omega arith, omega (arith, c.requires.0.wide, (wide-some k).0), omega (arith, c.requires.0.wide, (wide-some k).1, c.requires.1))
