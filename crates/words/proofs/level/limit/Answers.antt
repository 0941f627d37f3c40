-- Where a cell has one word it is the sum, and else what was sent, as the definition chooses.
use mathlib.Core.Path.{ap, ◌∙◌}
use Prim.Native.Nat.{ℕ}
use lib.Dec.{eqb}
use Rattle.fault.specs.Fault.{◌if◌else◌}
use Rattle.words.proofs.level.limit.Goals as goal

pub returns : goal.returns
returns c = let a = c.args in
    c.choose.ensures ∙ ap (λ (x : ℕ). x if eqb a.wide 1 else a.out) c.with_faulty.ensures
