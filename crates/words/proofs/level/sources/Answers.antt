-- Level 0 has a source for each board, every other level one for each word of a cell: at most 64.
use mathlib.Core.Path.{◌≡◌, refl, ◌∙◌}
use Prim.Native.Nat.{ℕ, ◌+◌, ◌≤◌}
use native.Mathlib.Omega.{arith}
use Rattle.words.proofs.LevelCases.{sets, sources_are}
use Rattle.paper.specs.Paper.{column}
use Rattle.paper.proofs.FormLaws.{wide-some}
use Rattle.words.proofs.level.sources.Goals as goal

pub returns-then-level-eq0 : goal.returns-then-level-eq0
returns-then-level-eq0 c = let a = c.args in
    sets (λ (k : ℕ). (a.c + a.f ≡ (column k a.c a.f).sources) × (a.c + a.f ≤ 64)) (refl, omega (arith, c.requires.0)) _ c.if-level-eq0.true

pub returns-else-level-eq0 : goal.returns-else-level-eq0
returns-else-level-eq0 c = let a = c.args in
    (c.requires.1 ∙ sources_are a.level a.c a.f c.if-level-eq0.false, omega (arith, c.requires.1, (wide-some a.level).1))
