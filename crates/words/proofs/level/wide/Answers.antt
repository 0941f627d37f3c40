-- Level 1 has two words and every other level has one, by cases on the level.
use mathlib.Core.Path.{◌≡◌, refl}
use Prim.Native.Nat.{ℕ, ◌≤◌}
use native.Mathlib.Omega.{arith}
use Rattle.words.proofs.LevelCases.{tags, singles}
use Rattle.paper.specs.Form.{wide}
use Rattle.words.proofs.level.wide.Goals as goal

pub returns-then-level-eq1 : goal.returns-then-level-eq1
unfolding wide
returns-then-level-eq1 c = tags (λ (k : ℕ). (2 ≡ wide k) × (1 ≤ 2) × (2 ≤ 2)) (refl, omega arith, omega arith) _ c.if-level-eq1.true

pub returns-else-level-eq1 : goal.returns-else-level-eq1
unfolding wide
returns-else-level-eq1 c = singles (λ (k : ℕ). (1 ≡ wide k) × (1 ≤ 1) × (1 ≤ 2)) (refl, omega arith, omega arith) (λ j. (refl, omega arith, omega arith)) _ c.if-level-eq1.false
