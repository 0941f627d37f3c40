-- At level 0 the sender is put into the set, at every other the count grows by one: the definition's cases.
use mathlib.Core.Path.{◌≡◌}
use Prim.Native.Nat.{ℕ, ◌+◌}
use native.Mathlib.Omega.{arith}
use Rattle.words.proofs.LevelCases.{sets, counts}
use Rattle.paper.specs.Form.{bump}
use Rattle.words.proofs.level.bump.Goals as goal

pub overflow_add-result : goal.overflow_add-result
unfolding bump
overflow_add-result c = omega (arith, c.requires.word_le_in_step c.if-level-eq0.false)

pub returns-then-level-eq0 : goal.returns-then-level-eq0
unfolding bump
returns-then-level-eq0 c = let a = c.args in
    sets (λ (k : ℕ). c.with.result ≡ bump k a.q a.word) c.with.ensures _ c.if-level-eq0.true

pub returns-else-level-eq0 : goal.returns-else-level-eq0
unfolding bump
returns-else-level-eq0 c = let a = c.args in
    counts (λ (k : ℕ). a.word + 1 ≡ bump k a.q a.word) (λ j. omega arith) _ c.if-level-eq0.false
