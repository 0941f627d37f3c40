-- The cell's place and the source's slot come to the word of the definition, and the level changes that word.
use mathlib.Core.Path.{ap, ◌∙◌}
use Prim.Native.Nat.{ℕ, ◌+◌}
use native.Mathlib.Omega.{arith}
use lib.ListN.{get_or, set}
use Rattle.words.proofs.LevelCases.{source-few, source-slot}
use Rattle.words.proofs.PlaceLaws.{cell-before, cell-next}
use Rattle.paper.proofs.FormLaws.{slot-below}
use Rattle.paper.specs.Form.{wide, slot, bump}
use Rattle.paper.specs.Words.{cell, hear}
use Rattle.words.proofs.hear.Goals as goal

pub receive-requires : goal.receive-requires
unfolding hear cell
receive-requires c = let a = c.args in
    let k = a.s.level in
    let i = c.cell_at-i in record { q_bound = (source-few k a.s.correct a.s.faulty a.q c.requires.0.boards c.requires.2.below, i.ensures.2, omega (arith, c.requires.3.fits, i.ensures.1, slot-below k a.s.correct a.s.faulty a.q c.requires.2.below)); q_bound_2 = λ n. (source-slot k a.s.correct a.s.faulty a.q n c.requires.2.below, c.requires.3.small n _ (cell-before a.s i.result (i.result + a.q) i.ensures.1 (omega (arith, source-slot k a.s.correct a.s.faulty a.q n c.requires.2.below)))) }

pub returns : goal.returns
unfolding hear cell
returns c = let a = c.args in
    let k = a.s.level in
    let e = ap (λ (x : ℕ). x + slot k a.q) c.cell_at-i.ensures.0 ∙ cell-next a.s.correct a.s.types (wide k) a.p a.m (slot k a.q) in
    c.receive.ensures ∙ ap (λ (x : ℕ). set a.w.now x (bump k a.q (get_or a.w.now x 0))) e
