-- The word that is read is the sent word, which counts as the first word of a cell does.
use mathlib.Core.Path.{ap, ◌∙◌}
use Prim.Native.Nat.{ℕ}
use native.Mathlib.Omega.{arith}
use Rattle.words.proofs.LevelCases.{told_word}
use Rattle.words.proofs.PlaceLaws.{sent_in_room, sent_word}
use Rattle.words.specs.Words.{from_correct}
use Rattle.paper.specs.Form.{wide, shown}
use Rattle.words.proofs.sent_in.Goals as goal

pub bounds-w-sent_at : goal.bounds-w-sent_at
bounds-w-sent_at c = omega (arith, c.requires.2, c.sent_at.ensures.0, sent_in_room c.args.s c.args.m c.requires.1)

pub returns : goal.returns
returns c = let a = c.args in
    let s = a.s in
    c.from_correct.ensures ∙ told_word s.level s.correct s.faulty _ 0 ∙ ap (λ (x : ℕ). from_correct s.level s.correct s.faulty (shown s.level s.correct s.faulty x)) (sent_word s.correct s.types (wide s.level) a.m a.w.now c.sent_at.ensures.0)
