-- The cell and the sent word show what was received and sent; the level decides by these.
use mathlib.Core.Path.{ap, ap₂, ◌∙◌}
use native.Mathlib.Omega.{arith}
use Rattle.words.proofs.PlaceLaws.{sent_in_room, sent-before, sent_word}
use Rattle.words.proofs.LevelCases.{source-few}
use Rattle.words.specs.Words.{column_in}
use Rattle.paper.specs.Form.{wide, shown}
use Rattle.words.proofs.in_transit.Goals as goal

pub bounds-w-k : goal.bounds-w-k
bounds-w-k c = omega (arith, c.requires.3.fits, c.sent_at-k.ensures.0, sent_in_room c.args.s c.args.m c.requires.1.type)

pub in_transit-requires-clause-small : goal.in_transit-requires-clause-small
in_transit-requires-clause-small c = λ ne. c.requires.3.small ne _ (sent-before c.args.s c.args.m c.sent_at-k.ensures.0 c.requires.1.type)

pub in_transit-requires-clause-q_bound : goal.in_transit-requires-clause-q_bound
in_transit-requires-clause-q_bound c = let a = c.args in source-few a.s.level a.s.correct a.s.faulty a.q c.requires.0.boards c.requires.2.below

pub returns : goal.returns
returns c = let a = c.args in
    c.in_transit.ensures ∙ ap₂ ((column_in a.s).in_transit a.q) c.cell_in.ensures.shows (ap (shown a.s.level a.s.correct a.s.faulty) (sent_word a.s.correct a.s.types (wide a.s.level) a.m a.w.now c.sent_at-k.ensures.0))
