-- The cell and the sent word show what was received and sent; the level's lowest source goes by these.
use mathlib.Core.Path.{ap, ap₂, ◌∙◌}
use native.Mathlib.Omega.{arith}
use Rattle.senders.specs.Tally.{least}
use Rattle.words.proofs.PlaceLaws.{sent_in_room, sent-before, sent_word}
use Rattle.words.specs.Words.{column_in}
use Rattle.paper.specs.Form.{wide, shown}
use Rattle.words.proofs.first_source.Goals as goal

pub bounds-w-k : goal.bounds-w-k
bounds-w-k c = omega (arith, c.requires.2.fits, c.sent_at-k.ensures.0, sent_in_room c.args.s c.args.m c.requires.1.type)

pub first_source-requires-clause-small : goal.first_source-requires-clause-small
first_source-requires-clause-small c = λ ne. c.requires.2.small ne _ (sent-before c.args.s c.args.m c.sent_at-k.ensures.0 c.requires.1.type)

pub returns : goal.returns
returns c = let a = c.args in
    c.first_source.ensures ∙ ap₂ (λ got out. least (column_in a.s).sources (λ q. (column_in a.s).in_transit q got out)) c.cell_in.ensures.shows (ap (shown a.s.level a.s.correct a.s.faulty) (sent_word a.s.correct a.s.types (wide a.s.level) a.m a.w.now c.sent_at-k.ensures.0))
