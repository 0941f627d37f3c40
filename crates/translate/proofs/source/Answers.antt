-- At the levels that count the lowest in transit has the only tag; of senders the lowest of the class is looked for.
use native.Mathlib.Omega.{arith}
use Rattle.senders.proofs.TallyLaws.{least-le}
use Rattle.schedule.specs.Records.{meant}
use Rattle.words.specs.Words.{column_in, transit_in}
use Rattle.words.proofs.PlaceLaws.{sent_in_room}
use Rattle.translate.proofs.StepLaws.{source-found, source-low, sender_low, sources-few}
use Rattle.translate.proofs.source.Goals as goal

pub returns-then-s-ne0 : goal.returns-then-s-ne0
returns-then-s-ne0 c = let a = c.args in (
  source-found a.s a.w.now (meant a.x) (source-low a.s a.w.now a.x.board a.x.mtype a.x.source c.if-s-ne0.true c.requires.3 c.first_source.ensures),
  omega (arith, c.first_source.ensures, least-le (column_in a.s).sources (transit_in a.s a.w.now a.x.board a.x.mtype), sources-few a.s.level a.s.correct a.s.faulty c.requires.0.boards),
)

pub bounds-w-j : goal.bounds-w-j
bounds-w-j c = omega (arith, c.requires.1.fits, c.sent_at-j.ensures.0, sent_in_room c.args.s c.args.x.mtype c.requires.2.type)

pub returns : goal.returns
returns c = let a = c.args in
    (source-found a.s a.w.now (meant a.x) (sender_low a.s a.w.now a.x.board a.x.mtype a.x.source c.if-s-ne0.false c.cell_at-i.ensures.0 c.sent_at-j.ensures.0 c.lowest_of.ensures.0), omega (arith, c.lowest_of.ensures.1))
