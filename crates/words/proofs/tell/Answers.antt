-- The place is that of the sent word. The board's number changes it as its own source does: a set takes the board, and a count grows by one for any.
use native.Mathlib.Omega.{arith}
use Rattle.words.proofs.LevelCases.{bump-own}
use Rattle.words.proofs.PlaceLaws.{sent_in_room, sent-before}
use Rattle.paper.specs.Words.{sent}
use Rattle.words.proofs.tell.Goals as goal

pub bounds-w-i : goal.bounds-w-i
bounds-w-i c = omega (arith, c.requires.2.fits, c.sent_at-i.ensures.0, sent_in_room c.args.s c.args.m c.requires.1.type)

pub bump-requires : goal.bump-requires
bump-requires c = record { q_bound = omega (arith, c.requires.0.boards, c.requires.1.board); word_le_in_step = λ ne. c.requires.2.small ne _ (sent-before c.args.s c.args.m c.sent_at-i.ensures.0 c.requires.1.type) }

pub bounds-w-i-2 : goal.bounds-w-i-2
bounds-w-i-2 c = omega (arith, c.requires.2.fits, c.sent_at-i.ensures.0, sent_in_room c.args.s c.args.m c.requires.1.type)

pub returns : goal.returns
unfolding sent
returns c = let a = c.args in
    rw (c.bump.ensures, c.sent_at-i.ensures.0, bump-own a.s.level a.s.correct a.s.faulty a.p)
