-- The two words that are read are the first and the last of the cell, which show all of it; both are before the stopped boards.
use Rattle.words.proofs.PlaceLaws.{first-before, cell-before, coll-words}
use Rattle.words.proofs.cell_in.Goals as goal

pub returns-clause-shows : goal.returns-clause-shows
returns-clause-shows c = let a = c.args in coll-words a.s.level a.s.correct a.s.faulty a.s.types a.p a.m a.w.now c.cell_at-i.ensures.0 c.last_of-j.ensures.0

pub returns-clause-small : goal.returns-clause-small
returns-clause-small c = let s = c.args.s in
    λ k H ne. (H.small ne _ (first-before s c.cell_at-i.result c.cell_at-i.ensures.1), H.small ne _ (cell-before s c.cell_at-i.result c.last_of-j.result c.cell_at-i.ensures.1 c.last_of-j.ensures.2))
