-- The word at its place is the definition's.
use Rattle.words.proofs.PlaceLaws.{stopped_word}
use Rattle.words.proofs.stopped_in.Goals as goal

pub returns : goal.returns
returns c = let a = c.args in stopped_word a.s a.w.now c.stopped_at-i.ensures.0
