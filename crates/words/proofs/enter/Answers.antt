-- Where the word is the state already, writing it would change nothing; else it is written.
use mathlib.Core.Path.{sym, ap, ◌∙◌}
use lib.ListN.{set}
use lib.Seq.{set-get_or}
use Rattle.words.proofs.enter.Goals as goal

pub returns-then-w-p : goal.returns-then-w-p
returns-then-w-p c = let a = c.args in sym (set-get_or a.w.now a.p 0) ∙ ap (set a.w.now a.p) c.if-w-p.true
