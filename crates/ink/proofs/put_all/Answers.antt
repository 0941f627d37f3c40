-- The loop keeps that putting the rest of the word from here on comes to putting all of it from n on.
use mathlib.Core.Path.{refl}
use native.Mathlib.Omega.{arith}
use Rattle.ink.proofs.InkLaws.{rest_all, word_more, word_over}
use Rattle.ink.proofs.put_all.Goals as goal

pub loop-b-init : goal.loop-b-init
loop-b-init c = (omega arith, rest_all refl)

pub loop-b-preserved : goal.loop-b-preserved
loop-b-preserved c = (omega arith, search word_more)

pub returns : goal.returns
returns c = search word_over
