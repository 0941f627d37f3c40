-- Bit q of the word is what is left after a shift by q, modulo 2: the definition of `mem`.
use mathlib.Core.Path.{refl}
use Rattle.senders.specs.Set.{mem}
use Rattle.senders.proofs.has.Goals as goal

pub returns : goal.returns
unfolding mem
returns c = refl
