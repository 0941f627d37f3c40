-- The ones under the mask of the senders below c are the members below c; a word has at most 64 ones.
use mathlib.Core.Path.{ap, ◌∙◌}
use Prim.Native.Nat.{ℕ}
use native.Mathlib.Omega.{arith}
use lib.Bits.{bit_and}
use lib.Count.{ones}
use Rattle.senders.proofs.WordLaws.{ones_correct, ones_few}
use Rattle.senders.proofs.correct_count.Goals as goal

pub returns : goal.returns
returns c = let a = c.args in (
  c.from.ensures ∙ ap (λ (x : ℕ). ones (bit_and a.set x)) c.first.ensures ∙ ones_correct a.c a.set,
  omega (arith, c.from.ensures, ones_few a.set c.first.result c.ranges.set.fits),
)
