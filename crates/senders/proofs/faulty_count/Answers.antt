-- The difference of the two masks has a one for each of the f senders from c on, so the ones under it are the members among these.
use mathlib.Core.Path.{ap, ap₂, ◌∙◌}
use Prim.Native.Nat.{ℕ, ◌-◌}
use native.Mathlib.Omega.{arith}
use lib.Bits.{bit_and}
use lib.Count.{ones}
use Rattle.senders.proofs.WordLaws.{ones_faulty, ones_few, mask_less, mask_faulty}
use Rattle.senders.proofs.faulty_count.Goals as goal

pub overflow_sub-first : goal.overflow_sub-first
overflow_sub-first c = rw (c.first-2.ensures, c.first.ensures) (mask_less _ _)

pub returns : goal.returns
returns c = let a = c.args in (
  c.from.ensures ∙ ap (λ (x : ℕ). ones (bit_and a.set x)) (ap₂ (λ (x y : ℕ). x - y) c.first.ensures c.first-2.ensures ∙ mask_faulty a.c a.f) ∙ ones_faulty a.c a.f a.set,
  omega (arith, c.from.ensures, ones_few a.set (c.first.result - c.first-2.result) c.ranges.set.fits),
)
