-- A threshold is met by the counts from its least one on.
use mathlib.Core.Path.{◌≡◌, refl, sym}
use Prim.Native.Nat.{ℕ, zero, suc, ◌≤◌}
use native.Mathlib.Omega.{arith}
use lib.Dec.{leb}
use lib.IntN.{ℤ, pos, negsuc, nat_abs}
use lib.Signed.{mag}
use borrow.Author.Tests.{le-leb, lt-ltb}
use Rattle.std.specs.Int.{int_max}
use Rattle.threshold.specs.Threshold.{met_by, least_of}

pub from-least : (count : ℕ) (z : ℤ) → met_by count z ≡ leb (least_of z) count
unfolding least_of
from-least count (pos k) = refl
from-least count (negsuc k) = sym (le-leb 0 count (omega arith))

-- ---- the larger of a number and 0, by the sign
pub least-max : (z : ℤ) → mag z ≤ 20000 → (nat_abs (int_max z (pos 0)) ≡ least_of z) × (nat_abs (int_max z (pos 0)) ≤ 20000)
unfolding least_of
least-max (pos zero) l = (refl, l)
least-max (pos (suc k)) l = rw (lt-ltb 0 (suc k) (omega arith)) (refl, l)
least-max (negsuc k) l = (refl, omega arith)
