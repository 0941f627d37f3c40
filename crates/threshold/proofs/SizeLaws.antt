-- The size of a signed number, `mag`, after a sum and after a product with a natural number: each a bound in ℕ, from which `omega` goes on.
use mathlib.Core.Path.{◌≡◌, refl, ap}
use mathlib.Core.Bool.{Bool, true, false, cond}
use Prim.Native.Nat.{ℕ, zero, suc, ◌+◌, ◌-◌, ◌*◌, ◌^◌, ◌≤◌, ◌<◌}
use native.Mathlib.Nat.{mul-le-mul, le_trans}
use native.Mathlib.Decide.{dec_lt}
use native.Mathlib.Omega.{arith}
use lib.Dec.{ltb}
use lib.IntN.{ℤ, pos, negsuc, neg_ℤ, sub_ℕ, ◌+ℤ◌, ◌*ℤ◌}
use lib.Signed.{mag}
use mir.Syntax.{w8, w64}
use mir.Val.{to_z, of_z}
use mir.Facts.{to_z-of_z}
use borrow.Author.Tests.{ltb-true, ltb-false, lt-ltb, le-ltb}
use Rattle.threshold.specs.Threshold.{signed_byte}

-- what the machine reads back from the bits of a signed number, and of an unsigned one that is small enough
pub bits_back : (z : ℤ) → mag z < 2 ^ 63 → to_z w64 (of_z w64 z) ≡ z
bits_back z h = to_z-of_z {w = w64} (record { sfits = h })

pub small : (n : ℕ) → n < 2 ^ 63 → to_z w64 n ≡ pos n
small n h = bits_back (pos n) h

mag_sub : (a b : ℕ) → mag (sub_ℕ a b) ≤ a + b
mag_sub a b = go (ltb a b) refl
  where
    go : (t : Bool) → ltb a b ≡ t → mag (sub_ℕ a b) ≤ a + b
    go true e = rw e (omega (arith, ltb-true))
    go false e = rw e (omega (arith, ltb-false))

pub mag_add : (y z : ℤ) → mag (y +ℤ z) ≤ mag y + mag z + 1
mag_add (pos a) (pos b) = omega arith
mag_add (pos a) (negsuc b) = omega (arith, mag_sub a (suc b))
mag_add (negsuc a) (pos b) = omega (arith, mag_sub b (suc a))
mag_add (negsuc a) (negsuc b) = omega arith

mag_neg : (n : ℕ) → mag (neg_ℤ (pos n)) ≤ n
mag_neg zero = omega arith
mag_neg (suc n) = omega arith

pub mag_mul : (z : ℤ) (n : ℕ) (A N : ℕ) → mag z < A → n ≤ N → mag (z *ℤ pos n) ≤ A * N
mag_mul (pos a) n A N ha hn = mul-le-mul (omega arith) hn
mag_mul (negsuc a) n A N ha hn = le_trans (mag_neg (suc a * n)) (mul-le-mul ha hn)

-- a byte read as two's complement
pub signed-byte : (x : ℕ) → to_z w8 x ≡ signed_byte x
unfolding signed_byte
signed-byte x = let e : 256 - suc x ≡ 255 - x = omega arith in ap (λ (y : ℕ). cond (ltb x 128) (pos x) (negsuc y)) e

pub byte_small : (x : ℕ) → x < 256 → mag (signed_byte x) < 128
unfolding signed_byte
byte_small x h = go (dec_lt x 128)
  where
    go : Dec (x < 128) → mag (signed_byte x) < 128
    go (yes l) = rw (lt-ltb x 128 l) l
    go (no l) = rw (le-ltb x 128 (omega arith)) (omega arith)
