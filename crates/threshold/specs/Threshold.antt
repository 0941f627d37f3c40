-- Thresholds: the smallest whole number not below (a·n + b·t + d)/e, over the integers, with a, b, d two's complement bytes (outline,
-- "Bundle layout"; Q-7). In the first edition e is 1.
use Rattle.std.specs.Prelude.{◌≡◌, Bool, true, false, cond, ℕ, suc, ◌+◌, ◌-◌, ◌/◌, ltb, ℤ, pos, negsuc, neg_ℤ, ◌+ℤ◌, ◌-ℤ◌, ◌*ℤ◌}
use Rattle.std.specs.Int.Signed.{le_z}
use Rattle.threshold.specs.declared.Weights.{Weights}

-- a byte as two's complement: 0 .. 127 are themselves, 128 .. 255 are -128 .. -1 (`negsuc k` is -1 - k)
unfoldable pub signed_byte : ℕ → ℤ
signed_byte x = cond (ltb x 128) (pos x) (negsuc (255 - x))

-- a·n + b·t + d
unfoldable pub sum_of : Weights → ℕ → ℕ → ℤ
sum_of w n t = signed_byte w.a *ℤ pos n +ℤ signed_byte w.b *ℤ pos t +ℤ signed_byte w.d

-- z / e rounded up, where e is not 0: a negative one comes nearer to 0
unfoldable pub rounded_up : ℤ → ℕ → ℤ
rounded_up (pos k) e = pos ((k + (e - 1)) / e)
rounded_up (negsuc k) e = neg_ℤ (pos (suc k / e))

unfoldable pub threshold_of : Weights → ℕ → ℕ → ℤ
threshold_of w n t = rounded_up (sum_of w n t) w.e

-- q is the smallest whole number not below z / e: q·e is at least z, and with one less it is not (proofs/QuotientLaws.antt)
pub record Smallest (z : ℤ) (e : ℕ) (q : ℤ) : Type 0 where
  pub enough : le_z z (q *ℤ pos e) ≡ true
  pub no_less : le_z z ((q -ℤ pos 1) *ℤ pos e) ≡ false

-- the count is at least the threshold (outline, "One step", 3)
abbrev pub met_by : ℕ → ℤ → Bool
met_by count threshold = le_z threshold (pos count)

-- the least count that meets it: itself, and 0 where it is negative
unfoldable pub least_of : ℤ → ℕ
least_of (pos k) = k
least_of (negsuc k) = 0
