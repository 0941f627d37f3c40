-- A number divided by e and rounded up is the smallest whole number not below the quotient: division leaves less than e, on either side of 0.
use mathlib.Core.Path.{◌≡◌, refl, sym, ap, ◌∙◌}
use mathlib.Core.Bool.{true, false}
use Prim.Native.Nat.{ℕ, zero, suc, ◌+◌, ◌-◌, ◌*◌, ◌/◌, ◌≤◌, ◌<◌}
use native.Mathlib.Nat.{suc-mul, one-mul, div-add-mod', mod-lt, div-eq_of_lt, div-lt_iff_lt-mul, le-div_iff_mul-le}
use native.Mathlib.Decide.{dec_lt}
use native.Mathlib.Omega.{arith}
use lib.Dec.{leb}
use lib.IntN.{ℤ, pos, negsuc, neg_ℤ}
use lib.Signed.{le_z}
use borrow.Author.Tests.{le-leb, lt-leb, le-ltb}
use Rattle.threshold.specs.Threshold.{rounded_up, Smallest, met_by, least_of}

-- ---- -1 - k against 0 - x
not-over : (x k : ℕ) → x ≤ suc k → le_z (negsuc k) (neg_ℤ (pos x)) ≡ true
not-over zero k h = refl
not-over (suc y) k h = le-leb y k (omega arith)

over : (x k : ℕ) → suc k < x → le_z (negsuc k) (neg_ℤ (pos x)) ≡ false
over zero k h = absurd (omega arith)
over (suc y) k h = lt-leb y k (omega arith)

-- a natural number against a negative one
under : (x k : ℕ) → 1 ≤ x → le_z (pos k) (neg_ℤ (pos x)) ≡ false
under zero k h = absurd (omega arith)
under (suc y) k h = refl

-- ---- by the sign: q times e, and what is left below e
above : (k q e r : ℕ) → q * e + r ≡ k + (e - 1) → r < e → Smallest (pos k) e (pos q)
above k zero e r h l = record {
  enough = le-leb k (0 * e) (omega arith);
  no_less = under (1 * e) k (omega (arith, one-mul e));
}
above k (suc q) e r h l = record {
  enough = le-leb k (suc q * e) (omega arith);
  no_less = let z : suc q - 1 ≡ q = omega arith in rw (le-ltb (suc q) 1 (omega arith), z) (lt-leb k (q * e) (omega (arith, suc-mul q e)));
}

beneath : (k p e r : ℕ) → p * e + r ≡ suc k → r < e → Smallest (negsuc k) e (neg_ℤ (pos p))
beneath k zero e r h l = record { enough = refl; no_less = over (1 * e) k (omega (arith, one-mul e)) }
beneath k (suc p) e r h l = record {
  enough = not-over (suc p * e) k (omega arith);
  no_less = over (suc (suc (p + 0)) * e) k (omega (arith, suc-mul p e, suc-mul (suc (p + 0)) e, suc-mul (p + 0) e));
}

pub smallest : (z : ℤ) (e : ℕ) → 1 ≤ e → Smallest z e (rounded_up z e)
unfolding rounded_up
smallest (pos k) e h = above k _ e _ (div-add-mod' (k + (e - 1)) e) (mod-lt (k + (e - 1)) h)
smallest (negsuc k) e h = beneath k _ e _ (div-add-mod' (suc k) e) (mod-lt (suc k) h)

-- ---- the least count of a quotient
none_left : (p : ℕ) → 0 ≡ least_of (neg_ℤ (pos p))
unfolding least_of
none_left zero = refl
none_left (suc p) = refl

pub least-divided : {x : ℕ} (z : ℤ) (e : ℕ) → 1 ≤ e → x ≡ least_of z → (x + (e - 1)) / e ≡ least_of (rounded_up z e)
unfolding least_of rounded_up
least-divided (pos k) e h x = rw x
least-divided (negsuc k) e h x = rw x (div-eq_of_lt (omega arith) ∙ none_left (suc k / e))

-- ---- by 1 nothing changes
pub by_one : (z : ℤ) → rounded_up z 1 ≡ z
unfolding rounded_up
by_one (pos k) = ap pos (omega arith)
by_one (negsuc k) = let e : suc k / 1 ≡ suc k = omega arith in rw e

-- ---- a count meets the threshold exactly if e times the count is at least the sum
pub met-is : (z : ℤ) (e c : ℕ) → 1 ≤ e → met_by c (rounded_up z e) ≡ le_z z (pos (c * e))
unfolding rounded_up
met-is (pos k) e c h = go (dec_lt (c * e) k)
  where
    go : Dec (c * e < k) → leb ((k + (e - 1)) / e) c ≡ leb k (c * e)
    go (yes l) = lt-leb _ c ((le-div_iff_mul-le h).1 (omega (arith, suc-mul c e))) ∙ sym (lt-leb k (c * e) l)
    go (no l) = le-leb _ c (omega (arith, (div-lt_iff_lt-mul {x = k + (e - 1)} {y = suc c} h).1 (omega (arith, suc-mul c e)))) ∙ sym (le-leb k (c * e) (omega arith))
met-is (negsuc k) e c h = below (suc k / e)
  where
    below : (p : ℕ) → le_z (neg_ℤ (pos p)) (pos c) ≡ true
    below zero = le-leb 0 c (omega arith)
    below (suc p) = refl
