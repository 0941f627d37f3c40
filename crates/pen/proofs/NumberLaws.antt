-- The digits, the sign and the joint of a number, from what the code has in hand.
use Prim.Native.Nat.{ℕ, ◌+◌, ◌-◌, ◌/◌, ◌%◌, ◌≤◌, ◌<◌}
use mathlib.Core.Path.{◌≡◌}
use mathlib.Core.Bool.{Bool, true, false}
use mathlib.Core.List.{List, [], ◌∷◌}
use borrow.Author.Tests.{lt-ltb, le-ltb, eq-eqb, ne_eqb}
use Rattle.fault.specs.Fault.{◌if◌else◌}
use Rattle.decimal.specs.Numbers.{text, decimal, signed, spelling}
use Rattle.decimal.proofs.NumberLaws.{one-digit, two_digits, three-digits}
use Rattle.dot.specs.Text.{joint_at}
use Rattle.ink.specs.Ink.{stored, Put}
use Rattle.ink.proofs.InkLaws.{put-none, put_byte, put_then}

-- ---- digits
pub put-one-digit : {out end : List ℕ} {n v b r : ℕ} → v < 10 → b ≡ 48 + v → r ≡ n + 1 → end ≡ stored out n (b ∷ []) → Put out n (decimal v) r end
put-one-digit {v = v} h e f g = rw (one-digit v h, ← e) (put_byte f g)

pub put-two-digits : {out mid end : List ℕ} {n m v a b r : ℕ} → 10 ≤ v → v < 100 → a ≡ 48 + v / 10 → b ≡ 48 + v % 10 → m ≡ n + 1 → mid ≡ stored out n (a ∷ []) → r ≡ m + 1 → end ≡ stored mid m (b ∷ []) → Put out n (decimal v) r end
put-two-digits {v = v} k h e e' f g f' g' = rw (two_digits v k h, ← e, ← e') (put_then (put_byte f g) (put_byte f' g'))

pub put-three-digits : {out mid next end : List ℕ} {n m l v a b d r : ℕ} → 100 ≤ v → a ≡ 48 + v / 100 → b ≡ 48 + v / 10 % 10 → d ≡ 48 + v % 10 → m ≡ n + 1 → mid ≡ stored out n (a ∷ []) → l ≡ m + 1 → next ≡ stored mid m (b ∷ []) → r ≡ l + 1 → end ≡ stored next l (d ∷ []) → Put out n (decimal v) r end
put-three-digits {v = v} h e e' e'' f g f' g' f'' g'' =
    rw (three-digits v h, ← e, ← e', ← e'') (put_then (put_byte f g) (put_then (put_byte f' g') (put_byte f'' g'')))

-- ---- sign
pub signed-plain : {out end : List ℕ} {n b r : ℕ} → b < 128 → Put out n (decimal b) r end → Put out n (signed b) r end
unfolding signed ◌if◌else◌
signed-plain {b = b} h p = rw (lt-ltb b 128 h) p

pub signed-minus : {out mid end : List ℕ} {n m b r : ℕ} → 128 ≤ b → m ≡ n + 1 → mid ≡ stored out n (45 ∷ []) → Put mid m (decimal (256 - b)) r end → Put out n (signed b) r end
unfolding signed ◌if◌else◌
signed-minus {b = b} h e f p = rw (le-ltb b 128 h) (put_then (put_byte e f) p)

pub spelt_plain : {out end : List ℕ} {n r : ℕ} {t : Bool} (b : ℕ) → t ≡ false → Put out n (decimal b) r end → Put out n (spelling t b) r end
spelt_plain b e p = rw e p

pub spelt_signed : {out end : List ℕ} {n r : ℕ} {t : Bool} (b : ℕ) → t ≡ true → Put out n (signed b) r end → Put out n (spelling t b) r end
spelt_signed b e p = rw e p

-- ---- joint
pub put-joint-none : {out : List ℕ} {n j : ℕ} (i : ℕ) → j ≡ 0 → Put out n (joint_at j i) n out
unfolding joint_at ◌if◌else◌
put-joint-none {j = j} i h = rw (eq-eqb j 0 h) put-none

pub put-joint_group : {out end : List ℕ} {n j i r : ℕ} → (j ≡ 0 → ⊥) → i ≡ 0 → Put out n (text ", ") r end → Put out n (joint_at j i) r end
unfolding joint_at ◌if◌else◌
put-joint_group {j = j} {i = i} h k p = rw (ne_eqb j 0 h, eq-eqb i 0 k) p

pub joint-blank : {out end : List ℕ} {n j i r : ℕ} → (j ≡ 0 → ⊥) → (i ≡ 0 → ⊥) → Put out n (text " ") r end → Put out n (joint_at j i) r end
unfolding joint_at ◌if◌else◌
joint-blank {j = j} {i = i} h k p = rw (ne_eqb j 0 h, ne_eqb i 0 k) p
