-- Sizes of a rule's record, by the edition: bounds from which `omega` goes on, and that the bytes of each type lie inside.
use mathlib.Core.Path.{◌≡◌, sym, ◌∙◌}
use mathlib.Core.Bool.{Bool, true, false, cond}
use Prim.Native.Nat.{ℕ, ◌+◌, ◌-◌, ◌*◌, ◌≤◌, ◌<◌}
use native.Mathlib.Nat.{mul-le-mul, mul-le-mul_left, mul-add, mul-one}
use native.Mathlib.Omega.{arith}
use mathlib.Core.List.{List}
use borrow.Author.Tests.{leb-true}
use Rattle.senders.specs.Tally.{some}
use Rattle.senders.proofs.TallyLaws.{some-not}
use Rattle.fault.specs.Tests.{outside}
use Rattle.fault.specs.Fault.{◌if◌else◌}
use Rattle.fault.proofs.TestLaws.{inside}
use Rattle.threshold.specs.declared.Weights.{Weights}
use Rattle.layout.specs.Layout.{second, second_of, types_in, end_bytes, type_bytes, weight_bytes, rule_bytes, most_divisor, weights_at, weights_of, divisor_outside, Divides}

pub types_most : (byte : ℕ) → types_in byte ≤ byte
unfolding types_in ◌if◌else◌
types_most byte = go (second_of byte)
  where
    go : (b : Bool) → cond b (byte - second) byte ≤ byte
    go true = omega arith
    go false = omega arith

pub type-bytes-few : (byte : ℕ) → (3 ≤ type_bytes byte) × (type_bytes byte ≤ 4)
unfolding type_bytes ◌if◌else◌
type-bytes-few byte = go (second_of byte)
  where
    go : (b : Bool) → (3 ≤ cond b 4 3) × (cond b 4 3 ≤ 4)
    go true = (omega arith, omega arith)
    go false = (omega arith, omega arith)

pub weights-few : (byte k : ℕ) → types_in byte ≤ k → weight_bytes byte ≤ 4 * k
unfolding weight_bytes
weights-few byte k h = mul-le-mul (type-bytes-few byte).1 h

pub weights_most : (byte : ℕ) → byte < 256 → weight_bytes byte ≤ 1020
weights_most byte h = weights-few byte 255 (omega (arith, types_most byte))

-- the bytes of type m end where those of the next begin, inside of the record
pub weights-inside : (byte m : ℕ) → m < types_in byte → end_bytes + type_bytes byte * m + type_bytes byte ≤ rule_bytes byte
unfolding weight_bytes
weights-inside byte m h = omega (arith, mul-add (type_bytes byte) m 1, mul-one (type_bytes byte), mul-le-mul_left {m = m + 1} {n = types_in byte} (type_bytes byte) (omega arith))

pub second-at-least : {b : Bool} (byte : ℕ) → b ≡ second_of byte → b ≡ true → second ≤ byte
second-at-least byte e t = leb-true second byte (sym e ∙ t)

pub weight_bytes_are : {a b p : ℕ} (byte : ℕ) → a ≡ type_bytes byte → b ≡ types_in byte → p ≡ a * b → p ≡ weight_bytes byte
unfolding weight_bytes
weight_bytes_are byte e f g = rw (g, e, f)

pub weight_bytes-few : {a b p : ℕ} (byte : ℕ) → byte < 256 → a ≡ type_bytes byte → b ≡ types_in byte → p ≡ a * b → p ≤ 1020
weight_bytes-few byte h e f g = omega (arith, weight_bytes_are byte e f g, weights_most byte h)

-- ---- the bytes of one type, from `at` on
pub divisor-inside : {b : Bool} {n : ℕ} (byte at : ℕ) → b ≡ second_of byte → b ≡ true → at + type_bytes byte ≤ n → at + 3 < n
unfolding type_bytes ◌if◌else◌
divisor-inside byte at e t h = omega (arith, rw (← e, t) at h)

pub type-small : (byte m : ℕ) → byte < 256 → m < types_in byte → m < 65536
type-small byte m h l = omega (arith, types_most byte)

pub type-inside : {w p n : ℕ} (byte m : ℕ) → w ≡ type_bytes byte → p ≡ w * m → m < types_in byte → n ≡ rule_bytes byte → end_bytes + p + type_bytes byte ≤ n
type-inside {w} {p} byte m e f h l = let q : p ≡ type_bytes byte * m = rw (f, e) in omega (arith, q, weights-inside byte m h)

pub weights_are : {w p : ℕ} {x : Weights} (byte : ℕ) (rule : List ℕ) (m : ℕ) → w ≡ type_bytes byte → p ≡ w * m → x ≡ weights_at byte rule (end_bytes + p) → x ≡ weights_of byte rule m
unfolding weights_of
weights_are byte rule m e f g = rw (f, e) at g

-- ---- no divisor is outside
pub outside-is : {b : Bool} {x : Weights} (byte : ℕ) (rule : List ℕ) (m : ℕ) → x ≡ weights_of byte rule m → b ≡ outside 1 most_divisor x.e → b ≡ divisor_outside byte rule m
outside-is byte rule m e f = rw e at f

pub divides : (byte : ℕ) (rule : List ℕ) → some (types_in byte) (divisor_outside byte rule) ≡ false → Divides byte rule
divides byte rule h = record {
  some_divisor = λ m l. (inside 1 most_divisor _ (some-not (divisor_outside byte rule) (types_in byte) h m l)).0;
  few_divisor = λ m l. (inside 1 most_divisor _ (some-not (divisor_outside byte rule) (types_in byte) h m l)).1;
}
