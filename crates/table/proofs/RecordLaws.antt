-- A rule's record as a part holds the bytes that the table has from `rule_at` on.
use mathlib.Core.Path.{◌≡◌, ap, ◌∙◌}
use mathlib.Core.Bool.{Bool}
use mathlib.Core.List.{List}
use Prim.Native.Nat.{ℕ, ◌+◌, ◌-◌, ◌≤◌, ◌<◌}
use native.Mathlib.Omega.{arith}
use lib.ListN.{length, take, drop, length-drop}
use lib.Seq.{length-take-le, get_or-take, get_or-drop}
use Rattle.senders.specs.Tally.{some}
use Rattle.fault.specs.Bytes.{byte_at, trailer_bytes}
use Rattle.layout.specs.Layout.{types_in, rule_bytes, divisor_outside}
use Rattle.table.specs.Table.{rules_of, types_byte, rule_size, rule_at, from_of, to_of, rule_of}
use Rattle.table.specs.Refusals.{divisor_off}
use Rattle.table.specs.Facts.{Sized}
use Rattle.table.proofs.TableLaws.{rule-inside}

-- ---- `rule`, as the code cuts it
pub rule-cut : {a b n : ℕ} (s : List ℕ) (k : ℕ) → a ≡ rule_at s k → b ≡ types_byte s → n ≡ rule_bytes b → take (a + n - a) (drop a s) ≡ rule_of s k
unfolding rule_of
rule-cut {a} {b} {n} s k e f g = let z : a + n - a ≡ rule_size s = omega (arith, rw f at g) in rw (z, e)

pub rule-length : (s : List ℕ) → Sized s → (k : ℕ) → k < rules_of s → length (rule_of s k) ≡ rule_size s
unfolding rule_of
rule-length s z k h = length-take-le (rule_size s) _ (rw length-drop (omega (arith, rule-inside s z k h)))

pub rule-cut-long : {a b n : ℕ} (s : List ℕ) (k : ℕ) → Sized s → k < rules_of s → a ≡ rule_at s k → b ≡ types_byte s → n ≡ rule_bytes b
    → length (take (a + n - a) (drop a s)) ≡ rule_size s
rule-cut-long s k z h e f g = ap length (rule-cut s k e f g) ∙ rule-length s z k h

pub rule-ends-inside : {b n : ℕ} (a : ℕ) (s : List ℕ) → a + rule_size s + trailer_bytes ≤ length s → b ≡ types_byte s → n ≡ rule_bytes b → a + n ≤ length s
rule-ends-inside a s h f g = omega (arith, rw f at g)

-- what `divisor_outside` is asked of a record in hand
pub record_long : {b n : ℕ} (s : List ℕ) → b ≡ types_byte s → n ≡ rule_size s → n ≡ rule_bytes b
record_long s e f = rw e f

pub divisor-off-is : {b : Bool} {x : ℕ} {rule : List ℕ} (s : List ℕ) (r : ℕ) → x ≡ types_byte s → rule ≡ rule_of s r → b ≡ some (types_in x) (divisor_outside x rule) → b ≡ divisor_off s r
unfolding divisor_off
divisor-off-is s r e f g = rw (e, f) at g

-- ---- their bytes
pub rule-byte : (s : List ℕ) (r i : ℕ) → i < rule_size s → byte_at (rule_of s r) i ≡ byte_at s (rule_at s r + i)
unfolding rule_of
rule-byte s r i h = get_or-take (rule_size s) (drop (rule_at s r) s) i 0 h ∙ get_or-drop (rule_at s r) s i 0

pub rule-from : (s : List ℕ) (r : ℕ) → byte_at (rule_of s r) 0 ≡ from_of s r
rule-from s r = rule-byte s r 0 (omega arith) ∙ ap (byte_at s) (omega arith)

pub rule-to : (s : List ℕ) (r : ℕ) → byte_at (rule_of s r) 1 ≡ to_of s r
rule-to s r = rule-byte s r 1 (omega arith)

-- what is read of a record in hand
pub leaves-is : {x : ℕ} {rule : List ℕ} (s : List ℕ) (r : ℕ) → rule ≡ rule_of s r → x ≡ byte_at rule 0 → x ≡ from_of s r
leaves-is s r e f = f ∙ ap (λ (u : List ℕ). byte_at u 0) e ∙ rule-from s r

pub enters_is : {x : ℕ} {rule : List ℕ} (s : List ℕ) (r : ℕ) → rule ≡ rule_of s r → x ≡ byte_at rule 1 → x ≡ to_of s r
enters_is s r e f = f ∙ ap (λ (u : List ℕ). byte_at u 1) e ∙ rule-to s r
