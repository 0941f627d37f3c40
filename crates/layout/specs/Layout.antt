-- The record of a rule: from, to, then for each type a, b, d (outline, "Bundle layout", rule), and in the second edition e (Q-7, "a fourth byte e").
use Rattle.std.specs.Prelude.{Bool, List, ℕ, ◌+◌, ◌-◌, ◌*◌, ◌≤◌, ◌<◌}
use Rattle.fault.specs.Bytes.{byte_at}
use Rattle.fault.specs.Tests.{◌at_least◌, outside}
use Rattle.fault.specs.Fault.{◌if◌else◌}
use Rattle.threshold.specs.declared.Weights.{Weights}

-- ---- the types byte: T in the first edition, 16 more in the second
abbrev pub second : ℕ
second = 16

abbrev pub second_of : ℕ → Bool
second_of byte = byte at_least second

-- T
unfoldable pub types_in : ℕ → ℕ
types_in byte = byte - second if second_of byte else byte

-- how many bytes a rule has for its ends, and for each type: a, b, d, and in the second edition e
abbrev pub end_bytes : ℕ
end_bytes = 2

unfoldable pub type_bytes : ℕ → ℕ
type_bytes byte = 4 if second_of byte else 3

-- for all types
unfoldable pub weight_bytes : ℕ → ℕ
weight_bytes byte = type_bytes byte * types_in byte

-- and in all
abbrev pub rule_bytes : ℕ → ℕ
rule_bytes byte = end_bytes + weight_bytes byte

-- the most that T and a divisor may be; the least is 1
abbrev pub most_types : ℕ
most_types = 4

abbrev pub most_divisor : ℕ
most_divisor = 8

-- and a rule's bytes: 18
abbrev pub most_rule_bytes : ℕ
most_rule_bytes = end_bytes + 4 * most_types

-- ---- what a record says
-- of the type whose bytes begin at `at`: e follows a, b, d; in the first edition it is 1
unfoldable pub divisor_at : ℕ → List ℕ → ℕ → ℕ
divisor_at byte rule at = byte_at rule (at + 3) if second_of byte else 1

unfoldable pub weights_at : ℕ → List ℕ → ℕ → Weights
weights_at byte rule at = record { a = byte_at rule at; b = byte_at rule (at + 1); d = byte_at rule (at + 2); e = divisor_at byte rule at }

-- of type m
unfoldable pub weights_of : ℕ → List ℕ → ℕ → Weights
weights_of byte rule m = weights_at byte rule (end_bytes + type_bytes byte * m)

-- 9: a divisor out of range
abbrev pub divisor_outside : ℕ → List ℕ → ℕ → Bool
divisor_outside byte rule m = outside 1 most_divisor (weights_of byte rule m).e

-- none is
pub record Divides (byte : ℕ) (rule : List ℕ) : Type 0 where
  pub some_divisor : (m : ℕ) → m < types_in byte → 1 ≤ (weights_of byte rule m).e
  pub few_divisor : (m : ℕ) → m < types_in byte → (weights_of byte rule m).e ≤ most_divisor
