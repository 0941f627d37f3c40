-- The trailer of a table, from its counts and its types byte (outline, "Bundle layout", table part).
use Rattle.std.specs.Prelude.{List, [], ◌∷◌, ℕ, ◌*◌}
use Rattle.fault.specs.Bytes.{two_bytes}
use Rattle.layout.specs.Layout.{rule_bytes}
use Rattle.table.specs.Table.{records_bytes}

-- distances to the first state and the first rule, states, rules, types byte, factor
unfoldable pub trailer_for : ℕ → ℕ → ℕ → ℕ → List ℕ
trailer_for n m byte k = two_bytes (records_bytes n m byte) (two_bytes (m * rule_bytes byte) (n ∷ m ∷ byte ∷ k ∷ []))
