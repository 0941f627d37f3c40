-- A table in the other edition (Q-8, "Turn one into the second edition with every e equal to 1, and back"): the same states, ends, a, b, d; and e, where the edition has it.
use Rattle.std.specs.Prelude.{List, [], ◌∷◌, ◌++◌, ℕ, zero, suc, ◌+◌, ◌*◌, take}
use Rattle.fault.specs.Bytes.{byte_at}
use Rattle.fault.specs.Fault.{◌if◌else◌}
use Rattle.threshold.specs.declared.Weights.{Weights}
use Rattle.layout.specs.Layout.{second_of, types_in, weights_of}
use Rattle.table.specs.Table.{states_of, rules_of, types_byte, factor_of, state_bytes, rule_of}
use Rattle.trailer.specs.Trailer.{trailer_for}

-- what is said of a type, in the edition of a types byte
unfoldable pub bytes_in : ℕ → Weights → List ℕ
bytes_in byte w = (w.a ∷ w.b ∷ w.d ∷ w.e ∷ []) if second_of byte else (w.a ∷ w.b ∷ w.d ∷ [])

-- of the record of a rule, which is in the edition of `own`, the types m .. m+g-1
unfoldable pub types_from : ℕ → ℕ → List ℕ → ℕ → ℕ → List ℕ
types_from byte own rule zero m = []
types_from byte own rule (suc g) m = bytes_in byte (weights_of own rule m) ++ types_from byte own rule g (m + 1)

-- the record: from, to, then each type
unfoldable pub record_in : ℕ → ℕ → List ℕ → List ℕ
record_in byte own rule = byte_at rule 0 ∷ byte_at rule 1 ∷ types_from byte own rule (types_in own) 0

-- the rules r .. r+x-1 of a table
unfoldable pub rules_from : ℕ → List ℕ → ℕ → ℕ → List ℕ
rules_from byte s zero r = []
rules_from byte s (suc x) r = record_in byte (types_byte s) (rule_of s r) ++ rules_from byte s x (r + 1)

-- the table with this types byte
unfoldable pub moved_to : ℕ → List ℕ → List ℕ
moved_to byte s = take (state_bytes * states_of s) s ++ (rules_from byte s (rules_of s) 0 ++ trailer_for (states_of s) (rules_of s) byte (factor_of s))
