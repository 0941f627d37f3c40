-- The table part: state records, rule records, trailer (outline, "Bundle layout", table part), in two editions (Q-7, "Second edition of the rule").
-- Each view is a byte of the part by its place; what the bytes may be is for Refusals.antt.
use Rattle.std.specs.Prelude.{Bool, List, ℕ, ◌+◌, ◌*◌, take, drop}
use Rattle.fault.specs.Bytes.{byte_at, u16_at, trailer_bytes, trailer_of}
use Rattle.senders.specs.Set.{mem}
use Rattle.threshold.specs.declared.Weights.{Weights}
use Rattle.layout.specs.Layout.{types_in, rule_bytes, most_rule_bytes, weights_of}

-- ---- trailer: distances to the first state and the first rule, states, rules, types, factor k
abbrev pub state_distance : List ℕ → ℕ
state_distance s = u16_at s (trailer_of s + 0)

abbrev pub rule_distance : List ℕ → ℕ
rule_distance s = u16_at s (trailer_of s + 2)

abbrev pub states_of : List ℕ → ℕ
states_of s = byte_at s (trailer_of s + 4)

abbrev pub rules_of : List ℕ → ℕ
rules_of s = byte_at s (trailer_of s + 5)

abbrev pub types_byte : List ℕ → ℕ
types_byte s = byte_at s (trailer_of s + 6)

abbrev pub types_of : List ℕ → ℕ
types_of s = types_in (types_byte s)

abbrev pub factor_of : List ℕ → ℕ
factor_of s = byte_at s (trailer_of s + 7)

-- the most that the counts but T may be; the least is 1
abbrev pub most_states : ℕ
most_states = 16

abbrev pub most_rules : ℕ
most_rules = 64

abbrev pub most_factor : ℕ
most_factor = 8

-- ---- state i: flags (bit 0 initial, bit 1 accepting), then the mask of types sent (bit m for type m), a byte each
abbrev pub state_bytes : ℕ
state_bytes = 2

abbrev pub flags_of : List ℕ → ℕ → ℕ
flags_of s i = byte_at s (state_bytes * i)

abbrev pub initial_of : List ℕ → ℕ → Bool
initial_of s i = mem (flags_of s i) 0

abbrev pub accepting_of : List ℕ → ℕ → Bool
accepting_of s i = mem (flags_of s i) 1

abbrev pub sent_of : List ℕ → ℕ → ℕ
sent_of s i = byte_at s (state_bytes * i + 1)

-- ---- rule r: from, to, then a, b, d, and in the second edition e, of each type, a byte each
abbrev pub rule_size : List ℕ → ℕ
rule_size s = rule_bytes (types_byte s)

unfoldable pub rule_at : List ℕ → ℕ → ℕ
rule_at s r = state_bytes * states_of s + r * rule_size s

abbrev pub from_of : List ℕ → ℕ → ℕ
from_of s r = byte_at s (rule_at s r)

abbrev pub to_of : List ℕ → ℕ → ℕ
to_of s r = byte_at s (rule_at s r + 1)

-- its record, as a part
unfoldable pub rule_of : List ℕ → ℕ → List ℕ
rule_of s r = take (rule_size s) (drop (rule_at s r) s)

-- what rule r says of it
abbrev pub weights_for : List ℕ → ℕ → ℕ → Weights
weights_for s r m = weights_of (types_byte s) (rule_of s r) m

-- ---- how many bytes the records of n states and m rules have
abbrev pub records_bytes : ℕ → ℕ → ℕ → ℕ
records_bytes n m byte = state_bytes * n + m * rule_bytes byte

-- at most 1,184: with the most of everything in the second edition
abbrev pub most_records : ℕ
most_records = state_bytes * most_states + most_rules * most_rule_bytes

-- and a table with its trailer: 1,192
abbrev pub most_table : ℕ
most_table = most_records + trailer_bytes
