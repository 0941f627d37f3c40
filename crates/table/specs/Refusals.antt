-- Refusals 1 to 9, a line each of the outline's table, "Numbers given back", and of Q-7 (9); first the tests, then their order.
use Rattle.std.specs.Prelude.{Bool, not, ◌&&◌, ◌||◌, List, ℕ, ◌+◌, ◌*◌, ◌^◌, length}
use Rattle.senders.specs.Tally.{count, some}
use Rattle.senders.specs.Set.{missing}
use Rattle.fault.specs.Fault.{Verdict}
use Rattle.fault.specs.Tests.{◌below◌, ◌over◌, ◌at_least◌, ◌differs◌, outside}
use Rattle.fault.specs.Fault.{refused, ◌if◌else◌, ◌▹◌, first_fault}
use Rattle.fault.specs.Bytes.{trailer_bytes}
use Rattle.table.specs.Table.{state_distance, rule_distance, states_of, rules_of, types_byte, types_of, factor_of, most_states, most_rules, most_factor, flags_of, initial_of, sent_of, rule_size, from_of, to_of, rule_of, records_bytes}
use Rattle.layout.specs.Layout.{most_types, divisor_outside}

-- 1: table part shorter than a trailer
unfoldable pub too_short : List ℕ → Bool
too_short s = length s below trailer_bytes

-- 2: a trailer count or k out of range. The types byte is 1 to 4 or 17 to 20 exactly where T is 1 to 4
unfoldable pub counts_outside : ℕ → ℕ → ℕ → ℕ → Bool
counts_outside states rules types factor =
    outside 1 most_states states || outside 1 most_rules rules || outside 1 most_types types || outside 1 most_factor factor

unfoldable pub counts_off : List ℕ → Bool
counts_off s = counts_outside (states_of s) (rules_of s) (types_of s) (factor_of s)

-- 3: distances disagree with the counts or the table's length
unfoldable pub distances_off : List ℕ → Bool
distances_off s =
    state_distance s differs records_bytes (states_of s) (rules_of s) (types_byte s) || rule_distance s differs rules_of s * rule_size s ||
    length s differs state_distance s + trailer_bytes

-- 4, of a state: flag above bit 1; sent bit at or above T; initial and already sent
unfoldable pub state_off : List ℕ → ℕ → Bool
state_off s i = flags_of s i over 3 || sent_of s i at_least 2 ^ types_of s || initial_of s i && sent_of s i over 0

-- 5: no initial state
unfoldable pub no_initial : List ℕ → Bool
no_initial s = not (some (states_of s) (initial_of s))

-- 6, of a rule: from or to is no state
unfoldable pub no_state : List ℕ → ℕ → Bool
no_state s r = from_of s r at_least states_of s || to_of s r at_least states_of s

-- 9, of a rule: a divisor out of range
unfoldable pub divisor_off : List ℕ → ℕ → Bool
divisor_off s r = some (types_of s) (divisor_outside (types_byte s) (rule_of s r))

-- 7, of a rule: it forgets a sent type
unfoldable pub forgets : List ℕ → ℕ → Bool
forgets s r = count (types_of s) (missing (sent_of s (from_of s r)) (sent_of s (to_of s r))) over 0

-- 8, of a rule: it sends two new types
unfoldable pub sends_two : List ℕ → ℕ → Bool
sends_two s r = count (types_of s) (missing (sent_of s (to_of s r)) (sent_of s (from_of s r))) over 1

-- ---- in order: the lowest state at fault; then rules one by one for 6, 9, 7, 8
unfoldable pub state_fault : List ℕ → ℕ → ℕ
state_fault s i = 4 if state_off s i else 0

unfoldable pub rule_fault : List ℕ → ℕ → ℕ
rule_fault s r = 6 if no_state s r else 9 if divisor_off s r else 7 if forgets s r else 8 if sends_two s r else 0

unfoldable pub records_fault : List ℕ → Verdict
records_fault s =
    first_fault (state_fault s) (states_of s) ▹
    refused 5 if no_initial s else
    first_fault (rule_fault s) (rules_of s)

unfoldable pub table_fault : List ℕ → Verdict
table_fault s =
    refused 1 if too_short s else
    refused 2 if counts_off s else
    refused 3 if distances_off s else
    records_fault s
