-- Refusals 10 to 14, a line each of the outline's table, "Numbers given back"; first the tests, then their order with the table's own.
use Rattle.std.specs.Prelude.{Bool, not, ◌||◌, List, ℕ, ◌+◌, ◌*◌, ◌%◌, length}
use Rattle.fault.specs.Fault.{Verdict}
use Rattle.fault.specs.Bytes.{byte_at, trailer_bytes, step_bytes, most_step_bytes}
use Rattle.fault.specs.Tests.{◌below◌, ◌over◌, ◌at_least◌, ◌at_most◌, ◌differs◌, outside}
use Rattle.fault.specs.Fault.{refused, ◌if◌else◌, ◌▹◌, first_fault}
use Rattle.table.specs.Table.{states_of, factor_of, initial_of}
use Rattle.table.specs.Refusals.{table_fault}
use Rattle.senders.specs.Set.{most_boards}
use Rattle.bundle.specs.Bundle.{step_distance, start_distance, n_of, t_of, f_of, form_of, correct_of, table_in_use, starts_of, most_form}

-- 10: bundle shorter than a trailer
unfoldable pub no_trailer : List ℕ → Bool
no_trailer b = length b below trailer_bytes

-- 11: second distance with a trailer exceeds the bundle
unfoldable pub out_of_bundle : List ℕ → Bool
out_of_bundle b = start_distance b + trailer_bytes over length b

-- 12: n, t, f not admitted (n in 1..64, n > k·t, f ≤ t), or form over 2 (Q-4)
unfoldable pub not_admitted : ℕ → List ℕ → Bool
not_admitted k b = outside 1 most_boards (n_of b) || n_of b at_most k * t_of b || f_of b over t_of b || form_of b over most_form

-- 13: step distance no multiple of 4, over 16,384, or second distance not that plus n-f
unfoldable pub steps_off : List ℕ → Bool
steps_off b = step_distance b % step_bytes differs 0 || step_distance b over most_step_bytes || start_distance b differs step_distance b + correct_of b

-- 14, of a start byte: it is not an initial state
unfoldable pub not_initial : List ℕ → ℕ → Bool
not_initial table start = start at_least states_of table || not (initial_of table start)

unfoldable pub start_fault : List ℕ → List ℕ → ℕ → ℕ
start_fault table starts p = 14 if not_initial table (byte_at starts p) else 0

-- ---- in order
unfoldable pub schedule_fault : List ℕ → List ℕ → Verdict
schedule_fault table b =
    refused 12 if not_admitted (factor_of table) b else
    refused 13 if steps_off b else
    first_fault (start_fault table (starts_of b)) (correct_of b)

unfoldable pub fault_with : List ℕ → List ℕ → Verdict
fault_with table b =
    refused 10 if no_trailer b else
    refused 11 if out_of_bundle b else
    table_fault table ▹
    schedule_fault table b

-- the first refusal of a bundle beside a standing table
abbrev pub read_fault : List ℕ → List ℕ → Verdict
read_fault b standing = fault_with (table_in_use b standing) b
