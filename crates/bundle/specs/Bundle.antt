-- The bundle: the front, then the schedule part: start bytes, step records, trailer (outline, "Bundle layout").
use Rattle.std.specs.Prelude.{List, ℕ, zero, suc, ◌+◌, ◌-◌, eqb, length, take, drop}
use Rattle.fault.specs.Bytes.{byte_at, u16_at, trailer_of, trailer_bytes, most_step_bytes}
use Rattle.fault.specs.Fault.{◌if◌else◌}
use Rattle.table.specs.Table.{most_table}
use Rattle.senders.specs.Set.{most_boards}

-- ---- trailer: distances to the first step and the first start byte, n, t, f, form
abbrev pub step_distance : List ℕ → ℕ
step_distance b = u16_at b (trailer_of b + 0)

abbrev pub start_distance : List ℕ → ℕ
start_distance b = u16_at b (trailer_of b + 2)

abbrev pub n_of : List ℕ → ℕ
n_of b = byte_at b (trailer_of b + 4)

abbrev pub t_of : List ℕ → ℕ
t_of b = byte_at b (trailer_of b + 5)

abbrev pub f_of : List ℕ → ℕ
f_of b = byte_at b (trailer_of b + 6)

-- 0 message, 1 counting, 2 plain (Q-4)
abbrev pub form_of : List ℕ → ℕ
form_of b = byte_at b (trailer_of b + 7)

abbrev pub most_form : ℕ
most_form = 2

-- the level that a form steps at: message, counting, plain. Only reading, refusal 31 and the usual form look at the form byte itself.
unfoldable pub level_of : ℕ → ℕ
level_of zero = 0
level_of (suc zero) = 1
level_of (suc (suc k)) = 2

abbrev pub most_level : ℕ
most_level = 2

-- how many boards are correct: C = n - f
abbrev pub correct_of : List ℕ → ℕ
correct_of b = n_of b - f_of b

-- ---- the parts
-- the schedule part is as long as its second distance and a trailer; what precedes it is the front
unfoldable pub front_length : List ℕ → ℕ
front_length b = length b - (start_distance b + trailer_bytes)

-- the front, or where that is empty, the standing table lent beside the bundle
unfoldable pub table_in_use : List ℕ → List ℕ → List ℕ
table_in_use b standing = standing if eqb (front_length b) 0 else take (front_length b) b

-- a start byte for each correct board
unfoldable pub starts_of : List ℕ → List ℕ
starts_of b = take (correct_of b) (drop (front_length b) b)

-- where the first step stands
abbrev pub steps_at : List ℕ → ℕ
steps_at b = front_length b + correct_of b

-- the most bytes of a bundle, with a table of its own, starts, steps and a trailer: 17,648
abbrev pub most_bundle : ℕ
most_bundle = most_table + most_boards + most_step_bytes + trailer_bytes

-- the step records
unfoldable pub steps_of : List ℕ → List ℕ
steps_of b = take (step_distance b) (drop (steps_at b) b)
