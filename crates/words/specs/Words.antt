-- The views of a configuration's words, by the sizes.
use Rattle.std.specs.Prelude.{Bool, List, ℕ, zero, suc}
use Rattle.senders.specs.Set.{mem, correct_count, faulty_count}
use Rattle.fault.specs.Fault.{◌if◌else◌}
use Rattle.paper.specs.Paper.{Interp, column}
use Rattle.paper.specs.Words.{size, state, cell, sent, stopped}
use Rattle.paper.specs.Form.{wide, two, coll, shown}
use Rattle.words.specs.declared.Sizes.{Sizes}
use Rattle.words.specs.declared.level.Cell.{Cell}

abbrev pub column_in : Sizes → Interp
column_in s = column s.level s.correct s.faulty

abbrev pub got_in : (s : Sizes) → List ℕ → ℕ → ℕ → (column_in s).Coll
got_in s w p m = coll s.level s.correct s.faulty (cell s.correct s.types (wide s.level) w p m)

abbrev pub out_in : (s : Sizes) → List ℕ → ℕ → (column_in s).Coll
out_in s w m = shown s.level s.correct s.faulty (sent s.correct s.types (wide s.level) w m)

-- the same, of a cell by its first and last word
abbrev pub held_in : (s : Sizes) → Cell → (column_in s).Coll
held_in s x = coll s.level s.correct s.faulty (two x.first x.last)

-- the boards that are stopped
abbrev pub stopped_of : Sizes → List ℕ → ℕ
stopped_of s w = stopped s.correct s.types (wide s.level) w

-- the state of board p, where a stopped board has one that no rule leaves: rules have bytes
abbrev pub no_state : ℕ
no_state = 256

abbrev pub awake_state : Sizes → List ℕ → ℕ → ℕ
awake_state s w p = no_state if mem (stopped_of s w) p else state w p

-- how many messages of type m board p has received
abbrev pub count_in : Sizes → List ℕ → ℕ → ℕ → ℕ
count_in s w p m = (column_in s).card (got_in s w p m)

-- the message of type m from source q is in transit to board p
abbrev pub transit_in : Sizes → List ℕ → ℕ → ℕ → ℕ → Bool
transit_in s w p m q = (column_in s).in_transit q (got_in s w p m) (out_in s w m)

-- ---- the counts of a collection, as a report shows them
-- how many of its messages are from correct boards; where one count has them all, how many there are
unfoldable pub from_correct : (k C f : ℕ) → (column k C f).Coll → ℕ
from_correct zero C f M = correct_count C M
from_correct (suc zero) C f c = c.correct
from_correct (suc (suc k)) C f c = c

-- and how many are from faulty ones, where that is told
unfoldable pub from_faulty : (k C f : ℕ) → (column k C f).Coll → ℕ
from_faulty zero C f M = faulty_count C f M
from_faulty (suc zero) C f c = c.faulty
from_faulty (suc (suc k)) C f c = 0

-- what board p has received of type m
abbrev pub correct_in : Sizes → List ℕ → ℕ → ℕ → ℕ
correct_in s w p m = from_correct s.level s.correct s.faulty (got_in s w p m)

abbrev pub faulty_in : Sizes → List ℕ → ℕ → ℕ → ℕ
faulty_in s w p m = from_faulty s.level s.correct s.faulty (got_in s w p m)

-- what was sent of type m, which is from correct boards
abbrev pub sent_count_in : Sizes → List ℕ → ℕ → ℕ
sent_count_in s w m = from_correct s.level s.correct s.faulty (out_in s w m)

-- ---- how many words a configuration has
abbrev pub room_of : Sizes → ℕ
room_of s = size s.correct s.types (wide s.level)
