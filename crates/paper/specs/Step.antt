-- One step on the words of level k (outline, "One step", with Q-11): the first of the refusals 20, 26, 27 and 21 to 25, and the words after the step.
use Rattle.std.specs.Prelude.{Bool, false, not, ◌||◌, List, ℕ, ◌+◌, set}
use Rattle.senders.specs.Tally.{every}
use Rattle.fault.specs.Tests.{◌at_least◌, ◌over◌, ◌differs◌}
use Rattle.fault.specs.Fault.{◌if◌else◌}
use Rattle.senders.specs.Set.{mem}
use Rattle.paper.specs.Paper.{Design, Interp, Conf, Step, Kind, silence, message, kind_of, silent, column, newly, is_stop, stopped_count}
use Rattle.paper.specs.Words.{state, cell, sent, stopped, hear, tell, stop}
use Rattle.paper.specs.Form.{wide, slot, bump, coll, shown}

-- ---- what the words show
abbrev pub column_of : ℕ → Design → Interp
column_of k d = column k d.boards d.faulty

abbrev pub rcvd_in : (k : ℕ) (d : Design) → List ℕ → ℕ → ℕ → (column_of k d).Coll
rcvd_in k d w p m = coll k d.boards d.faulty (cell d.boards d.types (wide k) w p m)

abbrev pub sent_in : (k : ℕ) (d : Design) → List ℕ → ℕ → (column_of k d).Coll
sent_in k d w m = shown k d.boards d.faulty (sent d.boards d.types (wide k) w m)

abbrev pub stopped_in : ℕ → Design → List ℕ → ℕ
stopped_in k d w = stopped d.boards d.types (wide k) w

abbrev pub view : (k : ℕ) (d : Design) → List ℕ → Conf (column_of k d).Coll
view k d w = record { pc = state w; rcvd = rcvd_in k d w; sent = sent_in k d w; stopped = stopped_in k d w }

-- the messages of one type that board p counts
abbrev pub count_of : ℕ → Design → List ℕ → ℕ → ℕ → ℕ
count_of k d w p m = (column_of k d).card (rcvd_in k d w p m)

-- ---- the words after the receipt, by the kind of the step, and after the whole step
abbrev pub receipt : ℕ → Design → List ℕ → ℕ → Kind → List ℕ
receipt k d w p silence = w
receipt k d w p (message m q) = hear d.boards d.types (wide k) p m (slot k q) (bump k q) w

unfoldable pub heard : ℕ → Design → List ℕ → Step → List ℕ
heard k d w s = receipt k d w s.board (kind_of s)

-- by a rule of the table
unfoldable pub taken : ℕ → Design → List ℕ → Step → List ℕ
taken k d w s =
    tell d.boards d.types (wide k) (newly d (d.from s.rule) (d.to s.rule)) (bump k ((column_of k d).own s.board)) d.types
    (set (heard k d w s) s.board (d.to s.rule))

unfoldable pub stepped : ℕ → Design → List ℕ → Step → List ℕ
stepped k d w s = stop d.boards d.types (wide k) s.board w if is_stop s else taken k d w s

-- ---- the refusals
-- 23: type or source out of range, or only one of the two is 255
abbrev pub out_of_range : ℕ → Design → Kind → Bool
out_of_range k d silence = false
out_of_range k d (message m q) = m at_least d.types || q at_least (column_of k d).sources

unfoldable pub malformed : ℕ → Design → Step → Bool
malformed k d s = out_of_range k d (kind_of s)

-- 24: message not in transit
abbrev pub not_coming : ℕ → Design → List ℕ → ℕ → Kind → Bool
not_coming k d w p silence = false
not_coming k d w p (message m q) = not ((column_of k d).in_transit q (rcvd_in k d w p m) (sent_in k d w m))

unfoldable pub not_in_transit : ℕ → Design → List ℕ → Step → Bool
not_in_transit k d w s = not_coming k d w s.board (kind_of s)

-- 25: a threshold is not met, by the counts after the receipt
unfoldable pub not_met : ℕ → Design → List ℕ → Step → Bool
not_met k d w s = not (every d.types (λ m. d.met s.rule m (count_of k d (heard k d w s) s.board m)))

-- by a rule of the table: 20: board not below n-f; 21: rule not in the table; 22: rule does not leave p's state; then 23, 24, 25
unfoldable pub take_fault : ℕ → Design → List ℕ → Step → ℕ
take_fault k d w s =
    20 if s.board at_least d.boards else
    21 if s.rule at_least d.rules else
    22 if state w s.board differs d.from s.rule else
    23 if malformed k d s else
    24 if not_in_transit k d w s else
    25 if not_met k d w s else
    0

-- of a stop: 23 if a message is present, 27 if no more boards may stop (Q-11)
unfoldable pub stop_fault : ℕ → Design → List ℕ → Step → ℕ
stop_fault k d w s =
    23 if not (silent s) else
    27 if (stopped_count d (stopped_in k d w) + 1 + d.faulty) over d.tolerated else
    0

-- 20, then 26: the board is stopped, also for a second stop; then those of a stop or of a rule; 0: the step is accepted
unfoldable pub step_fault : ℕ → Design → List ℕ → Step → ℕ
step_fault k d w s =
    20 if s.board at_least d.boards else
    26 if mem (stopped_in k d w) s.board else
    stop_fault k d w s if is_stop s else
    take_fault k d w s
