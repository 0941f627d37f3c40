-- A step and a schedule of one level in another (outline, "Translation"; Q-4). Each level tells less than the one before it: level 0, message,
-- names senders, level 1, counting, only their class, level 2, plain, no more than that there was a message. So a source of level j has one tag,
-- which is a source of level j + 1, and a tag may have several sources.
use Rattle.std.specs.Prelude.{◌&&◌, List, map, ℕ, zero, suc, ◌+◌, ◌-◌, eqb}
use Rattle.senders.specs.Tally.{least}
use Rattle.fault.specs.Tests.{◌below◌}
use Rattle.fault.specs.Fault.{◌if◌else◌}
use Rattle.paper.specs.Paper.{Design, Step, Kind, silence, message, kind_of}
use Rattle.paper.specs.Step.{column_of, rcvd_in, sent_in, stepped}
use Rattle.paper.specs.Machine.{follow_all}

-- the tag of a source of level j: C, which is source 0, for a correct sender, and F, which is source 1, for a faulty one; of both tags, 0
unfoldable pub tag_of : ℕ → ℕ → ℕ → ℕ
tag_of zero C q = 0 if q below C else 1
tag_of (suc j) C q = 0

abbrev pub with_source : Step → ℕ → Step
with_source s q = record { board = s.board; rule = s.rule; type = s.type; source = q }

-- the same step, its message from the source x; a step without a message stays as it is
abbrev pub source_in : Kind → ℕ → ℕ → ℕ
source_in silence q x = q
source_in (message m y) q x = x

abbrev pub heard_from : Step → ℕ → Step
heard_from s x = with_source s (source_in (kind_of s) s.source x)

-- ---- from level j to level j + 1: the source becomes its tag
unfoldable pub tag_by : ℕ → ℕ → Step → Step
tag_by j C s = heard_from s (tag_of j C s.source)

abbrev pub tagged : ℕ → Design → Step → Step
tagged j d s = tag_by j d.boards s

-- ---- from level j + 1 to level j: the tag becomes the lowest of its sources that is in transit to the board, in the words w of level j.
-- In message form that is the lowest-numbered sender of the class; in counting form the correct tag, or else the faulty one
unfoldable pub low_sender : ℕ → Design → List ℕ → Step → ℕ
low_sender j d w s =
    least (column_of j d).sources (λ q.
    eqb (tag_of j d.boards q) s.source && (column_of j d).in_transit q (rcvd_in j d w s.board s.type) (sent_in j d w s.type))

unfoldable pub lowest : ℕ → Design → List ℕ → Step → Step
lowest j d w s = heard_from s (low_sender j d w s)

-- each step of a schedule, in the words that the steps before it have made
abbrev pub low_all : ℕ → Design → List ℕ → List Step → List Step
low_all j d w ss = follow_all (stepped j d) (lowest j d) w ss

-- ---- between any two levels, by way of those between them; `begin i` are the first words at level i
-- from level k to level n + k
unfoldable pub coarser : ℕ → ℕ → ℕ → List Step → List Step
coarser zero k C ss = ss
coarser (suc n) k C ss = map (tag_by (n + k) C) (coarser n k C ss)

-- from level n + i to level i
unfoldable pub finer : ℕ → ℕ → Design → (ℕ → List ℕ) → List Step → List Step
finer zero i d begin ss = ss
finer (suc n) i d begin ss = low_all i d (begin i) (finer n (suc i) d begin ss)

-- from level k to level i: one of the two does nothing
unfoldable pub moved : ℕ → ℕ → Design → (ℕ → List ℕ) → List Step → List Step
moved k i d begin ss = coarser (i - k) k d.boards (finer (k - i) i d begin ss)
