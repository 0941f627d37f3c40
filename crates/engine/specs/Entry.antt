-- What `run` answers and leaves, for every bundle, standing table and lent words (outline, "Numbers given back").
use Rattle.std.specs.Prelude.{List, ◌++◌, ℕ, eqb, length, drop, Result, Ok, Err}
use Rattle.fault.specs.Tests.{◌below◌, ◌differs◌}
use Rattle.fault.specs.Fault.{refused, nothing_done, ◌if◌else◌}
use Rattle.fault.specs.declared.Answer.{Answer}
use Rattle.fault.specs.declared.refusals.Refused.{Refused}
use Rattle.fault.specs.Refusals.{number_of}
use Rattle.bundle.specs.Bundle.{table_in_use, starts_of, steps_of}
use Rattle.bundle.specs.Refusals.{read_fault}
use Rattle.paper.specs.Paper.{Step}
use Rattle.paper.specs.Words.{start}
use Rattle.paper.specs.Form.{wide}
use Rattle.schedule.specs.Records.{steps_in}
use Rattle.paper.specs.Run.{Ran, run}
use Rattle.words.specs.declared.Sizes.{Sizes}
use Rattle.words.specs.Words.{room_of}
use Rattle.engine.specs.Design.{sizes_of, design_with, sizes_in}

-- ---- a bundle with its table in use
abbrev pub schedule_of : List ℕ → List Step
schedule_of b = steps_in (steps_of b)

-- the first configuration: the start states, nothing received, nothing sent
abbrev pub start_in : Sizes → List ℕ → List ℕ
start_in s b = start s.types (wide s.level) (starts_of b)

-- the schedule, run from there
unfoldable pub ran_with : List ℕ → List ℕ → Ran
ran_with table b = run (sizes_of table b).level (design_with table b) (start_in (sizes_of table b) b) (schedule_of b)

-- beside a standing table
abbrev pub ran_of : List ℕ → List ℕ → Ran
ran_of b standing = ran_with (table_in_use b standing) b

-- ---- refusal, place, steps accepted
-- a run: a refused step's place is the number of the steps before it
unfoldable pub ran_answer : Ran → Answer
ran_answer r = record { refusal = r.refusal; place = 0 if eqb r.refusal 0 else r.accepted; count = r.accepted }

-- the same, of what the code has: the steps accepted, or the refused one and its place
abbrev pub ran : Result ℕ Refused → Answer
ran (Ok n) = record { refusal = 0; place = 0; count = n }
ran (Err e) = record { refusal = number_of e.refusal; place = e.place; count = e.place }

-- what reading refuses; 30: lent output shorter than the words needed; then the steps
unfoldable pub run_answer : List ℕ → List ℕ → ℕ → Answer
run_answer b standing lent =
    nothing_done (read_fault b standing) if (read_fault b standing).number differs 0 else
    nothing_done (refused 30) if lent below room_of (sizes_in b standing) else
    ran_answer (ran_of b standing)

-- a refusal before the first step changes no word; a run leaves its configuration, and the words past it as they were
unfoldable pub run_words : List ℕ → List ℕ → List ℕ → List ℕ
run_words b standing words =
    words if (read_fault b standing).number differs 0 else
    words if length words below room_of (sizes_in b standing) else
    (ran_of b standing).left ++ drop (room_of (sizes_in b standing)) words
