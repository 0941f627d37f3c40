-- The run of a schedule on the words of level k (outline, "Numbers given back").
use Rattle.std.specs.Prelude.{List, ℕ}
use Rattle.paper.specs.Paper.{Design, Step}
use Rattle.paper.specs.Step.{step_fault, stepped}
use Rattle.paper.specs.Machine.{Machine, RanBy, run_by, after_by}
pub use Rattle.paper.specs.Machine.{no_step, step_at}

-- the words of a level take steps
abbrev pub machine_of : ℕ → Design → Machine (List ℕ)
machine_of k d = record { fault = step_fault k d; next = stepped k d }

-- how many steps were accepted, the number of the refusal that ended the run or 0, and the words that are left
abbrev pub Ran : Type 0
Ran = RanBy (List ℕ)

abbrev pub run : ℕ → Design → List ℕ → List Step → Ran
run k d w ss = run_by (machine_of k d) w ss

-- the words after the first i steps
abbrev pub after : ℕ → Design → List ℕ → List Step → ℕ → List ℕ
after k d w ss i = after_by (machine_of k d) w ss i
