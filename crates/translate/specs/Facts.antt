-- What the functions below the entry speak of and may count on.
use Rattle.std.specs.Prelude.{◌≡◌, true, false, List, ℕ, ◌-◌, ◌*◌, ◌<◌, eqb, length, get_or}
use Rattle.fault.specs.declared.Answer.{Answer}
use Rattle.fault.specs.Fault.{◌if◌else◌}
use Rattle.bundle.specs.Bundle.{starts_of}
use Rattle.paper.specs.Paper.{Design, Step, silent, is_stop}
use Rattle.paper.specs.Form.{wide}
use Rattle.paper.specs.Run.{Ran, run}
use Rattle.agree.specs.Picture.{Remembers}
use Rattle.agree.specs.Translation.{lowest, low_all, finer}
use Rattle.schedule.specs.Records.{steps_in, bytes_of}
use Rattle.words.specs.declared.Sizes.{Sizes}
use Rattle.rules.specs.Kept.{KeptEnds, Kept}
use Rattle.step.specs.Step.{sized, Formed}
use Rattle.engine.specs.Entry.{schedule_of, start_in}
use Rattle.translate.specs.Entry.{wrote}
use Rattle.translate.specs.Written.{rewritten, begin_of, moved_by}

-- the same numbers at level k
abbrev pub at_level : ℕ → Sizes → Sizes
at_level k s = record { level = k; correct = s.correct; faulty = s.faulty; types = s.types; rules = s.rules; wide = wide k; row = s.types * wide k; tolerated = s.tolerated }

-- the step with the lowest source of its tag that is in transit; a design's numbers are all that is asked
abbrev pub low_in : Sizes → List ℕ → Step → Step
low_in s w x = lowest s.level (sized s) w x

-- the bundle's run at its own level, for a design
abbrev pub ran_by : Sizes → List ℕ → Design → Ran
ran_by s b d = run s.level d (start_in s b) (schedule_of b)

-- ---- a design that the kept rules stand for, where nothing is forgotten and nobody has sent at the bundle's start
pub record Fair (s : Sizes) (ends leasts b : List ℕ) : Type 0 where
  pub design : Design
  pub kept : Kept design s ends leasts
  pub remembers : Remembers design
  pub fresh : (p m : ℕ) → p < design.boards → m < design.types → design.has_sent (get_or (starts_of b) p 0) m ≡ false

-- and by which the bundle runs; of its rules only the ends are asked
pub record Runs (s : Sizes) (ends b : List ℕ) : Type 0 where
  pub design : Design
  pub kept : KeptEnds design s ends
  pub remembers : Remembers design
  pub fresh : (p m : ℕ) → p < design.boards → m < design.types → design.has_sent (get_or (starts_of b) p 0) m ≡ false
  pub runs : (ran_by s b design).refusal ≡ 0

-- ---- what is written, for every such design: the bundle's steps at another level, those at a finer one, and the whole bundle
abbrev pub MovesTo : Sizes → List ℕ → List ℕ → ℕ → List ℕ → Type 0
MovesTo s ends b i steps = (T : Runs s ends b) → steps ≡ bytes_of (moved_by s b T.design i)

abbrev pub RefinesTo : Sizes → List ℕ → List ℕ → ℕ → List ℕ → Type 0
RefinesTo s ends b i steps = (T : Runs s ends b) → steps ≡ bytes_of (finer (s.level - i) i T.design (begin_of s b) (schedule_of b))

abbrev pub WritesTo : Sizes → List ℕ → List ℕ → ℕ → List ℕ → Type 0
WritesTo s ends b i out = (T : Runs s ends b) → out ≡ rewritten b (moved_by s b T.design i) i

-- the answer after the run, and the bytes: the translation, or as they were where a step is refused
pub record Done (s : Sizes) (b : List ℕ) (d : Design) (i : ℕ) (out : List ℕ) (r : Answer) (u : List ℕ) : Type 0 where
  pub answer : r ≡ wrote (length b) (ran_by s b d)
  pub bytes : u ≡ (rewritten b (moved_by s b d i) i if eqb (ran_by s b d).refusal 0 else out)

abbrev pub Answers : Sizes → List ℕ → List ℕ → List ℕ → ℕ → List ℕ → Answer → List ℕ → Type 0
Answers s ends leasts b i out r u = (F : Fair s ends leasts b) → Done s b F.design i out r u

-- ---- a design that the kept ends stand for, and by which the steps run from the words with their lowest sources
pub record RunsLow (s : Sizes) (ends w steps : List ℕ) : Type 0 where
  pub design : Design
  pub kept : KeptEnds design s ends
  pub runs : (run s.level design w (low_all s.level design w (steps_in steps))).refusal ≡ 0

abbrev pub LowersTo : Sizes → List ℕ → List ℕ → List ℕ → List ℕ → Type 0
LowersTo s ends w steps out = (L : RunsLow s ends w steps) → out ≡ bytes_of (low_all s.level L.design w (steps_in steps))

-- ---- what is known of a step that is accepted: a board that there is; by a rule it is formed, and a stop has no message
pub record Acceptable (s : Sizes) (x : Step) : Type 0 where
  pub board : x.board < s.correct
  pub formed : is_stop x ≡ false → Formed s x
  pub alone : is_stop x ≡ true → silent x ≡ true
