-- A whole log, line by line from 0 (Q-6, "51 a line 4,096 is there, found before 50 on it; both with the line from 0"), and what this comes to by the
-- texts of steps alone. Proofs: proofs/LineExact.antt and proofs/LogExact.antt.
use Rattle.std.specs.Prelude.{◌≡◌, true, List, [], ◌∷◌, ◌++◌, ℕ, zero, suc, ◌+◌, ◌≤◌, ◌<◌, eqb, length}
use Rattle.fault.specs.Bytes.{most_steps}
use Rattle.fault.specs.Fault.{verdict, fine, ◌if◌else◌}
use Rattle.fault.specs.Fault.{Verdict}
use Rattle.paper.specs.Paper.{Step}
use Rattle.service_log.specs.Line.{sayable, line_of, log_of, first_line, Right, AllSayable}
use Rattle.service_log.specs.Said.{Said, nothing, said, said_by}

-- ---- the refusal from line i on, with room for n more lines
unfoldable pub judged : ℕ → Said → (List ℕ → Verdict) → Verdict
judged i nothing f = verdict 50 i
judged i (said s t) f = f t

unfoldable pub fault_from : ℕ → ℕ → List ℕ → Verdict
fault_from zero i t = fine if eqb (length t) 0 else verdict 51 i
fault_from (suc n) i t = fine if eqb (length t) 0 else judged i (said_by t) (fault_from n (i + 1))

-- ---- the steps of up to n lines, before the first that is not right
unfoldable pub taken : Said → (List ℕ → List Step) → List Step
taken nothing f = []
taken (said s t) f = s ∷ f t

unfoldable pub steps_from : ℕ → List ℕ → List Step
steps_from zero t = []
steps_from (suc n) t = taken (said_by t) (steps_from n)

-- ---- of a log
abbrev pub log_fault : List ℕ → Verdict
log_fault log = fault_from most_steps 0 log

abbrev pub log_steps : List ℕ → List Step
log_steps log = steps_from most_steps log

-- ---- the same by the texts of steps alone
-- a log is the text of the steps ss, each of which a line can say, and of what is left
pub record SplitAt (log : List ℕ) (ss : List Step) (left : List ℕ) : Type 0 where
  pub whole : log ≡ log_of ss ++ left
  pub can : AllSayable ss

-- 50 at line p: the lines before it are right, and it is not
pub record Wrong (log : List ℕ) (p : ℕ) : Type 0 where
  pub before : List Step
  pub left : List ℕ
  pub split : SplitAt log before left
  pub place : length before ≡ p
  pub few : p < most_steps
  pub there : left ≡ [] → ⊥
  pub wrong : Right (first_line left) → ⊥

-- 51 at line p: as many lines before it as a schedule has steps, all right, and there is more
pub record TooLong (log : List ℕ) (p : ℕ) : Type 0 where
  pub before : List Step
  pub left : List ℕ
  pub split : SplitAt log before left
  pub place : length before ≡ p
  pub many : p ≡ most_steps
  pub there : left ≡ [] → ⊥

-- every line is right
pub record Sound (log : List ℕ) (ss : List Step) : Type 0 where
  pub whole : log ≡ log_of ss
  pub can : AllSayable ss
  pub few : length ss ≤ most_steps

pub record Exact : Type 0 where
  -- a text begins with a right line exactly when it is read as one: its step, and what stands after it
  pub line_right : (t t' : List ℕ) (s : Step) → said_by t ≡ said s t' → (sayable s ≡ true) × (t ≡ line_of s ++ t')
  pub right_line : (t : List ℕ) (s : Step) → sayable s ≡ true → said_by (line_of s ++ t) ≡ said s t
  pub first_line_lem : (t t' : List ℕ) (s : Step) → said_by t ≡ said s t' → first_line t ≡ line_of s
  pub no_line : (t : List ℕ) → said_by t ≡ nothing → Right (first_line t) → ⊥
  -- no refusal exactly for the logs of schedules that lines can say
  pub sound : (log : List ℕ) → (log_fault log).number ≡ 0 → Sound log (log_steps log)
  pub sound_back : (log : List ℕ) (ss : List Step) → Sound log ss → (log_fault log ≡ fine) × (log_steps log ≡ ss)
  -- 50 and 51, exactly there
  pub fifty : (log : List ℕ) (p : ℕ) → log_fault log ≡ verdict 50 p → Wrong log p
  pub fifty_back : (log : List ℕ) (p : ℕ) → Wrong log p → log_fault log ≡ verdict 50 p
  pub fifty_one : (log : List ℕ) (p : ℕ) → log_fault log ≡ verdict 51 p → TooLong log p
  pub fifty_one_back : (log : List ℕ) (p : ℕ) → TooLong log p → log_fault log ≡ verdict 51 p
