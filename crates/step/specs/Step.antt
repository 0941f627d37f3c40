-- A step by the numbers that the code has in hand.
use Rattle.std.specs.Prelude.{◌≡◌, Bool, false, List, [], ℕ, ◌+◌, ◌<◌, eqb, set}
use Rattle.senders.specs.Tally.{every, digit}
use Rattle.fault.specs.Tests.{◌below◌, ◌at_least◌}
use Rattle.fault.specs.Fault.{◌if◌else◌}
use Rattle.senders.specs.Set.{mem}
use Rattle.paper.specs.Paper.{Design, Step, is_stop}
use Rattle.paper.specs.Words.{state, sent, sent_at, stop}
use Rattle.paper.specs.Form.{wide, bump}
use Rattle.paper.specs.Step.{heard, malformed, take_fault, step_fault, stepped}
use Rattle.words.specs.declared.Sizes.{Sizes}
use Rattle.words.specs.Words.{column_in, count_in, stopped_of}
use Rattle.rules.specs.Kept.{kept_from, kept_to, kept_sends, kept_least, kept_design}

-- the words that a step leaves: changed if it is accepted, and else as they were
abbrev pub left_by : ℕ → Design → List ℕ → Step → List ℕ
left_by k d w x = stepped k d w x if eqb (step_fault k d w x) 0 else w

-- ---- by the kept rules
-- a design of which only the numbers are looked at
abbrev pub sized : Sizes → Design
sized s = kept_design s [] []

-- the thresholds of rule r are met by board p's counts, with one message more of type m
abbrev pub met_with : Sizes → List ℕ → List ℕ → ℕ → ℕ → ℕ → Bool
met_with s leasts w p r m = every s.types (λ i. (count_in s w p i + digit (eqb m i)) at_least kept_least leasts r i)

-- board p sends type m, if there is such a type
unfoldable pub sent_once : Sizes → ℕ → ℕ → List ℕ → List ℕ
sent_once s p m v =
    set v (sent_at s.correct s.types (wide s.level) m) (bump s.level ((column_in s).own p) (sent s.correct s.types (wide s.level) v m)) if m below s.types else v

-- board p enters the state that rule r leads to, and sends its type, if any
abbrev pub moved_by : Sizes → List ℕ → ℕ → ℕ → List ℕ → List ℕ
moved_by s ends p r v = sent_once s p (kept_sends ends r) (set v p (kept_to ends r))

-- ---- by a rule of the table: the words after a step, its refusal, and what it leaves
abbrev pub kept_taken : Sizes → List ℕ → List ℕ → Step → List ℕ
kept_taken s ends w x = moved_by s ends x.board x.rule (heard s.level (sized s) w x)

abbrev pub taken_fault : Sizes → List ℕ → List ℕ → List ℕ → Step → ℕ
taken_fault s ends leasts w x = take_fault s.level (kept_design s ends leasts) w x

abbrev pub taken_left : Sizes → List ℕ → List ℕ → List ℕ → Step → List ℕ
taken_left s ends leasts w x = kept_taken s ends w x if eqb (taken_fault s ends leasts w x) 0 else w

-- ---- the same with stops
abbrev pub kept_stepped : Sizes → List ℕ → List ℕ → Step → List ℕ
kept_stepped s ends w x = stop s.correct s.types (wide s.level) x.board w if is_stop x else kept_taken s ends w x

abbrev pub kept_fault : Sizes → List ℕ → List ℕ → List ℕ → Step → ℕ
kept_fault s ends leasts w x = step_fault s.level (kept_design s ends leasts) w x

abbrev pub kept_left : Sizes → List ℕ → List ℕ → List ℕ → Step → List ℕ
kept_left s ends leasts w x = kept_stepped s ends w x if eqb (kept_fault s ends leasts w x) 0 else w

-- ---- what is known of a step
-- a board and a rule that there are, and a message that could be one
pub record Formed (s : Sizes) (x : Step) : Type 0 where
  pub board : x.board < s.correct
  pub rule : x.rule < s.rules
  pub named : malformed s.level (sized s) x ≡ false

-- a board that there is, and it is not stopped
pub record Awake (s : Sizes) (w : List ℕ) (x : Step) : Type 0 where
  pub board : x.board < s.correct
  pub awake : mem (stopped_of s w) x.board ≡ false

-- a board and a rule that there are, and the rule leaves the board's state
pub record Leaves (s : Sizes) (ends w : List ℕ) (x : Step) : Type 0 where
  pub board : x.board < s.correct
  pub rule : x.rule < s.rules
  pub from : state w x.board ≡ kept_from ends x.rule
