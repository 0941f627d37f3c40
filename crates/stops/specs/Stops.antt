-- Q-11, "Boards that stop": a stop never helps, and those stopped with those faulty are never more than t; for every level, design, configuration and schedule.
-- Proofs: proofs/Wakes.antt, proofs/Stops.antt.
use Rattle.std.specs.Prelude.{◌≡◌, false, List, [], ◌∷◌, ℕ, ◌+◌, ◌≤◌, ◌<◌, length}
use Rattle.fault.specs.Fault.{◌if◌else◌}
use Rattle.paper.specs.Paper.{Design, Step, is_stop, stopped_count}
use Rattle.paper.specs.Words.{size, state}
use Rattle.paper.specs.Form.{wide}
use Rattle.paper.specs.Step.{rcvd_in, sent_in, stopped_in}
use Rattle.paper.specs.Run.{run}

-- ---- a schedule without its stops
-- the schedule with every stop left out (Q-11)
unfoldable pub without_stops : List Step → List Step
without_stops [] = []
without_stops (s ∷ ss) = without_stops ss if is_stop s else s ∷ without_stops ss

-- no step of the schedule is a stop (Q-11)
abbrev pub NoStops : List Step → Type 0
NoStops [] = Unit {0}
NoStops (s ∷ ss) = (is_stop s ≡ false) × NoStops ss

-- ---- what comes of it
-- v shows every board's state and received messages, and the sent messages, as w does; who is stopped may differ (Q-11)
pub record SameBoards (k : ℕ) (d : Design) (w v : List ℕ) : Type 0 where
  pub states : (p : ℕ) → p < d.boards → state v p ≡ state w p
  pub rcvds : (p m : ℕ) → p < d.boards → m < d.types → rcvd_in k d v p m ≡ rcvd_in k d w p m
  pub sents : (m : ℕ) → m < d.types → sent_in k d v m ≡ sent_in k d w m

-- without its stops the schedule runs, every step of it is accepted, the boards end the same, and it is no longer than it was (Q-11)
pub record Without (k : ℕ) (d : Design) (w : List ℕ) (ss : List Step) : Type 0 where
  pub runs : (run k d w (without_stops ss)).refusal ≡ 0
  pub accepted : (run k d w (without_stops ss)).accepted ≡ length (without_stops ss)
  pub same : SameBoards k d (run k d w ss).left (run k d w (without_stops ss)).left
  pub few : length (without_stops ss) ≤ length ss

-- the stopped boards and the faulty ones are at most t (Q-11)
abbrev pub FewStopped : ℕ → Design → List ℕ → Type 0
FewStopped k d w = stopped_count d (stopped_in k d w) + d.faulty ≤ d.tolerated

-- ---- for all of them (Q-11)
pub record StopLaws : Type 0 where
  -- a stop never helps: an accepted schedule without its stops is accepted, with the same states, counts and sent counts
  pub never_help : (k : ℕ) (d : Design) (w : List ℕ) (ss : List Step) → length w ≡ size d.boards d.types (wide k) → (run k d w ss).refusal ≡ 0 → Without k d w ss
  -- stopped boards plus f at most t is an invariant of every run, whether or not the run ends in a refusal
  pub few_stopped : (k : ℕ) (d : Design) (w : List ℕ) (ss : List Step) → length w ≡ size d.boards d.types (wide k) → FewStopped k d w → FewStopped k d (run k d w ss).left
