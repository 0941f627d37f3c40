-- Q-11, "Boards that stop": what is promised of stops beside demands 2 and 3, which hold with them (Demand2.antt, Demand3.antt), the first step (FirstStep.antt), no echo from
-- nothing (NoEcho.antt), searches (Search.antt) and exchanged steps (Exchange.antt). Proofs: stops/proofs/, proofs/Stops.antt.
use Rattle.std.specs.Prelude.{◌≡◌, true, false, List, ℕ, ◌+◌, ◌≤◌, ◌<◌, set}
use Rattle.senders.specs.Set.{mem, insert}
use Rattle.bundle.specs.Refusals.{read_fault}
use Rattle.paper.specs.Paper.{Design, Step, silent, is_stop, stopped_count}
use Rattle.paper.specs.Words.{stopped_at}
use Rattle.paper.specs.Form.{wide}
use Rattle.paper.specs.Step.{stopped_in, step_fault, stepped}
use Rattle.paper.specs.Run.{run}
use Rattle.stops.specs.Stops.{without_stops, SameBoards, FewStopped, StopLaws}
use Rattle.engine.specs.Design.{sizes_in, design_in}
use Rattle.engine.specs.Entry.{start_in, schedule_of}
use Rattle.claims.specs.Demand1.{Runs, after_in}

-- ---- one step, from any words
pub record StopOf (k : ℕ) (d : Design) (w : List ℕ) (s : Step) : Type 0 where
  -- a stopped board takes no step, whatever it is
  pub asleep : s.board < d.boards → mem (stopped_in k d w) s.board ≡ true → step_fault k d w s ≡ 26
  -- a stop with a message, and one too many
  pub heard : is_stop s ≡ true → s.board < d.boards → mem (stopped_in k d w) s.board ≡ false → silent s ≡ false → step_fault k d w s ≡ 23
  pub many : is_stop s ≡ true → s.board < d.boards → mem (stopped_in k d w) s.board ≡ false → silent s ≡ true → d.tolerated < stopped_count d (stopped_in k d w) + 1 + d.faulty → step_fault k d w s ≡ 27
  -- any other is accepted, and the word of the stopped boards alone changes
  pub stops : is_stop s ≡ true → s.board < d.boards → mem (stopped_in k d w) s.board ≡ false → silent s ≡ true → stopped_count d (stopped_in k d w) + 1 + d.faulty ≤ d.tolerated
      → (step_fault k d w s ≡ 0) × (stepped k d w s ≡ set w (stopped_at d.boards d.types (wide k)) (insert s.board (stopped_in k d w)))

-- ---- a bundle that is read, beside its standing table
pub record StopsIn (b standing : List ℕ) : Type 0 where
  -- after every number of steps the stopped boards and f are at most t
  pub few : (i : ℕ) → FewStopped (sizes_in b standing).level (design_in b standing) (after_in b standing i)
  -- if it runs, its schedule without its stops runs too, and ends with the same states, counts and sent counts
  pub never_help : Runs b standing → ((run (sizes_in b standing).level (design_in b standing) (start_in (sizes_in b standing) b) (without_stops (schedule_of b))).refusal ≡ 0)
      × SameBoards (sizes_in b standing).level (design_in b standing) (run (sizes_in b standing).level (design_in b standing) (start_in (sizes_in b standing) b) (schedule_of b)).left
      (run (sizes_in b standing).level (design_in b standing) (start_in (sizes_in b standing) b) (without_stops (schedule_of b))).left

pub record Q11 : Type 0 where
  pub steps : (k : ℕ) (d : Design) (w : List ℕ) (s : Step) → StopOf k d w s
  -- for every level, design, configuration and schedule
  pub schedules : StopLaws
  pub bundles : (b standing : List ℕ) → (read_fault b standing).number ≡ 0 → StopsIn b standing
