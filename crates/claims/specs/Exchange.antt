-- Q-10, "Order of two boards": steps of two different boards that are each accepted can be exchanged, and what an exchange can break; of steps and schedules, from any words, and of bundles as the
-- calls see them. Proofs: exchange/proofs/, proofs/Exchange.antt.
use Rattle.std.specs.Prelude.{◌≡◌, ◌≢◌, List, ◌++◌, ℕ, suc, ◌≤◌, ◌<◌, length, drop}
use Rattle.bundle.specs.Refusals.{read_fault}
use Rattle.paper.specs.Step.{step_fault}
use Rattle.paper.specs.Run.{step_at}
use Rattle.exchange.specs.Exchange.{exchanged_steps, exchanged, Exchange, RoomForBoth}
use Rattle.engine.specs.Design.{sizes_in, design_in}
use Rattle.engine.specs.Entry.{schedule_of, ran_of, run_answer, run_words}
use Rattle.first_step.specs.declared.First.{First}
use Rattle.first_step.specs.Entry.{first_answer}
use Rattle.claims.specs.Demand1.{after_in, room_in}

-- steps i and i + 1 of its schedule are of different boards (Q-10)
abbrev pub OfTwoBoards : List ℕ → ℕ → Type 0
OfTwoBoards b i = (step_at (schedule_of b) i).board ≢ (step_at (schedule_of b) (suc i)).board

-- step j is accepted from the configuration after i steps (Q-10)
abbrev pub AcceptedAfter : List ℕ → List ℕ → ℕ → ℕ → Type 0
AcceptedAfter b standing i j = step_fault (sizes_in b standing).level (design_in b standing) (after_in b standing i) (step_at (schedule_of b) j) ≡ 0

-- and if both are stops, then both may stop (Q-11)
abbrev pub RoomAfter : List ℕ → List ℕ → ℕ → Type 0
RoomAfter b standing i = RoomForBoth (sizes_in b standing).level (design_in b standing) (after_in b standing i) (step_at (schedule_of b) i) (step_at (schedule_of b) (suc i))

-- the same answer and the same words from `run`, whatever is lent, and the same answer from `first_step` (Q-10)
pub record SameCalls (c b standing : List ℕ) : Type 0 where
  pub answer : (lent : ℕ) → run_answer c standing lent ≡ run_answer b standing lent
  pub words : (lent : List ℕ) → run_words c standing lent ≡ run_words b standing lent
  pub first : first_answer c standing ≡ first_answer b standing

-- c is refused with 24 at step i, and leaves what b's first i steps have come to (Q-10, beyond the request)
pub record NotHeard (c b standing : List ℕ) (i : ℕ) : Type 0 where
  pub answer : (lent : List ℕ) → room_in b standing ≤ length lent → run_answer c standing (length lent) ≡ record { refusal = 24; place = i; count = i }
  pub words : (lent : List ℕ) → room_in b standing ≤ length lent → run_words c standing lent ≡ after_in b standing i ++ drop (room_in b standing) lent
  pub first : first_answer c standing ≡ First.Refused 24 i

pub record Q10 : Type 0 where
  -- for every level, design and words: two steps, and two neighbours in a schedule
  pub steps : Exchange
  -- for every bundle that is read beside a standing table: its schedule has the two steps exchanged
  pub schedule : (b standing : List ℕ) (i : ℕ) → (read_fault b standing).number ≡ 0 → suc i < length (schedule_of b) → schedule_of (exchanged i b) ≡ exchanged_steps i (schedule_of b)
  -- both are accepted from the configuration after i steps, and are not two stops where only one may be: exchanged, the calls give the same, whatever comes of the other steps
  pub calls : (b standing : List ℕ) (i : ℕ) → (read_fault b standing).number ≡ 0 → suc i < length (schedule_of b) → OfTwoBoards b i
      → AcceptedAfter b standing i i → AcceptedAfter b standing i (suc i) → RoomAfter b standing i → SameCalls (exchanged i b) b standing
  -- both are accepted, and step i + 1 only after step i: exchanged, the calls refuse it with 24
  pub refused : (b standing : List ℕ) (i : ℕ) → (read_fault b standing).number ≡ 0 → suc i < (ran_of b standing).accepted → OfTwoBoards b i
      → (AcceptedAfter b standing i (suc i) → ⊥) → NotHeard (exchanged i b) b standing i
