-- Q-13, "How many receipts at most", for the call that counts a run, whatever the bundle, the standing table and the lent words: its answer is `run`'s; the two numbers are
-- folds over the accepted steps, never exceed C·T·n and C-as-T, and are those of a translation. Proofs: receipts/proofs/, counted/proofs/Bounds.antt, proofs/Receipts.antt.
use Rattle.std.specs.Prelude.{◌≡◌, List, ℕ, ◌*◌, ◌≤◌, take}
use Rattle.table.specs.Table.{types_of}
use Rattle.bundle.specs.Bundle.{n_of, correct_of, table_in_use}
use Rattle.bundle.specs.Refusals.{read_fault}
use Rattle.receipts.specs.Receipts.{receives, sends, tally, ReceiptLaws}
use Rattle.engine.specs.Design.{design_in}
use Rattle.engine.specs.Entry.{schedule_of, ran_of, run_answer}
use Rattle.translate.specs.Entry.{translation_of}
use Rattle.counted.specs.declared.Counted.{Counted}
use Rattle.counted.specs.Entry.{counted_answer}
use Rattle.claims.specs.Demand1.{Runs, OfStep, room_in}

-- ---- a call in so many lent words, with its answer a
pub record CountedOf (b standing : List ℕ) (lent : ℕ) (a : Counted) : Type 0 where
  -- refusal, place and steps are `run`'s
  pub answer : a.answer ≡ run_answer b standing lent
  -- of a bundle that is read, in enough words: how many of the steps that the run accepts receive a message, and send a new type
  pub receipts : (read_fault b standing).number ≡ 0 → room_in b standing ≤ lent → a.receipts ≡ tally receives (take (ran_of b standing).accepted (schedule_of b))
  pub sends : (read_fault b standing).number ≡ 0 → room_in b standing ≤ lent → a.sends ≡ tally (sends (design_in b standing)) (take (ran_of b standing).accepted (schedule_of b))
  -- with any refusal but a step's both are 0
  pub none : (a.answer.refusal ≡ 0 → ⊥) → (OfStep a.answer.refusal → ⊥) → (a.receipts ≡ 0) × (a.sends ≡ 0)
  -- never more than C·T·n and C-as-T; so at most 64·4·64 and 64·4
  pub few_receipts : a.receipts ≤ correct_of b * types_of (table_in_use b standing) * n_of b
  pub few_sends : a.sends ≤ correct_of b * types_of (table_in_use b standing)
  pub most_receipts : a.receipts ≤ 16384
  pub most_sends : a.sends ≤ 256

-- two calls count the same
pub record SameNumbers (a c : Counted) : Type 0 where
  pub receipts : c.receipts ≡ a.receipts
  pub sends : c.sends ≡ a.sends

pub record Q13 : Type 0 where
  pub calls : (b standing : List ℕ) (lent : ℕ) → CountedOf b standing lent (counted_answer b standing lent)
  -- a bundle that runs and its translation to form k have the same receipts and sends, each in enough words
  pub translated : (b standing : List ℕ) → Runs b standing → (k : ℕ) → k ≤ 2 → (lent room : ℕ) → room_in b standing ≤ lent → room_in (translation_of b standing k) standing ≤ room
      → SameNumbers (counted_answer b standing lent) (counted_answer (translation_of b standing k) standing room)
  -- for every level, design and schedule
  pub schedules : ReceiptLaws
