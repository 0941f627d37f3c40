-- Q-5, "No echo from nothing": property (b) of the source's introduction. Where every board starts in V0, no schedule of the echo table
-- brings a board to SE or AC, in any form, and nothing is ever sent; in either edition (Q-7). Proofs: proofs/NoEcho.antt.
use Rattle.std.specs.Prelude.{◌≡◌, false, List, ℕ, ◌+◌, ◌*◌, ◌≤◌, ◌<◌, length, take, replicate}
use Rattle.fault.specs.Bytes.{byte_at}
use Rattle.layout.specs.Layout.{second}
use Rattle.table.specs.Table.{rules_of, types_byte, types_of, factor_of}
use Rattle.bundle.specs.Bundle.{form_of, correct_of, front_length, starts_of, level_of}
use Rattle.paper.specs.Paper.{Design, Step, is_stop}
use Rattle.paper.specs.Words.{state, sent, start}
use Rattle.paper.specs.Form.{wide}
use Rattle.paper.specs.Step.{column_of, sent_in, count_of, step_fault}
use Rattle.paper.specs.Run.{run, after}
use Rattle.rules.specs.Design.{design_of}
use Rattle.engine.specs.Design.{design_in}
use Rattle.engine.specs.Entry.{run_answer, run_words}
use Rattle.first_step.specs.declared.First.{First}
use Rattle.first_step.specs.Entry.{first_answer}
use Rattle.editions.specs.Moved.{moved_to}
use Rattle.same.specs.Same.{SameTable}
use Rattle.echo.specs.Echo.{echo, asking}

-- ---- the echo table, by what its rule 1 asks for: the outline's asks for t + 1
abbrev pub echo_table : List ℕ
echo_table = asking 1

-- in the second edition, as `to_second` writes it (Q-8)
abbrev pub echo_second : List ℕ
echo_second = moved_to (types_byte echo_table + second) echo_table

-- ---- a configuration in which nothing has come of nothing
pub record Quiet (k : ℕ) (d : Design) (w : List ℕ) : Type 0 where
  -- every board is in V0, which is state 0
  pub states : (p : ℕ) → p < d.boards → state w p ≡ 0
  -- nothing is sent: by the paper's collection, and by its word
  pub sents : (m : ℕ) → m < d.types → sent_in k d w m ≡ (column_of k d).init
  pub sent_words : (m : ℕ) → m < d.types → sent d.boards d.types (wide k) w m ≡ 0
  -- no board counts more than f messages, which is what the faulty ones can make up
  pub counts : (p m : ℕ) → p < d.boards → m < d.types → count_of k d w p m ≤ d.faulty

-- ---- about the definitions: C correct and f faulty boards, at level k
-- n, t, f are admitted (outline, "Bundle layout"), where n is C + f; there is no need that n is at most 64
pub record Admits (table : List ℕ) (C f t : ℕ) : Type 0 where
  pub enough : factor_of table * t < C + f
  pub faulty : f ≤ t

abbrev pub design_for : List ℕ → ℕ → ℕ → ℕ → ℕ → Design
design_for table k C f t =
    design_of (record { level = k; correct = C; faulty = f; types = types_of table; rules = rules_of table; wide = wide k; row = types_of table * wide k; tolerated = t }) t table

-- the start of all boards in V0
abbrev pub from_v0 : List ℕ → ℕ → ℕ → List ℕ
from_v0 table k C = start (types_of table) (wide k) (replicate C 0)

-- a schedule of any length from the words w, accepted or not
pub record Never (k : ℕ) (d : Design) (w : List ℕ) (ss : List Step) : Type 0 where
  -- after each number of steps, and with what the whole run leaves
  pub reached : (i : ℕ) → Quiet k d (after k d w ss i)
  pub left : Quiet k d (run k d w ss).left
  -- where the only rule that can follow, but for a stop, is rule 0, the wait in V0
  pub waits : (s : Step) → step_fault k d (run k d w ss).left s ≡ 0 → is_stop s ≡ false → s.rule ≡ 0

-- ---- about the calls
-- the table in use: the front, or the standing table beside an empty front
pub data Uses (table b standing : List ℕ) : Type 0 where
  front : take (front_length b) b ≡ table → Uses table b standing
  beside : front_length b ≡ 0 → standing ≡ table → Uses table b standing

-- a bundle that starts in V0
pub record InV0 (table b standing : List ℕ) : Type 0 where
  pub uses : Uses table b standing
  pub starts : (p : ℕ) → p < correct_of b → byte_at (starts_of b) p ≡ 0

-- the refusals with which `run` leaves a configuration: none, or that of a step (outline, "Numbers given back")
pub data Configures (refusal : ℕ) : Type 0 where
  whole : refusal ≡ 0 → Configures refusal
  stopped : 20 ≤ refusal → refusal ≤ 27 → Configures refusal

-- ---- the claim, for a table
pub record NoEcho (table : List ℕ) : Type 0 where
  pub never : (k C f t : ℕ) → Admits table C f t → (ss : List Step) → Never k (design_for table k C f t) (from_v0 table k C) ss
  -- what `run` leaves; every other refusal leaves the lent words as they were (`run_words`)
  pub runs : (b standing words : List ℕ) → InV0 table b standing → Configures (run_answer b standing (length words)).refusal
      → Quiet (level_of (form_of b)) (design_in b standing) (run_words b standing words)
  -- `first_step` names no rule but rule 0
  pub firsts : (b standing : List ℕ) → InV0 table b standing → (p r m q : ℕ) → first_answer b standing ≡ First.Step p r m q → r ≡ 0

pub record Q5 : Type 0 where
  pub holds : NoEcho echo_table
  -- of every table that says the same, whatever its bytes; so of the echo table in the second edition
  pub same : (table : List ℕ) → SameTable echo_table table → NoEcho table
  pub second : NoEcho echo_second
  pub table : echo ≡ echo_table
  -- it can fail: where rule 1 asks for t, `run` accepts `one_echo 1 0 3`, which refutes it
  pub fails : NoEcho (asking 0) → ⊥
