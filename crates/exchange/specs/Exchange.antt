-- Q-10, "Order of two boards": two steps x and y of different boards, in either order, for every level, design and list of words; with the one exception that Q-11
-- brings, two stops where only one more is allowed. The words need be neither reached nor, but for `two_stops`, as many as a configuration has. Proofs:
-- proofs/Exchange.antt, proofs/Stops.antt, proofs/Runs.antt.
use Rattle.std.specs.Prelude.{◌≡◌, ◌≢◌, true, false, List, [], ◌∷◌, ◌++◌, ℕ, zero, suc, ◌+◌, ◌*◌, ◌≤◌, ◌<◌, length, take, drop}
use Rattle.fault.specs.Bytes.{step_bytes}
use Rattle.bundle.specs.Bundle.{steps_at}
use Rattle.paper.specs.Paper.{Design, Step, silent, newly, is_stop, stopped_count}
use Rattle.paper.specs.Words.{size}
use Rattle.paper.specs.Form.{wide}
use Rattle.paper.specs.Step.{column_of, stopped_in, step_fault, stepped}
use Rattle.paper.specs.Run.{run, step_at, after}

-- ---- what is exchanged
-- a schedule with its steps i and i + 1 exchanged (Q-10)
unfoldable pub exchanged_steps : ℕ → List Step → List Step
exchanged_steps i [] = []
exchanged_steps zero (x ∷ []) = x ∷ []
exchanged_steps zero (x ∷ y ∷ ss) = y ∷ x ∷ ss
exchanged_steps (suc i) (x ∷ ss) = x ∷ exchanged_steps i ss

-- bytes with the two records exchanged of which the first stands at a (Q-10)
unfoldable pub exchanged_at : ℕ → List ℕ → List ℕ
exchanged_at a bytes = take a bytes ++ (take step_bytes (drop (a + step_bytes) bytes) ++ (take step_bytes (drop a bytes) ++ drop (a + step_bytes + step_bytes) bytes))

-- a bundle with the records of its steps i and i + 1 exchanged (Q-10)
abbrev pub exchanged : ℕ → List ℕ → List ℕ
exchanged i b = exchanged_at (steps_at b + i * step_bytes) b

-- if both are stops, then both may stop: they, those stopped and those faulty are at most t (Q-11)
abbrev pub RoomForBoth : ℕ → Design → List ℕ → Step → Step → Type 0
RoomForBoth k d w x y = is_stop x ≡ true → is_stop y ≡ true → stopped_count d (stopped_in k d w) + 2 + d.faulty ≤ d.tolerated

-- ---- what comes of it
-- both orders are accepted, and end in the same words (Q-10)
pub record EitherOrder (k : ℕ) (d : Design) (w : List ℕ) (x y : Step) : Type 0 where
  pub y_after_x : step_fault k d (stepped k d w x) y ≡ 0
  pub x_after_y : step_fault k d (stepped k d w y) x ≡ 0
  pub same_words : stepped k d (stepped k d w x) y ≡ stepped k d (stepped k d w y) x

-- y before x is refused with 24: the message that it receives is one that x sends, of a new type and from x's board, so far as the level tells senders (Q-10, beyond the request)
pub record HearsOther (k : ℕ) (d : Design) (w : List ℕ) (x y : Step) : Type 0 where
  pub refused : step_fault k d w y ≡ 24
  pub receives : silent y ≡ false
  pub sends : newly d (d.from x.rule) (d.to x.rule) y.type ≡ true
  pub source : y.source ≡ (column_of k d).own x.board

-- ---- for all of them
pub record Exchange : Type 0 where
  -- each is accepted from w, and if both are stops, there is room for both: both orders are accepted, and end in the same words
  pub either : (k : ℕ) (d : Design) (w : List ℕ) (x y : Step) → x.board ≢ y.board → step_fault k d w x ≡ 0 → step_fault k d w y ≡ 0 → RoomForBoth k d w x y → EitherOrder k d w x y
  -- two stops, each accepted from w, and there is room for one only: in either order, the second is refused with 27
  pub two_stops : (k : ℕ) (d : Design) (w : List ℕ) (x y : Step) → length w ≡ size d.boards d.types (wide k) → x.board ≢ y.board → is_stop x ≡ true → is_stop y ≡ true
      → step_fault k d w x ≡ 0 → step_fault k d w y ≡ 0 → d.tolerated ≡ stopped_count d (stopped_in k d w) + 1 + d.faulty
      → (step_fault k d (stepped k d w x) y ≡ 27) × (step_fault k d (stepped k d w y) x ≡ 27)
  -- y is accepted after x and not before it: it hears what x sends
  pub hears : (k : ℕ) (d : Design) (w : List ℕ) (x y : Step) → x.board ≢ y.board → step_fault k d w x ≡ 0 → step_fault k d (stepped k d w x) y ≡ 0 → (step_fault k d w y ≡ 0 → ⊥)
      → HearsOther k d w x y
  -- steps i and i + 1 of a schedule are each accepted from the words after i steps, and there is room for both: exchanged, its run is the same, whatever comes of the steps after them
  pub same_run : (k : ℕ) (d : Design) (w : List ℕ) (ss : List Step) (i : ℕ) → suc i < length ss → (step_at ss i).board ≢ (step_at ss (suc i)).board
      → step_fault k d (after k d w ss i) (step_at ss i) ≡ 0 → step_fault k d (after k d w ss i) (step_at ss (suc i)) ≡ 0
      → RoomForBoth k d (after k d w ss i) (step_at ss i) (step_at ss (suc i)) → run k d w (exchanged_steps i ss) ≡ run k d w ss
  -- its run accepts both, and step i + 1 is not accepted before step i: exchanged, it is refused there with 24
  pub refused : (k : ℕ) (d : Design) (w : List ℕ) (ss : List Step) (i : ℕ) → suc i < (run k d w ss).accepted → (step_at ss i).board ≢ (step_at ss (suc i)).board
      → (step_fault k d (after k d w ss i) (step_at ss (suc i)) ≡ 0 → ⊥) → run k d w (exchanged_steps i ss) ≡ record { accepted = i; refusal = 24; left = after k d w ss i }
