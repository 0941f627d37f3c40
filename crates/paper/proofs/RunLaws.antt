-- The laws of a run, for the words of a level: those of any machine (proofs/MachineLaws.antt).
use mathlib.Core.Path.{◌≡◌, refl}
use mathlib.Core.List.{List, ◌∷◌}
use Prim.Native.Nat.{ℕ, suc, ◌+◌, ◌≤◌, ◌<◌}
use lib.ListN.{length}
use Rattle.paper.specs.Paper.{Design, Step}
use Rattle.paper.specs.Step.{step_fault, stepped}
use Rattle.paper.specs.Machine.{run_by, one_more, step_at}
use Rattle.paper.specs.Run.{machine_of, Ran, run, after}
use Rattle.paper.proofs.StepLaws.{step_most}
use Rattle.paper.proofs.MachineLaws as by
pub use Rattle.paper.proofs.MachineLaws.{ran_to}

module _ (k : ℕ) (d : Design) (w : List ℕ) (s : Step) (ss : List Step) where
  pub run-goes : step_fault k d w s ≡ 0 → run k d w (s ∷ ss) ≡ one_more (run k d (stepped k d w s) ss)
  run-goes = by.run-goes (machine_of k d) w s ss

  pub run-stops : (step_fault k d w s ≡ 0 → ⊥) → run k d w (s ∷ ss) ≡ ran_to 0 (step_fault k d w s) w
  run-stops = by.run-stops (machine_of k d) w s ss

module _ (k : ℕ) (d : Design) (w : List ℕ) where
  pub after_none : (ss : List Step) → after k d w ss 0 ≡ w
  unfolding run_by
  after_none ss = refl

  pub after-goes : (s : Step) (ss : List Step) → step_fault k d w s ≡ 0 → (i : ℕ) → after k d w (s ∷ ss) (suc i) ≡ after k d (stepped k d w s) ss i
  after-goes = by.after-goes (machine_of k d) w

module _ (k : ℕ) (d : Design) (w₀ : List ℕ) (ss : List Step) where
  abbrev pub Running : ℕ → List ℕ → Type 0
  Running = by.Running (machine_of k d) w₀ ss

  pub running_starts : Running 0 w₀
  running_starts = by.running_starts (machine_of k d) w₀ ss

  module _ (i : ℕ) (w : List ℕ) (S : Running i w) where
    pub running_goes : i < length ss → step_fault k d w (step_at ss i) ≡ 0 → Running (i + 1) (stepped k d w (step_at ss i))
    running_goes = by.running_goes (machine_of k d) w₀ ss i w S

    pub running_stops : i < length ss → (step_fault k d w (step_at ss i) ≡ 0 → ⊥) → run k d w₀ ss ≡ ran_to i (step_fault k d w (step_at ss i)) w
    running_stops = by.running_stops (machine_of k d) w₀ ss i w S

    pub running_ends : length ss ≤ i → run k d w₀ ss ≡ ran_to i 0 w
    running_ends = by.running_ends (machine_of k d) w₀ ss i w S

abbrev pub RanWithin : ℕ → Ran → Type 0
RanWithin n r = by.WithinBy 27 n r

pub run-within : (k : ℕ) (d : Design) (w : List ℕ) (ss : List Step) → RanWithin (length ss) (run k d w ss)
run-within k d = by.run-within (machine_of k d) 27 (step_most k d)
