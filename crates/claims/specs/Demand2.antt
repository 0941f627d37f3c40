-- Demand 2: a step is accepted, in each form, exactly when the paper's relation holds for it, Definition 3.2 or a stop (Q-11), and the configuration
-- afterwards is the one that the relation gives; for runs, after each accepted step. Proofs: proofs/Demand2.antt.
use Rattle.std.specs.Prelude.{◌≡◌, List, ℕ, suc, ◌<◌, length}
use Rattle.bundle.specs.Refusals.{read_fault}
use Rattle.paper.specs.Paper.{Design, Conf, Step, Steps, R, Same, Initial}
use Rattle.paper.specs.Words.{size}
use Rattle.paper.specs.Form.{wide}
use Rattle.paper.specs.Step.{column_of, view, step_fault, stepped}
use Rattle.paper.specs.Run.{Ran, run, step_at, after}
use Rattle.engine.specs.Design.{sizes_in, design_in}
use Rattle.engine.specs.Entry.{start_in, schedule_of, ran_of}

-- ---- one step, in form k, from words that are a configuration
abbrev pub Sized : ℕ → Design → List ℕ → Type 0
Sized k d w = length w ≡ size d.boards d.types (wide k)

pub record StepMoves (k : ℕ) (d : Design) (w : List ℕ) (s : Step) : Type 0 where
  -- accepted: the relation holds, to the words after the step
  pub accepted : step_fault k d w s ≡ 0 → Steps d (column_of k d) s (view k d w) (view k d (stepped k d w s))
  -- the relation holds to some configuration: accepted
  pub held : (σ : Conf (column_of k d).Coll) → Steps d (column_of k d) s (view k d w) σ → step_fault k d w s ≡ 0
  -- refused: the relation holds to none
  pub refused : (step_fault k d w s ≡ 0 → ⊥) → (σ : Conf (column_of k d).Coll) → Steps d (column_of k d) s (view k d w) σ → ⊥
  -- the relation gives one configuration only: that of the words after the step
  pub one : (σ : Conf (column_of k d).Coll) → Steps d (column_of k d) s (view k d w) σ → Same d (column_of k d) σ (view k d (stepped k d w s))
  -- and those words only
  pub words : (w' : List ℕ) → Sized k d w' → Steps d (column_of k d) s (view k d w) (view k d w') → w' ≡ stepped k d w s
  pub sized : Sized k d (stepped k d w s)

-- ---- a run r of the schedule ss from the words w
pub record RunMoves (k : ℕ) (d : Design) (w : List ℕ) (ss : List Step) (r : Ran) : Type 0 where
  -- each accepted step is one of the relation, from the words after the steps before it
  pub each : (i : ℕ) → i < r.accepted → Steps d (column_of k d) (step_at ss i) (view k d (after k d w ss i)) (view k d (after k d w ss (suc i)))
  -- so the words after i steps and those after one more are in the paper's relation R
  pub related : (i : ℕ) → i < r.accepted → R d (column_of k d) (view k d (after k d w ss i)) (view k d (after k d w ss (suc i)))
  -- what is left are the words after the accepted steps
  pub left : r.left ≡ after k d w ss r.accepted
  -- no refusal: every step was accepted
  pub whole : r.refusal ≡ 0 → r.accepted ≡ length ss
  -- a refusal: it is that of the next step, for which the relation holds to no configuration
  pub next : (r.refusal ≡ 0 → ⊥) → r.accepted < length ss
  pub number : (r.refusal ≡ 0 → ⊥) → r.refusal ≡ step_fault k d r.left (step_at ss r.accepted)
  pub stuck : (r.refusal ≡ 0 → ⊥) → (σ : Conf (column_of k d).Coll) → Steps d (column_of k d) (step_at ss r.accepted) (view k d r.left) σ → ⊥

-- ---- a bundle that is read, beside its standing table, as `run` sees it
pub record BundleMoves (b standing : List ℕ) : Type 0 where
  -- it starts in an initial configuration of the paper
  pub begins : Initial (design_in b standing) (column_of (sizes_in b standing).level (design_in b standing)) (view (sizes_in b standing).level (design_in b standing) (start_in (sizes_in b standing) b))
  -- and its run is one of such steps
  pub runs : RunMoves (sizes_in b standing).level (design_in b standing) (start_in (sizes_in b standing) b) (schedule_of b) (ran_of b standing)

pub record Demand2 : Type 0 where
  pub steps : (k : ℕ) (d : Design) (w : List ℕ) (s : Step) → Sized k d w → StepMoves k d w s
  pub schedules : (k : ℕ) (d : Design) (w : List ℕ) (ss : List Step) → Sized k d w → RunMoves k d w ss (run k d w ss)
  pub bundles : (b standing : List ℕ) → (read_fault b standing).number ≡ 0 → BundleMoves b standing
