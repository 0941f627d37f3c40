-- Demand 3, for the schedules of a bundle that is read: all forms begin alike, and a schedule that runs in one of them has a
-- translation that runs in each other, with neighbouring forms pictured after every step, and the same first possible step.
-- Proofs: proofs/Agreed.antt.
use Rattle.std.specs.Prelude.{◌≡◌, List, map, ℕ, suc}
use Rattle.bundle.specs.Refusals.{read_fault}
use Rattle.paper.specs.Paper.{Design, Step}
use Rattle.paper.specs.Run.{run, after}
use Rattle.agree.specs.Translation.{tagged, low_all}
use Rattle.agree.specs.Picture.{Pictured}
use Rattle.agree.specs.Agreement.{RunThere, RunBack, InAllForms}
use Rattle.engine.specs.Design.{design_in, sizes_in}
use Rattle.translate.specs.Written.{begin_of}
use Rattle.claims.specs.FirstStep.{FirstAgreed}

-- ---- schedules, from words w of form j and words v of form j + 1
pub record Agreed (j : ℕ) (d : Design) (w v : List ℕ) : Type 0 where
  pub begins : Pictured j d w v
  pub there : (ss : List Step) → (run j d w ss).refusal ≡ 0 → RunThere j d w v ss
  pub back : (ss : List Step) → (run (suc j) d v ss).refusal ≡ 0 → RunBack j d w v ss
  -- after every number of steps, and so after the whole schedule, the first possible steps are each other's
  pub first_there : (ss : List Step) → (run j d w ss).refusal ≡ 0 → (i : ℕ) → FirstAgreed j d (after j d w ss i) (after (suc j) d v (map (tagged j d) ss) i)
  pub first_back : (ss : List Step) → (run (suc j) d v ss).refusal ≡ 0 → (i : ℕ) → FirstAgreed j d (after j d w (low_all j d w ss) i) (after (suc j) d v ss i)

-- ---- a bundle that is read
-- its first configuration in form k, whatever form it is in itself
abbrev pub begin_in : ℕ → List ℕ → List ℕ → List ℕ
begin_in k b standing = begin_of (sizes_in b standing) b k

pub record AllAgreed (b standing : List ℕ) : Type 0 where
  pub neighbours : (j : ℕ) → Agreed j (design_in b standing) (begin_in j b standing) (begin_in (suc j) b standing)
  pub everywhere : (k : ℕ) (ss : List Step) → (run k (design_in b standing) (begin_in k b standing) ss).refusal ≡ 0 → InAllForms (design_in b standing) (λ i. begin_in i b standing) k ss

abbrev pub ReadAgreed : Type 0
ReadAgreed = (b standing : List ℕ) → (read_fault b standing).number ≡ 0 → AllAgreed b standing
