-- The agreement of two neighbouring levels, for a step and for a schedule, from words w of level j and v of level j + 1 that are
-- pictured; and of all levels, for a schedule of any of them. The proofs are in proofs/Agree.antt and proofs/Runs.antt.
use Rattle.std.specs.Prelude.{◌≡◌, List, map, ℕ, suc, ◌≤◌, ◌<◌}
use Rattle.paper.specs.Paper.{Design, Step}
use Rattle.paper.specs.Step.{step_fault, stepped}
use Rattle.paper.specs.Run.{run, after}
use Rattle.agree.specs.Translation.{tagged, lowest, low_all, moved}
use Rattle.agree.specs.Picture.{Remembers, Pictured}

-- ---- the picture: words have one only
abbrev pub OnePicture : ℕ → Design → Type 0
OnePicture j d = (w v v' : List ℕ) → Pictured j d w v → Pictured j d w v' → v ≡ v'

-- ---- one step
-- the tagged step is accepted, and leads to the picture
pub record StepThere (j : ℕ) (d : Design) (w v : List ℕ) (s : Step) : Type 0 where
  pub accepted : step_fault (suc j) d v (tagged j d s) ≡ 0
  pub pictured : Pictured j d (stepped j d w s) (stepped (suc j) d v (tagged j d s))

-- the step with the lowest source is accepted, is the step itself when it is tagged, and leads to what is pictured
pub record StepBack (j : ℕ) (d : Design) (w v : List ℕ) (s : Step) : Type 0 where
  pub accepted : step_fault j d w (lowest j d w s) ≡ 0
  pub trip : tagged j d (lowest j d w s) ≡ s
  pub pictured : Pictured j d (stepped j d w (lowest j d w s)) (stepped (suc j) d v s)

-- ---- a schedule, and its words after each number of steps
pub record RunThere (j : ℕ) (d : Design) (w v : List ℕ) (ss : List Step) : Type 0 where
  pub accepted : (run (suc j) d v (map (tagged j d) ss)).refusal ≡ 0
  pub pictured : (i : ℕ) → Pictured j d (after j d w ss i) (after (suc j) d v (map (tagged j d) ss) i)

pub record RunBack (j : ℕ) (d : Design) (w v : List ℕ) (ss : List Step) : Type 0 where
  pub accepted : (run j d w (low_all j d w ss)).refusal ≡ 0
  pub trip : map (tagged j d) (low_all j d w ss) ≡ ss
  pub pictured : (i : ℕ) → Pictured j d (after j d w (low_all j d w ss) i) (after (suc j) d v ss i)

-- ---- a schedule of level k that runs from `begin k`, at all levels
pub record InAllForms (d : Design) (begin : ℕ → List ℕ) (k : ℕ) (ss : List Step) : Type 0 where
  -- its translation to its own level is itself; to a coarser level it is tagged once more; to a finer one it takes the lowest sources
  pub own : moved k k d begin ss ≡ ss
  pub up : (i : ℕ) → k ≤ i → moved k (suc i) d begin ss ≡ map (tagged i d) (moved k i d begin ss)
  pub down : (i : ℕ) → i < k → moved k i d begin ss ≡ low_all i d (begin i) (moved k (suc i) d begin ss)
  -- it runs at every level, and after every number of steps the words of neighbouring levels are pictured
  pub runs : (i : ℕ) → (run i d (begin i) (moved k i d begin ss)).refusal ≡ 0
  pub pictured : (i n : ℕ) → Pictured i d (after i d (begin i) (moved k i d begin ss) n) (after (suc i) d (begin (suc i)) (moved k (suc i) d begin ss) n)
  -- to a finer level and back: the same steps
  pub back : (i : ℕ) → i ≤ k → moved i k d begin (moved k i d begin ss) ≡ ss

-- ---- all of it, for every design whose rules forget nothing that was sent
pub record Agreement : Type 0 where
  -- the paper's Theorem 3.4, one way and back, for a step
  pub forward : (j : ℕ) (d : Design) → Remembers d → (w v : List ℕ) → Pictured j d w v → (s : Step) → step_fault j d w s ≡ 0 → StepThere j d w v s
  pub backward : (j : ℕ) (d : Design) → Remembers d → (w v : List ℕ) → Pictured j d w v → (s : Step) → step_fault (suc j) d v s ≡ 0 → StepBack j d w v s
  -- and for a schedule
  pub forward_run : (j : ℕ) (d : Design) → Remembers d → (w v : List ℕ) → Pictured j d w v → (ss : List Step) → (run j d w ss).refusal ≡ 0 → RunThere j d w v ss
  pub backward_run : (j : ℕ) (d : Design) → Remembers d → (w v : List ℕ) → Pictured j d w v → (ss : List Step) → (run (suc j) d v ss).refusal ≡ 0 → RunBack j d w v ss
  -- from beginnings that are pictured, a schedule of one level runs at all
  pub all_forms : (d : Design) → Remembers d → (begin : ℕ → List ℕ) → ((j : ℕ) → Pictured j d (begin j) (begin (suc j)))
      → (k : ℕ) (ss : List Step) → (run k d (begin k) ss).refusal ≡ 0 → InAllForms d begin k ss
  pub one_picture : (j : ℕ) (d : Design) → OnePicture j d
