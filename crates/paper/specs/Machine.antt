-- A schedule, step by step, up to the first that is refused (outline, "Numbers given back"), run by anything that takes steps. specs/Run.antt is this
-- for the words of a level.
use Rattle.std.specs.Prelude.{◌≡◌, List, [], ◌∷◌, ℕ, suc, eqb, get_or, take}
use Rattle.fault.specs.Fault.{◌if◌else◌}
use Rattle.paper.specs.Paper.{Step}

-- the refusal that a step meets, 0 for none, and what comes after the step
pub record Machine (A : Type 0) : Type 0 where
  pub fault : A → Step → ℕ
  pub next : A → Step → A

-- how many steps were accepted, the number of the refusal that ended the run or 0, and what is left
pub record RanBy (A : Type 0) : Type 0 where
  pub accepted : ℕ
  pub refusal : ℕ
  pub left : A

abbrev pub one_more : {A : Type 0} → RanBy A → RanBy A
one_more r = record { accepted = suc r.accepted; refusal = r.refusal; left = r.left }

unfoldable pub run_by : {A : Type 0} → Machine A → A → List Step → RanBy A
run_by M a [] = record { accepted = 0; refusal = 0; left = a }
run_by M a (s ∷ ss) = one_more (run_by M (M.next a s) ss) if eqb (M.fault a s) 0 else record { accepted = 0; refusal = M.fault a s; left = a }

-- what is left after the first i steps
abbrev pub after_by : {A : Type 0} → Machine A → A → List Step → ℕ → A
after_by M a ss i = (run_by M a (take i ss)).left

-- what stands past a schedule's end; no statement rests on it
abbrev pub no_step : Step
no_step = record { board = 0; rule = 0; type = 0; source = 0 }

-- step i of a schedule
abbrev pub step_at : List Step → ℕ → Step
step_at ss i = get_or ss i no_step

-- ---- a schedule followed by another machine, which chooses its own step for each, in what its steps before have left
unfoldable pub follow_all : {B : Type 0} → (B → Step → B) → (B → Step → Step) → B → List Step → List Step
follow_all next choose b [] = []
follow_all next choose b (s ∷ ss) = choose b s ∷ follow_all next choose (next b (choose b s)) ss

-- the chosen step is accepted, and what comes after is related again
pub record Follows {A B : Type 0} (M : Machine A) (N : Machine B) (choose : B → Step → Step) (R : A → B → Type 0) (a : A) (b : B) (s : Step) : Type 0 where
  pub accepted : N.fault b (choose b s) ≡ 0
  pub related : R (M.next a s) (N.next b (choose b s))

-- all chosen steps are accepted, and what is left is related after every number of steps
pub record FollowsAll {A B : Type 0} (M : Machine A) (N : Machine B) (choose : B → Step → Step) (R : A → B → Type 0) (a : A) (b : B) (ss : List Step) : Type 0 where
  pub accepted : (run_by N b (follow_all N.next choose b ss)).refusal ≡ 0
  pub related : (i : ℕ) → R (after_by M a ss i) (after_by N b (follow_all N.next choose b ss) i)
