-- Q-11. A stop never helps: along a schedule, the words without its stops have the same boards and fewer stopped ones (proofs/Wakes.antt), so that each step by a rule goes on, by one
-- induction. And those stopped with those faulty stay at most t: a rule stops nobody, and a stop is accepted only where there is room for one more.
use mathlib.Core.Path.{◌≡◌, refl, ap, ◌∙◌, subst⁻¹}
use mathlib.Core.Bool.{true, false}
use mathlib.Core.List.{List, [], ◌∷◌}
use Prim.Native.Nat.{ℕ, suc, ◌+◌, ◌≤◌}
use native.Mathlib.Omega.{arith}
use lib.ListN.{length}
use Rattle.senders.proofs.SetLaws.{count_laws}
use Rattle.fault.specs.Fault.{◌if◌else◌}
use Rattle.fault.proofs.FaultLaws.{if_keeps}
use Rattle.paper.specs.Paper.{Design, Step, is_stop, stopped_count}
use Rattle.paper.specs.Words.{size}
use Rattle.paper.specs.Form.{wide}
use Rattle.paper.specs.Step.{stopped_in, step_fault, stepped}
use Rattle.paper.specs.Machine.{run_by, one_more}
use Rattle.paper.specs.Run.{machine_of, Ran, run}
use Rattle.paper.proofs.WordLaws.{stopped-stop}
use Rattle.paper.proofs.StepLaws.{take_moves, Accepts, takes, stops, accepts_by_lem, stepped-take, stepped-stop, length-stepped}
use Rattle.paper.proofs.MachineLaws.{goes, run-keeps}
use Rattle.paper.proofs.RunLaws.{run-goes}
use Rattle.stops.specs.Stops.{without_stops, NoStops, Without, FewStopped, StopLaws}
use Rattle.stops.proofs.Wakes.{Wakes, wakes_itself, rule_too, stop_alone}

-- ---- a schedule without its stops
pub no_stops : (ss : List Step) → NoStops (without_stops ss)
unfolding without_stops
no_stops [] = tt
no_stops (s ∷ ss) = if_keeps NoStops _ (is_stop s) _ (λ _. no_stops ss) (λ e. (e, no_stops ss))

no_longer : (ss : List Step) → length (without_stops ss) ≤ length ss
unfolding without_stops
no_longer [] = omega arith
no_longer (s ∷ ss) =
    let h = no_longer ss in
    if_keeps (λ (ts : List Step). length ts ≤ length (s ∷ ss)) _ (is_stop s) _ (λ _. omega (arith, h)) (λ _. omega (arith, h))

module _ (s : Step) (ss : List Step) where
  leaves-out : is_stop s ≡ true → without_stops (s ∷ ss) ≡ without_stops ss
  unfolding without_stops ◌if◌else◌
  leaves-out e = rw e

  leaves_in : is_stop s ≡ false → without_stops (s ∷ ss) ≡ s ∷ without_stops ss
  unfolding without_stops ◌if◌else◌
  leaves_in e = rw e

-- ---- a stop never helps
-- the run q of the schedule ts accepts it, and wakes what the run r has left
record RunsToo (k : ℕ) (d : Design) (ts : List Step) (r q : Ran) : Type 0 where
  runs : q.refusal ≡ 0
  accepted : q.accepted ≡ length ts
  wakes : Wakes k d r.left q.left

module _ (k : ℕ) (d : Design) where
  -- the runs of ss from w and of ts from v
  abbrev Both : List ℕ → List ℕ → List Step → List Step → Type 0
  Both w v ss ts = RunsToo k d ts (run k d w ss) (run k d v ts)

  -- both go a step by a rule, or only the first goes a stop
  both_go : (w v : List ℕ) (s : Step) (ss ts : List Step) → step_fault k d w s ≡ 0 → step_fault k d v s ≡ 0 → Both (stepped k d w s) (stepped k d v s) ss ts → Both w v (s ∷ ss) (s ∷ ts)
  both_go w v s ss ts f g B =
      subst⁻¹ (λ (r : Ran). RunsToo k d (s ∷ ts) r (run k d v (s ∷ ts))) (run-goes k d w s ss f)
      (subst⁻¹ (RunsToo k d (s ∷ ts) (one_more (run k d (stepped k d w s) ss))) (run-goes k d v s ts g) (record { runs = B.runs; accepted = ap suc B.accepted; wakes = B.wakes }))

  first_goes : (w v : List ℕ) (s : Step) (ss ts : List Step) → step_fault k d w s ≡ 0 → Both (stepped k d w s) v ss ts → Both w v (s ∷ ss) ts
  first_goes w v s ss ts f B =
      subst⁻¹ (λ (r : Ran). RunsToo k d ts r (run k d v ts)) (run-goes k d w s ss f) (record { runs = B.runs; accepted = B.accepted; wakes = B.wakes })

  -- what follows after the step follows before it: both take a rule, and only the first a stop
  one_more_lem : (w v : List ℕ) (s : Step) (ss : List Step) → Wakes k d w v → step_fault k d w s ≡ 0 → Accepts k d w s
      → ((u : List ℕ) → Wakes k d (stepped k d w s) u → Both (stepped k d w s) u ss (without_stops ss)) → Both w v (s ∷ ss) (without_stops (s ∷ ss))
  one_more_lem w v s ss X f (takes e z g) rest =
      let R = rule_too k d w v X s e z g in
      subst⁻¹ (Both w v (s ∷ ss)) (leaves_in s ss e) (both_go w v s ss (without_stops ss) f R.accepted (rest (stepped k d v s) R.wakes))
  one_more_lem w v s ss X f (stops e _ _ _ _) rest = subst⁻¹ (Both w v (s ∷ ss)) (leaves-out s ss e) (first_goes w v s ss (without_stops ss) f (rest v (stop_alone k d w v X s e)))

  runs_too : (w v : List ℕ) (ss : List Step) → Wakes k d w v → (run k d w ss).refusal ≡ 0 → Both w v ss (without_stops ss)
  unfolding run_by without_stops
  runs_too w v [] X h = record { runs = refl; accepted = refl; wakes = X }
  runs_too w v (s ∷ ss) X h =
      let g = goes (machine_of k d) w s ss h in
      one_more_lem w v s ss X g.first (accepts_by_lem k d w s g.first) (λ u Y. runs_too (stepped k d w s) u ss Y g.rest)

pub never_help : (k : ℕ) (d : Design) (w : List ℕ) (ss : List Step) → length w ≡ size d.boards d.types (wide k) → (run k d w ss).refusal ≡ 0 → Without k d w ss
never_help k d w ss l h =
    let B = runs_too k d w w ss (wakes_itself k d w l) h in
    record { runs = B.runs; accepted = B.accepted; same = B.wakes.boards; few = no_longer ss }

-- ---- never too many are stopped
record Few (k : ℕ) (d : Design) (w : List ℕ) : Type 0 where
  long : length w ≡ size d.boards d.types (wide k)
  few : FewStopped k d w

module _ (k : ℕ) (d : Design) where
  few-after : (w : List ℕ) (s : Step) → length w ≡ size d.boards d.types (wide k) → FewStopped k d w → Accepts k d w s → FewStopped k d (stepped k d w s)
  few-after w s l h (takes e z f) = subst⁻¹ (FewStopped k d) (stepped-take k d w s e) (subst⁻¹ (λ (S : ℕ). stopped_count d S + d.faulty ≤ d.tolerated) (take_moves k d w s l z f).stopped h)
  few-after w s l h (stops e b z a f) =
      let more = ap (stopped_count d) (stopped-stop d.boards d.types (wide k) w l s.board) ∙ (count_laws d.boards d.faulty).correct_one_more (stopped_in k d w) s.board b z in
      subst⁻¹ (FewStopped k d) (stepped-stop k d w s e) (omega (arith, more, f))

  still-few : (w : List ℕ) (s : Step) → Few k d w → step_fault k d w s ≡ 0 → Few k d (stepped k d w s)
  still-few w s F h = record { long = length-stepped k d w s ∙ F.long; few = few-after w s F.long F.few (accepts_by_lem k d w s h) }

pub few_stopped : (k : ℕ) (d : Design) (w : List ℕ) (ss : List Step) → length w ≡ size d.boards d.types (wide k) → FewStopped k d w → FewStopped k d (run k d w ss).left
few_stopped k d w ss l h = (run-keeps (machine_of k d) (Few k d) (still-few k d) w ss (record { long = l; few = h })).few

-- ---- all of it
pub stops_hold : StopLaws
stops_hold = record { never_help = never_help; few_stopped = few_stopped }
