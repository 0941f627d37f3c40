-- Q-10 for schedules: up to the two steps they are the same, and after them so are the words; by their steps.
use mathlib.Core.Path.{◌≡◌, refl, sym, ap, ◌∙◌, subst}
use mathlib.Core.Logic.{◌≢◌}
use mathlib.Core.List.{List, [], ◌∷◌}
use Prim.Native.Nat.{ℕ, zero, suc, ◌<◌}
use native.Mathlib.Nat.{le_of_suc-le-suc}
use native.Mathlib.Decide.{ℕ_discrete}
use native.Mathlib.Omega.{arith}
use lib.ListN.{length}
use Rattle.paper.specs.Paper.{Design, Step}
use Rattle.paper.specs.Step.{step_fault, stepped}
use Rattle.paper.specs.Machine.{run_by, one_more}
use Rattle.paper.specs.Run.{Ran, run, step_at, after}
use Rattle.paper.proofs.RunLaws.{ran_to, run-goes, run-stops, after-goes}
use Rattle.exchange.specs.Exchange.{exchanged_steps, RoomForBoth, Exchange}
use Rattle.exchange.proofs.Stops.{two_stops}
use Rattle.exchange.proofs.Exchange.{either_order, hears-first}

module _ (k : ℕ) (d : Design) where
  -- step j, from the words after i steps
  abbrev Free : List ℕ → List Step → ℕ → ℕ → Type 0
  Free w ss i j = step_fault k d (after k d w ss i) (step_at ss j) ≡ 0

  -- and room for steps i and i + 1 from there
  abbrev Room : List ℕ → List Step → ℕ → Type 0
  Room w ss i = RoomForBoth k d (after k d w ss i) (step_at ss i) (step_at ss (suc i))

  two : (w : List ℕ) (x y : Step) (ss : List Step) → step_fault k d w x ≡ 0 → step_fault k d (stepped k d w x) y ≡ 0
      → run k d w (x ∷ y ∷ ss) ≡ one_more (one_more (run k d (stepped k d (stepped k d w x) y) ss))
  two w x y ss p q = run-goes k d w x (y ∷ ss) p ∙ ap one_more (run-goes k d (stepped k d w x) y ss q)

  same_run : (w : List ℕ) (ss : List Step) (i : ℕ) → suc i < length ss → (step_at ss i).board ≢ (step_at ss (suc i)).board → Free w ss i i → Free w ss i (suc i) → Room w ss i
      → run k d w (exchanged_steps i ss) ≡ run k d w ss
  unfolding exchanged_steps run_by
  same_run w [] i l o p q r = refl
  same_run w (x ∷ []) zero l o p q r = refl
  same_run w (x ∷ y ∷ ss) zero l o p q r =
      let E = either_order k d w x y o p q r in
      two w y x ss q E.x_after_y ∙ ap (λ (v : List ℕ). one_more (one_more (run k d v ss))) (sym E.same_words) ∙ sym (two w x y ss p E.y_after_x)
  same_run w (s ∷ ss) (suc i) l o p q r = go (ℕ_discrete (step_fault k d w s) 0) (same_run (stepped k d w s) ss i (le_of_suc-le-suc l) o)
    where
      go : Dec (step_fault k d w s ≡ 0) → (Free (stepped k d w s) ss i i → Free (stepped k d w s) ss i (suc i) → Room (stepped k d w s) ss i
          → run k d (stepped k d w s) (exchanged_steps i ss) ≡ run k d (stepped k d w s) ss) → run k d w (s ∷ exchanged_steps i ss) ≡ run k d w (s ∷ ss)
      go (yes z) ih =
          let e = after-goes k d w s ss z i in
          let at : (j : ℕ) → Free w (s ∷ ss) (suc i) (suc j) → Free (stepped k d w s) ss i j = λ j. subst (λ (v : List ℕ). step_fault k d v (step_at ss j) ≡ 0) e in
          let room : Room (stepped k d w s) ss i = subst (λ (v : List ℕ). RoomForBoth k d v (step_at ss i) (step_at ss (suc i))) e r in
          run-goes k d w s (exchanged_steps i ss) z ∙ ap one_more (ih (at i p) (at (suc i) q) room) ∙ sym (run-goes k d w s ss z)
      go (no n) ih = run-stops k d w s (exchanged_steps i ss) n ∙ sym (run-stops k d w s ss n)

  -- a run that accepts a step accepts the first
  record Went (w : List ℕ) (s : Step) (ss : List Step) : Type 0 where
    first : step_fault k d w s ≡ 0
    more : (run k d w (s ∷ ss)).accepted ≡ suc (run k d (stepped k d w s) ss).accepted

  went : (w : List ℕ) (s : Step) (ss : List Step) (n : ℕ) → n < (run k d w (s ∷ ss)).accepted → Went w s ss
  went w s ss n h = go (ℕ_discrete (step_fault k d w s) 0)
    where
      go : Dec (step_fault k d w s ≡ 0) → Went w s ss
      go (yes z) = record { first = z; more = ap (λ (r : Ran). r.accepted) (run-goes k d w s ss z) }
      go (no n) = absurd (omega (arith, ap (λ (r : Ran). r.accepted) (run-stops k d w s ss n)))

  refused : (w : List ℕ) (ss : List Step) (i : ℕ) → suc i < (run k d w ss).accepted → (step_at ss i).board ≢ (step_at ss (suc i)).board → (Free w ss i (suc i) → ⊥)
      → run k d w (exchanged_steps i ss) ≡ ran_to i 24 (after k d w ss i)
  unfolding exchanged_steps run_by
  refused w [] i h o n = absurd (omega arith)
  refused w (x ∷ []) zero h o n = absurd (let W = went w x [] 1 h in omega (arith, W.more))
  refused w (x ∷ y ∷ ss) zero h o n =
      let W = went w x (y ∷ ss) 1 h in
      let N = went (stepped k d w x) y ss 0 (omega (arith, W.more)) in
      run-stops k d w y (x ∷ ss) n ∙ ap (λ (z : ℕ). ran_to 0 z w) (hears-first k d w x y o W.first N.first n).refused
  refused w (s ∷ ss) (suc i) h o n =
      let W = went w s ss (suc (suc i)) h in
      let e = after-goes k d w s ss W.first i in
      run-goes k d w s (exchanged_steps i ss) W.first ∙ ap one_more (refused (stepped k d w s) ss i (omega (arith, W.more)) o (λ z. n (subst (λ (v : List ℕ). step_fault k d v (step_at ss (suc i)) ≡ 0) (sym e) z)))
      ∙ ap (ran_to (suc i) 24) (sym e)

pub exchange : Exchange
exchange = record { either = either_order; two_stops = two_stops; hears = hears-first; same_run = same_run; refused = refused }
