-- Laws of sums and tallies: a sum whose terms grow by a digit each grows by how many they are, and is at most its largest term as often as it has one; what each accepted step adds to a
-- number, a run adds. Each by one induction.
use mathlib.Core.Path.{◌≡◌, refl, sym, ap, ap₂, ◌∙◌}
use mathlib.Core.Bool.{Bool, true, false, ◌&&◌, ◌||◌, or-true, or-false}
use mathlib.Core.List.{List, [], ◌∷◌, map}
use Prim.Native.Nat.{ℕ, zero, suc, ◌+◌, ◌*◌, ◌≤◌, ◌<◌}
use native.Mathlib.Nat.{le_refl, suc-mul}
use native.Mathlib.Omega.{arith}
use lib.Dec.{eqb}
use lib.ListN.{take}
use borrow.Author.Tests.{eq-eqb, ne_eqb, eqb-true}
use Rattle.senders.specs.Tally.{digit, count, some}
use Rattle.senders.proofs.TallyLaws.{count_none, count-one-more}
use Rattle.fault.specs.Fault.{◌if◌else◌}
use Rattle.paper.specs.Paper.{Step}
use Rattle.paper.specs.Machine.{Machine, run_by}
use Rattle.paper.proofs.MachineLaws.{goes}
use Rattle.receipts.specs.Receipts.{tally, sum_below}

-- ---- sums
pub sum_most : (k b : ℕ) (g : ℕ → ℕ) → ((i : ℕ) → i < k → g i ≤ b) → sum_below k g ≤ k * b
unfolding sum_below
sum_most zero b g h = omega arith
sum_most (suc k) b g h = omega (arith, sum_most k b g (λ i l. h i (omega arith)), h k (le_refl (suc k)), suc-mul k b)

pub sum-none : (k : ℕ) (g : ℕ → ℕ) → ((i : ℕ) → i < k → g i ≡ 0) → sum_below k g ≡ 0
unfolding sum_below
sum-none zero g h = refl
sum-none (suc k) g h = omega (arith, sum-none k g (λ i l. h i (omega arith)), h k (le_refl (suc k)))

pub sum-grows : (k : ℕ) (P : ℕ → Bool) (g g' : ℕ → ℕ) → ((i : ℕ) → i < k → g' i ≡ g i + digit (P i)) → sum_below k g' ≡ sum_below k g + count k P
unfolding sum_below count
sum-grows zero P g g' h = omega arith
sum-grows (suc k) P g g' h = omega (arith, sum-grows k P g g' (λ i l. h i (omega arith)), h k (le_refl (suc k)))

-- ---- how many pass
-- where at most one does, whether one does
pub count-is-some : (k : ℕ) (P : ℕ → Bool) → count k P ≤ 1 → count k P ≡ digit (some k P)
unfolding count some
count-is-some zero P h = refl
count-is-some (suc k) P h = go (P k) h (count-is-some k P)
  where
    go : (b : Bool) → count k P + digit b ≤ 1 → (count k P ≤ 1 → count k P ≡ digit (some k P)) → count k P + digit b ≡ digit (some k P || b)
    go true l ih = rw or-true (omega arith)
    go false l ih = rw or-false (omega (arith, ih (omega arith)))

-- one number at most is t, and it is among them where b says so
pub count-hit : (k t : ℕ) (b : Bool) → (b ≡ true → t < k) → count k (λ i. b && eqb t i) ≡ digit b
count-hit k t true h = count-one-more k t (λ i. false) (eqb t) (h refl) refl (eq-eqb t t refl) (λ i l o. ne_eqb t i (λ e. o (sym e))) ∙ ap suc (count_none k (λ i. false) (λ i l. refl))
count-hit k t false h = count_none k (λ i. false) (λ i l. refl)

-- ---- tallies
pub tally-map : (P : Step → Bool) (f : Step → Step) → ((s : Step) → P (f s) ≡ P s) → (ss : List Step) → tally P (map f ss) ≡ tally P ss
unfolding tally
tally-map P f h [] = refl
tally-map P f h (s ∷ ss) = ap₂ (λ (b : Bool) (n : ℕ). digit b + n) (h s) (tally-map P f h ss)

-- ---- runs
module _ {A : Type 0} (M : Machine A) where
  -- a schedule that runs is accepted to its end
  pub all-accepted : (a : A) (ss : List Step) → (run_by M a ss).refusal ≡ 0 → take (run_by M a ss).accepted ss ≡ ss
  unfolding run_by ◌if◌else◌
  all-accepted a [] h = refl
  all-accepted a (s ∷ ss) h = let g = goes M a s ss h in rw (eq-eqb _ 0 g.first) (ap (λ (ts : List Step). s ∷ ts) (all-accepted (M.next a s) ss g.rest))

  -- what accepted steps that pass add to a number, one each, a run adds
  module _ (K : A → Type 0) (keeps : (a : A) (s : Step) → K a → M.fault a s ≡ 0 → K (M.next a s)) (P : Step → Bool) (μ : A → ℕ)
      (step : (a : A) (s : Step) → K a → M.fault a s ≡ 0 → μ (M.next a s) ≡ μ a + digit (P s)) where
    pub run-counts : (a : A) (ss : List Step) → K a → μ (run_by M a ss).left ≡ μ a + tally P (take (run_by M a ss).accepted ss)
    unfolding run_by tally ◌if◌else◌
    run-counts a [] k = omega arith
    run-counts a (s ∷ ss) k = go (eqb (M.fault a s) 0) refl (λ e. run-counts (M.next a s) ss (keeps a s k e))
      where
        go : (t : Bool) → eqb (M.fault a s) 0 ≡ t
            → (M.fault a s ≡ 0 → μ (run_by M (M.next a s) ss).left ≡ μ (M.next a s) + tally P (take (run_by M (M.next a s) ss).accepted ss))
            → μ (run_by M a (s ∷ ss)).left ≡ μ a + tally P (take (run_by M a (s ∷ ss)).accepted (s ∷ ss))
        go true e ih = rw e (omega (arith, ih (eqb-true _ 0 e), step a s k (eqb-true _ 0 e)))
        go false e ih = rw e (omega arith)
