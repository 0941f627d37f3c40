-- A run goes by its steps: what a loop over them keeps, what all of them keep, and that steps which follow make schedules which follow. Each by one
-- induction over the schedule, for every machine and so for every agreement, in either direction.
use mathlib.Core.Path.{◌≡◌, refl, ap, ap₂, ◌∙◌}
use mathlib.Core.List.{List, [], ◌∷◌, map}
use Prim.Native.Nat.{ℕ, zero, suc, ◌+◌, ◌≤◌, ◌<◌}
use native.Mathlib.Nat.{add-zero}
use native.Mathlib.Numerals.{add-one}
use native.Mathlib.Omega.{arith}
use lib.Dec.{eqb}
use lib.ListN.{length, get_or, take, drop, drop_of_length-le}
use lib.Seq.{drop-cons}
use borrow.Author.Tests.{eq-eqb, ne_eqb, eqb-true, eqb-false}
use Rattle.fault.specs.Fault.{◌if◌else◌}
use Rattle.fault.proofs.FaultLaws.{if_keeps}
use Rattle.paper.specs.Paper.{Step}
use Rattle.paper.specs.Machine.{Machine, RanBy, one_more, run_by, after_by, no_step, follow_all, Follows, FollowsAll}

-- ---- one step of a run
module _ {A : Type 0} (M : Machine A) (a : A) (s : Step) (ss : List Step) where
  pub run-goes : M.fault a s ≡ 0 → run_by M a (s ∷ ss) ≡ one_more (run_by M (M.next a s) ss)
  unfolding run_by ◌if◌else◌
  run-goes h = rw (eq-eqb _ 0 h)

  pub run-stops : (M.fault a s ≡ 0 → ⊥) → run_by M a (s ∷ ss) ≡ record { accepted = 0; refusal = M.fault a s; left = a }
  unfolding run_by ◌if◌else◌
  run-stops h = rw (ne_eqb _ 0 h)

  -- a run that is not refused
  pub record Goes : Type 0 where
    pub first : M.fault a s ≡ 0
    pub rest : (run_by M (M.next a s) ss).refusal ≡ 0

  pub goes : (run_by M a (s ∷ ss)).refusal ≡ 0 → Goes
  unfolding run_by
  goes =
      if_keeps (λ (r : RanBy A). r.refusal ≡ 0 → Goes) _ (eqb (M.fault a s) 0) _ (λ e h. record { first = eqb-true _ 0 e; rest = h })
      (λ e h. absurd (eqb-false _ 0 e h))

pub after-goes : {A : Type 0} (M : Machine A) (a : A) (s : Step) (ss : List Step) → M.fault a s ≡ 0 → (i : ℕ) → after_by M a (s ∷ ss) (suc i) ≡ after_by M (M.next a s) ss i
after-goes {A} M a s ss h i = ap (λ (r : RanBy A). r.left) (run-goes M a s (take i ss) h)

-- ---- bounds: no more steps are accepted than there are, and the refusal is one of a step
pub record WithinBy {A : Type 0} (most n : ℕ) (r : RanBy A) : Type 0 where
  pub accepted : r.accepted ≤ n
  pub refusal : r.refusal ≤ most

module _ {A : Type 0} (M : Machine A) (most : ℕ) (step : (a : A) (s : Step) → M.fault a s ≤ most) where
  pub run-within : (a : A) (ss : List Step) → WithinBy most (length ss) (run_by M a ss)
  unfolding run_by
  run-within a [] = record { accepted = omega arith; refusal = omega arith }
  run-within a (s ∷ ss) =
      let R = run-within (M.next a s) ss in
      if_keeps (WithinBy most (length (s ∷ ss))) _ (eqb (M.fault a s) 0) _ (λ _. record { accepted = omega (arith, R.accepted); refusal = R.refusal })
      (λ _. record { accepted = omega arith; refusal = step a s })

-- ---- the loop: after i steps the run is the run of what is left, i steps on
abbrev pub on : {A : Type 0} → ℕ → RanBy A → RanBy A
on i r = record { accepted = i + r.accepted; refusal = r.refusal; left = r.left }

abbrev pub ran_to : {A : Type 0} → ℕ → ℕ → A → RanBy A
ran_to i x a = record { accepted = i; refusal = x; left = a }

same-ran : {A : Type 0} {i j : ℕ} (x : ℕ) (a : A) → i ≡ j → ran_to i x a ≡ ran_to j x a
same-ran x a e = λ i. ran_to (e i) x a

module _ {A : Type 0} (M : Machine A) (a₀ : A) (ss : List Step) where
  abbrev pub Running : ℕ → A → Type 0
  Running i a = run_by M a₀ ss ≡ on i (run_by M a (drop i ss))

  pub running_starts : Running 0 a₀
  running_starts = same-ran _ _ (omega arith)

  module _ (i : ℕ) (a : A) (S : Running i a) where
    abbrev s : Step
    s = get_or ss i no_step

    pub running_goes : i < length ss → M.fault a s ≡ 0 → Running (i + 1) (M.next a s)
    running_goes h z =
        rw add-one
        (S ∙ ap (λ (r : List Step). on i (run_by M a r)) (drop-cons ss i no_step h) ∙ ap (on i) (run-goes M a s (drop (suc i) ss) z) ∙ same-ran _ _ (omega arith))

    pub running_stops : i < length ss → (M.fault a s ≡ 0 → ⊥) → run_by M a₀ ss ≡ ran_to i (M.fault a s) a
    running_stops h n =
        S ∙ ap (λ (r : List Step). on i (run_by M a r)) (drop-cons ss i no_step h) ∙ ap (on i) (run-stops M a s (drop (suc i) ss) n) ∙ same-ran _ _ (add-zero i)

    pub running_ends : length ss ≤ i → run_by M a₀ ss ≡ ran_to i 0 a
    unfolding run_by
    running_ends h = S ∙ ap (λ (r : List Step). on i (run_by M a r)) (drop_of_length-le ss h) ∙ same-ran _ _ (add-zero i)

-- ---- what accepted steps keep, runs keep: P n of what n steps have left, and P of what is left
module _ {A : Type 0} (M : Machine A) (P : ℕ → A → Type 0) (step : (n : ℕ) (a : A) (s : Step) → P n a → M.fault a s ≡ 0 → P (suc n) (M.next a s))
    (more : (n m : ℕ) (a : A) → n ≤ m → P n a → P m a) where
  pub run-keeps-counting : (n : ℕ) (a : A) (ss : List Step) → P n a → P (n + length ss) (run_by M a ss).left
  unfolding run_by
  run-keeps-counting n a [] p = more _ _ a (omega arith) p
  run-keeps-counting n a (x ∷ xs) p =
      if_keeps (λ (r : RanBy A). P (n + length (x ∷ xs)) r.left) _ (eqb (M.fault a x) 0) _
      (λ e. more _ _ _ (omega arith) (run-keeps-counting (suc n) (M.next a x) xs (step n a x p (eqb-true _ 0 e)))) (λ _. more _ _ a (omega arith) p)

pub run-keeps : {A : Type 0} (M : Machine A) (P : A → Type 0) → ((a : A) (s : Step) → P a → M.fault a s ≡ 0 → P (M.next a s)) → (a : A) (ss : List Step) → P a → P (run_by M a ss).left
run-keeps M P step = run-keeps-counting M (λ n. P) (λ n. step) (λ n m a l p. p) 0

-- ---- schedules that follow
module _ {A B : Type 0} (M : Machine A) (N : Machine B) (choose : B → Step → Step) (R : A → B → Type 0)
    (step : (a : A) (b : B) (s : Step) → R a b → M.fault a s ≡ 0 → Follows M N choose R a b s) where
  pub follow : (a : A) (b : B) (ss : List Step) → R a b → (run_by M a ss).refusal ≡ 0 → FollowsAll M N choose R a b ss
  unfolding run_by follow_all
  follow a b [] r h = record { accepted = refl; related = none }
    where
      none : (i : ℕ) → R (after_by M a [] i) (after_by N b [] i)
      none zero = r
      none (suc i) = r
  follow a b (s ∷ ss) r h =
      let g = goes M a s ss h in
      let F = step a b s r g.first in
      let G = follow (M.next a s) (N.next b (choose b s)) ss F.related g.rest in
      record {
        accepted = ap (λ (r : RanBy B). r.refusal) (run-goes N b (choose b s) ts F.accepted) ∙ G.accepted;
        related = after g.first F.accepted G.related;
      }
    where
      ts : List Step
      ts = follow_all N.next choose (N.next b (choose b s)) ss

      after : M.fault a s ≡ 0 → N.fault b (choose b s) ≡ 0 → ((i : ℕ) → R (after_by M (M.next a s) ss i) (after_by N (N.next b (choose b s)) ts i))
          → (i : ℕ) → R (after_by M a (s ∷ ss) i) (after_by N b (choose b s ∷ ts) i)
      after y z f zero = r
      after y z f (suc i) = rw (after-goes M a s ss y i, after-goes N b (choose b s) ts z i) (f i)

  -- and back: what undoes each choice undoes all of them
  pub follow_trip : (undo : Step → Step) → ((a : A) (b : B) (s : Step) → R a b → M.fault a s ≡ 0 → undo (choose b s) ≡ s)
      → (a : A) (b : B) (ss : List Step) → R a b → (run_by M a ss).refusal ≡ 0 → map undo (follow_all N.next choose b ss) ≡ ss
  unfolding follow_all
  follow_trip undo trip a b [] r h = refl
  follow_trip undo trip a b (s ∷ ss) r h =
      let g = goes M a s ss h in
      ap₂ (λ (x : Step) (xs : List Step). x ∷ xs) (trip a b s r g.first)
      (follow_trip undo trip (M.next a s) (N.next b (choose b s)) ss (step a b s r g.first).related g.rest)

-- a choice that looks at nothing is a map
pub follow-map : {B : Type 0} (next : B → Step → B) (f : Step → Step) (b : B) (ss : List Step) → follow_all next (λ b s. f s) b ss ≡ map f ss
unfolding follow_all
follow-map next f b [] = refl
follow-map next f b (s ∷ ss) = ap (λ (xs : List Step). f s ∷ xs) (follow-map next f (next b (f s)) ss)
