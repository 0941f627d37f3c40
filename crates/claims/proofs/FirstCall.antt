-- The first possible step as the call gives it: by its own definition it refuses where reading or a step does, which `run` answers too, and else
-- gives what is found after the whole schedule, of which FirstPossible speaks.
use mathlib.Core.Path.{◌≡◌, refl, sym, ap, ◌∙◌, subst⁻¹}
use mathlib.Core.Bool.{not}
use mathlib.Core.List.{List}
use Prim.Native.Nat.{ℕ, ◌≤◌}
use native.Mathlib.Decide.{ℕ_discrete}
use native.Mathlib.Omega.{arith}
use borrow.Author.Tests.{eq-eqb, ne_eqb}
use Rattle.fault.specs.declared.Answer.{Answer}
use Rattle.fault.proofs.FaultLaws.{if_yes, if_no}
use Rattle.bundle.specs.Refusals.{read_fault}
use Rattle.bundle.proofs.BundleLaws.{read_by}
use Rattle.paper.specs.Paper.{Step, stop_rule}
use Rattle.paper.specs.Order.{Found, none, found, first}
use Rattle.words.specs.Facts.{most_words}
use Rattle.engine.specs.Design.{sizes_in, design_in}
use Rattle.engine.specs.Entry.{ran_of, run_answer}
use Rattle.engine.proofs.EntryLaws.{answer-number, answer-place}
use Rattle.first_step.specs.declared.First.{First}
use Rattle.first_step.specs.Entry.{answer_of, after_run, first_answer}
use Rattle.claims.specs.Demand1.{Runs}
use Rattle.claims.specs.FirstStep.{FirstPossible, FirstOf, FirstStep}
use Rattle.claims.proofs.Demand1.{run_unread, run-read, runs_all, runs-place}
use Rattle.claims.proofs.FirstStep.{clash, first_possible}

-- the cases of an answer are apart
not-nothing : {A : Type 0} (number place : ℕ) → First.Refused number place ≡ First.Nothing → A
not-nothing number place e = let z : ◌≡◌ {A = ℕ} 0 1 = cc in absurd (omega arith)

-- no rule of a table that is read has the number of a stop
pub few_rules : (b standing : List ℕ) → (read_fault b standing).number ≡ 0 → (design_in b standing).rules ≤ stop_rule
few_rules b standing z = omega (arith, (read_by b standing refl z refl).formed.sized.few_rules)

module _ (b standing : List ℕ) where
  -- ---- a refusal that `run` gives too
  refused-is : (number place : ℕ) → (number ≡ 0 → ⊥) → ((lent : ℕ) → most_words ≤ lent → ((run_answer b standing lent).refusal ≡ number) × ((run_answer b standing lent).place ≡ place))
      → (Runs b standing → ⊥) → FirstOf b standing (First.Refused number place)
  refused-is number place n f g = record {
    refusal = λ lent l. sym (f lent l).0;
    place = λ lent l. sym (f lent l).1;
    none_refused = λ _. refl;
    nothing_runs = λ e. not-nothing number place e;
    nothing_waits = λ e. not-nothing number place e;
    nothing = λ R _. absurd (g R);
    step_runs = λ s e. clash s e;
    accepted = λ s e. clash s e;
    no_wait = λ s e. clash s e;
    no_stop = λ s e. clash s e;
    earliest = λ s e. clash s e;
  }

  unread : ((read_fault b standing).number ≡ 0 → ⊥) → FirstOf b standing (First.Refused (read_fault b standing).number (read_fault b standing).place)
  unread n =
      refused-is _ _ n (λ lent l. let e = run_unread b standing lent l n in (ap (λ (a : Answer). a.refusal) e, ap (λ (a : Answer). a.place) e)) (λ R. n R.read)

  stopped : (read_fault b standing).number ≡ 0 → ((ran_of b standing).refusal ≡ 0 → ⊥) → FirstOf b standing (First.Refused (ran_of b standing).refusal (ran_of b standing).accepted)
  stopped z n =
      refused-is _ _ n
      (λ lent l. let e = run-read b standing lent l z in let N = answer-number (ran_of b standing) e in (N, answer-place (ran_of b standing) e (λ y. n (sym N ∙ y)))) (λ R. n R.accepted)

  -- ---- the first step after a schedule that runs
  module _ (R : Runs b standing) where
    F : FirstPossible (sizes_in b standing).level (design_in b standing) (ran_of b standing).left
    F = first_possible (sizes_in b standing).level (design_in b standing) (ran_of b standing).left (few_rules b standing R.read)

    goes : (x : Found) → first (sizes_in b standing).level (design_in b standing) (ran_of b standing).left ≡ x → FirstOf b standing (answer_of x)
    goes none e = record {
      refusal = λ lent l. sym (runs_all b standing lent l R);
      place = λ lent l. sym (runs-place b standing lent l R);
      none_refused = λ _. refl;
      nothing_runs = λ _. R;
      nothing_waits = λ _. F.none_possible e;
      nothing = λ _ _. refl;
      step_runs = λ s f. clash s f;
      accepted = λ s f. clash s f;
      no_wait = λ s f. clash s f;
      no_stop = λ s f. clash s f;
      earliest = λ s f. clash s f;
    }
    goes (found x) e = record {
      refusal = λ lent l. sym (runs_all b standing lent l R);
      place = λ lent l. sym (runs-place b standing lent l R);
      none_refused = λ n. absurd (n refl);
      nothing_runs = λ _. R;
      nothing_waits = λ f. step-not x f;
      nothing = λ _ w. clash x (sym (F.nothing_else w) ∙ e);
      step_runs = λ _ _. R;
      accepted = λ s f. F.accepted s (named s f);
      no_wait = λ s f. F.no_wait s (named s f);
      no_stop = λ s f. F.no_stop s (named s f);
      earliest = λ s f. F.earliest s (named s f);
    }
      where
        named : (s : Step) → found x ≡ found s → first (sizes_in b standing).level (design_in b standing) (ran_of b standing).left ≡ found s
        named s f = e ∙ f

        step-not : {A : Type 0} (x : Step) → answer_of (found x) ≡ First.Nothing → A
        step-not x f = let z : ◌≡◌ {A = ℕ} 0 1 = cc in absurd (omega arith)

  bundle_is : FirstOf b standing (first_answer b standing)
  unfolding first_answer after_run
  bundle_is = go (ℕ_discrete (read_fault b standing).number 0) (ℕ_discrete (ran_of b standing).refusal 0)
    where
      go : Dec ((read_fault b standing).number ≡ 0) → Dec ((ran_of b standing).refusal ≡ 0) → FirstOf b standing (first_answer b standing)
      go (no n) x = subst⁻¹ (FirstOf b standing) (sym (if_yes _ refl refl (ap not (ne_eqb _ 0 n)))) (unread n)
      go (yes z) (no n) = subst⁻¹ (FirstOf b standing) (sym (if_no _ refl (ap not (eq-eqb _ 0 z)) (if_yes _ refl refl (ap not (ne_eqb _ 0 n))))) (stopped z n)
      go (yes z) (yes y) =
          subst⁻¹ (FirstOf b standing) (sym (if_no _ refl (ap not (eq-eqb _ 0 z)) (if_no _ refl (ap not (eq-eqb _ 0 y)) refl)))
          (goes (record { read = z; accepted = y }) (first (sizes_in b standing).level (design_in b standing) (ran_of b standing).left) refl)

pub first_step : FirstStep
first_step = record { words = first_possible; bundles = bundle_is }
