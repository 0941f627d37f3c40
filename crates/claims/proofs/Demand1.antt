-- Demand 1. A call of `run` ends in one of three ways, by its own laws: at reading, for want of room, or with its run, which Demand 2
-- speaks of. In each the answer's number tells which it was.
use mathlib.Core.Path.{◌≡◌, refl, sym, ap, ◌∙◌, subst}
use mathlib.Core.Bool.{Bool, not}
use mathlib.Core.List.{List, ◌++◌}
use Prim.Native.Nat.{ℕ, ◌≤◌, ◌<◌}
use native.Mathlib.Decide.{ℕ_discrete, dec_lt}
use native.Mathlib.Omega.{arith}
use borrow.Author.Tests.{eq-eqb, ne_eqb, le-ltb}
use lib.ListN.{length, drop, length-append, length-drop}
use lib.Seq.{drop-append_seam}
use Rattle.fault.specs.Fault.{refused, nothing_done, ◌if◌else◌}
use Rattle.fault.specs.declared.Answer.{Answer}
use Rattle.fault.proofs.FaultLaws.{if_keeps, if_yes, if_no}
use Rattle.bundle.specs.Bundle.{table_in_use}
use Rattle.bundle.specs.Refusals.{read_fault}
use Rattle.bundle.proofs.BundleLaws.{read_by, read-within}
use Rattle.paper.specs.Paper.{Design, Step, is_stop}
use Rattle.paper.specs.Step.{step_fault, take_fault, stop_fault}
use Rattle.paper.specs.Run.{Ran, machine_of}
use Rattle.paper.proofs.StepLaws.{length-stepped}
use Rattle.paper.proofs.MachineLaws.{run-keeps}
use Rattle.paper.proofs.WordLaws.{length-start}
use Rattle.engine.specs.Design.{sizes_in, design_in}
use Rattle.engine.specs.Entry.{start_in, schedule_of, ran_with, ran_of, ran_answer, run_answer, run_words}
use Rattle.paper.specs.Words.{size}
use Rattle.words.specs.Facts.{most_words}
use Rattle.words.specs.Words.{room_of}
use Rattle.words.proofs.PlaceLaws.{rows_few, rows_are}
use Rattle.engine.proofs.EntryLaws.{suits, Entered, answer-place, enter-refused, enter-short, enter_run}
use Rattle.claims.specs.Demand1.{Runs, after_in, room_in, OfStep, RunOf, Demand1}
use Rattle.claims.specs.Demand2.{Sized, BundleMoves}
use Rattle.claims.proofs.Demand2.{demand2}

-- what refuses a step has a number of its own
abbrev OfStepOrNone : ℕ → Type 0
OfStepOrNone n = (n ≡ 0 → ⊥) → OfStep n

number-or : (x : ℕ) (t : Bool) (rest : ℕ) → OfStep x → OfStepOrNone rest → OfStepOrNone (x if t else rest)
number-or x t rest o r = if_keeps OfStepOrNone x t rest (λ _ _. o) (λ _. r)

of_take : (k : ℕ) (d : Design) (w : List ℕ) (s : Step) → OfStepOrNone (take_fault k d w s)
unfolding take_fault
of_take k d w s =
    number-or 20 _ _ (omega arith, omega arith)
    (number-or 21 _ _ (omega arith, omega arith)
    (number-or 22 _ _ (omega arith, omega arith)
    (number-or 23 _ _ (omega arith, omega arith) (number-or 24 _ _ (omega arith, omega arith) (number-or 25 _ _ (omega arith, omega arith) (λ n. absurd (n refl)))))))

of_step : (k : ℕ) (d : Design) (w : List ℕ) (s : Step) → OfStepOrNone (step_fault k d w s)
unfolding step_fault stop_fault
of_step k d w s =
    number-or 20 _ _ (omega arith, omega arith)
    (number-or 26 _ _ (omega arith, omega arith)
    (if_keeps OfStepOrNone _ (is_stop s) _ (λ _. number-or 23 _ _ (omega arith, omega arith) (number-or 27 _ _ (omega arith, omega arith) (λ n. absurd (n refl)))) (λ _. of_take k d w s)))

module _ (b standing lent : List ℕ) where
  -- ---- nothing done: the number is none of a step's, and no run is told of
  idle : (a : Answer) → (a.refusal ≡ 0 → ⊥) → (OfStep a.refusal → ⊥) → a.count ≡ 0 → ((read_fault b standing).number ≡ 0 → room_in b standing ≤ length lent → ⊥)
      → RunOf b standing lent a lent
  idle a n o c f = record {
    unchanged = λ _ _. refl;
    none_counted = λ _ _. c;
    step_counted = λ s. absurd (o s);
    step_left = λ s. absurd (o s);
    all_place = λ z. absurd (n z);
    all_counted = λ z. absurd (n z);
    all_left = λ z. absurd (n z);
    past = refl;
    long = refl;
    answer_ran = λ z l. absurd (f z l);
    words_ran = λ z l. absurd (f z l);
    moves = demand2.bundles b standing;
  }

  unread : ((read_fault b standing).number ≡ 0 → ⊥) → RunOf b standing lent (nothing_done (read_fault b standing)) lent
  unread n = idle (nothing_done (read_fault b standing)) n (λ o. absurd (omega (arith, o.0, (read-within (table_in_use b standing) b).number))) refl (λ z l. n z)

  short : length lent < room_in b standing → RunOf b standing lent (nothing_done (refused 30)) lent
  short l = idle (nothing_done (refused 30)) (λ z. absurd (omega arith)) (λ o. absurd (omega (arith, o.1))) refl (λ z m. absurd (omega arith))

  -- ---- the run
  module _ (z : (read_fault b standing).number ≡ 0) (l : room_in b standing ≤ length lent) where
    abbrev r : Ran
    r = ran_of b standing

    abbrev M : BundleMoves b standing
    M = demand2.bundles b standing z

    left-long : length r.left ≡ room_in b standing
    unfolding ran_with
    left-long =
        let s = sizes_in b standing in
        let d = design_in b standing in
        run-keeps (machine_of s.level d) (Sized s.level d) (λ w x h _. length-stepped s.level d w x ∙ h) (start_in s b) (schedule_of b)
        (length-start d.boards d.types _ _ (read_by b standing refl z refl).parted.starts_long)

    abbrev rest : List ℕ
    rest = drop (room_in b standing) lent

    -- what a refusal is of
    pub ran-number : (r.refusal ≡ 0 → ⊥) → OfStep r.refusal
    ran-number n = subst OfStep (sym (M.runs.number n)) (of_step _ _ _ _ (λ e. n (M.runs.number n ∙ e)))

    ran : RunOf b standing lent (ran_answer r) (r.left ++ rest)
    unfolding ran_answer ◌if◌else◌
    ran = record {
      unchanged = λ n o. absurd (o (ran-number n));
      none_counted = λ n o. absurd (o (ran-number n));
      step_counted = λ o. sym (answer-place r refl (refused_by o));
      step_left = λ o. ap (λ (w : List ℕ). w ++ rest) (M.runs.left ∙ ap (λ (i : ℕ). after_in b standing i) (sym (answer-place r refl (refused_by o))));
      all_place = λ y. rw (eq-eqb r.refusal 0 y) refl;
      all_counted = M.runs.whole;
      all_left = λ y. ap (λ (w : List ℕ). w ++ rest) (M.runs.left ∙ ap (λ (i : ℕ). after_in b standing i) (M.runs.whole y));
      past = subst (λ (n : ℕ). drop n (r.left ++ rest) ≡ rest) left-long (drop-append_seam r.left rest);
      long = length-append r.left rest ∙ omega (arith, left-long, length-drop (room_in b standing) lent);
      answer_ran = λ _ _. refl;
      words_ran = λ _ _. refl;
      moves = demand2.bundles b standing;
    }
      where
        refused_by : OfStep r.refusal → r.refusal ≡ 0 → ⊥
        refused_by o y = absurd (omega (arith, o.0, y))

  -- ---- whichever it is
  entered : {a : Answer} {u : List ℕ} → Entered b standing lent a u → RunOf b standing lent a u → RunOf b standing lent (run_answer b standing (length lent)) (run_words b standing lent)
  entered E R = rw (← E.answer, ← E.words) R

  one_of : Dec ((read_fault b standing).number ≡ 0) → Dec (length lent < room_in b standing) → RunOf b standing lent (run_answer b standing (length lent)) (run_words b standing lent)
  one_of (no n) x = entered (enter-refused b standing lent n refl) (unread n)
  one_of (yes z) (yes l) = entered (enter-short b standing lent z refl l refl) (short l)
  one_of (yes z) (no l) = entered (enter_run b standing lent z refl (omega arith) refl refl) (ran z (omega arith))

pub demand1 : Demand1
demand1 b standing lent = one_of b standing lent (ℕ_discrete (read_fault b standing).number 0) (dec_lt (length lent) (room_in b standing))

-- ---- the most words that a configuration has are enough
pub room-few : (b standing : List ℕ) (lent : ℕ) → (read_fault b standing).number ≡ 0 → most_words ≤ lent → room_of (sizes_in b standing) ≤ lent
unfolding size
room-few b standing lent z l =
    let s = sizes_in b standing in
    let B = (suits (table_in_use b standing) b (read_by b standing refl z refl) refl).bounded in
    omega (arith, rows_few s B, rows_are s B, B.boards, B.types)

module _ (b standing : List ℕ) (lent : ℕ) (l : most_words ≤ lent) where
  -- what `run` answers where it refuses at reading, and else
  pub run_unread : ((read_fault b standing).number ≡ 0 → ⊥) → run_answer b standing lent ≡ nothing_done (read_fault b standing)
  unfolding run_answer
  run_unread n = sym (if_yes _ refl refl (ap not (ne_eqb _ 0 n)))

  pub run-read : (read_fault b standing).number ≡ 0 → run_answer b standing lent ≡ ran_answer (ran_of b standing)
  unfolding run_answer
  run-read z = sym (if_no _ refl (ap not (eq-eqb _ 0 z)) (if_no _ refl (le-ltb lent (room_of (sizes_in b standing)) (room-few b standing lent z l)) refl))

  pub runs_by : (run_answer b standing lent).refusal ≡ 0 → Runs b standing
  unfolding ran_answer
  runs_by h = go (ℕ_discrete (read_fault b standing).number 0)
    where
      go : Dec ((read_fault b standing).number ≡ 0) → Runs b standing
      go (no n) = absurd (n (sym (ap (λ (a : Answer). a.refusal) (run_unread n)) ∙ h))
      go (yes z) = record { read = z; accepted = sym (ap (λ (a : Answer). a.refusal) (run-read z)) ∙ h }

  pub runs_all : Runs b standing → (run_answer b standing lent).refusal ≡ 0
  unfolding ran_answer
  runs_all S = ap (λ (a : Answer). a.refusal) (run-read S.read) ∙ S.accepted

  pub runs-place : Runs b standing → (run_answer b standing lent).place ≡ 0
  unfolding ran_answer ◌if◌else◌
  runs-place S = ap (λ (a : Answer). a.place) (run-read S.read) ∙ rw (eq-eqb _ 0 S.accepted) refl
