-- Q-13. A call ends at reading, for want of words, or with its run: the first two count nothing and have no step's number; the third counts the run's accepted steps. A bundle's
-- schedule in the forms i and i + 1 is the one and its tagged or its refined steps, which count the same (ReceiptLaws), so all forms do; and a translation has those steps.
use mathlib.Core.Path.{◌≡◌, refl, sym, ap, ◌∙◌, subst, subst⁻¹}
use mathlib.Core.Bool.{not}
use mathlib.Core.List.{List}
use Prim.Native.Nat.{ℕ, zero, suc, ◌≤◌, ◌<◌}
use native.Mathlib.Decide.{ℕ_discrete, dec_lt}
use native.Mathlib.Omega.{arith}
use borrow.Author.Tests.{eq-eqb, ne_eqb, lt-ltb, le-ltb}
use Rattle.fault.specs.declared.Answer.{Answer}
use Rattle.fault.proofs.FaultLaws.{if_yes, if_no}
use Rattle.bundle.specs.Bundle.{form_of, level_of, starts_of, table_in_use}
use Rattle.bundle.specs.Refusals.{read_fault}
use Rattle.bundle.proofs.BundleLaws.{read_by}
use Rattle.paper.specs.Paper.{Design, Step}
use Rattle.agree.specs.Translation.{moved}
use Rattle.agree.specs.Agreement.{InAllForms}
use Rattle.receipts.specs.Receipts.{receipts_in, sends_in, Counts, start_of}
use Rattle.receipts.proofs.Receipts.{receipts_hold}
use Rattle.engine.specs.Design.{design_in}
use Rattle.engine.specs.Entry.{schedule_of, ran_with, ran_of, ran_answer, run_answer}
use Rattle.translate.specs.Written.{translation_with}
use Rattle.translate.specs.Entry.{translation_of}
use Rattle.counted.specs.declared.Counted.{Counted}
use Rattle.counted.specs.Entry.{receipts_of, sends_of, of_run, counted_answer}
use Rattle.counted.proofs.EntryLaws.{counts-read}
use Rattle.counted.proofs.Bounds.{few_receipts, few_sends, receipts-within, sends-within}
use Rattle.claims.specs.Demand1.{Runs, OfStep, room_in}
use Rattle.claims.specs.Receipts.{CountedOf, SameNumbers, Q13}
use Rattle.claims.proofs.Demand1.{ran-number}
use Rattle.claims.proofs.Demand2.{ran-sized}
use Rattle.claims.proofs.Demand3.{form, all, told_c, runs_c}

-- ---- a call
module _ (b standing : List ℕ) (lent : ℕ) where
  abbrev a : Counted
  a = counted_answer b standing lent

  -- refused at reading, or for want of words, nothing is counted
  of_unread : (n : ℕ) → ((read_fault b standing).number ≡ 0 → ⊥) → of_run b standing lent n ≡ 0
  unfolding of_run
  of_unread n f = sym (if_yes _ refl refl (ap not (ne_eqb _ 0 f)))

  of_short : (n : ℕ) → (read_fault b standing).number ≡ 0 → lent < room_in b standing → of_run b standing lent n ≡ 0
  unfolding of_run
  of_short n z h = sym (if_no _ refl (ap not (eq-eqb _ 0 z)) (if_yes _ refl refl (lt-ltb lent (room_in b standing) h)))

  -- else there is the run
  module _ (z : (read_fault b standing).number ≡ 0) (h : room_in b standing ≤ lent) where
    of_ran : (n : ℕ) → of_run b standing lent n ≡ n
    unfolding of_run
    of_ran n = sym (if_no _ refl (ap not (eq-eqb _ 0 z)) (if_no _ refl (le-ltb lent (room_in b standing) h) refl))

    receipts-ran : a.receipts ≡ receipts_of b standing
    unfolding counted_answer
    receipts-ran = of_ran (receipts_of b standing)

    sends-ran : a.sends ≡ sends_of b standing
    unfolding counted_answer
    sends-ran = of_ran (sends_of b standing)

    answer_ran : run_answer b standing lent ≡ ran_answer (ran_of b standing)
    unfolding run_answer
    answer_ran = sym (if_no _ refl (ap not (eq-eqb _ 0 z)) (if_no _ refl (le-ltb lent (room_in b standing) h) refl))

    -- whose refusal is none, or a step's
    refusal-ran : ((run_answer b standing lent).refusal ≡ 0 → ⊥) → OfStep (run_answer b standing lent).refusal
    unfolding ran_answer
    refusal-ran n =
        let e = ap (λ (x : Answer). x.refusal) answer_ran in
        subst⁻¹ OfStep e (ran-number b standing (ran_of b standing).left z (omega (arith, ran-sized b standing z)) (λ y. n (e ∙ y)))

  none_of : (n : ℕ) → ((run_answer b standing lent).refusal ≡ 0 → ⊥) → (OfStep (run_answer b standing lent).refusal → ⊥) → of_run b standing lent n ≡ 0
  none_of n f o = go (ℕ_discrete (read_fault b standing).number 0) (dec_lt lent (room_in b standing))
    where
      go : Dec ((read_fault b standing).number ≡ 0) → Dec (lent < room_in b standing) → of_run b standing lent n ≡ 0
      go (no u) x = of_unread n u
      go (yes z) (yes h) = of_short n z h
      go (yes z) (no h) = absurd (o (refusal-ran z (omega arith) f))

  none : (a.answer.refusal ≡ 0 → ⊥) → (OfStep a.answer.refusal → ⊥) → (a.receipts ≡ 0) × (a.sends ≡ 0)
  unfolding counted_answer
  none f o = (none_of (receipts_of b standing) f o, none_of (sends_of b standing) f o)

  answer : a.answer ≡ run_answer b standing lent
  unfolding counted_answer
  answer = refl

  call : CountedOf b standing lent a
  unfolding ran_with
  call = record {
    answer = answer;
    receipts = receipts-ran;
    sends = sends-ran;
    none = none;
    few_receipts = few_receipts b standing lent;
    few_sends = few_sends b standing lent;
    most_receipts = receipts-within b standing lent;
    most_sends = sends-within b standing lent;
  }

-- ---- two equal numbers
turned : {u v x y : ℕ} → (u ≡ v) × (x ≡ y) → (v ≡ u) × (y ≡ x)
turned E = (sym E.0, sym E.1)

through : {u v w x y z : ℕ} → (u ≡ v) × (x ≡ y) → (v ≡ w) × (y ≡ z) → (u ≡ w) × (x ≡ z)
through E F = (E.0 ∙ F.0, E.1 ∙ F.1)

-- ---- a schedule of level k, at all levels
module _ (d : Design) (starts : List ℕ) (N : Counts d starts) (k : ℕ) (ss : List Step) (A : InAllForms d (λ i. start_of i d starts) k ss) where
  abbrev begin : ℕ → List ℕ
  begin i = start_of i d starts

  abbrev new : ℕ → List Step
  new i = moved k i d begin ss

  -- schedules of levels i and j with equal numbers
  abbrev Same : ℕ → List Step → ℕ → List Step → Type 0
  Same i xs j ys = (receipts_in i d (begin i) xs ≡ receipts_in j d (begin j) ys) × (sends_in i d (begin i) xs ≡ sends_in j d (begin j) ys)

  -- neighbours
  next : (i : ℕ) → Same (suc i) (new (suc i)) i (new i)
  next i = go (dec_lt i k)
    where
      go : Dec (i < k) → Same (suc i) (new (suc i)) i (new i)
      go (yes h) = turned (subst⁻¹ (λ (x : List Step). Same i x (suc i) (new (suc i))) (A.down i h) (receipts_hold.down i d starts N (new (suc i)) (A.runs (suc i))))
      go (no h) = subst⁻¹ (λ (x : List Step). Same (suc i) x i (new i)) (A.up i (omega arith)) (receipts_hold.up i d starts N (new i) (A.runs i))

  -- by way of message form
  as_sets : (i : ℕ) → Same i (new i) 0 (new 0)
  as_sets zero = (refl, refl)
  as_sets (suc i) = through (next i) (as_sets i)

  at_level : (i : ℕ) → Same i (new i) k ss
  at_level i = subst (λ (x : List Step). Same i (new i) k x) A.own (through (as_sets i) (turned (as_sets k)))

-- ---- a bundle that runs, and its form k
module _ (b standing : List ℕ) (S : Runs b standing) (k : ℕ) where
  N : Counts (design_in b standing) (starts_of b)
  N = counts-read (table_in_use b standing) b (read_by b standing refl S.read refl)

  translated : k ≤ 2 → (lent room : ℕ) → room_in b standing ≤ lent → room_in (translation_of b standing k) standing ≤ room
      → SameNumbers (counted_answer b standing lent) (counted_answer (translation_of b standing k) standing room)
  unfolding translation_with
  translated h lent room x y =
      let z = (runs_c b standing S k h).read in
      let E = at_level (design_in b standing) (starts_of b) N (level_of (form_of b)) (schedule_of b) (all b standing S) (level_of k) in
      let c = form b standing S k in
      record {
        receipts = receipts-ran c standing room z y ∙ told_c b standing S k (λ i d w ss. receipts_in i d w ss) ∙ E.0 ∙ sym (receipts-ran b standing lent S.read x);
        sends = sends-ran c standing room z y ∙ told_c b standing S k (λ i d w ss. sends_in i d w ss) ∙ E.1 ∙ sym (sends-ran b standing lent S.read x);
      }

pub q13 : Q13
q13 = record { calls = call; translated = translated; schedules = receipts_hold }
