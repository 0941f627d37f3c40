-- Demand 2.
use mathlib.Core.Path.{◌≡◌, refl, sym, ap, ◌∙◌, subst⁻¹}
use mathlib.Core.Bool.{false, true≢false}
use mathlib.Core.List.{List, [], ◌∷◌}
use Prim.Native.Nat.{ℕ, zero, suc, ◌<◌, suc-le-suc}
use native.Mathlib.Nat.{not-suc-le-zero, zero-lt-suc, le_of_suc-le-suc}
use native.Mathlib.Decide.{ℕ_discrete}
use lib.ListN.{length, get_or}
use borrow.Author.Tests.{eq-eqb}
use Rattle.bundle.specs.Bundle.{t_of, table_in_use, correct_of, starts_of}
use Rattle.bundle.specs.Refusals.{read_fault}
use Rattle.bundle.specs.Facts.{Read}
use Rattle.bundle.proofs.BundleLaws.{read_by}
use Rattle.rules.proofs.RuleLaws.{initial-is}
use Rattle.paper.specs.Paper.{Design, Interp, Conf, Step, Same, Steps, by_rule, by_stop, Initial, stop_rule, is_stop}
use Rattle.paper.specs.Words.{state}
use Rattle.paper.specs.Form.{wide}
use Rattle.paper.specs.Step.{column_of, view, step_fault, stepped}
use Rattle.paper.specs.Machine.{run_by}
use Rattle.paper.specs.Run.{machine_of, run, step_at, after}
use Rattle.paper.proofs.WordLaws.{start-low, length-start, cell-start, sent-start, stopped-start, same_words}
use Rattle.paper.proofs.FormLaws.{coll_inj, shown_inj, coll-init, shown-init}
use Rattle.paper.proofs.StepLaws.{length-stepped, step-related, moves_take, take-accepted, stop-accepted, moves-one}
use Rattle.paper.proofs.MachineLaws.{run-keeps}
use Rattle.paper.proofs.RunLaws.{run-goes, run-stops, after_none, after-goes}
use Rattle.engine.specs.Design.{sizes_of, design_with, sizes_in, design_in}
use Rattle.engine.specs.Entry.{start_in, schedule_of, ran_with, ran_of}
use Rattle.claims.specs.Demand2.{Sized, StepMoves, RunMoves, BundleMoves, Demand2}

-- ---- the relation gives one configuration: a stop is no move
steps-one : (d : Design) (I : Interp) (s : Step) {σ σ' σ'' : Conf I.Coll} → Steps d I s σ σ' → Steps d I s σ σ'' → Same d I σ' σ''
steps-one d I s {σ} {σ'} {σ''} = go
  where
    not_both : is_stop s ≡ false → s.rule ≡ stop_rule → ⊥
    not_both n e = true≢false (sym (eq-eqb s.rule stop_rule e) ∙ n)

    go : Steps d I s σ σ' → Steps d I s σ σ'' → Same d I σ' σ''
    go (by_rule n a) (by_rule _ b) = moves-one d I s σ σ' σ'' a b
    go (by_rule n a) (by_stop b) = absurd (not_both n b.rule)
    go (by_stop a) (by_rule n b) = absurd (not_both n a.rule)
    go (by_stop a) (by_stop b) = record {
      pc = λ p h. a.pc p h ∙ sym (b.pc p h);
      rcvd = λ p m h hm. a.rcvd p m h hm ∙ sym (b.rcvd p m h hm);
      sent = λ m hm. a.sent m hm ∙ sym (b.sent m hm);
      stopped = a.stops ∙ sym b.stops;
    }

-- ---- one step
module _ (k : ℕ) (d : Design) (w : List ℕ) (s : Step) (l : Sized k d w) where
  -- the relation to any configuration: the step is accepted
  steps-step : (σ : Conf (column_of k d).Coll) → Steps d (column_of k d) s (view k d w) σ → step_fault k d w s ≡ 0
  steps-step σ (by_rule n m) = take-accepted k d w s n m.awake (moves_take k d w s l σ m)
  steps-step σ (by_stop m) = stop-accepted k d w s (eq-eqb s.rule stop_rule m.rule) m.board m.awake m.alone m.allowed

  stepped-sized : Sized k d (stepped k d w s)
  stepped-sized = length-stepped k d w s ∙ l

  stepped-related : (σ : Conf (column_of k d).Coll) → Steps d (column_of k d) s (view k d w) σ → Steps d (column_of k d) s (view k d w) (view k d (stepped k d w s))
  stepped-related σ m = step-related k d w s l (steps-step σ m)

  only_words : (w' : List ℕ) → Sized k d w' → Steps d (column_of k d) s (view k d w) (view k d w') → w' ≡ stepped k d w s
  only_words w' l' m =
      let e = steps-one d (column_of k d) s m (stepped-related (view k d w') m) in
      same_words d.boards d.types (wide k) w' (stepped k d w s) l' stepped-sized e.pc
      (λ p m i hp hm hi. coll_inj k d.boards d.faulty _ _ (e.rcvd p m hp hm) i hi) (λ m hm. shown_inj k d.boards d.faulty _ _ (e.sent m hm)) e.stopped

  step_is : StepMoves k d w s
  step_is = record {
    accepted = step-related k d w s l;
    held = steps-step;
    refused = λ n σ m. n (steps-step σ m);
    one = λ σ m. steps-one d (column_of k d) s m (stepped-related σ m);
    words = only_words;
    sized = stepped-sized;
  }

-- ---- a run
module _ (k : ℕ) (d : Design) where
  run_is : (ss : List Step) (w : List ℕ) → Sized k d w → RunMoves k d w ss (run k d w ss)
  unfolding run_by
  run_is [] w l = record {
    each = λ i h. absurd (not-suc-le-zero h);
    related = λ i h. absurd (not-suc-le-zero h);
    left = refl;
    whole = λ z. refl;
    next = λ n. absurd (n refl);
    number = λ n. absurd (n refl);
    stuck = λ n. absurd (n refl);
  }
  run_is (s ∷ ss) w l = go (ℕ_discrete (step_fault k d w s) 0) (run_is ss (stepped k d w s) (length-stepped k d w s ∙ l))
    where
      go : Dec (step_fault k d w s ≡ 0) → RunMoves k d (stepped k d w s) ss (run k d (stepped k d w s) ss) → RunMoves k d w (s ∷ ss) (run k d w (s ∷ ss))
      go (yes z) R = subst⁻¹ (RunMoves k d w (s ∷ ss)) (run-goes k d w s ss z) (record {
        each = at;
        related = λ i h. (step_at (s ∷ ss) i, at i h);
        left = R.left ∙ sym (after-goes k d w s ss z (run k d (stepped k d w s) ss).accepted);
        whole = λ y. ap suc (R.whole y);
        next = λ n. suc-le-suc (R.next n);
        number = R.number;
        stuck = R.stuck;
      })
        where
          at : (i : ℕ) → i < suc (run k d (stepped k d w s) ss).accepted → Steps d (column_of k d) (step_at (s ∷ ss) i) (view k d (after k d w (s ∷ ss) i)) (view k d (after k d w (s ∷ ss) (suc i)))
          at zero h = subst⁻¹ (λ (u : List ℕ). Steps d (column_of k d) s (view k d w) (view k d u)) (after-goes k d w s ss z 0 ∙ after_none k d (stepped k d w s) ss) (step-related k d w s l z)
          at (suc i) h =
              subst⁻¹ (λ (u : List ℕ). Steps d (column_of k d) (step_at ss i) (view k d u) (view k d (after k d w (s ∷ ss) (suc (suc i))))) (after-goes k d w s ss z i)
              (subst⁻¹ (λ (u : List ℕ). Steps d (column_of k d) (step_at ss i) (view k d (after k d (stepped k d w s) ss i)) (view k d u)) (after-goes k d w s ss z (suc i)) (R.each i (le_of_suc-le-suc h)))
      go (no n) R = subst⁻¹ (RunMoves k d w (s ∷ ss)) (run-stops k d w s ss n) (record {
        each = λ i h. absurd (not-suc-le-zero h);
        related = λ i h. absurd (not-suc-le-zero h);
        left = refl;
        whole = λ z. absurd (n z);
        next = λ y. zero-lt-suc (length ss);
        number = λ y. refl;
        stuck = λ y σ m. n (steps-step k d w s l σ m);
      })

-- ---- a bundle
module _ (b standing : List ℕ) (R : Read (table_in_use b standing) b) where
  abbrev t : List ℕ
  t = table_in_use b standing

  abbrev k : ℕ
  k = (sizes_of t b).level

  abbrev d : Design
  d = design_with t b

  starts_in : (p : ℕ) → p < correct_of b → state (start_in (sizes_of t b) b) p ≡ get_or (starts_of b) p 0
  unfolding state
  starts_in p h = start-low d.boards d.types (wide k) (starts_of b) R.parted.starts_long p h

  begins : Initial d (column_of k d) (view k d (start_in (sizes_of t b) b))
  begins =
      let l = R.parted.starts_long in
      record {
        pc = λ p h. ap d.initial (starts_in p h) ∙ initial-is (sizes_of t b) (t_of b) t (get_or (starts_of b) p 0) (R.start p h).state ∙ (R.start p h).initial;
        rcvd = λ p m hp hm. coll-init k d.boards d.faulty _ (λ i. cell-start d.boards d.types (wide k) (starts_of b) l p m i);
        sent = λ m hm. shown-init k d.boards d.faulty _ (sent-start d.boards d.types (wide k) (starts_of b) l m);
        stopped = stopped-start d.boards d.types (wide k) (starts_of b) l;
      }

  bundle_is : BundleMoves b standing
  unfolding ran_with
  bundle_is = record { begins = begins; runs = run_is k d (schedule_of b) (start_in (sizes_of t b) b) (length-start d.boards d.types (wide k) (starts_of b) R.parted.starts_long) }

-- what a run leaves is a configuration
pub run-sized : (k : ℕ) (d : Design) (w : List ℕ) (ss : List Step) → Sized k d w → Sized k d (run k d w ss).left
run-sized k d w ss = run-keeps (machine_of k d) (Sized k d) (λ v s l _. length-stepped k d v s ∙ l) w ss

pub ran-sized : (b standing : List ℕ) → (read_fault b standing).number ≡ 0 → Sized (sizes_in b standing).level (design_in b standing) (ran_of b standing).left
unfolding ran_with
ran-sized b standing z =
    let R = read_by b standing refl z refl in
    run-sized _ _ _ (schedule_of b) (length-start (design_in b standing).boards (design_in b standing).types (wide (sizes_in b standing).level) (starts_of b) R.parted.starts_long)

pub demand2 : Demand2
demand2 = record {
  steps = step_is;
  schedules = λ k d w ss l. run_is k d ss w l;
  bundles = λ b standing z. bundle_is b standing (read_by b standing refl z refl);
}
