-- Q-10 about the calls: a bundle with two records exchanged is the bundle recast with the two steps exchanged. So it is read as the bundle was, and runs as the schedule
-- with the steps exchanged does.
use mathlib.Core.Path.{◌≡◌, refl, sym, ap, ap₂, ◌∙◌, subst}
use mathlib.Core.Bool.{not}
use mathlib.Core.List.{List, [], ◌∷◌, ◌++◌}
use Prim.Native.Nat.{ℕ, zero, suc, ◌+◌, ◌*◌, ◌≤◌, ◌<◌}
use native.Mathlib.Nat.{zero-add, le_of_suc-le-suc}
use native.Mathlib.Omega.{arith}
use lib.ListN.{length, take, drop}
use borrow.Author.Tests.{eq-eqb}
use Rattle.fault.specs.Bytes.{step_bytes}
use Rattle.fault.specs.Fault.{◌if◌else◌}
use Rattle.fault.specs.Fault.{Verdict}
use Rattle.fault.proofs.FaultLaws.{if_no}
use Rattle.bundle.specs.Bundle.{form_of, correct_of, steps_at, table_in_use}
use Rattle.bundle.specs.Refusals.{read_fault}
use Rattle.bundle.specs.Facts.{Read}
use Rattle.bundle.proofs.BundleLaws.{read_by}
use Rattle.paper.specs.Paper.{Step}
use Rattle.paper.specs.Words.{start}
use Rattle.paper.specs.Form.{wide}
use Rattle.paper.specs.Run.{run}
use Rattle.paper.proofs.RunLaws.{run-within}
use Rattle.words.specs.declared.Sizes.{Sizes}
use Rattle.words.specs.Words.{room_of}
use Rattle.schedule.specs.Records.{bytes_of}
use Rattle.exchange.specs.Exchange.{exchanged_steps, exchanged_at, exchanged}
use Rattle.exchange.proofs.Runs.{exchange}
use Rattle.engine.specs.Design.{sizes_in, design_in}
use Rattle.engine.specs.Entry.{start_in, schedule_of, ran_with, ran_of, ran_answer}
use Rattle.engine.proofs.RecastLaws.{Recast, front_long, recast_read, recast_sizes, recast_design, same_start_bytes, new_steps}
use Rattle.translate.proofs.RewrittenLaws.{recast, rewritten-own}
use Rattle.first_step.specs.declared.First.{First}
use Rattle.first_step.specs.Entry.{first_after, after_run, first_answer}
use Rattle.same.specs.Same.{SameRun}
use Rattle.same.proofs.Runs.{run-same, words_same, first-same}
use Rattle.claims.specs.Demand1.{room_in}
use Rattle.claims.specs.Exchange.{OfTwoBoards, AcceptedAfter, SameCalls, NotHeard, Q10, RoomAfter}
use Rattle.claims.proofs.Demand1.{demand1}

-- ---- the bytes
-- behind a byte, and behind a front
behind : (x a : ℕ) (v : List ℕ) → exchanged_at (suc a) (x ∷ v) ≡ x ∷ exchanged_at a v
unfolding exchanged_at
behind x a v =
    let e : suc a + 4 ≡ suc (a + 4) = omega arith in
    let g : suc (a + 4) + 4 ≡ suc (a + 4 + 4) = omega arith in
    rw (e, g)

fronted : (u v : List ℕ) (a : ℕ) → exchanged_at (length u + a) (u ++ v) ≡ u ++ exchanged_at a v
fronted [] v a = ap (λ (n : ℕ). exchanged_at n v) (zero-add a)
fronted (x ∷ u) v a =
    let e : suc (length u) + a ≡ suc (length u + a) = omega arith in
    rw e (behind x (length u + a) (u ++ v) ∙ ap (λ (z : List ℕ). x ∷ z) (fronted u v a))

-- of a schedule's records: those of its steps, exchanged
recorded : (i : ℕ) (ss : List Step) (y : List ℕ) → suc i < length ss → exchanged_at (i * step_bytes) (bytes_of ss ++ y) ≡ bytes_of (exchanged_steps i ss) ++ y
unfolding exchanged_at exchanged_steps bytes_of
recorded i [] y l = absurd (omega arith)
recorded zero (x ∷ []) y l = absurd (omega arith)
recorded zero (x ∷ z ∷ ss) y l = refl
recorded (suc i) (x ∷ ss) y l =
    let e : suc i * 4 ≡ 4 + i * 4 = omega arith in
    rw e (fronted (x.board ∷ x.rule ∷ x.type ∷ x.source ∷ []) (bytes_of ss ++ y) (i * 4)
    ∙ ap (λ (z : List ℕ). x.board ∷ x.rule ∷ x.type ∷ x.source ∷ z) (recorded i ss y (le_of_suc-le-suc l)))

as_many : (i : ℕ) (ss : List Step) → length (exchanged_steps i ss) ≡ length ss
unfolding exchanged_steps
as_many i [] = refl
as_many zero (x ∷ []) = refl
as_many zero (x ∷ y ∷ ss) = refl
as_many (suc i) (x ∷ ss) = ap suc (as_many i ss)

exchanged_recast : (t b : List ℕ) (R : Read t b) (i : ℕ) → suc i < length (schedule_of b) → Recast b (exchanged_steps i (schedule_of b)) (form_of b) (exchanged i b)
exchanged_recast t b R i l =
    let ss = schedule_of b in
    let X = subst (Recast b ss (form_of b)) (rewritten-own t b R) (recast t b R ss (form_of b) refl) in
    let front = take (steps_at b) b in
    let many = ap (λ (n : ℕ). n * step_bytes) (sym (as_many i ss)) in
    record {
      trailer = X.trailer;
      parts = ap₂ (λ (n : ℕ) (y : List ℕ). exchanged_at (n + i * step_bytes) y) (sym (front_long t b R)) X.parts ∙ fronted front (bytes_of ss ++ X.trailer) (i * step_bytes)
          ∙ ap (λ (y : List ℕ). front ++ y) (recorded i ss X.trailer l);
      whole = X.whole;
      steps = X.steps ∙ many;
      starts = X.starts ∙ ap (λ (n : ℕ). n + correct_of b) many;
      n = X.n;
      t = X.t;
      f = X.f;
      form = X.form;
      few = omega (arith, X.few, as_many i ss);
    }

-- ---- the calls
module _ (b standing : List ℕ) (i : ℕ) (z : (read_fault b standing).number ≡ 0) (l : suc i < length (schedule_of b)) where
  abbrev c : List ℕ
  c = exchanged i b

  R : Read (table_in_use b standing) b
  R = read_by b standing refl z refl

  X : Recast b (exchanged_steps i (schedule_of b)) (form_of b) c
  X = exchanged_recast (table_in_use b standing) b R i l

  same-schedule : schedule_of c ≡ exchanged_steps i (schedule_of b)
  same-schedule = new_steps (table_in_use b standing) b R X

  ran-is : ran_of c standing ≡ run (sizes_in b standing).level (design_in b standing) (start_in (sizes_in b standing) b) (exchanged_steps i (schedule_of b))
  unfolding ran_with
  ran-is =
      let s = recast_sizes standing R X in
      let e = recast_design standing R X in
      let w = sym (same_start_bytes (table_in_use b standing) b R X) in
      let q = sym same-schedule in
      sym (λ j. run (s j).level (e j) (start (s j).types (wide (s j).level) (w j)) (q j))

  same-calls : OfTwoBoards b i → AcceptedAfter b standing i i → AcceptedAfter b standing i (suc i) → RoomAfter b standing i → SameCalls c b standing
  unfolding ran_with
  same-calls o p q room =
      let E : SameRun c standing b standing = record {
        fault = recast_read standing R X;
        sizes = sym (recast_sizes standing R X);
        design = sym (recast_design standing R X);
        ran = ran-is ∙ exchange.same_run _ _ _ (schedule_of b) i l o p q room;
      } in
      record { answer = run-same E; words = words_same E; first = first-same E }

  not_heard : suc i < (ran_of b standing).accepted → OfTwoBoards b i → (AcceptedAfter b standing i (suc i) → ⊥) → NotHeard c b standing i
  unfolding ran_with ran_answer first_answer after_run ◌if◌else◌
  not_heard a o n =
      let r = ran-is ∙ exchange.refused _ _ _ (schedule_of b) i a o n in
      let y : (read_fault c standing).number ≡ 0 = ap (λ (v : Verdict). v.number) (recast_read standing R X) ∙ z in
      let s = recast_sizes standing R X in
      let room : (lent : List ℕ) → room_in b standing ≤ length lent → room_in c standing ≤ length lent = λ lent. subst (λ (x : Sizes). room_of x ≤ length lent) s in
      let unread = First.Refused (read_fault c standing).number (read_fault c standing).place in
      record {
        answer = λ lent h. (demand1 c standing lent).answer_ran y (room lent h) ∙ ap ran_answer r;
        words = λ lent h. (demand1 c standing lent).words_ran y (room lent h) ∙ (λ j. (r j).left ++ drop (room_of (sym s j)) lent);
        first = sym (if_no unread refl (ap not (eq-eqb _ 0 y)) refl) ∙ ap (first_after (sizes_in c standing).level (design_in c standing)) r;
      }

pub q10 : Q10
unfolding ran_with
q10 = record {
  steps = exchange;
  schedule = same-schedule;
  calls = same-calls;
  refused = λ b standing i z a.
      let few = run-within (sizes_in b standing).level (design_in b standing) (start_in (sizes_in b standing) b) (schedule_of b) in
      not_heard b standing i z (omega (arith, few.accepted)) a;
}
