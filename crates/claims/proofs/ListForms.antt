-- After acceptance: a schedule without stops leads from a listed configuration to a listed one, none of which accepts; stops never help; and what one form reaches, the
-- counting form does. What is left where a step is refused is what is left of the steps before it.
use mathlib.Core.Path.{◌≡◌, refl, sym, ap, ◌∙◌, subst, subst⁻¹}
use mathlib.Core.Bool.{Bool, true, false}
use mathlib.Core.List.{List, [], ◌∷◌}
use Prim.Native.Nat.{ℕ, zero, suc, ◌-◌, ◌≤◌, ◌<◌}
use native.Mathlib.Nat.{le_refl}
use native.Mathlib.Decide.{ℕ_discrete, dec_lt}
use native.Mathlib.Omega.{arith}
use lib.Dec.{eqb}
use lib.ListN.{length, get_or, take, get_or-append}
use lib.Seq.{take_all}
use borrow.Author.Tests.{eqb-true}
use Rattle.fault.specs.Fault.{◌if◌else◌}
use Rattle.fault.specs.declared.Answer.{Answer}
use Rattle.fault.proofs.FaultLaws.{if_keeps}
use Rattle.table.specs.Table.{types_of, rules_of}
use Rattle.bundle.specs.Bundle.{form_of, level_of, starts_of, table_in_use}
use Rattle.bundle.specs.Facts.{Read}
use Rattle.bundle.specs.Refusals.{read_fault}
use Rattle.bundle.proofs.BundleLaws.{read_by, read-within, level-same}
use Rattle.paper.specs.Paper.{Design, Step, is_stop}
use Rattle.paper.specs.Words.{size, state, start}
use Rattle.paper.specs.Form.{wide}
use Rattle.paper.specs.Step.{step_fault, stepped}
use Rattle.paper.specs.Machine.{Machine, RanBy, run_by}
use Rattle.paper.specs.Run.{machine_of, run, after}
use Rattle.paper.proofs.WordLaws.{length-start}
use Rattle.stops.specs.Stops.{NoStops, without_stops}
use Rattle.stops.proofs.Stops.{stops_hold, no_stops}
use Rattle.agree.specs.Translation.{moved}
use Rattle.agree.specs.Picture.{Pictured}
use Rattle.agree.proofs.Runs.{all_forms}
use Rattle.rules.specs.Design.{design_of}
use Rattle.engine.specs.Design.{design_in}
use Rattle.engine.specs.Entry.{schedule_of, ran_with, ran_of, run_answer, run_words}
use Rattle.engine.proofs.EntryLaws.{enter-refused, enter-short}
use Rattle.translate.proofs.ReadLaws.{kept, begins}
use Rattle.claims.specs.Demand1.{OfStep, room_in}
use Rattle.claims.specs.Lists.{Member, NoneAccepts, Proves, SameGame, Stepped}
use Rattle.claims.proofs.Demand1.{demand1}
use Rattle.claims.proofs.Demand2.{ran-sized}

-- ---- up to its first refused step a schedule runs, and it leaves what all of it leaves
record Beginning {A : Type 0} (M : Machine A) (a : A) (ss ts : List Step) : Type 0 where
  runs : (run_by M a ts).refusal ≡ 0
  same : (run_by M a ts).left ≡ (run_by M a ss).left

beginning : {A : Type 0} (M : Machine A) (a : A) (ss : List Step) → Beginning M a ss (take (run_by M a ss).accepted ss)
unfolding run_by ◌if◌else◌
beginning M a [] = record { runs = refl; same = refl }
beginning M a (s ∷ ss) = go (eqb (M.fault a s) 0) refl (beginning M (M.next a s) ss)
  where
    go : (t : Bool) → eqb (M.fault a s) 0 ≡ t → Beginning M (M.next a s) ss (take (run_by M (M.next a s) ss).accepted ss) → Beginning M a (s ∷ ss) (take (run_by M a (s ∷ ss)).accepted (s ∷ ss))
    go true e B = rw e (record { runs = rw e B.runs; same = rw e B.same })
    go false e B = rw e (record { runs = refl; same = rw e refl })

module _ (b standing l : List ℕ) (P : Proves b standing l) where
  abbrev d : Design
  d = design_in b standing

  abbrev begin : ℕ → List ℕ
  begin k = start d.types (wide k) (starts_of b)

  R : Read (table_in_use b standing) b
  R = read_by b standing refl P.fit.read refl

  abbrev Listed : List ℕ → Type 0
  Listed w = Member b standing l w

  -- ---- in counting form
  begins-listed : Listed (begin 1)
  begins-listed = subst (λ (x : ℕ). Listed (begin x)) (ap level_of P.fit.counting ∙ level-same 1 (omega arith)) P.has_start

  leads : (w : List ℕ) (s : Step) → Listed w → is_stop s ≡ false → step_fault 1 d w s ≡ 0 → Listed (stepped 1 d w s)
  leads w s M n e = subst (λ (v : List ℕ). step_fault 1 d v s ≡ 0 → Listed (stepped 1 d v s)) M.is (P.closed M.place M.below s n) e

  stays : (ss : List Step) → NoStops ss → (w : List ℕ) → Listed w → Listed (run 1 d w ss).left
  unfolding run_by
  stays [] n w M = M
  stays (s ∷ ss) n w M =
      if_keeps (λ (r : RanBy (List ℕ)). Listed r.left) _ (eqb (step_fault 1 d w s) 0) _ (λ e. stays ss n.1 (stepped 1 d w s) (leads w s M n.0 (eqb-true _ 0 e))) (λ _. M)

  quiet_at : (w : List ℕ) → Listed w → NoneAccepts d w
  quiet_at w M = subst (NoneAccepts d) M.is (P.quiet M.place M.below)

  -- with stops, which never help
  accepted-quiet : (ss : List Step) → (run 1 d (begin 1) ss).refusal ≡ 0 → NoneAccepts d (run 1 d (begin 1) ss).left
  accepted-quiet ss h p l =
      let W = stops_hold.never_help 1 d (begin 1) ss (length-start d.boards d.types (wide 1) (starts_of b) R.parted.starts_long) h in
      ap d.accepting (sym (W.same.states p l)) ∙ quiet_at _ (stays (without_stops ss) (no_stops ss) (begin 1) begins-listed) p l

  -- and with a refused step
  counting-quiet : (ss : List Step) → NoneAccepts d (run 1 d (begin 1) ss).left
  counting-quiet ss = let B = beginning (machine_of 1 d) (begin 1) ss in subst (NoneAccepts d) B.same (accepted-quiet _ B.runs)

  -- ---- in each form: the boards are in the states of the counting form
  same-states : (W : ℕ → List ℕ) → ((j : ℕ) → Pictured j d (W j) (W (suc j))) → (k p : ℕ) → p < d.boards → state (W k) p ≡ state (W 0) p
  same-states W X zero p h = refl
  same-states W X (suc j) p h = (X j).states p h ∙ same-states W X j p h

  each-quiet : (k : ℕ) (ss : List Step) → (run k d (begin k) ss).refusal ≡ 0 → NoneAccepts d (run k d (begin k) ss).left
  each-quiet k ss h p l =
      let A = all_forms d (kept (table_in_use b standing) b R) begin (begins (table_in_use b standing) b R) k ss h in
      let W : ℕ → List ℕ = λ i. after i d (begin i) (moved k i d begin ss) (length ss) in
      let S = same-states W (λ i. A.pictured i (length ss)) in
      let e : W k ≡ (run k d (begin k) ss).left = ap (λ (x : List Step). after k d (begin k) x (length ss)) A.own ∙ ap (λ (x : List Step). (run k d (begin k) x).left) (take_all (length ss) ss (le_refl _)) in
      ap (λ (w : List ℕ). d.accepting (state w p)) (sym e) ∙ ap d.accepting (S k p l ∙ sym (S 1 p l)) ∙ counting-quiet (take (length ss) (moved k 1 d begin ss)) p l

  every-quiet : (k : ℕ) (ss : List Step) → NoneAccepts d (run k d (begin k) ss).left
  every-quiet k ss = let B = beginning (machine_of k d) (begin k) ss in subst (NoneAccepts d) B.same (each-quiet k _ B.runs)

  pub schedules_of : (k : ℕ) → k ≤ 2 → (ss : List Step) → NoneAccepts d (run k d (begin k) ss).left
  schedules_of k h ss = every-quiet k ss

  -- ---- the calls
  module _ (c beside words : List ℕ) (G : SameGame b standing c beside) (H : Stepped (run_answer c beside (length words)).refusal) where
    -- an answer that is no step's refusal, and neither is none, is not given
    not-given : (a : Answer) → a ≡ run_answer c beside (length words) → (a.refusal ≡ 0 → ⊥) → (OfStep a.refusal → ⊥) → ⊥
    not-given a e n o = o (subst⁻¹ (λ (x : Answer). Stepped x.refusal) e H n)

    -- so the bundle is read, and there are words enough
    read : (read_fault c beside).number ≡ 0
    read = go (ℕ_discrete (read_fault c beside).number 0)
      where
        go : Dec ((read_fault c beside).number ≡ 0) → (read_fault c beside).number ≡ 0
        go (yes z) = z
        go (no n) = absurd (not-given _ (enter-refused c beside words n refl).answer n (λ o. absurd (omega (arith, o.0, (read-within (table_in_use c beside) c).number))))

    room : room_in c beside ≤ length words
    room = go (dec_lt (length words) (room_in c beside))
      where
        go : Dec (length words < room_in c beside) → room_in c beside ≤ length words
        go (no m) = omega arith
        go (yes m) = absurd (not-given _ (enter-short c beside words read refl m refl).answer (λ z. absurd (omega arith)) (λ o. absurd (omega (arith, o.1))))

    -- the design depends on n, t, f and the table only
    abbrev design : ℕ → ℕ → ℕ → List ℕ → Design
    design n t f table = design_of (record { level = 0; correct = n - f; faulty = f; types = types_of table; rules = rules_of table; wide = 1; row = types_of table; tolerated = t }) t table

    same-design : design_in c beside ≡ d
    same-design = λ i. design (G.n i) (G.t i) (G.f i) (G.table i)

    abbrev level : ℕ
    level = level_of (form_of c)

    left_is : (run level d (begin level) (schedule_of c)).left ≡ (ran_of c beside).left
    unfolding ran_with
    left_is = sym (λ i. (run level (same-design i) (start (types_of (G.table i)) (wide level) (G.starts i)) (schedule_of c)).left)

    -- words past the room are no states
    state-left : (p : ℕ) → p < d.boards → state (run_words c beside words) p ≡ state (ran_of c beside).left p
    unfolding state size
    state-left p h =
        let n = ap (λ (e : Design). e.boards) same-design in
        ap (λ (w : List ℕ). get_or w p 0) ((demand1 c beside words).words_ran read room) ∙ get_or-append (ran_of c beside).left _ 0 p (omega (arith, ran-sized c beside read, n, h))

    pub calls_of : NoneAccepts d (run_words c beside words)
    calls_of p h = ap d.accepting (state-left p h) ∙ subst (NoneAccepts d) left_is (every-quiet level (schedule_of c)) p h
