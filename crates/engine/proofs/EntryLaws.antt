-- What a bundle that was read lets stepping count on, and the entry's answer in each of its cases.
use mathlib.Core.Path.{◌≡◌, refl, sym, ap, ◌∙◌, subst, subst⁻¹}
use mathlib.Core.Bool.{true, false, not}
use mathlib.Core.List.{List, ◌++◌}
use Prim.Native.Nat.{ℕ, ◌≤◌, ◌<◌}
use native.Mathlib.Omega.{arith}
use lib.ListN.{length, drop}
use borrow.Author.Tests.{eq-eqb, ne_eqb, lt-ltb, le-ltb}
use Rattle.fault.specs.Fault.{Verdict}
use Rattle.fault.specs.declared.Answer.{Answer}
use Rattle.fault.specs.Tests.{◌below◌, ◌differs◌}
use Rattle.fault.specs.Fault.{refused, nothing_done, ◌if◌else◌}
use Rattle.fault.proofs.FaultLaws.{if_yes, if_no}
use Rattle.bundle.specs.Bundle.{t_of, table_in_use, starts_of, steps_of}
use Rattle.bundle.specs.Refusals.{read_fault}
use Rattle.bundle.specs.Facts.{Read}
use Rattle.bundle.proofs.BundleLaws.{read_by}
use Rattle.paper.specs.Paper.{Design}
use Rattle.paper.specs.Words.{start}
use Rattle.paper.specs.Form.{wide}
use Rattle.schedule.specs.Records.{steps_in, Records}
use Rattle.paper.specs.Run.{Ran, run}
use Rattle.words.specs.declared.Sizes.{Sizes}
use Rattle.words.specs.Words.{room_of}
use Rattle.rules.specs.Facts.{Suits}
use Rattle.rules.specs.Kept.{Kept, ByDesign}
use Rattle.rules.specs.Design.{design_of}
use Rattle.engine.specs.Design.{sizes_of, sizes_in, design_in}
use Rattle.engine.specs.Entry.{schedule_of, start_in, ran_with, ran_of, ran_answer, run_answer, run_words}
use Rattle.engine.specs.Open.{Ready, Opens, Parts}

-- ---- what was read
module _ (t b : List ℕ) (R : Read t b) where
  pub suits : {s : Sizes} → s ≡ sizes_of t b → Suits s t
  suits e = subst⁻¹ (λ (x : Sizes). Suits x t) e (record {
    bounded = record { boards = omega (arith, R.all, R.admitted.few_boards); types = R.formed.sized.few_types; rules = R.formed.sized.few_rules; wide = refl; row = refl };
    formed = R.formed;
    types = refl;
    rules = refl;
  })

  pub parts_by : {s : Sizes} → s ≡ sizes_of t b → Parts s b
  parts_by e = record { trailed = R.trailed; parted = R.parted; correct = ap (λ (x : Sizes). x.correct) e }

-- ---- the beginning
module _ (b standing : List ℕ) {v : Verdict} (e : v ≡ read_fault b standing) where
  pub opens_refused : {s : Sizes} {x y : List ℕ} → (v.number ≡ 0 → ⊥) → Opens b standing v s x y
  opens_refused n = record { same = e; ready = λ z. absurd (n z) }

  module _ (z : v.number ≡ 0) {t : List ℕ} (g : t ≡ table_in_use b standing) where
    pub opens_read : Read t b
    opens_read = read_by b standing e z g

    pub opens_ready : {s : Sizes} {x y : List ℕ} {k : ℕ} → s ≡ sizes_of t b → k ≡ t_of b → Kept (design_of s k t) s x y → Opens b standing v s x y
    opens_ready {s} {x} {y} {k} h f K = record {
      same = e;
      ready = λ _. record {
        read = subst (λ (a : List ℕ). Read a b) g opens_read;
        sizes = are;
        bounded = (suits t b opens_read h).bounded;
        kept = subst (λ (d : Design). Kept d s x y) (λ i. design_of (are i) (f i) (g i)) K;
      };
    }
      where
        are : s ≡ sizes_in b standing
        are = h ∙ ap (λ (a : List ℕ). sizes_of a b) g

-- the same of numbers and rules that are those which were kept
pub opens_as : {b standing : List ℕ} {v : Verdict} {s s' : Sizes} {x x' y y' : List ℕ} → (s' ≡ s) × (x' ≡ x) × (y' ≡ y) → Opens b standing v s x y → Opens b standing v s' x' y'
opens_as e O = rw (e.0, e.1, e.2) O

-- a run from the parts that the code has in hand
pub parts_run : {ss st w : List ℕ} (s : Sizes) (b : List ℕ) → ss ≡ starts_of b → w ≡ start s.types (wide s.level) ss → st ≡ steps_of b → (d : Design) → run s.level d w (steps_in st) ≡ run s.level d (start_in s b) (schedule_of b)
parts_run s b f g h d = rw (g, f, h)

-- ---- the parts of a bundle
module _ (s : Sizes) (b : List ℕ) (P : Parts s b) where
  pub starts_long : {ss : List ℕ} → ss ≡ starts_of b → length ss ≡ s.correct
  starts_long f = ap length f ∙ P.parted.starts_long ∙ sym P.correct

  pub whole_steps : {st : List ℕ} → st ≡ steps_of b → Records st
  whole_steps f = let n = ap length f ∙ P.parted.steps_long in record { few = omega (arith, P.parted.few_steps); whole = omega (arith, P.parted.whole_steps) }

-- ---- a run by the rules that are ready is the bundle's
module _ {b standing : List ℕ} {s : Sizes} {x y : List ℕ} (R : Ready b standing s x y) where
  same_run : run s.level (design_in b standing) (start_in s b) (schedule_of b) ≡ ran_of b standing
  unfolding ran_with
  same_run = rw R.sizes

  pub ready_parts : Parts s b
  ready_parts = parts_by (table_in_use b standing) b R.read R.sizes

  pub ready-answer : {a : Answer} → ByDesign s x y (λ d. a ≡ ran_answer (run s.level d (start_in s b) (schedule_of b))) → a ≡ ran_answer (ran_of b standing)
  ready-answer f = f (design_in b standing) R.kept ∙ ap ran_answer same_run

  pub ready_words : {w : List ℕ} → ByDesign s x y (λ d. w ≡ (run s.level d (start_in s b) (schedule_of b)).left) → w ≡ (ran_of b standing).left
  ready_words f = f (design_in b standing) R.kept ∙ ap (λ (r : Ran). r.left) same_run

-- ---- the answer of a run, field by field
module _ {a : Answer} (r : Ran) (e : a ≡ ran_answer r) where
  pub answer-number : a.refusal ≡ r.refusal
  unfolding ran_answer
  answer-number = ap (λ (x : Answer). x.refusal) e

  pub answer-place : (a.refusal ≡ 0 → ⊥) → a.place ≡ r.accepted
  unfolding ran_answer ◌if◌else◌
  answer-place n = ap (λ (x : Answer). x.place) e ∙ rw (ne_eqb r.refusal 0 (λ z. n (answer-number ∙ z)))

-- ---- the entry
pub record Entered (b standing lent : List ℕ) (a : Answer) (u : List ℕ) : Type 0 where
  pub answer : a ≡ run_answer b standing (length lent)
  pub words : u ≡ run_words b standing lent

-- what the beginning of a call tells of reading
module _ {v : Verdict} {s : Sizes} {x y : List ℕ} (b standing : List ℕ) (O : Opens b standing v s x y) where
  pub opens_unread : (v.number ≡ 0 → ⊥) → (read_fault b standing).number ≡ 0 → ⊥
  opens_unread n z = n (ap (λ (u : Verdict). u.number) O.same ∙ z)

  pub opens_clean : v.number ≡ 0 → (read_fault b standing).number ≡ 0
  opens_clean z = ap (λ (u : Verdict). u.number) (sym O.same) ∙ z

  pub refused_by : (v.number ≡ 0 → ⊥) → ((read_fault b standing).number differs 0) ≡ true
  refused_by n = ap not (ne_eqb _ 0 (opens_unread n))

  pub read-clean : v.number ≡ 0 → ((read_fault b standing).number differs 0) ≡ false
  read-clean z = ap not (eq-eqb _ 0 (opens_clean z))

  pub nothing_done_lem : {a : Answer} → a ≡ nothing_done v → a ≡ nothing_done (read_fault b standing)
  nothing_done_lem f = f ∙ ap nothing_done O.same

module _ (b standing lent : List ℕ) where
  pub enter-refused : {a : Answer} → ((read_fault b standing).number ≡ 0 → ⊥) → a ≡ nothing_done (read_fault b standing) → Entered b standing lent a lent
  unfolding run_answer run_words
  enter-refused n f = let m = ap not (ne_eqb (read_fault b standing).number 0 n) in record { answer = if_yes _ f refl m; words = if_yes _ refl refl m }

  module _ (z : (read_fault b standing).number ≡ 0) {need : ℕ} (k : need ≡ room_of (sizes_in b standing)) where
    clean : ((read_fault b standing).number differs 0) ≡ false
    clean = ap not (eq-eqb _ 0 z)

    pub enter-short : {a : Answer} → length lent < need → a ≡ nothing_done (refused 30) → Entered b standing lent a lent
    unfolding run_answer run_words
    enter-short {a} l f =
        let m : (length lent below room_of (sizes_in b standing)) ≡ true = lt-ltb (length lent) (room_of (sizes_in b standing)) (rw (← k) l) in
        record { answer = if_no _ refl clean (if_yes _ f refl m); words = if_no _ refl clean (if_yes _ refl refl m) }

    pub enter_run : {a : Answer} {u : List ℕ} → need ≤ length lent → a ≡ ran_answer (ran_of b standing) → u ≡ (ran_of b standing).left → Entered b standing lent a (u ++ drop need lent)
    unfolding run_answer run_words
    enter_run {a} {u} l p q =
        let m : (length lent below room_of (sizes_in b standing)) ≡ false = le-ltb (length lent) (room_of (sizes_in b standing)) (rw (← k) l) in
        record { answer = if_no _ refl clean (if_no _ refl m p); words = if_no _ refl clean (if_no _ refl m (rw (q, k))) }
