-- The answer in each of its cases, and the bytes that are left.
use mathlib.Core.Path.{◌≡◌, refl, sym, ap, ap₂, ◌∙◌}
use mathlib.Core.Bool.{true, false, not, ◌||◌}
use mathlib.Core.List.{List, ◌++◌}
use Prim.Native.Nat.{ℕ, ◌≤◌, ◌<◌}
use native.Mathlib.Decide.{ℕ_discrete}
use native.Mathlib.Omega.{arith}
use lib.Dec.{eqb}
use lib.ListN.{length, drop, get_or-eq_default}
use borrow.Author.Tests.{eq-eqb, ne_eqb, lt-ltb, le-ltb, ltb-false}
use Rattle.fault.specs.declared.Answer.{Answer}
use Rattle.fault.specs.Tests.{◌below◌, ◌over◌, ◌differs◌}
use Rattle.fault.specs.Fault.{refused, nothing_done, ◌if◌else◌}
use Rattle.fault.proofs.FaultLaws.{if_yes, if_no}
use Rattle.fault.proofs.TestLaws.{or-none}
use Rattle.bundle.specs.Bundle.{form_of}
use Rattle.bundle.specs.Refusals.{read_fault}
use Rattle.bundle.proofs.BundleLaws.{level-same}
use Rattle.paper.specs.Paper.{Design}
use Rattle.paper.specs.Run.{Ran}
use Rattle.words.specs.declared.Sizes.{Sizes}
use Rattle.engine.specs.Design.{design_in}
use Rattle.engine.specs.Entry.{ran_answer, ran_with, ran_of}
use Rattle.engine.specs.Open.{Ready}
use Rattle.engine.proofs.EntryLaws.{answer-number, answer-place}
use Rattle.translate.specs.Written.{rewritten, moved_by, translation_with}
use Rattle.translate.specs.Entry.{translation_of, no_other, wrote, translate_to_answer, translate_to_bytes}
use Rattle.translate.specs.Facts.{ran_by, Fair, Runs, Done, Answers}
use Rattle.translate.proofs.ReadLaws.{fair_by}

-- ---- bytes that are no bundle have no form, and none is form 1
pub no_form : (b : List ℕ) → length b < 8 → eqb (form_of b) 1 ≡ false
no_form b l = ne_eqb (form_of b) 1 (λ e. absurd (omega (arith, e, past)))
  where
    past : form_of b ≡ 0
    past = get_or-eq_default b 0 (omega arith)

-- ---- another form: by the present one as it was read
module _ (b : List ℕ) (k : ℕ) where
  pub other-is : {p : ℕ} → p ≡ form_of b → no_other b k ≡ (eqb k p || k over 2)
  unfolding no_other
  other-is e = ap (λ (x : ℕ). eqb k x || k over 2) (sym e)

  pub other-known : no_other b k ≡ false → k ≤ 2
  unfolding no_other
  other-known e = ltb-false 2 k (or-none (eqb k (form_of b)) (k over 2) e).1

  pub other-made : (k ≡ form_of b → ⊥) → k ≤ 2 → no_other b k ≡ false
  unfolding no_other
  other-made n l = rw (ne_eqb k (form_of b) n, le-ltb 2 k l)

-- ---- after the run: `translate_in`
module _ {a : Answer} (s : Sizes) (b : List ℕ) (d : Design) (k : ℕ) (out : List ℕ) (e : a ≡ ran_answer (ran_by s b d)) where
  pub done_refused : (a.refusal ≡ 0 → ⊥) → Done s b d k out (record { refusal = a.refusal; place = a.place; count = 0 }) out
  unfolding wrote
  done_refused m =
      let f : eqb (ran_by s b d).refusal 0 ≡ false = ne_eqb _ 0 (λ z. m (answer-number (ran_by s b d) e ∙ z)) in
      record {
        answer = if_no _ refl f (λ i. record { refusal = answer-number (ran_by s b d) e i; place = answer-place (ran_by s b d) e m i; count = 0 });
        bytes = if_no _ refl f refl;
      }

  pub done_runs : a.refusal ≡ 0 → (ran_by s b d).refusal ≡ 0
  done_runs z = sym (answer-number (ran_by s b d) e) ∙ z

  pub done_written : {r : Answer} {u : List ℕ} → a.refusal ≡ 0 → r ≡ record { refusal = 0; place = 0; count = length b } → u ≡ rewritten b (moved_by s b d k) k → Done s b d k out r u
  unfolding wrote
  done_written z p q = let f = eq-eqb _ 0 (done_runs z) in record { answer = if_yes _ p refl f; bytes = if_yes _ q refl f }

abbrev pub runs_by : {s : Sizes} {ends leasts b : List ℕ} (F : Fair s ends leasts b) → (ran_by s b F.design).refusal ≡ 0 → Runs s ends b
runs_by F z = record { design = F.design; kept = F.kept.ends; remembers = F.remembers; fresh = F.fresh; runs = z }

-- ---- the whole
pub record Entered (b standing : List ℕ) (k : ℕ) (out : List ℕ) (r : Answer) (u : List ℕ) : Type 0 where
  pub answer : r ≡ translate_to_answer b standing k (length out)
  pub bytes : u ≡ translate_to_bytes b standing k out

module _ (b standing : List ℕ) (k : ℕ) (out : List ℕ) where
  pub enter-refused : {r : Answer} → ((read_fault b standing).number ≡ 0 → ⊥) → r ≡ nothing_done (read_fault b standing) → Entered b standing k out r out
  unfolding translate_to_answer translate_to_bytes
  enter-refused n f = let m = ap not (ne_eqb (read_fault b standing).number 0 n) in record { answer = if_yes _ f refl m; bytes = if_yes _ refl refl m }

  module _ (z : (read_fault b standing).number ≡ 0) where
    clean : ((read_fault b standing).number differs 0) ≡ false
    clean = ap not (eq-eqb _ 0 z)

    pub enter-same : {r : Answer} → no_other b k ≡ true → r ≡ nothing_done (refused 31) → Entered b standing k out r out
    unfolding translate_to_answer translate_to_bytes
    enter-same m f = record { answer = if_no _ refl clean (if_yes _ f refl m); bytes = if_no _ refl clean (if_yes _ refl refl m) }

    module _ (n : no_other b k ≡ false) where
      pub enter-short : {r : Answer} → length out < length b → r ≡ nothing_done (refused 30) → Entered b standing k out r out
      unfolding translate_to_answer translate_to_bytes
      enter-short l f =
          let m : (length out below length b) ≡ true = lt-ltb (length out) (length b) l in
          record { answer = if_no _ refl clean (if_no _ refl n (if_yes _ f refl m)); bytes = if_no _ refl clean (if_no _ refl n (if_yes _ refl refl m)) }

      pub enter_long : {r : Answer} {u : List ℕ} (v : List ℕ) → length b ≤ length out → r ≡ wrote (length b) (ran_of b standing) → u ≡ (translation_of b standing k if eqb (ran_of b standing).refusal 0 else v)
          → v ++ drop (length b) out ≡ out → Entered b standing k out r (u ++ drop (length b) out)
      unfolding translate_to_answer translate_to_bytes
      enter_long {r} {u} v l p given q =
          let m : (length out below length b) ≡ false = le-ltb (length out) (length b) l in
          record {
            answer = if_no _ refl clean (if_no _ refl n (if_no _ refl m p));
            bytes = if_no _ refl clean (if_no _ refl n (if_no _ refl m (go (ℕ_discrete (ran_of b standing).refusal 0))));
          }
        where
          go : Dec ((ran_of b standing).refusal ≡ 0) → u ++ drop (length b) out ≡ (out if (ran_of b standing).refusal differs 0 else translation_of b standing k ++ drop (length b) out)
          go (yes z) = if_no _ refl (ap not (eq-eqb _ 0 z)) (ap (λ (w : List ℕ). w ++ drop (length b) out) (given ∙ sym (if_yes _ refl refl (eq-eqb _ 0 z))))
          go (no n) = if_yes _ (ap (λ (w : List ℕ). w ++ drop (length b) out) (given ∙ sym (if_no _ refl (ne_eqb _ 0 n) refl)) ∙ q) refl (ap not (ne_eqb _ 0 n))

-- what is done with the rules that are ready is the call's own
module _ {s : Sizes} {x y : List ℕ} (b standing : List ℕ) (k : ℕ) (R : Ready b standing s x y) {out u : List ℕ} {r : Answer} (A : Answers s x y b k out r u) where
  D : Done s b (design_in b standing) k out r u
  D = A (fair_by b standing R)

  same : ran_by s b (design_in b standing) ≡ ran_of b standing
  unfolding ran_with
  same = rw R.sizes

  pub ready-wrote : r ≡ wrote (length b) (ran_of b standing)
  ready-wrote = D.answer ∙ ap (wrote (length b)) same

  pub ready-bytes : k ≤ 2 → u ≡ (translation_of b standing k if eqb (ran_of b standing).refusal 0 else out)
  unfolding translation_with
  ready-bytes h = D.bytes ∙ ap₂ (λ (t : List ℕ) (q : Ran). t if eqb q.refusal 0 else out) (ap₂ (λ (z : Sizes) (i : ℕ). rewritten b (moved_by z b (design_in b standing) i) k) R.sizes (sym (level-same k h))) same
