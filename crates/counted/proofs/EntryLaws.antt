-- What the words of a bundle's run come to is what its accepted steps come to; and the answer in each of its cases.
use mathlib.Core.Path.{◌≡◌, refl, ap₂, ◌∙◌}
use mathlib.Core.List.{List}
use Prim.Native.Nat.{ℕ, ◌≤◌, ◌<◌}
use native.Mathlib.Omega.{arith}
use borrow.Author.Tests.{lt-ltb, le-ltb}
use Rattle.fault.specs.declared.Answer.{Answer}
use Rattle.fault.proofs.FaultLaws.{if_yes, if_no}
use Rattle.bundle.specs.Bundle.{t_of, starts_of, table_in_use}
use Rattle.bundle.specs.Facts.{Read}
use Rattle.words.specs.declared.Sizes.{Sizes}
use Rattle.words.specs.Words.{room_of}
use Rattle.receipts.specs.Receipts.{Counts}
use Rattle.receipts.proofs.Receipts.{receipts_hold}
use Rattle.fault.specs.Fault.{Verdict}
use Rattle.engine.specs.Design.{sizes_of, design_with, sizes_in, design_in}
use Rattle.engine.specs.Entry.{schedule_of, ran_with, ran_of, run_answer}
use Rattle.engine.specs.Open.{Ready, Opens}
use Rattle.rules.proofs.RuleLaws.{newly-is}
use Rattle.engine.proofs.EntryLaws.{suits, refused_by, read-clean}
use Rattle.translate.proofs.ReadLaws.{quiet, kept}
use Rattle.counted.specs.declared.Counted.{Counted}
use Rattle.counted.specs.Sums.{received_in, sent_in}
use Rattle.counted.specs.Entry.{receipts_of, sends_of, of_run, counted_answer}

-- ---- what a bundle that is read promises
pub counts-read : (t b : List ℕ) → Read t b → Counts (design_with t b) (starts_of b)
counts-read t b R = record {
  remembers = kept t b R;
  one_new = λ r h. rw (newly-is (sizes_of t b) (t_of b) t (suits t b R refl) r h) (R.formed.rule r h).one_new;
  long = R.parted.starts_long;
  fresh = quiet t b R;
}

module _ {b standing : List ℕ} {s : Sizes} {ends leasts : List ℕ} (R : Ready b standing s ends leasts) where
  counts : Counts (design_in b standing) (starts_of b)
  counts = counts-read (table_in_use b standing) b R.read

  module _ {w : List ℕ} (e : w ≡ (ran_of b standing).left) where
    pub receipts_are : received_in s w ≡ receipts_of b standing
    unfolding ran_with
    receipts_are = ap₂ received_in R.sizes e ∙ receipts_hold.received (sizes_in b standing).level (design_in b standing) (starts_of b) counts (schedule_of b)

    pub sends_are : sent_in s w ≡ sends_of b standing
    unfolding ran_with
    sends_are = ap₂ sent_in R.sizes e ∙ receipts_hold.sent (sizes_in b standing).level (design_in b standing) (starts_of b) counts (schedule_of b)

-- ---- the answer
module _ (b standing : List ℕ) (lent : ℕ) where
  counted_by : {r : Counted} {a : Answer} {x y : ℕ} → r ≡ record { answer = a; receipts = x; sends = y } → a ≡ run_answer b standing lent → x ≡ of_run b standing lent (receipts_of b standing) → y ≡ of_run b standing lent (sends_of b standing) → r ≡ counted_answer b standing lent
  unfolding counted_answer
  counted_by e f g h = e ∙ λ i. record { answer = f i; receipts = g i; sends = h i }

  module _ {v : Verdict} {s : Sizes} {x y : List ℕ} (O : Opens b standing v s x y) where
    pub counted_unread : {r : Counted} {a : Answer} → (v.number ≡ 0 → ⊥) → r ≡ record { answer = a; receipts = 0; sends = 0 } → a ≡ run_answer b standing lent → r ≡ counted_answer b standing lent
    unfolding of_run
    counted_unread n e f = let t = refused_by b standing O n in counted_by e f (if_yes _ refl refl t) (if_yes _ refl refl t)

    module _ (z : v.number ≡ 0) {need : ℕ} (room : need ≡ room_of (sizes_in b standing)) where
      pub counted-short : {r : Counted} {a : Answer} → lent < need → r ≡ record { answer = a; receipts = 0; sends = 0 } → a ≡ run_answer b standing lent → r ≡ counted_answer b standing lent
      unfolding of_run
      counted-short h e f =
          let t = read-clean b standing O z in let u = lt-ltb lent (room_of (sizes_in b standing)) (omega (arith, h, room)) in
          counted_by e f (if_no _ refl t (if_yes _ refl refl u)) (if_no _ refl t (if_yes _ refl refl u))

      pub counted_ran : {r : Counted} → need ≤ lent → r.answer ≡ run_answer b standing lent → r.receipts ≡ receipts_of b standing → r.sends ≡ sends_of b standing → r ≡ counted_answer b standing lent
      unfolding of_run
      counted_ran {r} h f g i =
          let t = read-clean b standing O z in let u = le-ltb lent (room_of (sizes_in b standing)) (omega (arith, h, room)) in
          counted_by refl f (if_no _ refl t (if_no _ refl u g)) (if_no _ refl t (if_no _ refl u i))
