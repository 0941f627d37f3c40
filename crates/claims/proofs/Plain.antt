-- The plain counter: what so agrees is pictured, since reached configurations keep what their form keeps; the rest is the agreement of
-- neighbouring forms.
use mathlib.Core.Path.{◌≡◌, refl, sym, ap, ◌∙◌, subst}
use mathlib.Core.Logic.{◌⊎◌, inl, inr}
use mathlib.Core.Bool.{Bool, true, false, ◌&&◌, and-false}
use mathlib.Core.List.{List}
use Prim.Native.Nat.{ℕ, zero, suc, ◌+◌, ◌<◌}
use native.Mathlib.Nat.{add-zero}
use native.Mathlib.Omega.{arith}
use lib.Dec.{eqb}
use lib.ListN.{length}
use lib.Seq.{take-length}
use borrow.Author.Tests.{ne_eqb}
use Rattle.senders.specs.Tally.{least}
use Rattle.bundle.specs.Bundle.{table_in_use}
use Rattle.bundle.specs.Refusals.{read_fault}
use Rattle.bundle.proofs.BundleLaws.{read_by}
use Rattle.paper.specs.Paper.{Design, Step, silent}
use Rattle.paper.specs.Form.{shown}
use Rattle.paper.specs.Step.{sent_in, step_fault, stepped}
use Rattle.paper.specs.Run.{run, after}
use Rattle.agree.specs.Translation.{tag_of, with_source, tagged, low_sender, moved}
use Rattle.agree.specs.Picture.{Remembers, Pictured}
use Rattle.agree.proofs.Columns.{tag_only}
use Rattle.agree.proofs.Agree.{tagged-silent, tagged-message, lowest-silent, lowest-message, low_is, forward, backward}
use Rattle.engine.specs.Design.{design_in}
use Rattle.translate.proofs.ReadLaws.{kept}
use Rattle.claims.specs.Agreed.{begin_in}
use Rattle.claims.specs.Plain.{Reached, SoAgree, PlainStep, TagTaken, PlainCounter}
use Rattle.claims.proofs.Agreed.{all_agreed}
use Rattle.claims.proofs.FirstAgreed.{heard_by}

-- ---- none that is sent is faulty
sent-sum : (d : Design) (w : List ℕ) (m : ℕ) → (sent_in 1 d w m).correct + (sent_in 1 d w m).faulty ≡ (sent_in 1 d w m).correct
unfolding shown
sent-sum d w m = add-zero (sent_in 1 d w m).correct

-- ---- words that are reached: some picture of them has what their form keeps
module _ (b standing : List ℕ) (z : (read_fault b standing).number ≡ 0) where
  abbrev d : Design
  d = design_in b standing

  reached-pictured : (k : ℕ) (w : List ℕ) → Reached k b standing w → (u : List ℕ) × Pictured k d w u
  reached-pictured k w R =
      let F = (all_agreed b standing z).everywhere k R.steps R.runs in
      let n = length R.steps in
      let e : after k d (begin_in k b standing) (moved k k d (λ i. begin_in i b standing) R.steps) n ≡ w =
      ap (λ (x : List Step). after k d (begin_in k b standing) x n) F.own ∙ ap (λ (x : List Step). (run k d (begin_in k b standing) x).left) (take-length R.steps) ∙ R.words in
      let u = after (suc k) d (begin_in (suc k) b standing) (moved k (suc k) d (λ i. begin_in i b standing) R.steps) n in
      (u, subst (λ (x : List ℕ). Pictured k d x u) e (F.pictured k n))

  pictured : (w v : List ℕ) → Reached 1 b standing w → Reached 2 b standing v → SoAgree d w v → Pictured 1 d w v
  pictured w v R S A =
      let P = (reached-pictured 1 w R).1 in
      record {
        fine_long = P.fine_long;
        coarse_long = (reached-pictured 2 v S).1.fine_long;
        states = A.states;
        rcvds = A.sums;
        sents = λ m hm. A.sents m hm ∙ sym (sent-sum d w m);
        stops = A.stops;
        sound = P.sound;
      }

-- ---- a step
module _ (d : Design) (K : Remembers d) (w v : List ℕ) (X : Pictured 1 d w v) where
  so_agree : {w v : List ℕ} → Pictured 1 d w v → SoAgree d w v
  so_agree {w} P = record { states = P.states; sums = P.rcvds; sents = λ m hm. P.sents m hm ∙ sent-sum d w m; stops = P.stops }

  module _ (s : Step) where
    module _ (e : silent s ≡ true) where
      quiet-goes : step_fault 1 d w s ≡ 0 → (step_fault 2 d v s ≡ 0) × SoAgree d (stepped 1 d w s) (stepped 2 d v s)
      quiet-goes h =
          let T = forward 1 d K w v X s h in
          subst (λ (t : Step). (step_fault 2 d v t ≡ 0) × SoAgree d (stepped 1 d w s) (stepped 2 d v t)) (tagged-silent 1 d s e) (T.accepted, so_agree T.pictured)

      quiet_back : step_fault 2 d v s ≡ 0 → step_fault 1 d w s ≡ 0
      quiet_back h = subst (λ (t : Step). step_fault 1 d w t ≡ 0) (lowest-silent 1 d s w e) (backward 1 d K w v X s h).accepted

    module _ (e : silent s ≡ false) where
      -- the only tag of both is the step's own source
      tag-goes : s.source ≡ 0 → (tag : ℕ) → tag < 2 → step_fault 1 d w (with_source s tag) ≡ 0
          → (step_fault 2 d v s ≡ 0) × SoAgree d (stepped 1 d w (with_source s tag)) (stepped 2 d v s)
      tag-goes q tag l h =
          let t = with_source s tag in
          let T = forward 1 d K w v X t h in
          let g : silent t ≡ false = ap (λ (b : Bool). eqb s.type 255 && b) (ne_eqb tag 255 (omega arith)) ∙ and-false (eqb s.type 255) in
          let f : tagged 1 d t ≡ s = tagged-message 1 d t g ∙ ap (with_source s) (tag_only 0 d.boards tag ∙ sym q) in
          subst (λ (x : Step). (step_fault 2 d v x ≡ 0) × SoAgree d (stepped 1 d w t) (stepped 2 d v x)) f (T.accepted, so_agree T.pictured)

      tag_back : step_fault 2 d v s ≡ 0 → (step_fault 1 d w (with_source s 0) ≡ 0) ⊎ (step_fault 1 d w (with_source s 1) ≡ 0)
      tag_back h =
          go (low_sender 1 d w s) (low_is 1 d K w v X s (heard_by 2 d v s e h) e).below
          (subst (λ (t : Step). step_fault 1 d w t ≡ 0) (lowest-message 1 d s w e) (backward 1 d K w v X s h).accepted)
        where
          go : (q : ℕ) → q < 2 → step_fault 1 d w (with_source s q) ≡ 0 → (step_fault 1 d w (with_source s 0) ≡ 0) ⊎ (step_fault 1 d w (with_source s 1) ≡ 0)
          go zero l z = inl z
          go (suc zero) l z = inr z
          go (suc (suc q)) l z = absurd (omega arith)

    plain_step : PlainStep d w v s
    plain_step = record {
      quiet_there = λ e h. (quiet-goes e h).0;
      quiet_back = quiet_back;
      quiet_after = λ e h. (quiet-goes e (quiet_back e h)).1;
      tag_there = λ e q tag l h. (tag-goes e q tag l h).0;
      tag_back = tag_back;
      tag_after = λ e q tag l h. (tag-goes e q tag l h).1;
    }

-- ---- the tag that is taken
tag-taken : (d : Design) (w : List ℕ) (s : Step) → s.source ≡ 0 → TagTaken d w s
unfolding low_sender least tag_of
tag-taken d w s e = record { correct = λ a. rw (e, a); faulty = λ a b. rw (e, a, b) }

pub plain_counter : PlainCounter
plain_counter = record {
  steps = λ b standing w v z R S A s. plain_step (design_in b standing) (kept (table_in_use b standing) b (read_by b standing refl z refl)) w v (pictured b standing z w v R S A) s;
  tags = tag-taken;
}
