-- Q-4: Figure 1's own counter against the counting form. From reached configurations that so agree, a step in form 2 is accepted
-- exactly when one of the two tags (the same step, if it has no message) is accepted by the counting form, and states, sums of the
-- two counts, sent counts and stopped boards agree after every step; and translation from form 2 takes the correct tag where that is in transit,
-- otherwise the faulty one. Proofs: proofs/Plain.antt.
use Rattle.std.specs.Prelude.{◌≡◌, ◌⊎◌, Bool, true, false, List, ℕ, ◌+◌, ◌<◌}
use Rattle.bundle.specs.Refusals.{read_fault}
use Rattle.paper.specs.Paper.{Design, Step, silent}
use Rattle.paper.specs.Words.{state}
use Rattle.paper.specs.Step.{column_of, rcvd_in, sent_in, step_fault, stepped, stopped_in}
use Rattle.paper.specs.Run.{run}
use Rattle.agree.specs.Translation.{with_source, low_sender}
use Rattle.engine.specs.Design.{design_in}
use Rattle.claims.specs.Agreed.{begin_in}

-- the words w are reached in form k: some schedule runs from the bundle's starts to them
pub record Reached (k : ℕ) (b standing w : List ℕ) : Type 0 where
  pub steps : List Step
  pub runs : (run k (design_in b standing) (begin_in k b standing) steps).refusal ≡ 0
  pub words : (run k (design_in b standing) (begin_in k b standing) steps).left ≡ w

-- counting words w and plain words v so agree
pub record SoAgree (d : Design) (w v : List ℕ) : Type 0 where
  pub states : (p : ℕ) → p < d.boards → state v p ≡ state w p
  pub sums : (p m : ℕ) → p < d.boards → m < d.types → rcvd_in 2 d v p m ≡ (rcvd_in 1 d w p m).correct + (rcvd_in 1 d w p m).faulty
  pub sents : (m : ℕ) → m < d.types → sent_in 2 d v m ≡ (sent_in 1 d w m).correct
  pub stops : stopped_in 2 d v ≡ stopped_in 1 d w

-- a step s in form 2, from there
pub record PlainStep (d : Design) (w v : List ℕ) (s : Step) : Type 0 where
  -- without a message: accepted exactly when the same step is
  pub quiet_there : silent s ≡ true → step_fault 1 d w s ≡ 0 → step_fault 2 d v s ≡ 0
  pub quiet_back : silent s ≡ true → step_fault 2 d v s ≡ 0 → step_fault 1 d w s ≡ 0
  pub quiet_after : silent s ≡ true → step_fault 2 d v s ≡ 0 → SoAgree d (stepped 1 d w s) (stepped 2 d v s)
  -- with one, from the only source: accepted exactly when one of the two tags is, and whichever it is, they agree afterwards
  pub tag_there : silent s ≡ false → s.source ≡ 0 → (tag : ℕ) → tag < 2 → step_fault 1 d w (with_source s tag) ≡ 0 → step_fault 2 d v s ≡ 0
  pub tag_back : silent s ≡ false → step_fault 2 d v s ≡ 0 → (step_fault 1 d w (with_source s 0) ≡ 0) ⊎ (step_fault 1 d w (with_source s 1) ≡ 0)
  pub tag_after : silent s ≡ false → s.source ≡ 0 → (tag : ℕ) → tag < 2 → step_fault 1 d w (with_source s tag) ≡ 0 → SoAgree d (stepped 1 d w (with_source s tag)) (stepped 2 d v s)

-- the tag that translation takes for a message of form 2, in counting words w
abbrev pub moving : Design → List ℕ → Step → ℕ → Bool
moving d w s tag = (column_of 1 d).in_transit tag (rcvd_in 1 d w s.board s.type) (sent_in 1 d w s.type)

pub record TagTaken (d : Design) (w : List ℕ) (s : Step) : Type 0 where
  pub correct : moving d w s 0 ≡ true → low_sender 1 d w s ≡ 0
  pub faulty : moving d w s 0 ≡ false → moving d w s 1 ≡ true → low_sender 1 d w s ≡ 1

pub record PlainCounter : Type 0 where
  pub steps : (b standing w v : List ℕ) → (read_fault b standing).number ≡ 0 → Reached 1 b standing w → Reached 2 b standing v → SoAgree (design_in b standing) w v
      → (s : Step) → PlainStep (design_in b standing) w v s
  pub tags : (d : Design) (w : List ℕ) (s : Step) → s.source ≡ 0 → TagTaken d w s
