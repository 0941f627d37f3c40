-- The first possible step (outline, "First possible step"; Q-2, Q-11): none exactly when no step but waits and stops is accepted; what is found is accepted and
-- neither, and nothing earlier is: for all words of all levels, and for bundles as the call sees them. And in neighbouring forms it is the same
-- step, translated. Proofs: proofs/FirstStep.antt, proofs/FirstCall.antt, proofs/FirstAgreed.antt.
use Rattle.std.specs.Prelude.{◌≡◌, true, false, List, ℕ, suc, ◌≤◌, ◌<◌}
use Rattle.paper.specs.Paper.{Design, Step, silent, stop_rule, is_stop}
use Rattle.paper.specs.Step.{step_fault}
use Rattle.agree.specs.Translation.{tagged, lowest}
use Rattle.paper.specs.Order.{none, found, is_wait, first}
use Rattle.words.specs.Facts.{most_words}
use Rattle.engine.specs.Design.{sizes_in, design_in}
use Rattle.engine.specs.Entry.{ran_of, run_answer}
use Rattle.first_step.specs.declared.First.{First}
use Rattle.first_step.specs.Entry.{given_by, first_answer}
use Rattle.claims.specs.Demand1.{Runs}

-- ---- the outline's order: by board, then rule, then no message before type 0, 1, .. and source 0, 1, .. within a type
pub data EarlierMessage (s t : Step) : Type 0 where
  no_message : silent s ≡ true → silent t ≡ false → EarlierMessage s t
  lower_type : silent s ≡ false → silent t ≡ false → s.type < t.type → EarlierMessage s t
  lower_source : silent s ≡ false → silent t ≡ false → s.type ≡ t.type → s.source < t.source → EarlierMessage s t

pub data Earlier (s t : Step) : Type 0 where
  lower_board : s.board < t.board → Earlier s t
  lower_rule : s.board ≡ t.board → s.rule < t.rule → Earlier s t
  message : s.board ≡ t.board → s.rule ≡ t.rule → EarlierMessage s t → Earlier s t

pub record FirstPossible (k : ℕ) (d : Design) (w : List ℕ) : Type 0 where
  -- none exactly when no step but waits and stops is accepted
  pub none_possible : first k d w ≡ none → (s : Step) → step_fault k d w s ≡ 0 → is_stop s ≡ false → is_wait d s ≡ true
  pub nothing_else : ((s : Step) → step_fault k d w s ≡ 0 → is_stop s ≡ false → is_wait d s ≡ true) → first k d w ≡ none
  -- the found one is accepted, no wait and no stop, and no earlier one is
  pub accepted : (s : Step) → first k d w ≡ found s → step_fault k d w s ≡ 0
  pub no_wait : (s : Step) → first k d w ≡ found s → is_wait d s ≡ false
  pub no_stop : (s : Step) → first k d w ≡ found s → is_stop s ≡ false
  pub earliest : (s : Step) → first k d w ≡ found s → (t : Step) → Earlier t s → step_fault k d w t ≡ 0 → is_stop t ≡ false → is_wait d t ≡ true

-- ---- the call, of a bundle beside its standing table, with the answer a
-- after the whole schedule, a step is accepted; and nothing but waits and stops is
abbrev pub Accepted : List ℕ → List ℕ → Step → Type 0
Accepted b standing s = step_fault (sizes_in b standing).level (design_in b standing) (ran_of b standing).left s ≡ 0

abbrev pub OnlyWaits : List ℕ → List ℕ → Type 0
OnlyWaits b standing = (s : Step) → Accepted b standing s → is_stop s ≡ false → is_wait (design_in b standing) s ≡ true

pub record FirstOf (b standing : List ℕ) (a : First) : Type 0 where
  -- refusal and place are those that `run` gives in the most words; with a refusal there is no record
  pub refusal : (lent : ℕ) → most_words ≤ lent → (given_by a).refusal ≡ (run_answer b standing lent).refusal
  pub place : (lent : ℕ) → most_words ≤ lent → (given_by a).place ≡ (run_answer b standing lent).place
  pub none_refused : ((given_by a).refusal ≡ 0 → ⊥) → (given_by a).step ≡ none
  -- Nothing exactly when the bundle runs and after its whole schedule nothing but waits and stops is accepted
  pub nothing_runs : a ≡ First.Nothing → Runs b standing
  pub nothing_waits : a ≡ First.Nothing → OnlyWaits b standing
  pub nothing : Runs b standing → OnlyWaits b standing → a ≡ First.Nothing
  -- a step that is named comes after a bundle that runs, is accepted, no wait and no stop, and no earlier one is
  pub step_runs : (s : Step) → (given_by a).step ≡ found s → Runs b standing
  pub accepted : (s : Step) → (given_by a).step ≡ found s → Accepted b standing s
  pub no_wait : (s : Step) → (given_by a).step ≡ found s → is_wait (design_in b standing) s ≡ false
  pub no_stop : (s : Step) → (given_by a).step ≡ found s → is_stop s ≡ false
  pub earliest : (s : Step) → (given_by a).step ≡ found s → (t : Step) → Earlier t s → Accepted b standing t → is_stop t ≡ false → is_wait (design_in b standing) t ≡ true

pub record FirstStep : Type 0 where
  -- of every design of which no rule has the number of a stop, as a table's has none
  pub words : (k : ℕ) (d : Design) (w : List ℕ) → d.rules ≤ stop_rule → FirstPossible k d w
  pub bundles : (b standing : List ℕ) → FirstOf b standing (first_answer b standing)

-- ---- words w of form j and their picture v: the first step of one form is that of the other, translated, or both have none
pub record FirstAgreed (j : ℕ) (d : Design) (w v : List ℕ) : Type 0 where
  pub there : (s : Step) → first j d w ≡ found s → first (suc j) d v ≡ found (tagged j d s)
  pub back : (s : Step) → first (suc j) d v ≡ found s → first j d w ≡ found (lowest j d w s)
  pub none_there : first j d w ≡ none → first (suc j) d v ≡ none
  pub none_back : first (suc j) d v ≡ none → first j d w ≡ none
