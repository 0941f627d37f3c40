-- Q-9, "Search a few steps deep", for the call `search`, whatever the bundle, the standing table, the depth, the budget and the lent bytes: which refusal comes
-- when and what it leaves; and without one, when the answer is a schedule, and which; when it is none, in all forms; and when the budget is spent.
-- Proofs: proofs/Search.antt, proofs/SearchOrder.antt, proofs/SearchForms.antt.
use Rattle.std.specs.Prelude.{◌≡◌, false, List, [], ◌∷◌, ◌++◌, ℕ, ◌*◌, ◌≤◌, ◌<◌, length, take, drop}
use Rattle.fault.specs.Bytes.{step_bytes}
use Rattle.bundle.specs.Bundle.{form_of}
use Rattle.bundle.specs.Refusals.{read_fault}
use Rattle.paper.specs.Paper.{Design, Step}
use Rattle.paper.specs.Order.{is_wait}
use Rattle.stops.specs.Stops.{NoStops}
use Rattle.schedule.specs.Records.{bytes_of}
use Rattle.words.specs.Facts.{most_words}
use Rattle.engine.specs.Design.{sizes_in, design_in}
use Rattle.engine.specs.Entry.{ran_of, run_answer}
use Rattle.translate.specs.Entry.{translation_of}
use Rattle.tries.specs.Tries.{In}
use Rattle.search.specs.declared.Searched.{Searched}
use Rattle.search.specs.Walk.{walk, never}
use Rattle.search.specs.Found.{Reaches}
use Rattle.search.specs.Entry.{most_depth, tried_in, search_answer, search_bytes}
use Rattle.claims.specs.Demand1.{Runs}
use Rattle.claims.specs.Demand3.{Translated}
use Rattle.claims.specs.FirstStep.{Earlier}

-- ---- from the configuration after a bundle's whole schedule, in the bundle's own form
-- the steps ss, whatever they are, waits too, are accepted, and some board is then in an accepting state
abbrev pub ReachesFrom : List ℕ → List ℕ → List Step → Type 0
ReachesFrom b standing ss = Reaches (sizes_in b standing).level (design_in b standing) (ran_of b standing).left ss

-- no schedule of at most so many steps does that
abbrev pub Unreached : List ℕ → List ℕ → ℕ → Type 0
Unreached b standing depth = (ss : List Step) → length ss ≤ depth → ReachesFrom b standing ss → ⊥

-- some schedule of so many steps does
pub record ReachedIn (b standing : List ℕ) (many : ℕ) : Type 0 where
  pub steps : List Step
  pub long : length steps ≡ many
  pub reaches : ReachesFrom b standing steps

-- how many the whole walk tries, which has no budget, up to where it stops: at what it finds, or at its end
abbrev pub whole_tries : List ℕ → List ℕ → ℕ → ℕ
whole_tries b standing depth = tried_in (walk (design_in b standing) never depth (ran_of b standing).left 0)

-- ---- the order of schedules: by the first step in which they differ, in the order of the first-step question; a shorter one before its longer forms
pub data Before : List Step → List Step → Type 0 where
  shorter : {t : Step} {ts : List Step} → Before [] (t ∷ ts)
  earlier : {s t : Step} {ss ts : List Step} → Earlier s t → Before (s ∷ ss) (t ∷ ts)
  later : {s : Step} {ss ts : List Step} → Before ss ts → Before (s ∷ ss) (s ∷ ts)

abbrev pub NoWaits : Design → List Step → Type 0
NoWaits d ss = (s : Step) → In s ss → is_wait d s ≡ false

-- ---- a call, with its answer a and the bytes u that it leaves of those lent
-- all is right: the bundle runs, in counting form, and at most 8 steps are asked for, for which there is room
pub record Asked (b standing : List ℕ) (depth lent : ℕ) : Type 0 where
  pub runs : Runs b standing
  pub counting : form_of b ≡ 1
  pub few : depth ≤ most_depth
  pub room : depth * step_bytes ≤ lent

abbrev pub refusal_at : ℕ → ℕ → Searched
refusal_at k p = record { refusal = k; place = p; outcome = 0; tried = 0 }

pub record Refusals (b standing : List ℕ) (depth : ℕ) (out : List ℕ) (a : Searched) (u : List ℕ) : Type 0 where
  -- what reading refuses comes first, with its place
  pub reading : ((read_fault b standing).number ≡ 0 → ⊥) → a ≡ refusal_at (read_fault b standing).number (read_fault b standing).place
  -- then 34, exactly if the depth is over 8
  pub deep : (read_fault b standing).number ≡ 0 → most_depth < depth → a ≡ refusal_at 34 0
  pub deep_only : a.refusal ≡ 34 → most_depth < depth
  -- then 35, exactly if the bundle is not in counting form
  pub form : (read_fault b standing).number ≡ 0 → depth ≤ most_depth → (form_of b ≡ 1 → ⊥) → a ≡ refusal_at 35 0
  pub form_only : a.refusal ≡ 35 → form_of b ≡ 1 → ⊥
  -- then 30, exactly if fewer bytes are lent than so many steps have, wherever the schedule ends
  pub room : (read_fault b standing).number ≡ 0 → depth ≤ most_depth → form_of b ≡ 1 → length out < depth * step_bytes → a ≡ refusal_at 30 0
  pub room_only : a.refusal ≡ 30 → length out < depth * step_bytes
  -- then what `run` refuses, with its place, in words that are enough
  pub step : (read_fault b standing).number ≡ 0 → depth ≤ most_depth → form_of b ≡ 1 → depth * step_bytes ≤ length out → (words : ℕ) → most_words ≤ words → ((run_answer b standing words).refusal ≡ 0 → ⊥)
      → a ≡ refusal_at (run_answer b standing words).refusal (run_answer b standing words).place
  -- and else nothing
  pub asked : Asked b standing depth (length out) → (a.refusal ≡ 0) × (a.place ≡ 0)
  pub asked_only : a.refusal ≡ 0 → Asked b standing depth (length out)
  -- with any refusal the outcome and the number tried are 0, and no byte changes
  pub nothing : (a.refusal ≡ 0 → ⊥) → (a.outcome ≡ 0) × (a.tried ≡ 0) × (u ≡ out)

-- ---- a schedule is found: so many steps as the outcome says
pub record FoundFrom (b standing : List ℕ) (depth : ℕ) (out : List ℕ) (a : Searched) (u : List ℕ) : Type 0 where
  pub steps : List Step
  pub long : length steps ≡ a.outcome
  pub few : length steps ≤ depth
  -- its steps' bytes are written, and the bytes past them stay
  pub written : u ≡ bytes_of steps ++ drop (length steps * step_bytes) out
  -- it runs and ends with a board in an accepting state, and no shorter beginning of it does
  pub reaches : ReachesFrom b standing steps
  pub no_shorter : (i : ℕ) → i < length steps → ReachesFrom b standing (take i steps) → ⊥
  -- it has no waits and no stops, and of the schedules without these that do so none comes before it
  pub no_waits : NoWaits (design_in b standing) steps
  pub no_stops : NoStops steps
  pub first : (ss : List Step) → length ss ≤ depth → NoWaits (design_in b standing) ss → NoStops ss → ReachesFrom b standing ss → Before ss steps → ⊥

-- the outcomes that there are
pub data Outcome (depth : ℕ) : ℕ → Type 0 where
  found : {k : ℕ} → k ≤ depth → Outcome depth k
  none : Outcome depth 16
  spent : Outcome depth 17

-- ---- without a refusal
pub record Answers (b standing : List ℕ) (depth budget : ℕ) (out : List ℕ) (a : Searched) (u : List ℕ) : Type 0 where
  pub outcomes : Outcome depth a.outcome
  -- an end that accepts already needs no step
  pub already : ReachesFrom b standing [] → (a.outcome ≡ 0) × (a.tried ≡ 0) × (u ≡ out)
  -- 0 to 8: a schedule of so many steps
  pub found : a.outcome ≤ most_depth → FoundFrom b standing depth out a u
  -- 16, none: exactly if the whole walk tries no more than the budget and there is no schedule
  pub none : a.outcome ≡ 16 → (whole_tries b standing depth ≤ budget) × (Unreached b standing depth)
  pub none_only : whole_tries b standing depth ≤ budget → Unreached b standing depth → a.outcome ≡ 16
  -- by the agreement of the forms exactly if there is none in form k: from where the bundle's translation ends, which `translate_to` writes; in form 1 the bundle itself
  pub none_in : a.outcome ≡ 16 → (k : ℕ) → k ≤ 2 → Unreached (translation_of b standing k) standing depth
  pub none_in_only : whole_tries b standing depth ≤ budget → (k : ℕ) → k ≤ 2 → Unreached (translation_of b standing k) standing depth → a.outcome ≡ 16
  pub translated : (k : ℕ) → k ≤ 2 → (k ≡ 1 → ⊥) → Translated b standing k (translation_of b standing k)
  pub own : translation_of b standing 1 ≡ b
  -- 17, spent: exactly if the end does not accept and the whole walk tries more than the budget; then as many were tried
  pub spent : a.outcome ≡ 17 → (ReachesFrom b standing [] → ⊥) × (budget < whole_tries b standing depth) × (a.tried ≡ budget)
  pub spent_only : (ReachesFrom b standing [] → ⊥) → budget < whole_tries b standing depth → a.outcome ≡ 17
  -- else as many were tried as the whole walk tries; never more than the budget
  pub tried : (ReachesFrom b standing [] → ⊥) → (a.outcome ≡ 17 → ⊥) → a.tried ≡ whole_tries b standing depth
  pub within : a.tried ≤ budget
  -- with none and spent no byte changes, and none is lost where a schedule is found
  pub kept : most_depth < a.outcome → u ≡ out
  pub lent : length u ≡ length out

pub record Q9 : Type 0 where
  pub refusals : (b standing : List ℕ) (depth budget : ℕ) (out : List ℕ)
      → Refusals b standing depth out (search_answer b standing depth budget (length out)) (search_bytes b standing depth budget out)
  pub answers : (b standing : List ℕ) (depth budget : ℕ) (out : List ℕ) → (search_answer b standing depth budget (length out)).refusal ≡ 0
      → Answers b standing depth budget out (search_answer b standing depth budget (length out)) (search_bytes b standing depth budget out)
  -- for every bundle that runs: what so many steps reach in one form, as many reach in each other
  pub forms : (b standing : List ℕ) → Runs b standing → (j k : ℕ) → j ≤ 2 → k ≤ 2 → (ss : List Step) → ReachesFrom (translation_of b standing j) standing ss
      → ReachedIn (translation_of b standing k) standing (length ss)
