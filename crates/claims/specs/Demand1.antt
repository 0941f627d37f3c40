-- Demand 1, for `run`, whatever the bundle, the standing table and the lent words: a refusal changes no lent word, except that a
-- refused step leaves the configuration of the steps before it; and no word past a configuration's room changes. The other calls have the
-- like in Demand3 (`untouched`) and Drawings (`draw_kept`, `undraw_kept`); the first step is lent nothing. Proofs: proofs/Demand1.antt.
use Rattle.std.specs.Prelude.{◌≡◌, List, ◌++◌, ℕ, ◌≤◌, length, drop}
use Rattle.fault.specs.declared.Answer.{Answer}
use Rattle.bundle.specs.Refusals.{read_fault}
use Rattle.paper.specs.Run.{after}
use Rattle.words.specs.Words.{room_of}
use Rattle.engine.specs.Design.{design_in, sizes_in}
use Rattle.engine.specs.Entry.{start_in, schedule_of, ran_of, ran_answer, run_answer, run_words}
use Rattle.claims.specs.Demand2.{BundleMoves}

-- a bundle runs: it is read, and no step is refused
pub record Runs (b standing : List ℕ) : Type 0 where
  pub read : (read_fault b standing).number ≡ 0
  pub accepted : (ran_of b standing).refusal ≡ 0

-- the words after the first i steps of its schedule
abbrev pub after_in : List ℕ → List ℕ → ℕ → List ℕ
after_in b standing i = after (sizes_in b standing).level (design_in b standing) (start_in (sizes_in b standing) b) (schedule_of b) i

-- how many words its configurations have
abbrev pub room_in : List ℕ → List ℕ → ℕ
room_in b standing = room_of (sizes_in b standing)

-- the refusals of a step (outline, "Numbers given back")
abbrev pub OfStep : ℕ → Type 0
OfStep n = (20 ≤ n) × (n ≤ 27)

-- ---- a run in the words lent, with its answer a and the words u that it leaves
pub record RunOf (b standing lent : List ℕ) (a : Answer) (u : List ℕ) : Type 0 where
  -- any refusal but a step's changes no word and counts 0
  pub unchanged : (a.refusal ≡ 0 → ⊥) → (OfStep a.refusal → ⊥) → u ≡ lent
  pub none_counted : (a.refusal ≡ 0 → ⊥) → (OfStep a.refusal → ⊥) → a.count ≡ 0
  -- a refused step i counts i and leaves the words after i steps
  pub step_counted : OfStep a.refusal → a.count ≡ a.place
  pub step_left : OfStep a.refusal → u ≡ after_in b standing a.place ++ drop (room_in b standing) lent
  -- without a refusal all steps are counted, and the words are those after all of them
  pub all_place : a.refusal ≡ 0 → a.place ≡ 0
  pub all_counted : a.refusal ≡ 0 → a.count ≡ length (schedule_of b)
  pub all_left : a.refusal ≡ 0 → u ≡ after_in b standing (length (schedule_of b)) ++ drop (room_in b standing) lent
  -- words past the room stay, whatever the answer, and none is lost
  pub past : drop (room_in b standing) u ≡ drop (room_in b standing) lent
  pub long : length u ≡ length lent
  -- the answer and the words of a bundle that is read, in enough words, are those of the run that is one of moves (Demand2)
  pub answer_ran : (read_fault b standing).number ≡ 0 → room_in b standing ≤ length lent → a ≡ ran_answer (ran_of b standing)
  pub words_ran : (read_fault b standing).number ≡ 0 → room_in b standing ≤ length lent → u ≡ (ran_of b standing).left ++ drop (room_in b standing) lent
  pub moves : (read_fault b standing).number ≡ 0 → BundleMoves b standing

abbrev pub Demand1 : Type 0
Demand1 = (b standing lent : List ℕ) → RunOf b standing lent (run_answer b standing (length lent)) (run_words b standing lent)
