-- Q-6, for the call `replay`, whatever the bundle, the standing table, the log and what is lent: which lines are right, what each refusal says and leaves,
-- what the written bundle is and does, and that a bundle comes back from its log. Proofs: proofs/Replay.antt.
use Rattle.std.specs.Prelude.{◌≡◌, true, false, List, ◌++◌, ℕ, ◌+◌, ◌*◌, ◌≤◌, ◌<◌, length, take, drop}
use Rattle.fault.specs.Bytes.{byte_at, trailer_of, two_bytes, step_bytes}
use Rattle.fault.specs.declared.Answer.{Answer}
use Rattle.bundle.specs.Bundle.{n_of, t_of, f_of, form_of, correct_of, table_in_use, starts_of, steps_at}
use Rattle.bundle.specs.Refusals.{read_fault}
use Rattle.service_log.specs.Line.{log_of, AllSayable}
use Rattle.service_log.specs.Lines.{Wrong, TooLong, Sound, Exact}
use Rattle.engine.specs.Entry.{schedule_of, run_answer, run_words}
use Rattle.translate.specs.Entry.{translation_of, no_other}
use Rattle.paper.specs.Paper.{Step}
use Rattle.replay.specs.Made as replay
use Rattle.replay.specs.Entry.{not_empty, made_of, no_room, replay_answer, replay_bytes, replay_words}
use Rattle.claims.specs.Demand1.{Runs, OfStep, room_in}
use Rattle.claims.specs.Demand2.{BundleMoves}
use Rattle.claims.specs.Demand3.{Translated, SideBySide, Refuses}

-- no step was looked at: the refusal is neither 0 nor a step's
pub record Before (a : Answer) : Type 0 where
  pub some : a.refusal ≡ 0 → ⊥
  pub no_step : OfStep a.refusal → ⊥

-- steps were looked at: there is no refusal, or a step's
pub data Stepped (a : Answer) : Type 0 where
  all : a.refusal ≡ 0 → Stepped a
  up_to : OfStep a.refusal → Stepped a

-- ---- the bundle c that the log makes of b, with the answer a, the bytes and the words that are left
pub record Made (b standing log out words : List ℕ) (a : Answer) (u w c : List ℕ) : Type 0 where
  -- it is written, and the bytes past it stay
  pub written : u ≡ c ++ drop (length c) out
  pub long : length c ≡ length b + length (schedule_of c) * step_bytes
  -- the given table, starts, n, t, f and form 0; its schedule is the log's
  pub table : table_in_use c standing ≡ table_in_use b standing
  pub starts : starts_of c ≡ starts_of b
  pub n : n_of c ≡ n_of b
  pub t : t_of c ≡ t_of b
  pub f : f_of c ≡ f_of b
  pub form : form_of c ≡ 0
  pub schedule : log ≡ log_of (schedule_of c)
  -- answer and words are those of its run, which is one of moves (demand 2)
  pub answer : a ≡ run_answer c standing (length words)
  pub left : w ≡ run_words c standing words
  pub read : (read_fault c standing).number ≡ 0
  pub moves : BundleMoves c standing
  -- where the replay answers 0, its translation to each other form is written and runs, alike after every step (demand 3); to counting form with equal
  -- states, correct counts, faulty counts and sent counts
  pub runs : a.refusal ≡ 0 → Runs c standing
  pub translated : a.refusal ≡ 0 → (k : ℕ) → no_other c k ≡ false → Translated c standing k (translation_of c standing k)
  pub side_by_side : a.refusal ≡ 0 → SideBySide c standing (translation_of c standing 1)
  -- where it answers a step's refusal, translation gives the same number and place
  pub refused : OfStep a.refusal → (k : ℕ) (to : List ℕ) → no_other c k ≡ false → length c ≤ length to → Refuses c standing k to a

-- ---- a bundle without its steps
unfoldable pub emptied : List ℕ → List ℕ
emptied b = take (steps_at b) b ++ two_bytes 0 (two_bytes (correct_of b) (drop (trailer_of b + 4) b))

-- the log of a bundle's schedule, replayed over the bundle without its steps
pub record Back (b standing out words : List ℕ) (a : Answer) (u w : List ℕ) : Type 0 where
  pub bytes : u ≡ b ++ drop (length b) out
  pub answer : a ≡ run_answer b standing (length words)
  pub left : w ≡ run_words b standing words

-- the answer of a refusal, with its place, before a step is looked at
abbrev pub refusal_at : ℕ → ℕ → Answer
refusal_at k p = record { refusal = k; place = p; count = 0 }

pub record Replay : Type 0 where
  -- a line is right exactly when it is the text of a step that a line can say; 50's line is the first that is not, 51's one too many
  pub lines : Exact
  -- what reading refuses comes first; then 52; then 50 or 51, each exactly there
  pub reading : (b standing log : List ℕ) (bytes words : ℕ) → ((read_fault b standing).number ≡ 0 → ⊥) → replay_answer b standing log bytes words ≡ refusal_at (read_fault b standing).number (read_fault b standing).place
  pub has_steps : (b standing log : List ℕ) (bytes words : ℕ) → (read_fault b standing).number ≡ 0 → not_empty b ≡ true → replay_answer b standing log bytes words ≡ refusal_at 52 0
  pub wrong_line : (b standing log : List ℕ) (bytes words p : ℕ) → (read_fault b standing).number ≡ 0 → not_empty b ≡ false → Wrong log p → replay_answer b standing log bytes words ≡ refusal_at 50 p
  pub too_long : (b standing log : List ℕ) (bytes words p : ℕ) → (read_fault b standing).number ≡ 0 → not_empty b ≡ false → TooLong log p → replay_answer b standing log bytes words ≡ refusal_at 51 p
  pub fifty : (b standing log : List ℕ) (bytes words : ℕ) → (replay_answer b standing log bytes words).refusal ≡ 50 → Wrong log (replay_answer b standing log bytes words).place
  pub fifty_one : (b standing log : List ℕ) (bytes words : ℕ) → (replay_answer b standing log bytes words).refusal ≡ 51 → TooLong log (replay_answer b standing log bytes words).place
  -- a refusal before a step is looked at changes neither buffer and counts 0
  pub unchanged : (b standing log out words : List ℕ) → Before (replay_answer b standing log (length out) (length words))
      → (replay_bytes b standing log out (length words) ≡ out) × (replay_words b standing log (length out) words ≡ words) × ((replay_answer b standing log (length out) (length words)).count ≡ 0)
  -- from then on
  pub made : (b standing log out words : List ℕ) → Stepped (replay_answer b standing log (length out) (length words))
      → Made b standing log out words (replay_answer b standing log (length out) (length words)) (replay_bytes b standing log out (length words)) (replay_words b standing log (length out) words) (made_of b log)
  -- 30 exactly where all else is right and one of the buffers is short
  pub short : (b standing log : List ℕ) (bytes words : ℕ) (ss : List Step) → (read_fault b standing).number ≡ 0 → not_empty b ≡ false → Sound log ss
      → no_room b standing log bytes words ≡ true → replay_answer b standing log bytes words ≡ refusal_at 30 0
  pub enough : (b standing log : List ℕ) (bytes words : ℕ) (ss : List Step) → (read_fault b standing).number ≡ 0 → not_empty b ≡ false → Sound log ss
      → no_room b standing log bytes words ≡ false → replay_answer b standing log bytes words ≡ run_answer (replay.made b ss) standing words
  -- there and back: a message bundle of bytes that is read and whose steps lines can say, with room in both buffers
  pub back : (b standing out words : List ℕ) → ((i : ℕ) → byte_at b i < 256) → (read_fault b standing).number ≡ 0 → form_of b ≡ 0 → AllSayable (schedule_of b) → length b ≤ length out → room_in b standing ≤ length words
      → Back b standing out words (replay_answer (emptied b) standing (log_of (schedule_of b)) (length out) (length words)) (replay_bytes (emptied b) standing (log_of (schedule_of b)) out (length words))
      (replay_words (emptied b) standing (log_of (schedule_of b)) (length out) words)
