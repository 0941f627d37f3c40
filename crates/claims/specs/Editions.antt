-- Q-8, "Moving our shelf": there and back are the same bytes, a moved table says the same, and any schedule runs the same on both. Proofs: proofs/Editions.antt.
use Rattle.std.specs.Prelude.{◌≡◌, List, ◌++◌, ℕ, ◌+◌, ◌-◌, ◌≤◌, ◌<◌, length, take, drop}
use Rattle.fault.specs.declared.Answer.{Answer}
use Rattle.layout.specs.Layout.{second}
use Rattle.table.specs.Table.{rules_of, types_byte, types_of, weights_for}
use Rattle.table.specs.Refusals.{table_fault}
use Rattle.bundle.specs.Bundle.{front_length}
use Rattle.ink.specs.Ink.{Gives}
use Rattle.editions.specs.Moved.{moved_to}
use Rattle.editions.specs.Entry.{to_second_answer, to_second_bytes, to_first_answer, to_first_bytes}
use Rattle.rules.specs.Design.{threshold_for}
use Rattle.engine.specs.Entry.{run_answer, run_words}
use Rattle.translate.specs.Entry.{translate_to_answer, translate_to_bytes}
use Rattle.first_step.specs.Entry.{first_answer}
use Rattle.same.specs.Same.{SameTable}
use Rattle.claims.specs.Drawings.{Table}

-- any schedule runs the same on s and s'
pub record SameRuns (s s' : List ℕ) : Type 0 where
  -- a bundle without a table of its own, beside either
  pub run : (b : List ℕ) (lent : ℕ) → front_length b ≡ 0 → run_answer b s lent ≡ run_answer b s' lent
  pub words : (b words : List ℕ) → front_length b ≡ 0 → run_words b s words ≡ run_words b s' words
  pub first : (b : List ℕ) → front_length b ≡ 0 → first_answer b s ≡ first_answer b s'
  pub translate : (b : List ℕ) (form lent : ℕ) → front_length b ≡ 0 → translate_to_answer b s form lent ≡ translate_to_answer b s' form lent
  pub translated : (b : List ℕ) (form : ℕ) (out : List ℕ) → front_length b ≡ 0 → translate_to_bytes b s form out ≡ translate_to_bytes b s' form out
  -- a bundle that carries s in front, and the one with s' in its place; whatever stands beside them
  pub front_run : (b st st' : List ℕ) (lent : ℕ) → take (front_length b) b ≡ s → run_answer b st lent ≡ run_answer (s' ++ drop (front_length b) b) st' lent
  pub front_words : (b st st' words : List ℕ) → take (front_length b) b ≡ s → run_words b st words ≡ run_words (s' ++ drop (front_length b) b) st' words
  pub front_first : (b st st' : List ℕ) → take (front_length b) b ≡ s → first_answer b st ≡ first_answer (s' ++ drop (front_length b) b) st'

-- a call gives s' for s, and another gives s back
pub record Moves (there : ℕ → Answer) (bytes : List ℕ → List ℕ) (back : ℕ → Answer) (bytes_back : List ℕ → List ℕ) (s s' : List ℕ) : Type 0 where
  pub given : Gives 30 there bytes s'
  pub again : Gives 30 back bytes_back s
  -- what is given is a table that says the same: so the same thresholds for all n and t, and the same runs
  pub table : (table_fault s').number ≡ 0
  pub same : SameTable s s'
  pub thresholds : (r m n t : ℕ) → r < rules_of s → m < types_of s → threshold_for s r m n t ≡ threshold_for s' r m n t
  pub runs : SameRuns s s'

-- a refused call changes no byte and counts none
pub record Keeps (answer : ℕ → Answer) (bytes : List ℕ → List ℕ) : Type 0 where
  pub kept : (out : List ℕ) → ((answer (length out)).refusal ≡ 0 → ⊥) → bytes out ≡ out
  pub none : (lent : ℕ) → ((answer lent).refusal ≡ 0 → ⊥) → (answer lent).count ≡ 0

pub record Q8 : Type 0 where
  -- a table of the first edition goes to the second, and comes back
  pub to_second : (s : List ℕ) → Table s → types_byte s < second →
      Moves (to_second_answer s) (to_second_bytes s) (to_first_answer (moved_to (types_byte s + second) s)) (to_first_bytes (moved_to (types_byte s + second) s)) s (moved_to (types_byte s + second) s)
  -- one of the second edition where every e is 1 goes to the first, and comes back
  pub to_first : (s : List ℕ) → Table s → second ≤ types_byte s → ((r m : ℕ) → r < rules_of s → m < types_of s → (weights_for s r m).e ≡ 1) →
      Moves (to_first_answer s) (to_first_bytes s) (to_second_answer (moved_to (types_byte s - second) s)) (to_second_bytes (moved_to (types_byte s - second) s)) s (moved_to (types_byte s - second) s)
  -- refusals
  pub second_keeps : (s : List ℕ) → Keeps (to_second_answer s) (to_second_bytes s)
  pub first_keeps : (s : List ℕ) → Keeps (to_first_answer s) (to_first_bytes s)
