-- What a bundle that is not refused gives to the stages above, with its table in use. They follow from `read_fault`: proofs/BundleLaws.antt.
use Rattle.std.specs.Prelude.{◌≡◌, true, List, ℕ, ◌+◌, ◌*◌, ◌%◌, ◌≤◌, ◌<◌, length}
use Rattle.fault.specs.Bytes.{byte_at, trailer_of, trailer_bytes, step_bytes, most_step_bytes}
use Rattle.table.specs.Table.{states_of, factor_of, initial_of}
use Rattle.table.specs.Facts.{WellFormed}
use Rattle.senders.specs.Set.{most_boards, most_tolerated}
use Rattle.bundle.specs.Bundle.{step_distance, start_distance, n_of, t_of, f_of, form_of, correct_of, front_length, starts_of, steps_at, steps_of, most_form}

-- its trailer lies inside (refusals 10 and 11)
pub record Trailed (b : List ℕ) : Type 0 where
  pub long : trailer_bytes ≤ length b
  pub inside : start_distance b + trailer_bytes ≤ length b

-- its numbers (refusal 12)
pub record Admitted (k : ℕ) (b : List ℕ) : Type 0 where
  pub some_board : 1 ≤ n_of b
  pub few_boards : n_of b ≤ most_boards
  pub enough : k * t_of b < n_of b
  pub faulty : f_of b ≤ t_of b
  pub form : form_of b ≤ most_form

-- its parts (refusal 13)
pub record Parted (b : List ℕ) : Type 0 where
  pub whole_steps : step_distance b % step_bytes ≡ 0
  pub few_steps : step_distance b ≤ most_step_bytes
  pub starts_first : start_distance b ≡ step_distance b + correct_of b
  pub starts_inside : front_length b + correct_of b ≤ length b
  pub steps_last : steps_at b + step_distance b ≡ trailer_of b
  pub starts_long : length (starts_of b) ≡ correct_of b
  pub steps_long : length (steps_of b) ≡ step_distance b

-- a start byte (refusal 14)
pub record StartFits (table : List ℕ) (start : ℕ) : Type 0 where
  pub state : start < states_of table
  pub initial : initial_of table start ≡ true

pub record Read (table b : List ℕ) : Type 0 where
  pub formed : WellFormed table
  pub trailed : Trailed b
  pub admitted : Admitted (factor_of table) b
  pub parted : Parted b
  pub start : (p : ℕ) → p < correct_of b → StartFits table (byte_at (starts_of b) p)
  -- what n > k·t and f ≤ t come to
  pub few_tolerated : t_of b ≤ most_tolerated
  pub some_correct : 1 ≤ correct_of b
  pub all : correct_of b + f_of b ≡ n_of b
