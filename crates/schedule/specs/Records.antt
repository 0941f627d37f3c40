-- A schedule's steps and their records, 4 bytes each: board, rule, type, source (outline, "Bundle layout", schedule part).
use Rattle.std.specs.Prelude.{◌≡◌, List, [], ◌∷◌, ℕ, ◌+◌, ◌*◌, ◌/◌, ◌≤◌, length, set}
use Rattle.fault.specs.Bytes.{byte_at, step_bytes, most_step_bytes}
use Rattle.fault.specs.Tests.{◌below◌}
use Rattle.fault.specs.Fault.{◌if◌else◌}
use Rattle.paper.specs.Paper.{Step}
use Rattle.schedule.specs.declared.Step as declared

-- what the code's struct says
abbrev pub meant : declared.Step → Step
meant x = record { board = x.board; rule = x.rule; type = x.mtype; source = x.source }

-- the step that record i of the step bytes names
abbrev pub record_at : List ℕ → ℕ → Step
record_at bytes i = record { board = byte_at bytes (i * 4); rule = byte_at bytes (i * 4 + 1); type = byte_at bytes (i * 4 + 2); source = byte_at bytes (i * 4 + 3) }

-- the steps that bytes hold
unfoldable pub steps_in : List ℕ → List Step
steps_in [] = []
steps_in (p ∷ []) = []
steps_in (p ∷ r ∷ []) = []
steps_in (p ∷ r ∷ m ∷ []) = []
steps_in (p ∷ r ∷ m ∷ q ∷ bytes) = record { board = p; rule = r; type = m; source = q } ∷ steps_in bytes

-- the records of a schedule
unfoldable pub bytes_of : List Step → List ℕ
bytes_of [] = []
bytes_of (s ∷ ss) = s.board ∷ s.rule ∷ s.type ∷ s.source ∷ bytes_of ss

-- the step bytes with the step s as record i
abbrev pub with_record : List ℕ → ℕ → Step → List ℕ
with_record bytes i s = set (set (set (set bytes (i * 4) s.board) (i * 4 + 1) s.rule) (i * 4 + 2) s.type) (i * 4 + 3) s.source

-- the same, if it fits
unfoldable pub put_record : List ℕ → ℕ → Step → List ℕ
put_record bytes i s = with_record bytes i s if i * 4 + 3 below length bytes else bytes

-- steps put one after the other from record i on, so far as they fit
unfoldable pub put_from : ℕ → List Step → List ℕ → List ℕ
put_from i [] bytes = bytes
put_from i (s ∷ ss) bytes = put_from (i + 1) ss (put_record bytes i s)

-- the step bytes are whole records, and no more than a schedule has
pub record Records (steps : List ℕ) : Type 0 where
  pub few : length steps ≤ most_step_bytes
  pub whole : length steps ≡ length steps / step_bytes * step_bytes
