-- What `replay` answers and leaves, for every bundle, standing table, log and lent memory (Q-6, "Refusals, after 14: 52 .. 50 .. 51 .. 30 .. then a step's").
use Rattle.std.specs.Prelude.{Bool, ◌||◌, List, ◌++◌, ℕ, ◌+◌, ◌*◌, length, drop}
use Rattle.fault.specs.Bytes.{step_bytes}
use Rattle.fault.specs.Tests.{◌below◌, ◌differs◌}
use Rattle.fault.specs.Fault.{fine, refused, nothing_done, ◌if◌else◌, ◌▹◌}
use Rattle.fault.specs.Fault.{Verdict}
use Rattle.fault.specs.declared.Answer.{Answer}
use Rattle.bundle.specs.Bundle.{step_distance, form_of}
use Rattle.bundle.specs.Refusals.{read_fault}
use Rattle.words.specs.Words.{room_of}
use Rattle.service_log.specs.Lines.{log_fault, log_steps}
use Rattle.engine.specs.Design.{sizes_in}
use Rattle.engine.specs.Entry.{run_answer, run_words}
use Rattle.replay.specs.Made.{made}

-- 52: the bundle has steps, or is not in message form
unfoldable pub not_empty : List ℕ → Bool
not_empty b = step_distance b differs 0 || form_of b differs 0

-- the bundle that the log makes
abbrev pub made_of : List ℕ → List ℕ → List ℕ
made_of b log = made b (log_steps log)

-- 30: lent bytes fewer than that bundle has, or lent words fewer than its configuration
unfoldable pub no_room : List ℕ → List ℕ → List ℕ → ℕ → ℕ → Bool
no_room b standing log bytes words = bytes below length b + length (log_steps log) * step_bytes || words below room_of (sizes_in b standing)

-- all that is refused before a step is looked at
unfoldable pub replay_fault : List ℕ → List ℕ → List ℕ → ℕ → ℕ → Verdict
replay_fault b standing log bytes words =
    read_fault b standing ▹
    refused 52 if not_empty b else
    log_fault log ▹
    refused 30 if no_room b standing log bytes words else
    fine

-- refusal, place, steps accepted: the run's of that bundle
unfoldable pub replay_answer : List ℕ → List ℕ → List ℕ → ℕ → ℕ → Answer
replay_answer b standing log bytes words =
    nothing_done (replay_fault b standing log bytes words) if (replay_fault b standing log bytes words).number differs 0 else
    run_answer (made_of b log) standing words

-- the bytes: that bundle, and those past it as they were
unfoldable pub replay_bytes : List ℕ → List ℕ → List ℕ → List ℕ → ℕ → List ℕ
replay_bytes b standing log out words =
    out if (replay_fault b standing log (length out) words).number differs 0 else
    made_of b log ++ drop (length (made_of b log)) out

-- the words: what the run of that bundle leaves
unfoldable pub replay_words : List ℕ → List ℕ → List ℕ → ℕ → List ℕ → List ℕ
replay_words b standing log bytes words =
    words if (replay_fault b standing log bytes (length words)).number differs 0 else
    run_words (made_of b log) standing words
