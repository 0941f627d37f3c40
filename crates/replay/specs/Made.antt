-- The bundle that a log makes of one without steps (Q-6, "a message-form bundle made from a bundle without steps and the log").
use Rattle.std.specs.Prelude.{List, ◌++◌, ℕ, ◌+◌, ◌*◌, length, take, drop}
use Rattle.fault.specs.Bytes.{trailer_of, two_bytes, step_bytes}
use Rattle.bundle.specs.Bundle.{step_distance, start_distance}
use Rattle.paper.specs.Paper.{Step}
use Rattle.schedule.specs.Records.{bytes_of}

-- the trailer with both distances raised
unfoldable pub raised : List ℕ → ℕ → List ℕ
raised b more = two_bytes (step_distance b + more) (two_bytes (start_distance b + more) (drop (trailer_of b + 4) b))

-- the steps stand before the trailer, whose distances are raised by their bytes; all else is the same
unfoldable pub made : List ℕ → List Step → List ℕ
made b ss = take (trailer_of b) b ++ (bytes_of ss ++ raised b (length ss * step_bytes))
