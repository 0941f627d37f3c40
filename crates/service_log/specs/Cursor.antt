-- A log read from a place on: what a line there is, and how the code says so.
use Rattle.std.specs.Prelude.{◌≡◌, List, ℕ, ◌+◌, ◌*◌, ◌≤◌, ◌<◌, length, drop, Option, Some, None, Result, Ok, Err}
use Rattle.fault.specs.Bytes.{byte_at, u16_at}
use Rattle.fault.specs.declared.refusals.Refused.{Refused}
use Rattle.decimal.specs.declared.Number.{Number}
use Rattle.schedule.specs.Records.{meant}
use Rattle.schedule.specs.declared.Step as schedule
use Rattle.service_log.specs.Said.{Said, nothing, said, numbered, said_by}
use Rattle.service_log.specs.declared.Line.{Line}

-- x is the number of the four bytes at i, the first lowest
pub record Four (t : List ℕ) (i x : ℕ) : Type 0 where
  pub is : x ≡ u16_at t i + 65536 * u16_at t (i + 2)
  pub first : byte_at t i < 256
  pub second : byte_at t (i + 1) < 256
  pub third : byte_at t (i + 2) < 256
  pub fourth : byte_at t (i + 2 + 1) < 256

-- after the word w at i, which may be empty, comes a number, whose value n has, and n stands after it
pub record NumberAt (t : List ℕ) (i : ℕ) (w : List ℕ) (n : Number) : Type 0 where
  pub on : (k : ℕ → List ℕ → Said) → numbered w k (drop i t) ≡ k n.value (drop n.place t)
  pub within : n.place ≤ length t
  pub onward : i < n.place
  pub small : n.value ≤ 255

-- it does; or it does not
abbrev pub Numbered : List ℕ → ℕ → List ℕ → Option Number → Type 0
Numbered t i w None = (k : ℕ → List ℕ → Said) → numbered w k (drop i t) ≡ nothing
Numbered t i w (Some n) = NumberAt t i w n

-- the line at i says the step x, and the next begins at j
pub record Says (t : List ℕ) (i : ℕ) (x : schedule.Step) (j : ℕ) : Type 0 where
  pub within : j ≤ length t
  pub onward : i < j
  pub board : x.board ≤ 255
  pub rule : x.rule ≤ 255
  pub type : x.mtype ≤ 255
  pub source : x.source ≤ 255

-- what r tells of the text at i, which comes to o
abbrev pub Tells : List ℕ → ℕ → Said → Option (schedule.Step × ℕ) → Type 0
Tells t i o None = o ≡ nothing
Tells t i o (Some (x, j)) = (o ≡ said (meant x) (drop j t)) × Says t i x j

-- the log ends at i; or a line stands there
abbrev pub Handed : List ℕ → ℕ → Line → Type 0
Handed t i Line.End = length t ≤ i
Handed t i Line.Other = (i < length t) × Tells t i (said_by (drop i t)) None
Handed t i (Line.Said x j) = (i < length t) × Tells t i (said_by (drop i t)) (Some (x, j))

-- how many lines are right before the first that is not: all of them, or as many as stand before that place
abbrev pub right_lines : Result ℕ Refused → ℕ
right_lines (Ok n) = n
right_lines (Err e) = e.place
