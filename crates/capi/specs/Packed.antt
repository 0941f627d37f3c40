-- The one number that an exported function answers (crates/capi/macaroosh.h, "Packed" and "A packed step"), and that nothing is lost in it,
-- a place of 2^24 or more aside (`capped`). The proof of the last is `nothing_lost` of proofs/PackedLaws.antt.
use Rattle.std.specs.Prelude.{◌≡◌, List, ℕ, ◌+◌, ◌-◌, ◌*◌, ◌/◌, ◌%◌, ◌^◌, ◌≤◌, ◌<◌, eqb, length}
use Rattle.fault.specs.Tests.{◌below◌, ◌differs◌}
use Rattle.fault.specs.Fault.{◌if◌else◌}
use Rattle.fault.specs.declared.Answer.{Answer}
use Rattle.engine.specs.Entry.{run_answer}
use Rattle.translate.specs.Entry.{translate_to_answer}
use Rattle.drawing.specs.Entry.{draw_answer, undraw_answer}
use Rattle.editions.specs.Entry.{to_second_answer, to_first_answer}
use Rattle.first_step.specs.declared.First.{First}
use Rattle.first_step.specs.Entry.{first_answer}
use Rattle.replay.specs.Entry.{replay_answer}
use Rattle.counted.specs.declared.Counted.{Counted}
use Rattle.counted.specs.Entry.{counted_answer}
use Rattle.search.specs.declared.Searched.{Searched}
use Rattle.search.specs.Entry.{search_answer}
use Rattle.lists.specs.Entry.{list_answer}

-- ---- an answer: the refusal in bits 0 to 7, the place in bits 8 to 31, the count in bits 32 to 63
abbrev pub packed : Answer → ℕ
packed a = a.refusal + 2 ^ 8 * a.place + 2 ^ 32 * a.count

-- an answer whose place has room: one that has not is given as the largest that has
unfoldable pub capped : Answer → Answer
capped a = record { refusal = a.refusal; place = a.place if a.place below 2 ^ 24 else 2 ^ 24 - 1; count = a.count }

-- the answer of a run that is counted: receipts + 65,536 · sends is its count, and both are read back from it
abbrev pub receipts_answer : Counted → Answer
receipts_answer a = record { refusal = a.answer.refusal; place = a.answer.place; count = a.receipts + 65536 * a.sends }

abbrev pub receipts_in : ℕ → ℕ
receipts_in count = count % 65536

abbrev pub sends_in : ℕ → ℕ
sends_in count = count / 65536

-- the answer of a search: the outcome is its count; the number tried has a place of its own
abbrev pub outcome_answer : Searched → Answer
outcome_answer a = record { refusal = a.refusal; place = a.place; count = a.outcome }

-- the answer that stands in these bits
abbrev pub answer_in : ℕ → Answer
answer_in x = record { refusal = x % 2 ^ 8; place = x / 2 ^ 8 % 2 ^ 24; count = x / 2 ^ 32 }

-- each number has room in its bits
pub record Fits (a : Answer) : Type 0 where
  pub refusal : a.refusal < 2 ^ 8
  pub place : a.place < 2 ^ 24
  pub count : a.count < 2 ^ 32

-- ---- a first step: the refusal in bits 0 to 7, the place in bits 8 to 23; bit 24 is 1 where a step is given, and then bits 32 to 63
-- are its four bytes, board lowest, then rule, type, source; all are 0 where there is none
abbrev pub packed_first : First → ℕ
packed_first (First.Refused k p) = k + 2 ^ 8 * p
packed_first First.Nothing = 0
packed_first (First.Step b r m q) = 2 ^ 24 + 2 ^ 32 * (b + 2 ^ 8 * r + 2 ^ 16 * m + 2 ^ 24 * q)

-- the first step that stands in these bits
unfoldable pub first_in : ℕ → First
first_in x =
    First.Step (x / 2 ^ 32 % 2 ^ 8) (x / 2 ^ 40 % 2 ^ 8) (x / 2 ^ 48 % 2 ^ 8) (x / 2 ^ 56) if eqb (x / 2 ^ 24 % 2) 1 else
    First.Refused (x % 2 ^ 8) (x / 2 ^ 8 % 2 ^ 16) if x % 2 ^ 8 differs 0 else
    First.Nothing

-- each number has room in its bits, and a refusal is not 0
abbrev pub FirstFits : First → Type 0
FirstFits (First.Refused k p) = (1 ≤ k) × (k < 2 ^ 8) × (p < 2 ^ 16)
FirstFits First.Nothing = Unit {0}
FirstFits (First.Step b r m q) = (b < 2 ^ 8) × (r < 2 ^ 8) × (m < 2 ^ 8) × (q < 2 ^ 8)

-- ---- nothing is lost: whatever fits is read back from its number, and every answer fits, that of `undraw` once it is capped
pub record NothingLost : Type 0 where
  pub answer_back : (a : Answer) → Fits a → answer_in (packed a) ≡ a
  pub first_back : (f : First) → FirstFits f → first_in (packed_first f) ≡ f
  pub run_fits : (b standing : List ℕ) (lent : ℕ) → Fits (run_answer b standing lent)
  pub translate_fits : (b standing : List ℕ) (k lent : ℕ) → Fits (translate_to_answer b standing k lent)
  pub draw_fits : (s : List ℕ) (lent : ℕ) → Fits (draw_answer s lent)
  -- a text under 2^24 bytes has no place that is capped
  pub undraw_fits : (t : List ℕ) (lent : ℕ) → Fits (capped (undraw_answer t lent))
  pub undraw_whole : (t : List ℕ) (lent : ℕ) → 64 + length t < 2 ^ 24 → capped (undraw_answer t lent) ≡ undraw_answer t lent
  pub to_second_fits : (s : List ℕ) (lent : ℕ) → Fits (to_second_answer s lent)
  pub to_first_fits : (s : List ℕ) (lent : ℕ) → Fits (to_first_answer s lent)
  pub replay_fits : (b standing log : List ℕ) (bytes words : ℕ) → Fits (replay_answer b standing log bytes words)
  pub search_fits : (b standing : List ℕ) (depth budget lent : ℕ) → Fits (outcome_answer (search_answer b standing depth budget lent))
  pub receipts_fit : (b standing : List ℕ) (lent : ℕ) → Fits (receipts_answer (counted_answer b standing lent))
  pub receipts_back : (b standing : List ℕ) (lent : ℕ) → (receipts_in (receipts_answer (counted_answer b standing lent)).count ≡ (counted_answer b standing lent).receipts) × (sends_in (receipts_answer (counted_answer b standing lent)).count ≡ (counted_answer b standing lent).sends)
  pub list_fits : (b standing l : List ℕ) → Fits (list_answer b standing l)
  pub first_fits : (b standing : List ℕ) → FirstFits (first_answer b standing)
