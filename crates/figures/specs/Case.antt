-- A figure: what the definitions come to for one input, as a case; and that every case of a list holds.
use Rattle.std.specs.Prelude.{◌≡◌, List, [], ◌∷◌, ◌++◌, ℕ, ◌+◌, length, replicate, ℤ}
use Rattle.threshold.specs.declared.Weights.{Weights}
use Rattle.threshold.specs.Threshold.{threshold_of}
use Rattle.fault.specs.Fault.{verdict}
use Rattle.bundle.specs.Refusals.{read_fault}
use Rattle.rules.specs.Design.{threshold_for}
use Rattle.engine.specs.Entry.{run_answer, run_words}
use Rattle.translate.specs.Entry.{translate_answer, translate_bytes, translate_to_answer, translate_to_bytes}
use Rattle.first_step.specs.declared.First.{First}
use Rattle.first_step.specs.Entry.{first_answer}
use Rattle.service_log.specs.Lines.{fault_from}
use Rattle.replay.specs.Entry.{replay_answer, replay_bytes, replay_words}
use Rattle.drawing.specs.Entry.{draw_answer, draw_bytes, undraw_answer, undraw_bytes}
use Rattle.editions.specs.Entry.{to_second_answer, to_second_bytes, to_first_answer, to_first_bytes}
use Rattle.search.specs.Entry.{search_answer, search_bytes}
use Rattle.counted.specs.Entry.{counted_answer}
use Rattle.lists.specs.Entry.{list_answer}

pub data Case : Type 0 where
  -- a, b, d and e at n and t come to the threshold z
  comes_to : Weights → ℕ → ℕ → ℤ → Case
  -- a rule of a table asks, for a type at n and t, for the threshold z
  asks : List ℕ → ℕ → ℕ → ℕ → ℕ → ℤ → Case
  -- a bundle beside a standing table is read with this refusal and place
  reads : List ℕ → List ℕ → ℕ → ℕ → Case
  -- a run of a bundle beside a standing table answers refusal, place and steps, and leaves these words in as many lent ones
  runs : List ℕ → List ℕ → ℕ → ℕ → ℕ → List ℕ → Case
  -- a translation of a bundle beside a standing table answers refusal, place and bytes written, and leaves these bytes in as many lent ones
  translates : List ℕ → List ℕ → ℕ → ℕ → ℕ → List ℕ → Case
  -- the same, to a form that is asked for
  translates_to : List ℕ → List ℕ → ℕ → ℕ → ℕ → ℕ → List ℕ → Case
  -- the first-step question on a bundle beside a standing table has this answer
  first_of : List ℕ → List ℕ → First → Case
  -- drawing a table answers refusal, place and bytes written, and leaves these bytes in as many lent ones; and so undrawing a text
  draws : List ℕ → ℕ → ℕ → ℕ → List ℕ → Case
  undraws : List ℕ → ℕ → ℕ → ℕ → List ℕ → Case
  -- moving a table to the second edition answers refusal, place and bytes written, and leaves these bytes in as many lent ones; and so to the first
  to_second : List ℕ → ℕ → ℕ → ℕ → List ℕ → Case
  to_first : List ℕ → ℕ → ℕ → ℕ → List ℕ → Case
  -- replaying a log over a bundle beside a standing table answers refusal, place and steps, and leaves these bytes and words in as many lent ones
  replays : List ℕ → List ℕ → List ℕ → ℕ → ℕ → ℕ → List ℕ → List ℕ → Case
  -- from line i on, with room for n more lines, a log is refused with this number and place
  judges : ℕ → ℕ → List ℕ → ℕ → ℕ → Case
  -- a search from where a bundle's schedule ends, beside a standing table, so deep and with such a budget, answers refusal, place, outcome and number tried, and
  -- leaves these bytes in as many lent ones
  searches : List ℕ → List ℕ → ℕ → ℕ → ℕ → ℕ → ℕ → ℕ → List ℕ → Case
  -- a run of a bundle beside a standing table in so many lent words answers refusal, place and steps, and has had so many receipts and sends
  counts : List ℕ → List ℕ → ℕ → ℕ → ℕ → ℕ → ℕ → ℕ → Case
  -- a check of a list of words for a bundle beside a standing table answers refusal, place and number of configurations
  checks : List ℕ → List ℕ → List ℕ → ℕ → ℕ → ℕ → Case

abbrev pub Holds : Case → Type 0
Holds (comes_to w n t z) = threshold_of w n t ≡ z
Holds (asks table r m n t z) = threshold_for table r m n t ≡ z
Holds (reads b standing k p) = read_fault b standing ≡ verdict k p
Holds (runs b standing k p i words) =
    (run_answer b standing (length words) ≡ record { refusal = k; place = p; count = i }) × (run_words b standing (replicate (length words) 9) ≡ words)
Holds (translates b standing k p n bytes) =
    (translate_answer b standing (length bytes) ≡ record { refusal = k; place = p; count = n }) × (translate_bytes b standing (replicate (length bytes) 9) ≡ bytes)
Holds (translates_to b standing form k p n bytes) =
    (translate_to_answer b standing form (length bytes) ≡ record { refusal = k; place = p; count = n }) × (translate_to_bytes b standing form (replicate (length bytes) 9) ≡ bytes)
Holds (first_of b standing answer) = first_answer b standing ≡ answer
Holds (draws s k p n bytes) =
    (draw_answer s (length bytes) ≡ record { refusal = k; place = p; count = n }) × (draw_bytes s (replicate (length bytes) 9) ≡ bytes)
Holds (undraws t k p n bytes) =
    (undraw_answer t (length bytes) ≡ record { refusal = k; place = p; count = n }) × (undraw_bytes t (replicate (length bytes) 9) ≡ bytes)
Holds (to_second s k p n bytes) =
    (to_second_answer s (length bytes) ≡ record { refusal = k; place = p; count = n }) × (to_second_bytes s (replicate (length bytes) 9) ≡ bytes)
Holds (to_first s k p n bytes) =
    (to_first_answer s (length bytes) ≡ record { refusal = k; place = p; count = n }) × (to_first_bytes s (replicate (length bytes) 9) ≡ bytes)
Holds (replays b standing log k p i bytes words) =
    (replay_answer b standing log (length bytes) (length words) ≡ record { refusal = k; place = p; count = i }) × (replay_bytes b standing log (replicate (length bytes) 9) (length words) ≡ bytes) × (replay_words b standing log (length bytes) (replicate (length words) 9) ≡ words)
Holds (judges n i log k p) = fault_from n i log ≡ verdict k p
Holds (searches b standing depth budget k p o n bytes) =
    (search_answer b standing depth budget (length bytes) ≡ record { refusal = k; place = p; outcome = o; tried = n }) × (search_bytes b standing depth budget (replicate (length bytes) 9) ≡ bytes)
Holds (counts b standing lent k p i r n) = counted_answer b standing lent ≡ record { answer = record { refusal = k; place = p; count = i }; receipts = r; sends = n }
Holds (checks b standing l k p n) = list_answer b standing l ≡ record { refusal = k; place = p; count = n }

abbrev pub Every : List Case → Type 0
Every [] = Unit {0}
Every (c ∷ cs) = Holds c × Every cs

-- a schedule part: start bytes, step bytes and the trailer
abbrev pub schedule_in : ℕ → List ℕ → List ℕ → ℕ → ℕ → ℕ → List ℕ
schedule_in form starts steps n t f = starts ++ (steps ++ (length steps ∷ 0 ∷ (length steps + length starts) ∷ 0 ∷ n ∷ t ∷ f ∷ form ∷ []))

abbrev pub schedule : List ℕ → List ℕ → ℕ → ℕ → ℕ → List ℕ
schedule = schedule_in 0
