-- Q-13, "How many receipts at most": the accepted steps that receive a message and those that send a new type, as the schedule's own steps define them; the same numbers read
-- off the words that a run leaves; and that they never exceed C·T·n and C-as-T; for every level, design and schedule. Proofs: proofs/Receipts.antt.
use Rattle.std.specs.Prelude.{◌≡◌, Bool, false, not, ◌&&◌, List, [], ◌∷◌, map, ℕ, zero, suc, ◌+◌, ◌*◌, ◌≤◌, ◌<◌, length, get_or, take}
use Rattle.senders.specs.Tally.{digit, count, some}
use Rattle.paper.specs.Paper.{Design, Step, silent, is_stop, newly}
use Rattle.paper.specs.Words.{start}
use Rattle.paper.specs.Form.{wide}
use Rattle.paper.specs.Step.{column_of, rcvd_in, sent_in}
use Rattle.paper.specs.Run.{run}
use Rattle.agree.specs.Translation.{tagged, low_all}
use Rattle.agree.specs.Picture.{Remembers}
use Rattle.words.specs.Words.{from_correct}

-- ---- by the steps
-- the step receives a message; an accepted stop has none, nor has a wait
abbrev pub receives : Step → Bool
receives s = not (silent s)

-- it sends a new type: its rule leads to a state that has sent one which the state that it leaves has not; a stop has no rule
abbrev pub sends : Design → Step → Bool
sends d s = not (is_stop s) && some d.types (newly d (d.from s.rule) (d.to s.rule))

-- how many steps of a schedule pass
unfoldable pub tally : (Step → Bool) → List Step → ℕ
tally P [] = 0
tally P (s ∷ ss) = digit (P s) + tally P ss

-- of those that a run accepts
abbrev pub accepted_of : ℕ → Design → List ℕ → List Step → List Step
accepted_of k d w ss = take (run k d w ss).accepted ss

abbrev pub receipts_in : ℕ → Design → List ℕ → List Step → ℕ
receipts_in k d w ss = tally receives (accepted_of k d w ss)

abbrev pub sends_in : ℕ → Design → List ℕ → List Step → ℕ
sends_in k d w ss = tally (sends d) (accepted_of k d w ss)

-- ---- by the words
unfoldable pub sum_below : ℕ → (ℕ → ℕ) → ℕ
sum_below zero g = 0
sum_below (suc k) g = sum_below k g + g k

-- all messages that the boards have received, and all that were sent
abbrev pub received_by : ℕ → Design → List ℕ → ℕ
received_by k d w = sum_below d.boards (λ p. sum_below d.types (λ m. (column_of k d).card (rcvd_in k d w p m)))

abbrev pub sent_by : ℕ → Design → List ℕ → ℕ
sent_by k d w = sum_below d.types (λ m. from_correct k d.boards d.faulty (sent_in k d w m))

-- ---- for all of them
-- what a table that is read promises: no rule forgets a type or sends two, and starts have sent none
pub record Counts (d : Design) (starts : List ℕ) : Type 0 where
  pub remembers : Remembers d
  pub one_new : (r : ℕ) → r < d.rules → count d.types (newly d (d.from r) (d.to r)) ≤ 1
  pub long : length starts ≡ d.boards
  pub fresh : (p m : ℕ) → p < d.boards → m < d.types → d.has_sent (get_or starts p 0) m ≡ false

abbrev pub start_of : ℕ → Design → List ℕ → List ℕ
start_of k d starts = start d.types (wide k) starts

pub record ReceiptLaws : Type 0 where
  -- the numbers stand in the words, whether or not the run ends in a refusal
  pub received : (k : ℕ) (d : Design) (starts : List ℕ) → Counts d starts → (ss : List Step) → received_by k d (run k d (start_of k d starts) ss).left ≡ receipts_in k d (start_of k d starts) ss
  pub sent : (k : ℕ) (d : Design) (starts : List ℕ) → Counts d starts → (ss : List Step) → sent_by k d (run k d (start_of k d starts) ss).left ≡ sends_in k d (start_of k d starts) ss
  -- and never exceed what is known beforehand
  pub few_receipts : (k : ℕ) (d : Design) (starts : List ℕ) → Counts d starts → (ss : List Step) → receipts_in k d (start_of k d starts) ss ≤ d.boards * d.types * (d.boards + d.faulty)
  pub few_sends : (k : ℕ) (d : Design) (starts : List ℕ) → Counts d starts → (ss : List Step) → sends_in k d (start_of k d starts) ss ≤ d.boards * d.types
  -- a schedule that runs has the same receipts and sends as its translation, up and down
  pub up : (j : ℕ) (d : Design) (starts : List ℕ) → Counts d starts → (ss : List Step) → (run j d (start_of j d starts) ss).refusal ≡ 0
      → (receipts_in (suc j) d (start_of (suc j) d starts) (map (tagged j d) ss) ≡ receipts_in j d (start_of j d starts) ss)
      × (sends_in (suc j) d (start_of (suc j) d starts) (map (tagged j d) ss) ≡ sends_in j d (start_of j d starts) ss)
  pub down : (j : ℕ) (d : Design) (starts : List ℕ) → Counts d starts → (ss : List Step) → (run (suc j) d (start_of (suc j) d starts) ss).refusal ≡ 0
      → (receipts_in j d (start_of j d starts) (low_all j d (start_of j d starts) ss) ≡ receipts_in (suc j) d (start_of (suc j) d starts) ss)
      × (sends_in j d (start_of j d starts) (low_all j d (start_of j d starts) ss) ≡ sends_in (suc j) d (start_of (suc j) d starts) ss)
