-- The paper's Definition 3.3, on words, for two neighbouring levels: the words v of level j + 1 are the picture of the words w of level j.
-- From sets to two counts it is the paper's own; from two counts to one it is the same with their sum (Q-4).
use Rattle.std.specs.Prelude.{◌≡◌, true, false, List, ℕ, zero, suc, ◌+◌, ◌≤◌, ◌<◌, length}
use Rattle.senders.specs.Set.{mem, correct_count, faulty_count}
use Rattle.paper.specs.Paper.{Design, Conf, column, no_message}
use Rattle.paper.specs.Words.{size, state}
use Rattle.paper.specs.Form.{wide}
use Rattle.paper.specs.Step.{column_of, rcvd_in, sent_in, stopped_in, view}

-- what an accepted table gives: no type is the byte of no message, and a rule forgets nothing that was sent
pub record Remembers (d : Design) : Type 0 where
  pub few : d.types ≤ no_message
  pub keeps : (r m : ℕ) → r < d.rules → m < d.types → d.has_sent (d.from r) m ≡ true → d.has_sent (d.to r) m ≡ true

-- the picture of a collection: of a set, how many of it are correct and how many faulty; of two counts, their sum
abbrev pub picture : (j C f : ℕ) → (column j C f).Coll → (column (suc j) C f).Coll
picture zero C f M = record { correct = correct_count C M; faulty = faulty_count C f M }
picture (suc zero) C f c = c.correct + c.faulty
picture (suc (suc j)) C f c = c

abbrev pub picture_of : (j : ℕ) (d : Design) → (column_of j d).Coll → (column_of (suc j) d).Coll
picture_of j d M = picture j d.boards d.faulty M

-- ---- what a level keeps, whatever steps are accepted
-- of what was received of a type, against what was sent of it: what came from correct processes was sent, and the rest is from faulty
-- ones (point 7); so by number, where none that is faulty was sent (point 5); and for the plain count by their sum
abbrev pub Within : (k C f : ℕ) → (column k C f).Coll → (column k C f).Coll → Type 0
Within zero C f M S = ((q : ℕ) → q < C → mem M q ≡ true → mem S q ≡ true) × ((q : ℕ) → C + f ≤ q → mem M q ≡ false)
Within (suc zero) C f c c' = (c.correct ≤ c'.correct) × (c.faulty ≤ f) × (c'.faulty ≡ 0)
Within (suc (suc k)) C f c c' = c ≤ c' + f

-- of what was sent of a type m, which only sets tell: only correct processes have sent (point 6), and who has is told by its control
-- state (point 8)
abbrev pub Told : (k : ℕ) (d : Design) → Conf (column_of k d).Coll → ℕ → Type 0
Told zero d σ m = ((q : ℕ) → d.boards ≤ q → mem (σ.sent m) q ≡ false) × ((p : ℕ) → p < d.boards → mem (σ.sent m) p ≡ d.has_sent (σ.pc p) m)
Told (suc k) d σ m = Unit {0}

pub record Sound (k : ℕ) (d : Design) (σ : Conf (column_of k d).Coll) : Type 0 where
  pub within : (p m : ℕ) → p < d.boards → m < d.types → Within k d.boards d.faulty (σ.rcvd p m) (σ.sent m)
  pub told : (m : ℕ) → m < d.types → Told k d σ m

-- ---- the picture
pub record Pictured (j : ℕ) (d : Design) (w v : List ℕ) : Type 0 where
  pub fine_long : length w ≡ size d.boards d.types (wide j)
  pub coarse_long : length v ≡ size d.boards d.types (wide (suc j))
  -- 1: the control states are the same
  pub states : (p : ℕ) → p < d.boards → state v p ≡ state w p
  -- 2, 3: the received counts are those of the sets, or their sums
  pub rcvds : (p m : ℕ) → p < d.boards → m < d.types → rcvd_in (suc j) d v p m ≡ picture_of j d (rcvd_in j d w p m)
  -- 4, 5: so are the sent ones, none of which is faulty
  pub sents : (m : ℕ) → m < d.types → sent_in (suc j) d v m ≡ picture_of j d (sent_in j d w m)
  -- the same boards are stopped (Q-11)
  pub stops : stopped_in (suc j) d v ≡ stopped_in j d w
  -- 6 to 8: what level j keeps
  pub sound : Sound j d (view j d w)
