-- Reading a text piece by piece: each piece of code says from where, and with what read, reading goes on to the same outcome.
use Rattle.std.specs.Prelude.{◌≡◌, Bool, true, false, ◌&&◌, List, [], ◌∷◌, ◌++◌, ℕ, ◌+◌, ◌≤◌, ◌<◌, eqb, length, drop}
use Rattle.fault.specs.Fault.{◌if◌else◌}
use Rattle.decimal.specs.Numbers.{text}
use Rattle.decimal.specs.Digits.{peeked}
use Rattle.ink.specs.Ink.{stored}
use Rattle.dot.specs.declared.Shape.{Shape}
use Rattle.dot.specs.Text.{is_blank, joint_at}
use Rattle.dot.specs.Plan.{Slot, cell_of, Item, gap, num, plan, bytes, numbers}
use Rattle.dot.specs.Reading.{Num, none, some, begun, can_minus, Gathered, put, ended, Outcome, fault, shifted, run}
use Rattle.drawing.specs.declared.Cursor.{Cursor}

-- ---- reading on
-- the outcome from byte i on
unfoldable pub from : List ℕ → ℕ → List Item → Gathered → Num → Outcome
from t i k r x = shifted i (run (drop i t) k r x)

-- the outcome from where a cursor stands
unfoldable pub reached : List ℕ → Cursor → List Item → Gathered → Outcome
reached t c k r = fault c.place if c.stuck else from t c.place k r none

-- ---- bytes
-- the byte x is what the code c of a quoted plan asks for, a gap aside
unfoldable pub asked : ℕ → ℕ → Bool
asked c x = is_blank x if eqb c 95 else eqb x c

-- ---- pieces
-- the blanks of a gap from i end before j
pub record Skipped (t : List ℕ) (i j : ℕ) : Type 0 where
  pub within : j ≤ length t
  pub onward : i ≤ j
  pub on : (k : List Item) (r : Gathered) → from t i (gap ∷ k) r none ≡ from t j k r none

-- d stands after the plan w, or where it can't be followed
pub record Followed (t : List ℕ) (c : Cursor) (w : List ℕ) (d : Cursor) : Type 0 where
  pub within : d.place ≤ length t
  pub free : d.stuck ≡ false → c.stuck ≡ false
  pub onward : c.place ≤ d.place
  pub on : (k : List Item) (r : Gathered) → reached t c (plan w k) r ≡ reached t d k r

-- d stands after a number, signed or not, whose byte it has
pub record Counted (t : List ℕ) (c : Cursor) (signed : Bool) (d : Cursor) : Type 0 where
  pub within : d.place ≤ length t
  pub free : d.stuck ≡ false → c.stuck ≡ false
  pub onward : c.place ≤ d.place
  pub further : d.stuck ≡ false → c.place + 1 ≤ d.place
  pub small : d.value < 256
  pub on : (s : Slot) (k : List Item) (r : Gathered) → can_minus s ≡ signed → ended k ≡ false →
      reached t c (num s ∷ k) r ≡ reached t d k (put s d.value r)

-- a number's digits are to come at i: after its minus, or where no minus stands
pub record Begun (t : List ℕ) (i : ℕ) (signed neg : Bool) : Type 0 where
  pub can : neg ≡ true → signed ≡ true
  pub plain : neg ≡ false → (signed && eqb (peeked t i) 45) ≡ false

-- d stands after its digits
pub record Digits (t : List ℕ) (i : ℕ) (signed neg : Bool) (d : Cursor) : Type 0 where
  pub within : d.place ≤ length t
  pub onward : i ≤ d.place
  pub further : d.stuck ≡ false → i + 1 ≤ d.place
  pub small : d.value < 256
  pub on : (s : Slot) (k : List Item) (r : Gathered) → can_minus s ≡ signed → ended k ≡ false →
      from t i (num s ∷ k) r (begun neg) ≡ reached t d k (put s d.value r)

-- d stands after the rest of its digits
pub record RestOfDigits (t : List ℕ) (i v : ℕ) (signed neg : Bool) (d : Cursor) : Type 0 where
  pub within : d.place ≤ length t
  pub onward : i ≤ d.place
  pub small : d.value < 256
  pub on : (s : Slot) (k : List Item) (r : Gathered) → can_minus s ≡ signed → ended k ≡ false →
      from t i (num s ∷ k) r (some neg v) ≡ reached t d k (put s d.value r)

-- ---- labels
-- what has been read, with more bytes of the records
abbrev pub more : List ℕ → Gathered → Gathered
more w r = record { types = r.types; factor = r.factor; states = r.states; rules = r.rules; last = r.last; body = r.body ++ w }

-- a label of g numbers and the end of its line, and then k
abbrev pub label_then : Shape → ℕ → List Item → List Item
label_then shape g k = plan (text "~label~=~\"") (numbers shape g 0 (plan (text "\"~]~;") k))

-- d stands after number j of a label, at place i of its group, whose byte it has
pub record Numbered (t : List ℕ) (c : Cursor) (j i : ℕ) (signed : Bool) (d : Cursor) : Type 0 where
  pub within : d.place ≤ length t
  pub free : d.stuck ≡ false → c.stuck ≡ false
  pub onward : c.place ≤ d.place
  pub further : d.stuck ≡ false → c.place + 1 ≤ d.place
  pub small : d.value < 256
  pub on : (k : List Item) (r : Gathered) → ended k ≡ false →
      reached t c (bytes (joint_at j i) (num (cell_of signed) ∷ k)) r ≡ reached t d k (more (d.value ∷ []) r)

-- d stands after a piece of plan that has g numbers, and their bytes are put into `out` from n on
pub record Labelled (t : List ℕ) (c : Cursor) (g : ℕ) (piece : List Item → List Item) (d : Cursor) (n : ℕ) (out left : List ℕ) : Type 0 where
  pub within : d.place ≤ length t
  pub free : d.stuck ≡ false → c.stuck ≡ false
  pub onward : c.place ≤ d.place
  pub further : d.stuck ≡ false → c.place + g ≤ d.place
  pub values : List ℕ
  pub count : length values ≡ g
  pub bytes_put : left ≡ stored out n values
  pub on : (k : List Item) (r : Gathered) → ended k ≡ false → reached t c (piece k) r ≡ reached t d k (more values r)
