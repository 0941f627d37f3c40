-- Lines of a drawing: what a reader knows where it stands.
use Rattle.std.specs.Prelude.{◌≡◌, true, false, Result, Ok, Err, List, [], ◌∷◌, ℕ, ◌+◌, ◌≤◌, length}
use Rattle.fault.specs.Fault.{◌if◌else◌}
use Rattle.fault.specs.declared.refusals.Refused.{Refused}
use Rattle.fault.specs.declared.refusals.Refusal.TheVariants.{NoDrawing}
use Rattle.table.specs.Table.{records_bytes}
use Rattle.ink.specs.Ink.{stored}
use Rattle.decimal.specs.Numbers.{text}
use Rattle.dot.specs.Plan.{Item, num, one, kind, cell, plan, lines, state_line, rule_line, ending, name}
use Rattle.dot.specs.Reading.{none, Gathered, put, new_state, new_rule, ended, Outcome, drawn, fault, reading}
use Rattle.drawing.specs.declared.Cursor.{Cursor}
use Rattle.drawing.specs.declared.Reader.{Reader}
use Rattle.drawing.specs.Cursor.{from, reached}

-- the reader's counts are those of what has been read, whose bytes stand in `out` so far as they fit; and o tells how reading goes on
pub record Known (t : List ℕ) (g : Reader) (out : List ℕ) (o : Gathered → Outcome) : Type 0 where
  pub read : Gathered
  pub types_are : read.types ≡ g.types
  pub factor_is : read.factor ≡ g.factor
  pub states_are : read.states ≡ g.states
  pub rules_are : read.rules ≡ g.rules
  pub made_is : length read.body ≡ g.made
  pub sum : g.made ≡ records_bytes g.states g.rules g.types
  pub first : List ℕ
  pub kept : out ≡ stored first 0 read.body
  pub few : g.types ≤ 255
  pub bytes_fit : g.made ≤ g.place
  pub lines_fit : g.states + g.rules ≤ g.place
  pub goes : reading t ≡ o read

-- ---- how reading goes on: at the start of a line, or at the end
unfoldable pub on_lines : List ℕ → Reader → Gathered → Outcome
on_lines t g r = drawn r if g.ended else from t g.place lines r none

-- after a line's first name v
unfoldable pub on_name : List ℕ → ℕ → ℕ → Gathered → Outcome
on_name t i v r = from t i (one kind ∷ []) (put name v r) none

unfoldable pub on_state : List ℕ → ℕ → ℕ → Gathered → Outcome
on_state t i v r = from t i state_line (new_state (put name v r)) none

unfoldable pub on_rule : List ℕ → ℕ → ℕ → Gathered → Outcome
on_rule t i v r = from t i (rule_line r.types) (new_rule (put name v r)) none

unfoldable pub on_end : List ℕ → ℕ → Gathered → Outcome
on_end t i r = from t i ending r none

-- d stands after an arrow from state v, which began before i, and has the number it leads to; both are put into `out` at n
pub record Arrow (t : List ℕ) (i v : ℕ) (d : Cursor) (n : ℕ) (out left : List ℕ) : Type 0 where
  pub within : d.place ≤ length t
  pub onward : i ≤ d.place
  pub further : d.stuck ≡ false → i + 1 ≤ d.place
  pub bytes_put : left ≡ stored out n (v ∷ d.value ∷ [])
  pub on : (k : List Item) (r : Gathered) → ended k ≡ false → from t i (plan (text ">~s") (num cell ∷ k)) r none ≡ reached t d k (put cell d.value r)

-- no drawing goes on at the place of e
pub record NoneAt (e : Refused) (o : Outcome) : Type 0 where
  pub fails : o ≡ fault e.place
  pub refusal : e.refusal ≡ NoDrawing

-- h stands after a line that began at i
pub record StoodAt (t : List ℕ) (i : ℕ) (h : Reader) (out : List ℕ) : Type 0 where
  pub within : h.place ≤ length t
  pub onward : i ≤ h.place
  pub further : h.ended ≡ false → i + 1 ≤ h.place
  pub knows : Known t h out (on_lines t h)

abbrev pub Stood : List ℕ → ℕ → Result Reader Refused → List ℕ → Type 0
Stood t i (Ok h) out = StoodAt t i h out
Stood t i (Err e) out = NoneAt e (reading t) × (e.place ≤ length t) × (i ≤ e.place)

-- g stands after the header, with whatever bytes lent
pub record HeadedAt (t : List ℕ) (g : Reader) : Type 0 where
  pub within : g.place ≤ length t
  pub knows : (out : List ℕ) → Known t g out (on_lines t g)

abbrev pub Headed : List ℕ → Result Reader Refused → Type 0
Headed t (Ok g) = HeadedAt t g
Headed t (Err e) = NoneAt e (reading t) × (e.place ≤ length t)

-- h stands after the closing bracket, which ends before i
pub record ClosedAt (t : List ℕ) (g : Reader) (i : ℕ) (h : Reader) : Type 0 where
  pub within : h.place ≤ length t
  pub onward : i ≤ h.place
  pub last : h.ended ≡ true
  pub ends : (out : List ℕ) → Known t g out (on_end t i) → Known t h out (on_lines t h)

abbrev pub Closed : List ℕ → Reader → ℕ → Result Reader Refused → Type 0
Closed t g i (Ok h) = ClosedAt t g i h
Closed t g i (Err e) = ((r : Gathered) → NoneAt e (on_end t i r)) × (e.place ≤ length t) × (i ≤ e.place)

-- g stands at the end of the text; or no drawing goes on where the refusal says
abbrev pub Finished : List ℕ → Result Reader Refused → List ℕ → Type 0
Finished t (Ok g) out = Known t g out drawn
Finished t (Err e) out = NoneAt e (reading t)
