-- What may stand in a drawing (Q-1, "exactly what we write", and blanks "between tokens"), as plans: lists of items, each of which says what
-- text may stand there.
use Rattle.std.specs.Prelude.{ℕ, zero, suc, ◌+◌, List, [], ◌∷◌, Bool, true, false, cond, eqb}
use Rattle.layout.specs.Layout.{weight_bytes}
use Rattle.table.specs.Table.{state_bytes}
use Rattle.decimal.specs.Numbers.{text}
use Rattle.dot.specs.declared.Shape.{Shape}
use Rattle.dot.specs.Text.{state_shape, rule_shape, joint, negative}

-- which number: the types byte, k, the name at a line's start, another that the table has, or a coefficient
pub data Slot : Type 0 where
  types factor name cell coefficient : Slot

-- an item of one byte: this byte; a blank; where a line begins; what follows a line's first name
pub data One : Type 0 where
  byte : ℕ → One
  blank line kind : One

-- any number of blanks, a number, or one byte
pub data Item : Type 0 where
  gap : Item
  num : Slot → Item
  one : One → Item

-- in a quoted plan ~ is a gap and _ a blank that must be
abbrev pub item : ℕ → Item
item c = cond (eqb c 126) gap (cond (eqb c 95) (one blank) (one (byte c)))

abbrev pub plan : List ℕ → List Item → List Item
plan [] k = k
plan (c ∷ w) k = item c ∷ plan w k

-- the bytes of w
abbrev pub bytes : List ℕ → List Item → List Item
bytes [] k = k
bytes (c ∷ w) k = one (byte c) ∷ bytes w k

-- a line, or the end
abbrev pub lines : List Item
lines = gap ∷ one line ∷ []

abbrev pub header : List Item
header = plan (text "~digraph_~t~{~T~=~") (num types ∷ plan (text "~;~k~=~") (num factor ∷ plan (text "~;") lines))

-- after `s`, where a line begins
abbrev pub named : List Item
named = num name ∷ gap ∷ one kind ∷ []

-- a number of a label, by whether it may be below 0
abbrev pub cell_of : Bool → Slot
cell_of true = coefficient
cell_of false = cell

-- the numbers j .. j+g-1 of a label
abbrev pub numbers : Shape → ℕ → ℕ → List Item → List Item
numbers shape zero j k = k
numbers shape (suc g) j k = bytes (joint shape j) (num (cell_of (negative shape j)) ∷ numbers shape g (j + 1) k)

-- after `[`
abbrev pub label : Shape → ℕ → List Item
label shape g = plan (text "~label~=~\"") (numbers shape g 0 (plan (text "\"~]~;") lines))

-- after `name [`
abbrev pub state_line : List Item
state_line = label state_shape state_bytes

-- after `name -`, by the types byte
abbrev pub rule_line : ℕ → List Item
rule_line b = plan (text ">~s") (num cell ∷ plan (text "~[") (label (rule_shape b) (weight_bytes b)))

-- after `}`
abbrev pub ending : List Item
ending = gap ∷ []
