-- What `draw` and `undraw` answer and leave, for every table, text and lent bytes (Q-1, "Refusals: 60 .. then 2, 4 to 8 .. then
-- 61" and "The writer gives 1 to 8, then 61"; Q-7, "Q-1's drawings .. give 9").
use Rattle.std.specs.Prelude.{List, [], ◌++◌, ℕ}
use Rattle.fault.specs.Fault.{Verdict}
use Rattle.fault.specs.declared.Answer.{Answer}
use Rattle.fault.specs.Fault.{verdict, refused, ◌if◌else◌}
use Rattle.table.specs.Refusals.{counts_outside, table_fault}
use Rattle.layout.specs.Layout.{types_in}
use Rattle.ink.specs.Ink.{given, left}
use Rattle.trailer.specs.Trailer.{trailer_for}
use Rattle.dot.specs.Text.{drawing_of}
use Rattle.dot.specs.Reading.{Gathered, Outcome, drawn, fault, reading}

-- ---- the table that a text draws
-- its records and the trailer
unfoldable pub table_of : Gathered → List ℕ
table_of r = r.body ++ trailer_for r.states r.rules r.types r.factor

-- 60 with the place; then 2; then 4 to 9 as for the table
unfoldable pub drawn_fault : Outcome → Verdict
drawn_fault (fault p) = verdict 60 p
drawn_fault (drawn r) = refused 2 if counts_outside r.states r.rules (types_in r.types) r.factor else table_fault (table_of r)

unfoldable pub drawn_table : Outcome → List ℕ
drawn_table (fault p) = []
drawn_table (drawn r) = table_of r

-- ---- the two calls
unfoldable pub draw_answer : List ℕ → ℕ → Answer
draw_answer s lent = given 61 (table_fault s) (drawing_of s) lent

unfoldable pub draw_bytes : List ℕ → List ℕ → List ℕ
draw_bytes s out = left (table_fault s) (drawing_of s) out

unfoldable pub undraw_answer : List ℕ → ℕ → Answer
undraw_answer t lent = given 61 (drawn_fault (reading t)) (drawn_table (reading t)) lent

unfoldable pub undraw_bytes : List ℕ → List ℕ → List ℕ
undraw_bytes t out = left (drawn_fault (reading t)) (drawn_table (reading t)) out
