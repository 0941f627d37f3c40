-- Every answer's numbers are small, whatever the bytes; but a place in a text is only within the text.
use mathlib.Core.Path.{◌≡◌, refl}
use mathlib.Core.List.{List}
use Prim.Native.Nat.{ℕ, ◌+◌, ◌≤◌}
use native.Mathlib.Omega.{arith}
use lib.ListN.{length}
use Rattle.fault.specs.Fault.{refused}
use Rattle.fault.proofs.FaultLaws.{Clean, Within, if_passed, check_within}
use Rattle.layout.specs.Layout.{types_in}
use Rattle.table.specs.Table.{most_table}
use Rattle.table.specs.Refusals.{counts_outside, table_fault}
use Rattle.table.proofs.TableLaws.{table-within, table-short}
use Rattle.pen.specs.Pen.{most_drawing}
use Rattle.dot.specs.Text.{drawing_of}
use Rattle.dot.specs.Reading.{Outcome, drawn, fault, reading}
use Rattle.dot.proofs.TokenPlace.{exact-place}
use Rattle.pen.proofs.LengthLaws.{drawing-short}
use Rattle.ink.proofs.GivenLaws.{GivenWithin, given-within}
use Rattle.drawing.specs.Entry.{table_of, drawn_fault, drawn_table, draw_answer, undraw_answer}
use Rattle.drawing.proofs.EntryLaws.{sized-table}

pub draw-within : (s : List ℕ) (lent : ℕ) → GivenWithin 61 64 most_drawing (draw_answer s lent)
unfolding draw_answer
draw-within s lent =
    let W = table-within s in
    given-within 61 61 64 most_drawing (table_fault s) (drawing_of s) lent (omega arith) (record { number = omega (arith, W.number); place = W.place })
    (λ z. drawing-short s (sized-table s refl z))

-- ---- what a text draws
module _ (t : List ℕ) where
  drawn-within : (o : Outcome) → reading t ≡ o → Within 61 (64 + length t) (drawn_fault o)
  unfolding drawn_fault
  drawn-within (fault p) e = record { number = omega arith; place = omega (arith, (exact-place t p e).within) }
  drawn-within (drawn r) e =
      check_within (counts_outside r.states r.rules (types_in r.types) r.factor) (omega arith)
      (λ _. let W = table-within (table_of r) in record { number = omega (arith, W.number); place = omega (arith, W.place) })

  drawn-short : (o : Outcome) → (drawn_fault o).number ≡ 0 → length (drawn_table o) ≤ most_table
  unfolding drawn_fault drawn_table
  drawn-short (fault p) z = omega arith
  drawn-short (drawn r) z =
      let p = if_passed Clean (refused 2) (counts_outside r.states r.rules (types_in r.types) r.factor) (table_fault (table_of r)) (λ y. omega arith) z in
      table-short (table_of r) (sized-table (table_of r) refl p.1)

  pub undraw-within : (lent : ℕ) → GivenWithin 61 (64 + length t) most_table (undraw_answer t lent)
  unfolding undraw_answer
  undraw-within lent = given-within 61 61 (64 + length t) most_table (drawn_fault (reading t)) (drawn_table (reading t)) lent (omega arith) (drawn-within (reading t) refl) (drawn-short (reading t))
