-- Drawings of a table (Q-1, "read back exactly what we write, to the same table bytes"), of either edition (Q-7), as the two calls see them:
-- there and back, with any blanks; 60 and its place; what a drawing is answered; what one blank more changes. Proofs: proofs/Drawings.antt.
use Rattle.std.specs.Prelude.{◌≡◌, true, false, ◌&&◌, List, ◌∷◌, ◌++◌, ℕ, ◌+◌, ◌<◌, eqb, length}
use Rattle.fault.specs.declared.Answer.{Answer}
use Rattle.fault.specs.Bytes.{byte_at}
use Rattle.fault.specs.Tests.{◌at_most◌}
use Rattle.fault.specs.Fault.{refused, nothing_done, ◌if◌else◌}
use Rattle.layout.specs.Layout.{types_in}
use Rattle.table.specs.Table.{states_of, rules_of, types_byte, factor_of}
use Rattle.table.specs.Refusals.{counts_outside, table_fault}
use Rattle.dot.specs.Text.{is_blank, Piece, space, Spaced, table_text, drawing_of}
use Rattle.dot.specs.Plan.{header}
use Rattle.dot.specs.Reading.{none, nothing_read}
use Rattle.dot.specs.Drawing.{Tokens, Drawing, Begins, Exact}
use Rattle.dot.specs.Blanks.{reach, BetweenAt, begins_blank, begins_digit, ends_digit, Gap}
use Rattle.ink.specs.Ink.{Gives}
use Rattle.trailer.specs.Trailer.{trailer_for}
use Rattle.drawing.specs.Entry.{draw_answer, draw_bytes, undraw_answer, undraw_bytes}

-- ---- there and back
-- a table: bytes in which nothing is refused
pub record Table (s : List ℕ) : Type 0 where
  pub all_bytes : (x : ℕ) → byte_at s x < 256
  pub clean : (table_fault s).number ≡ 0

pub record ThereAndBack (s : List ℕ) : Type 0 where
  -- its drawing is written, and is one
  pub drawn : Gives 61 (draw_answer s) (draw_bytes s) (drawing_of s)
  pub drawing : Drawing (drawing_of s)
  -- undrawing it gives the same bytes
  pub back : Gives 61 (undraw_answer (drawing_of s)) (undraw_bytes (drawing_of s)) s
  -- and so with any blanks between the drawing's tokens
  pub spaced : (t : List ℕ) → Spaced (table_text (types_byte s) (factor_of s) (states_of s) (rules_of s) s) t → Gives 61 (undraw_answer t) (undraw_bytes t) s

-- ---- a text that is no drawing: 60 with its exact place, whatever the room, and no byte changes
pub record NoDrawing (t : List ℕ) : Type 0 where
  pub place : ℕ
  pub exact : Exact t place
  pub answered : (lent : ℕ) → undraw_answer t lent ≡ record { refusal = 60; place = place; count = 0 }
  pub kept : (out : List ℕ) → undraw_bytes t out ≡ out

-- ---- a drawing d
-- the table that it draws
abbrev pub table_in : {t : List ℕ} → Drawing t → List ℕ
table_in d = d.body ++ trailer_for d.states d.rules d.types d.factor

pub record Answered (t : List ℕ) (d : Drawing t) : Type 0 where
  -- 2 where a count or k is none of a table
  pub counts : counts_outside d.states d.rules (types_in d.types) d.factor ≡ true → (lent : ℕ) → undraw_answer t lent ≡ nothing_done (refused 2)
  -- else what the table is refused for
  pub off : counts_outside d.states d.rules (types_in d.types) d.factor ≡ false → ((table_fault (table_in d)).number ≡ 0 → ⊥) →
      (lent : ℕ) → undraw_answer t lent ≡ nothing_done (table_fault (table_in d))
  -- else the table
  pub table : counts_outside d.states d.rules (types_in d.types) d.factor ≡ false → (table_fault (table_in d)).number ≡ 0 →
      Gives 61 (undraw_answer t) (undraw_bytes t) (table_in d)
  -- its trailer is always right, and it is a drawing
  pub never_1 : (lent : ℕ) → (undraw_answer t lent).refusal ≡ 1 → ⊥
  pub never_3 : (lent : ℕ) → (undraw_answer t lent).refusal ≡ 3 → ⊥
  pub never_60 : (lent : ℕ) → (undraw_answer t lent).refusal ≡ 60 → ⊥

-- ---- blanks
-- two texts are undrawn alike
pub record SameAnswer (t u : List ℕ) : Type 0 where
  pub answer : (lent : ℕ) → undraw_answer t lent ≡ undraw_answer u lent
  pub bytes : (out : List ℕ) → undraw_bytes t out ≡ undraw_bytes u out

-- after p the plan is at a gap, or at a whole number before one with which q does not go on; or a fault came before
abbrev pub BetweenTokens : List ℕ → List ℕ → Type 0
BetweenTokens p q = BetweenAt (reach p header nothing_read none) q

-- the answer with one byte more in the text at n: a 60 there or later stands one later
unfoldable pub one_later : ℕ → Answer → Answer
one_later n a = record { refusal = 60; place = a.place + 1; count = 0 } if eqb a.refusal 60 && n at_most a.place else a

-- a byte c put in between p and q
pub record Inserted (p q : List ℕ) (c : ℕ) : Type 0 where
  pub answer : (lent : ℕ) → undraw_answer (p ++ c ∷ q) lent ≡ one_later (length p) (undraw_answer (p ++ q) lent)
  pub bytes : (out : List ℕ) → undraw_bytes (p ++ c ∷ q) out ≡ undraw_bytes (p ++ q) out

-- ---- all of it
pub record Drawings : Type 0 where
  -- Q-1: undrawing the drawing of a table gives the same bytes
  pub there_and_back : (s : List ℕ) → Table s → ThereAndBack s
  -- Q-1: 60 exactly where the text is no drawing, and its place is exact (for the other direction `Answered.never_60`)
  pub no_drawing : (t : List ℕ) → (Drawing t → ⊥) → NoDrawing t
  -- there is no other exact place
  pub one_place : (t : List ℕ) (p q : ℕ) → Exact t p → Exact t q → p ≡ q
  -- Q-1: a drawing is answered as the table that it draws
  pub drawing : (t : List ℕ) (d : Drawing t) → Answered t d
  -- Q-1: blanks added between tokens change no answer of a drawing
  pub same_tokens : (t u : List ℕ) (byte k n m : ℕ) (s : List ℕ) → Tokens t byte k n m s → Tokens u byte k n m s → SameAnswer t u
  -- Q-1: and of no text more than the place of a fault that comes after them, where two tokens meet and no number is parted
  pub blank : (p q : List ℕ) (c : ℕ) → is_blank c ≡ true → Gap p → (ends_digit p && begins_digit q) ≡ false → Inserted p q c
  -- and two tokens meet wherever a drawing has a gap: after the pieces a, whose text is p, and before the pieces b, whose text is u
  pub gaps : (byte k n m : ℕ) (s p u : List ℕ) (a b : List Piece) (d : List ℕ) → Tokens (p ++ u) byte k n m s → table_text byte k n m s ≡ a ++ (space d ∷ b) →
      Spaced a p → Spaced b u → begins_blank u ≡ false → Gap p
  -- the same by the plan, which also tells digits that are no part of a number, as the 6 of 256
  pub blank_by_plan : (p q : List ℕ) (c : ℕ) → is_blank c ≡ true → BetweenTokens p q → Inserted p q c
  -- after a fault nothing matters
  pub after_fault : (p q u : List ℕ) → (Begins p → ⊥) → SameAnswer (p ++ q) (p ++ u)
  -- a table that is refused is not drawn, with its own number and place
  pub draw_refused : (s : List ℕ) → ((table_fault s).number ≡ 0 → ⊥) → (lent : ℕ) → draw_answer s lent ≡ nothing_done (table_fault s)
  -- any refusal writes nothing
  pub draw_kept : (s out : List ℕ) → ((draw_answer s (length out)).refusal ≡ 0 → ⊥) → (draw_bytes s out ≡ out) × ((draw_answer s (length out)).count ≡ 0)
  pub undraw_kept : (t out : List ℕ) → ((undraw_answer t (length out)).refusal ≡ 0 → ⊥) → (undraw_bytes t out ≡ out) × ((undraw_answer t (length out)).count ≡ 0)
