-- The drawing of a table (Q-1, "`digraph t {`, a line with T and k, one for each state .., one for each rule .., `}`"; Q-7, "Q-1's drawings
-- carry e"): its tokens, and between them what the writer puts there or any blanks. That `T=` shows the types byte, and that a text may leave
-- those blanks out, are readings of ours (docs/DECISIONS.md).
use Rattle.std.specs.Prelude.{ℕ, zero, suc, ◌+◌, ◌*◌, ◌%◌, ◌≡◌, Bool, true, ◌||◌, List, [], ◌∷◌, ◌++◌, eqb}
use Rattle.fault.specs.Bytes.{byte_at}
use Rattle.fault.specs.Fault.{◌if◌else◌}
use Rattle.fault.specs.Tests.{◌below◌}
use Rattle.layout.specs.Layout.{type_bytes, weight_bytes, rule_bytes, end_bytes}
use Rattle.table.specs.Table.{states_of, rules_of, types_byte, factor_of, state_bytes}
use Rattle.decimal.specs.Numbers.{text, decimal, spelling}
use Rattle.dot.specs.declared.Shape.{Shape}

-- ---- pieces
-- space, tab, line feed, carriage return
unfoldable pub is_blank : ℕ → Bool
is_blank c = eqb c 32 || eqb c 9 || eqb c 10 || eqb c 13

-- a byte of a token; a gap between two tokens, with what the writer puts there; the blank that must be
pub data Piece : Type 0 where
  char : ℕ → Piece
  space : List ℕ → Piece
  must : Piece

-- what the writer writes
unfoldable pub written : List Piece → List ℕ
written [] = []
written (char b ∷ p) = b ∷ written p
written (space d ∷ p) = d ++ written p
written (must ∷ p) = 32 ∷ written p

-- the same tokens with any number of blanks in each gap
pub data Spaced : List Piece → List ℕ → Type 0 where
  over : Spaced [] []
  letter : {b : ℕ} {p : List Piece} {t : List ℕ} → Spaced p t → Spaced (char b ∷ p) (b ∷ t)
  one_more : {d : List ℕ} {p : List Piece} {c : ℕ} {t : List ℕ} → is_blank c ≡ true → Spaced (space d ∷ p) t → Spaced (space d ∷ p) (c ∷ t)
  no_more : {d : List ℕ} {p : List Piece} {t : List ℕ} → Spaced p t → Spaced (space d ∷ p) t
  needed : {p : List Piece} {c : ℕ} {t : List ℕ} → is_blank c ≡ true → Spaced p t → Spaced (must ∷ p) (c ∷ t)

-- ---- tokens
abbrev pub chars : List ℕ → List Piece → List Piece
chars [] p = p
chars (b ∷ w) p = char b ∷ chars w p

-- a token w after d
abbrev pub after : List ℕ → List ℕ → List Piece → List Piece
after d w p = space d ∷ chars w p

abbrev pub tight : List ℕ
tight = []

abbrev pub a_blank : List ℕ
a_blank = 32 ∷ []

abbrev pub new_line : List ℕ
new_line = 10 ∷ []

-- ---- how a label is laid out, in groups of numbers
-- a state's (Q-1, "flags and sent mask as label"): none is below 0
abbrev pub state_shape : Shape
state_shape = record { group = state_bytes; signed = 0 }

-- a rule's (Q-1, "its a, b, d for each type", which may be below 0; Q-7, "a fourth byte e, 1 to 8", which may not)
abbrev pub rule_shape : ℕ → Shape
rule_shape byte = record { group = type_bytes byte; signed = 3 }

-- before the number j, at place i of its group: nothing, or a blank; a comma too where a group begins
unfoldable pub joint_at : ℕ → ℕ → List ℕ
joint_at j i = [] if eqb j 0 else text ", " if eqb i 0 else text " "

abbrev pub joint : Shape → ℕ → List ℕ
joint shape j = joint_at j (j % shape.group)

-- may the number j be below 0?
abbrev pub negative : Shape → ℕ → Bool
negative shape j = (j % shape.group) below shape.signed

-- ---- lines
-- digraph t {↵T=1; k=3;
unfoldable pub head_text : ℕ → ℕ → List Piece → List Piece
head_text byte k p =
    after tight (text "digraph")
    (must ∷ after tight (text "t")
    (after a_blank (text "{")
    (after new_line (text "T")
    (after tight (text "=")
    (after tight (decimal byte)
    (after tight (text ";")
    (after a_blank (text "k")
    (after tight (text "=")
    (after tight (decimal k)
    (after tight (text ";") p))))))))))

-- the numbers j .. j+g-1 of a label, which are the bytes of s from `at` on
unfoldable pub numbers_text : Shape → ℕ → ℕ → List ℕ → ℕ → List Piece → List Piece
numbers_text shape zero j s at p = p
numbers_text shape (suc g) j s at p =
    chars (joint shape j) (chars (spelling (negative shape j) (byte_at s at)) (numbers_text shape g (j + 1) s (at + 1) p))

--  [label="1 0"];
unfoldable pub label_text : Shape → ℕ → List ℕ → ℕ → List Piece → List Piece
label_text shape g s at p =
    after tight (text "label")
    (after tight (text "=")
    (after tight (text "\"")
    (numbers_text shape g 0 s at (char 34 ∷
    after tight (text "]")
    (after tight (text ";") p)))))

-- ↵s0 [label="1 0"];
unfoldable pub state_text : List ℕ → ℕ → List Piece → List Piece
state_text s i p = after new_line (text "s") (chars (decimal i) (after a_blank (text "[") (label_text state_shape state_bytes s (state_bytes * i) p)))

-- ↵s0 -> s2 [label="0 1 1"]; or, in the second edition, ↵s0 -> s2 [label="0 1 1 2"];
unfoldable pub rule_text : ℕ → List ℕ → ℕ → List Piece → List Piece
rule_text byte s at p =
    after new_line (text "s")
    (chars (decimal (byte_at s at))
    (after a_blank (text "->")
    (after a_blank (text "s")
    (chars (decimal (byte_at s (at + 1)))
    (after a_blank (text "[") (label_text (rule_shape byte) (weight_bytes byte) s (at + end_bytes) p))))))

unfoldable pub states_text : ℕ → List ℕ → ℕ → List Piece → List Piece
states_text zero s i p = p
states_text (suc x) s i p = state_text s i (states_text x s (i + 1) p)

unfoldable pub rules_text : ℕ → ℕ → List ℕ → ℕ → List Piece → List Piece
rules_text zero byte s at p = p
rules_text (suc x) byte s at p = rule_text byte s at (rules_text x byte s (at + rule_bytes byte) p)

-- ↵}↵
abbrev pub end_text : List Piece
end_text = after new_line (text "}") (space new_line ∷ [])

-- n states, m rules, a types byte and factor k, whose records are the first bytes of s
unfoldable pub table_text : ℕ → ℕ → ℕ → ℕ → List ℕ → List Piece
table_text byte k n m s = head_text byte k (states_text n s 0 (rules_text m byte s (state_bytes * n) end_text))

-- ---- the drawing of a table part
unfoldable pub drawing_of : List ℕ → List ℕ
drawing_of s = written (table_text (types_byte s) (factor_of s) (states_of s) (rules_of s) s)
