-- The parts of a drawing, as they are put one after the other.
use Rattle.std.specs.Prelude.{ℕ, ◌+◌, ◌*◌, List, []}
use Rattle.layout.specs.Layout.{weight_bytes, end_bytes}
use Rattle.table.specs.Table.{types_byte, most_states, most_rules, rule_at}
use Rattle.decimal.specs.Numbers.{text}
use Rattle.dot.specs.declared.Shape.{Shape}
use Rattle.dot.specs.Text.{Piece, written, after, a_blank, rule_shape, label_text}

-- ---- parts of a drawing
-- the most bytes of each
abbrev pub most_head_text : ℕ
most_head_text = 25

abbrev pub most_state_text : ℕ
most_state_text = 29

-- of a rule the label, with 16 numbers, and all
abbrev pub most_weights_text : ℕ
most_weights_text = 108

abbrev pub most_rule_text : ℕ
most_rule_text = 13 + most_weights_text

abbrev pub most_states_text : ℕ
most_states_text = most_states * most_state_text

abbrev pub most_rules_text : ℕ
most_rules_text = most_rules * most_rule_text

-- and of a drawing with its last line: 8,236
abbrev pub most_drawing : ℕ
most_drawing = most_head_text + most_states_text + most_rules_text + 3

-- a part as it is written with nothing after it
abbrev pub alone : (List Piece → List Piece) → List ℕ
alone part = written (part [])

-- a label with its bracket
abbrev pub labelled : Shape → ℕ → List ℕ → ℕ → List Piece → List Piece
labelled shape g s at p = after a_blank (text "[") (label_text shape g s at p)

-- that of rule k
abbrev pub weights_text : List ℕ → ℕ → List Piece → List Piece
weights_text s k = labelled (rule_shape (types_byte s)) (weight_bytes (types_byte s)) s (rule_at s k + end_bytes)
