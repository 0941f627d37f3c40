-- How the written text of a drawing comes apart: each part stands alone, before whatever follows it.
use Prim.Native.Nat.{ℕ, zero, suc, ◌+◌, ◌*◌, ◌-◌, ◌≤◌, ◌<◌}
use mathlib.Core.Path.{◌≡◌, refl, sym, ap, ◌∙◌}
use mathlib.Core.List.{List, [], ◌∷◌, ◌++◌, append_assoc, append-nil}
use native.Mathlib.Nat.{add-mul, one-mul}
use native.Mathlib.Omega.{arith}
use Rattle.fault.specs.Bytes.{byte_at}
use Rattle.layout.specs.Layout.{weight_bytes, rule_bytes, end_bytes}
use Rattle.table.specs.Table.{states_of, rules_of, types_byte, factor_of, rule_size, rule_at, state_bytes}
use Rattle.decimal.specs.Numbers.{text, decimal, spelling}
use Rattle.dot.specs.declared.Shape.{Shape}
use Rattle.dot.specs.Text.{state_shape, rule_shape, negative, Piece, char, space, must, written, chars, after, tight, a_blank, new_line, head_text, joint, numbers_text, label_text, state_text, rule_text, states_text, rules_text, table_text, drawing_of}
use Rattle.pen.specs.Pen.{alone, labelled}

-- ---- parts
-- a part that is written as w, before whatever follows
record Writes (part : List Piece → List Piece) (w : List ℕ) : Type 0 where
  before : (p : List Piece) → written (part p) ≡ w ++ written p

writes_alone : {part : List Piece → List Piece} {w : List ℕ} → Writes part w → alone part ≡ w
unfolding written
writes_alone {w = w} a = a.before [] ∙ append-nil w

writes_itself : {part : List Piece → List Piece} {w : List ℕ} → Writes part w → Writes part (alone part)
writes_itself a = record { before = λ p. a.before p ∙ ap (λ (t : List ℕ). t ++ written p) (sym (writes_alone a)) }

writes_nothing : Writes (λ p. p) []
writes_nothing = record { before = λ p. refl }

writes_chars : (w : List ℕ) → Writes (chars w) w
unfolding written
writes_chars [] = record { before = λ p. refl }
writes_chars (b ∷ w) = record { before = λ p. ap (λ (t : List ℕ). b ∷ t) ((writes_chars w).before p) }

writes_then : {f g : List Piece → List Piece} {v w : List ℕ} → Writes f v → Writes g w → Writes (λ p. f (g p)) (v ++ w)
writes_then {f} {g} {v} {w} a b =
    record { before = λ p. a.before (g p) ∙ ap (λ (t : List ℕ). v ++ t) (b.before p) ∙ sym (append_assoc v w (written p)) }

writes_after : (d w : List ℕ) → Writes (after d w) (d ++ w)
unfolding written
writes_after d w =
    record { before = λ p. ap (λ (t : List ℕ). d ++ t) ((writes_chars w).before p) ∙ sym (append_assoc d w (written p)) }

-- ---- what stands between the numbers
head_begins : Writes (λ p. after tight (text "digraph") (must ∷ after tight (text "t") (after a_blank (text "{") (after new_line (text "T") (after tight (text "=") (space tight ∷ p)))))) (text "digraph t {\nT=")
unfolding written
head_begins = record { before = λ p. refl }

head_goes-on : Writes (λ p. after tight (text ";") (after a_blank (text "k") (after tight (text "=") (space tight ∷ p)))) (text "; k=")
unfolding written
head_goes-on = record { before = λ p. refl }

rule_points : Writes (λ p. after a_blank (text "->") (after a_blank (text "s") p)) (text " -> s")
unfolding written
rule_points = record { before = λ p. refl }

label-begins : Writes (λ p. after a_blank (text "[") (after tight (text "label") (after tight (text "=") (after tight (text "\"") p)))) (text " [label=\"")
unfolding written
label-begins = record { before = λ p. refl }

label-ends : Writes (λ p. char 34 ∷ after tight (text "]") (after tight (text ";") p)) (text "\"];")
unfolding written
label-ends = record { before = λ p. refl }

end_writes : Writes (λ p. after new_line (text "}") (space new_line ∷ p)) (text "\n}\n")
unfolding written
end_writes = record { before = λ p. refl }

-- ---- a label
module _ (shape : Shape) (s : List ℕ) where
  numbers_writes : (g j at : ℕ) → Writes (numbers_text shape g j s at) (alone (numbers_text shape g j s at))
  unfolding numbers_text written
  numbers_writes zero j at = writes_nothing
  numbers_writes (suc g) j at = writes_itself (writes_then (writes_chars (joint shape j)) (writes_then (writes_chars (spelling (negative shape j) (byte_at s at))) (numbers_writes g (j + 1) (at + 1))))

  numbers-is : (g j at : ℕ) → alone (numbers_text shape (suc g) j s at) ≡ (joint shape j ++ spelling (negative shape j) (byte_at s at)) ++ alone (numbers_text shape g (j + 1) s (at + 1))
  unfolding numbers_text
  numbers-is g j at = writes_alone (writes_then (writes_then (writes_chars (joint shape j)) (writes_chars (spelling (negative shape j) (byte_at s at)))) (numbers_writes g (j + 1) (at + 1)))

  label_writes : (g at : ℕ) → Writes (labelled shape g s at) (text " [label=\"" ++ (alone (numbers_text shape g 0 s at) ++ text "\"];"))
  unfolding label_text
  label_writes g at = writes_then label-begins (writes_then (numbers_writes g 0 at) label-ends)

  pub label_is : (g at : ℕ) → alone (labelled shape g s at) ≡ text " [label=\"" ++ (alone (numbers_text shape g 0 s at) ++ text "\"];")
  label_is g at = writes_alone (label_writes g at)

  -- the rest of the numbers, from j on
  pub numbers-first : (g at : ℕ) → alone (numbers_text shape g 0 s at) ≡ alone (numbers_text shape (g - 0) 0 s (at + 0))
  numbers-first g at =
      let e : g - 0 ≡ g = omega arith in
      let f : at + 0 ≡ at = omega arith in
      rw (e, f)

  pub numbers_more : (g j at : ℕ) → j < g → alone (numbers_text shape (g - j) j s (at + j)) ≡ (joint shape j ++ spelling (negative shape j) (byte_at s (at + j))) ++ alone (numbers_text shape (g - (j + 1)) (j + 1) s (at + (j + 1)))
  numbers_more g j at h =
      let e : g - j ≡ suc (g - (j + 1)) = omega arith in
      let f : at + (j + 1) ≡ at + j + 1 = omega arith in
      rw (e, f) (numbers-is (g - (j + 1)) j (at + j))

  pub numbers-over : (g j at : ℕ) → g ≤ j → alone (numbers_text shape (g - j) j s at) ≡ []
  unfolding numbers_text written
  numbers-over g j at h = let e : g - j ≡ 0 = omega arith in rw e

-- ---- a state
state_writes : (s : List ℕ) (i : ℕ) → Writes (state_text s i) (text "\ns" ++ decimal i ++ alone (labelled state_shape state_bytes s (state_bytes * i)))
unfolding state_text
state_writes s i = writes_then (writes_then (writes_after new_line (text "s")) (writes_chars (decimal i))) (writes_itself (label_writes state_shape s state_bytes (state_bytes * i)))

pub state-is : (s : List ℕ) (i : ℕ) → alone (state_text s i) ≡ text "\ns" ++ decimal i ++ alone (labelled state_shape state_bytes s (state_bytes * i))
state-is s i = writes_alone (state_writes s i)

module _ (s : List ℕ) where
  states_writes : (x i : ℕ) → Writes (states_text x s i) (alone (states_text x s i))
  unfolding states_text written
  states_writes zero i = writes_nothing
  states_writes (suc x) i = writes_itself (writes_then (state_writes s i) (states_writes x (i + 1)))

  states-is : (x i : ℕ) → alone (states_text (suc x) s i) ≡ alone (state_text s i) ++ alone (states_text x s (i + 1))
  unfolding states_text
  states-is x i = writes_alone (writes_then (writes_itself (state_writes s i)) (states_writes x (i + 1)))

  -- the rest of the states from i on
  pub states_first : (x : ℕ) → alone (states_text x s 0) ≡ alone (states_text (x - 0) s 0)
  states_first x = let e : x - 0 ≡ x = omega arith in rw e

  pub states-more : (x i : ℕ) → i < x → alone (states_text (x - i) s i) ≡ alone (state_text s i) ++ alone (states_text (x - (i + 1)) s (i + 1))
  states-more x i h = let e : x - i ≡ suc (x - (i + 1)) = omega arith in rw e (states-is (x - (i + 1)) i)

  pub states-over : (x i : ℕ) → x ≤ i → alone (states_text (x - i) s i) ≡ []
  unfolding states_text written
  states-over x i h = let e : x - i ≡ 0 = omega arith in rw e

-- ---- a rule
module _ (byte : ℕ) (s : List ℕ) where
  rule_writes : (at : ℕ) → Writes (rule_text byte s at) (text "\ns" ++ decimal (byte_at s at) ++ (text " -> s" ++ decimal (byte_at s (at + 1)) ++ alone (labelled (rule_shape byte) (weight_bytes byte) s (at + end_bytes))))
  unfolding rule_text
  rule_writes at =
      writes_then (writes_then (writes_after new_line (text "s")) (writes_chars (decimal (byte_at s at)))) (writes_then (writes_then rule_points (writes_chars (decimal (byte_at s (at + 1))))) (writes_itself (label_writes (rule_shape byte) s (weight_bytes byte) (at + end_bytes))))

  pub rule-is : (at : ℕ) → alone (rule_text byte s at) ≡ text "\ns" ++ decimal (byte_at s at) ++ (text " -> s" ++ decimal (byte_at s (at + 1)) ++ alone (labelled (rule_shape byte) (weight_bytes byte) s (at + end_bytes)))
  rule-is at = writes_alone (rule_writes at)

  rules_writes : (x at : ℕ) → Writes (rules_text x byte s at) (alone (rules_text x byte s at))
  unfolding rules_text written
  rules_writes zero at = writes_nothing
  rules_writes (suc x) at = writes_itself (writes_then (rule_writes at) (rules_writes x (at + rule_bytes byte)))

  rules-is : (x at : ℕ) → alone (rules_text (suc x) byte s at) ≡ alone (rule_text byte s at) ++ alone (rules_text x byte s (at + rule_bytes byte))
  unfolding rules_text
  rules-is x at = writes_alone (writes_then (writes_itself (rule_writes at)) (rules_writes x (at + rule_bytes byte)))

-- where the next rule starts
rule-next : (s : List ℕ) (k : ℕ) → rule_at s (k + 1) ≡ rule_at s k + rule_bytes (types_byte s)
unfolding rule_at
rule-next s k = omega (arith, add-mul k 1 (rule_size s), one-mul (rule_size s))

-- the rest of a table's rules from k on
pub rules-first : (s : List ℕ) → alone (rules_text (rules_of s) (types_byte s) s (state_bytes * states_of s)) ≡ alone (rules_text (rules_of s - 0) (types_byte s) s (rule_at s 0))
unfolding rule_at
rules-first s =
    let e : state_bytes * states_of s + 0 * rule_size s ≡ state_bytes * states_of s = omega arith in
    let f : rules_of s - 0 ≡ rules_of s = omega arith in
    rw (e, f)

pub rules-more : (s : List ℕ) (x k : ℕ) → k < x → alone (rules_text (x - k) (types_byte s) s (rule_at s k)) ≡ alone (rule_text (types_byte s) s (rule_at s k)) ++ alone (rules_text (x - (k + 1)) (types_byte s) s (rule_at s (k + 1)))
rules-more s x k h = let e : x - k ≡ suc (x - (k + 1)) = omega arith in rw (e, rule-next s k) (rules-is (types_byte s) s (x - (k + 1)) (rule_at s k))

pub rules-over : (s : List ℕ) (x k at : ℕ) → x ≤ k → alone (rules_text (x - k) (types_byte s) s at) ≡ []
unfolding rules_text written
rules-over s x k at h = let e : x - k ≡ 0 = omega arith in rw e

-- ---- the whole
head_writes : (byte k : ℕ) → Writes (head_text byte k) (text "digraph t {\nT=" ++ decimal byte ++ (text "; k=" ++ decimal k ++ text ";"))
unfolding head_text
head_writes byte k =
    writes_then (writes_then head_begins (writes_chars (decimal byte))) (writes_then (writes_then head_goes-on (writes_chars (decimal k))) (writes_after tight (text ";")))

pub head_is : (byte k : ℕ) → alone (head_text byte k) ≡ text "digraph t {\nT=" ++ decimal byte ++ (text "; k=" ++ decimal k ++ text ";")
head_is byte k = writes_alone (head_writes byte k)

pub drawing-is : (s : List ℕ) → drawing_of s ≡ alone (head_text (types_byte s) (factor_of s)) ++ (alone (states_text (states_of s) s 0) ++ (alone (rules_text (rules_of s) (types_byte s) s (state_bytes * states_of s)) ++ text "\n}\n"))
unfolding drawing_of table_text
drawing-is s =
    writes_alone (writes_then (writes_itself (head_writes (types_byte s) (factor_of s))) (writes_then (states_writes s (states_of s) 0) (writes_then (rules_writes (types_byte s) s (rules_of s) (state_bytes * states_of s)) end_writes)))
