-- How long a drawing is at most: a line for each bound, by what its tokens have.
use Prim.Native.Nat.{ℕ, zero, suc, ◌+◌, ◌-◌, ◌*◌, ◌/◌, ◌%◌, ◌≤◌}
use mathlib.Core.Path.{◌≡◌, refl, ◌∙◌}
use mathlib.Core.Bool.{Bool, true, false}
use mathlib.Core.List.{List, [], ◌∷◌}
use native.Mathlib.Omega.{arith}
use lib.Dec.{eqb, ltb}
use lib.ListN.{length, length-append}
use Rattle.fault.specs.Bytes.{byte_at}
use Rattle.fault.specs.Fault.{◌if◌else◌}
use Rattle.layout.specs.Layout.{types_in, weight_bytes, rule_bytes, most_types, end_bytes}
use Rattle.table.specs.Table.{states_of, rules_of, types_byte, factor_of, state_bytes}
use Rattle.table.specs.Facts.{Sized}
use Rattle.layout.proofs.LayoutLaws.{weights-few}
use Rattle.pen.specs.Pen.{most_head_text, most_state_text, most_rule_text, most_drawing}
use Rattle.decimal.specs.Numbers.{text, decimal, signed, spelling}
use Rattle.dot.specs.declared.Shape.{Shape}
use Rattle.dot.specs.Text.{state_shape, rule_shape, joint_at, negative, Piece, written, chars, after, tight, a_blank, new_line, head_text, joint, numbers_text, label_text, state_text, rule_text, states_text, rules_text, end_text, table_text, drawing_of}

pub chars-long : (w : List ℕ) (p : List Piece) → length (written (chars w p)) ≡ length w + length (written p)
unfolding written
chars-long [] p = omega arith
chars-long (b ∷ w) p = omega (arith, chars-long w p)

pub after-long : (d w : List ℕ) (p : List Piece) → length (written (after d w p)) ≡ length d + length w + length (written p)
unfolding written
after-long d w p = length-append d (written (chars w p)) ∙ omega (arith, chars-long w p)

-- ---- numbers
decimal-long : (v : ℕ) → length (decimal v) ≤ 3
unfolding decimal ◌if◌else◌
decimal-long v = split (ltb v 10) (ltb v 100)
  where
    split : (a b : Bool) → length ((48 + v) ∷ [] if a else (48 + v / 10) ∷ (48 + v % 10) ∷ [] if b else (48 + v / 100) ∷ (48 + v / 10 % 10) ∷ (48 + v % 10) ∷ []) ≤ 3
    split true b = omega arith
    split false true = omega arith
    split false false = omega arith

signed-long : (b : ℕ) → length (signed b) ≤ 4
unfolding signed ◌if◌else◌
signed-long b = split (ltb b 128)
  where
    split : (t : Bool) → length (decimal b if t else 45 ∷ decimal (256 - b)) ≤ 4
    split true = omega (arith, decimal-long b)
    split false = omega (arith, decimal-long (256 - b))

pub spelling-long : (n : Bool) (b : ℕ) → length (spelling n b) ≤ 4
spelling-long true b = signed-long b
spelling-long false b = omega (arith, decimal-long b)

joint-long : (j i : ℕ) → length (joint_at j i) ≤ 2
unfolding joint_at ◌if◌else◌
joint-long j i = split (eqb j 0) (eqb i 0)
  where
    split : (a b : Bool) → length ([] if a else text ", " if b else text " ") ≤ 2
    split true b = omega arith
    split false true = omega arith
    split false false = omega arith

-- ---- lines
module _ (shape : Shape) (s : List ℕ) where
  numbers-long : (g j at : ℕ) (p : List Piece) → length (written (numbers_text shape g j s at p)) ≤ 6 * g + length (written p)
  unfolding numbers_text
  numbers-long zero j at p = omega arith
  numbers-long (suc g) j at p =
      let rest = numbers_text shape g (j + 1) s (at + 1) p in
      let b = spelling (negative shape j) (byte_at s at) in
      omega (
        arith,
        chars-long (joint shape j) (chars b rest),
        chars-long b rest,
        joint-long j (j % shape.group),
        spelling-long (negative shape j) (byte_at s at),
        numbers-long g (j + 1) (at + 1) p,
      )

  label-long : (g at : ℕ) (p : List Piece) → length (written (label_text shape g s at p)) ≤ 10 + 6 * g + length (written p)
  unfolding label_text
  label-long g at p =
      let p₁ = after tight (text ";") p in
      let p₂ = after tight (text "]") p₁ in
      let p₃ = chars (34 ∷ []) p₂ in
      let p₄ = numbers_text shape g 0 s at p₃ in
      let p₅ = after tight (text "\"") p₄ in
      let p₆ = after tight (text "=") p₅ in
      omega (
        arith,
        after-long tight (text "label") p₆,
        after-long tight (text "=") p₅,
        after-long tight (text "\"") p₄,
        numbers-long g 0 at p₃,
        chars-long (34 ∷ []) p₂,
        after-long tight (text "]") p₁,
        after-long tight (text ";") p,
      )

state-long : (s : List ℕ) (i : ℕ) (p : List Piece) → length (written (state_text s i p)) ≤ most_state_text + length (written p)
unfolding state_text
state-long s i p =
    let p₁ = label_text state_shape state_bytes s (state_bytes * i) p in
    let p₂ = after a_blank (text "[") p₁ in
    omega (
      arith,
      after-long new_line (text "s") (chars (decimal i) p₂),
      chars-long (decimal i) p₂,
      decimal-long i,
      after-long a_blank (text "[") p₁,
      label-long state_shape s state_bytes (state_bytes * i) p,
    )

rule-long : (byte : ℕ) (s : List ℕ) (at : ℕ) (p : List Piece) → types_in byte ≤ most_types → length (written (rule_text byte s at p)) ≤ most_rule_text + length (written p)
unfolding rule_text
rule-long byte s at p h =
    let a = decimal (byte_at s at) in
    let b = decimal (byte_at s (at + 1)) in
    let p₁ = label_text (rule_shape byte) (weight_bytes byte) s (at + end_bytes) p in
    let p₂ = after a_blank (text "[") p₁ in
    let p₃ = after a_blank (text "s") (chars b p₂) in
    let p₄ = after a_blank (text "->") p₃ in
    omega (
      arith,
      after-long new_line (text "s") (chars a p₄),
      chars-long a p₄,
      decimal-long (byte_at s at),
      after-long a_blank (text "->") p₃,
      after-long a_blank (text "s") (chars b p₂),
      chars-long b p₂,
      decimal-long (byte_at s (at + 1)),
      after-long a_blank (text "[") p₁,
      label-long (rule_shape byte) s (weight_bytes byte) (at + end_bytes) p,
      weights-few byte most_types h,
    )

states-long : (x : ℕ) (s : List ℕ) (i : ℕ) (p : List Piece) → length (written (states_text x s i p)) ≤ most_state_text * x + length (written p)
unfolding states_text
states-long zero s i p = omega arith
states-long (suc x) s i p = omega (arith, state-long s i (states_text x s (i + 1) p), states-long x s (i + 1) p)

rules-long : (x byte : ℕ) (s : List ℕ) (at : ℕ) (p : List Piece) → types_in byte ≤ most_types → length (written (rules_text x byte s at p)) ≤ most_rule_text * x + length (written p)
unfolding rules_text
rules-long zero byte s at p h = omega arith
rules-long (suc x) byte s at p h =
    omega (arith, rule-long byte s at (rules_text x byte s (at + rule_bytes byte) p) h, rules-long x byte s (at + rule_bytes byte) p h)

head_long : (byte k : ℕ) (p : List Piece) → length (written (head_text byte k p)) ≤ most_head_text + length (written p)
unfolding head_text written
head_long byte k p =
    let p₁ = after tight (text ";") p in
    let p₂ = after tight (decimal k) p₁ in
    let p₃ = after tight (text "=") p₂ in
    let p₄ = after a_blank (text "k") p₃ in
    let p₅ = after tight (text ";") p₄ in
    let p₆ = after tight (decimal byte) p₅ in
    omega (arith, chars-long (decimal byte) p₅, chars-long (decimal k) p₁, decimal-long byte, decimal-long k)

pub end-long : length (written end_text) ≡ 3
unfolding written
end-long = refl

pub drawing-short : (s : List ℕ) → Sized s → length (drawing_of s) ≤ most_drawing
unfolding drawing_of table_text
drawing-short s z =
    let r = rules_text (rules_of s) (types_byte s) s (state_bytes * states_of s) end_text in
    omega (
      arith,
      z.few_states,
      z.few_rules,
      head_long (types_byte s) (factor_of s) (states_text (states_of s) s 0 r),
      states-long (states_of s) s 0 r,
      rules-long (rules_of s) (types_byte s) s (state_bytes * states_of s) end_text z.few_types,
      end-long,
    )
