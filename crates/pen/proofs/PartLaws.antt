-- The parts of a drawing put one after the other, from what the code has in hand; and the turns of its loops.
use Prim.Native.Nat.{ℕ, ◌+◌, ◌*◌, ◌-◌, ◌%◌, ◌≤◌, ◌<◌}
use mathlib.Core.Path.{◌≡◌}
use mathlib.Core.List.{List, ◌++◌}
use native.Mathlib.Omega.{arith}
use lib.ListN.{length}
use Rattle.fault.specs.Bytes.{byte_at}
use Rattle.fault.specs.Tests.{◌below◌}
use Rattle.layout.specs.Layout.{weight_bytes, most_types, end_bytes}
use Rattle.layout.proofs.LayoutLaws.{weights-few}
use Rattle.table.specs.Table.{states_of, rules_of, types_byte, factor_of, rule_size, rule_at, from_of, to_of, state_bytes}
use Rattle.table.specs.Facts.{Sized}
use Rattle.decimal.specs.Numbers.{text, decimal, spelling}
use Rattle.dot.specs.declared.Shape.{Shape}
use Rattle.dot.specs.Text.{state_shape, rule_shape, joint_at, head_text, numbers_text, state_text, rule_text, states_text, rules_text, drawing_of}
use Rattle.ink.specs.Ink.{stored, Put}
use Rattle.pen.specs.Pen.{alone, labelled, weights_text}
use Rattle.ink.proofs.InkLaws.{RestPut, put_then, put_as, rest_less, rest-none}
use Rattle.pen.proofs.TextLaws.{label_is, numbers_more, numbers-over, state-is, states-more, states-over, rule-is, rules-more, rules-over, head_is, drawing-is}

-- ---- a label
pub label-put : {out o₁ o₂ end : List ℕ} {n m₁ m₂ r : ℕ} (shape : Shape) (s : List ℕ) (g at : ℕ) → Put out n (text " [label=\"") m₁ o₁ → Put o₁ m₁ (alone (numbers_text shape g 0 s at)) m₂ o₂ → Put o₂ m₂ (text "\"];") r end → Put out n (alone (labelled shape g s at)) r end
label-put shape s g at a b d = put_as (label_is shape s g at) (put_then a (put_then b d))

pub numbers-turn : {out₀ whole out mid : List ℕ} {n₀ n m b g i : ℕ} (shape : Shape) (s : List ℕ) (j at : ℕ) → RestPut out₀ n₀ whole out n (alone (numbers_text shape (g - j) j s (at + j))) → j < g → i ≡ j % shape.group → b ≡ byte_at s (at + j) → Put out n (joint_at j i ++ spelling (i below shape.signed) b) m mid → RestPut out₀ n₀ whole mid m (alone (numbers_text shape (g - (j + 1)) (j + 1) s (at + (j + 1))))
numbers-turn {g = g} shape s j at l h e f p = rest_less l (numbers_more shape s g j at h) (rw (e, f) at p)

pub put-numbers-end : {out₀ whole out : List ℕ} {n₀ n g : ℕ} (shape : Shape) (s : List ℕ) (j at : ℕ) → RestPut out₀ n₀ whole out n (alone (numbers_text shape (g - j) j s (at + j))) → g ≤ j → Put out₀ n₀ whole n out
put-numbers-end {g = g} shape s j at l h = rest-none l (numbers-over shape s g j (at + j) h)

-- ---- the states
pub state-put : {out mid end : List ℕ} {n m r : ℕ} {shape : Shape} (s : List ℕ) (i : ℕ) → Put out n (text "\ns" ++ decimal i) m mid → shape ≡ state_shape → Put mid m (alone (labelled shape state_bytes s (state_bytes * i))) r end → Put out n (alone (state_text s i)) r end
state-put s i a e b = put_as (state-is s i) (put_then a (rw e at b))

pub states-turn : {out₀ whole out end : List ℕ} {n₀ n r x i : ℕ} (s : List ℕ) → RestPut out₀ n₀ whole out n (alone (states_text (states_of s - i) s i)) → i < x → x ≡ states_of s → Put out n (alone (state_text s i)) r end → RestPut out₀ n₀ whole end r (alone (states_text (states_of s - (i + 1)) s (i + 1)))
states-turn {i = i} s l h e p = rest_less l (states-more s (states_of s) i (omega arith)) p

pub states-end : {out₀ whole out : List ℕ} {n₀ n x i : ℕ} (s : List ℕ) → RestPut out₀ n₀ whole out n (alone (states_text (states_of s - i) s i)) → x ≤ i → x ≡ states_of s → Put out₀ n₀ whole n out
states-end {i = i} s l h e = rest-none l (states-over s (states_of s) i (omega arith))

-- ---- the rules
-- what a rule's label has in its record
pub record RuleWeights (s : List ℕ) (g : ℕ) : Type 0 where
  pub few : g ≤ 16
  pub all : rule_size s ≡ end_bytes + g

pub rule-weights : {g b : ℕ} (s : List ℕ) → Sized s → b ≡ types_byte s → g ≡ weight_bytes b → RuleWeights s g
rule-weights s z e f = record { few = rw (f, e) (weights-few (types_byte s) most_types z.few_types); all = rw (f, e) }

pub weights-put : {out end : List ℕ} {n r at g b : ℕ} {shape : Shape} (s : List ℕ) (k : ℕ) → at ≡ rule_at s k → b ≡ types_byte s → g ≡ weight_bytes b → shape ≡ rule_shape b → Put out n (alone (labelled shape g s (at + end_bytes))) r end → Put out n (alone (weights_text s k)) r end
weights-put s k e f g h p = rw (e, h, g, f) at p

pub rule-put : {out o₁ o₂ end : List ℕ} {n m₁ m₂ r x y : ℕ} (s : List ℕ) (k : ℕ) → x ≡ from_of s k → Put out n (text "\ns" ++ decimal x) m₁ o₁ → y ≡ to_of s k → Put o₁ m₁ (text " -> s" ++ decimal y) m₂ o₂ → Put o₂ m₂ (alone (weights_text s k)) r end → Put out n (alone (rule_text (types_byte s) s (rule_at s k))) r end
rule-put s k e a f b d = put_as (rule-is (types_byte s) s (rule_at s k)) (put_then (rw e at a) (put_then (rw f at b) d))

pub rules-turn : {out₀ whole out end : List ℕ} {n₀ n r x k : ℕ} (s : List ℕ) → RestPut out₀ n₀ whole out n (alone (rules_text (rules_of s - k) (types_byte s) s (rule_at s k))) → k < x → x ≡ rules_of s → Put out n (alone (rule_text (types_byte s) s (rule_at s k))) r end → RestPut out₀ n₀ whole end r (alone (rules_text (rules_of s - (k + 1)) (types_byte s) s (rule_at s (k + 1))))
rules-turn {k = k} s l h e p = rest_less l (rules-more s (rules_of s) k (omega arith)) p

pub rules-end : {out₀ whole out : List ℕ} {n₀ n x k : ℕ} (s : List ℕ) → RestPut out₀ n₀ whole out n (alone (rules_text (rules_of s - k) (types_byte s) s (rule_at s k))) → x ≤ k → x ≡ rules_of s → Put out₀ n₀ whole n out
rules-end {k = k} s l h e = rest-none l (rules-over s (rules_of s) k (rule_at s k) (omega arith))

-- ---- the whole
pub head_put : {out o₁ o₂ end : List ℕ} {n m₁ m₂ r t k : ℕ} (s : List ℕ) → t ≡ types_byte s → Put out n (text "digraph t {\nT=" ++ decimal t) m₁ o₁ → k ≡ factor_of s → Put o₁ m₁ (text "; k=" ++ decimal k) m₂ o₂ → Put o₂ m₂ (text ";") r end → Put out n (alone (head_text (types_byte s) (factor_of s))) r end
head_put s e a f b d = put_as (head_is (types_byte s) (factor_of s)) (put_then (rw e at a) (put_then (rw f at b) d))

pub drawing-put : {out o₁ o₂ o₃ end : List ℕ} {n m₁ m₂ m₃ r : ℕ} (s : List ℕ) → Put out n (alone (head_text (types_byte s) (factor_of s))) m₁ o₁ → Put o₁ m₁ (alone (states_text (states_of s) s 0)) m₂ o₂ → Put o₂ m₂ (alone (rules_text (rules_of s) (types_byte s) s (state_bytes * states_of s))) m₃ o₃ → Put o₃ m₃ (text "\n}\n") r end → Put out n (drawing_of s) r end
drawing-put s a b d e = put_as (drawing-is s) (put_then a (put_then b (put_then d e)))

-- what is put at the start is counted by its place
pub put_whole : {out end w : List ℕ} {r most : ℕ} → Put out 0 w r end → r ≤ most → (r ≡ length w) × (r ≤ most) × (end ≡ stored out 0 w)
put_whole p h = (omega (arith, p.place), h, p.bytes)
