-- Every plan can be gone through to its end, from any point.
use Prim.Native.Nat.{ℕ, zero, suc, ◌+◌}
use mathlib.Core.Path.{◌≡◌, refl}
use mathlib.Core.Bool.{Bool, true, false, cond}
use mathlib.Core.List.{List, [], ◌∷◌, append-nil}
use native.Mathlib.Omega.{arith}
use lib.Dec.{eqb}
use borrow.Author.Tests.{eq-eqb}
use Rattle.fault.specs.Fault.{◌if◌else◌}
use Rattle.layout.specs.Layout.{weight_bytes}
use Rattle.decimal.specs.Numbers.{text, decimal}
use Rattle.dot.specs.declared.Shape.{Shape}
use Rattle.dot.specs.Text.{is_blank, rule_shape, joint}
use Rattle.dot.specs.Plan.{Slot, cell, byte, blank as one-blank, line, kind, Item, gap, num, one, plan, bytes, numbers, label, rule_line}
use Rattle.dot.specs.Reading.{Num, none, minus, some, can_minus, byte_of, Gathered, put, new_rule, to, take1}
use Rattle.dot.proofs.Fits.{spell, Fits, done, no_blank_lem, number, single}
use Rattle.dot.proofs.NumberLaws.{limit-least, positive_allowed, negative-allowed}
use Rattle.dot.proofs.Sound.{Sane, sane_none}

-- some text finishes the plan k after r
abbrev pub Ends : List Item → Gathered → Num → Type 0
Ends k r x = (t : List ℕ) × (r' : Gathered) × Fits k r x t r'

-- from any point, whatever has been read
abbrev AllEnd : List Item → Type 0
AllEnd k = (r : Gathered) (x : Num) → Sane k x → Ends k r x

-- ---- item by item
-- no blank
gap_finishes : (k : List Item) → AllEnd k → AllEnd (gap ∷ k)
gap_finishes k g r x s = let e = g r none (sane_none k) in (e.0, e.1, no_blank_lem e.2)

-- the byte itself is taken
pub byte-taken : (b : ℕ) (k : List Item) (r : Gathered) → take1 (byte b) k r b ≡ to k r
unfolding take1
byte-taken b k r = rw (eq-eqb b b refl)

-- that byte
byte-ends : (b : ℕ) (k : List Item) → AllEnd k → AllEnd (one (byte b) ∷ k)
byte-ends b k g r x s = let e = g r none (sane_none k) in (b ∷ e.0, e.1, single (byte-taken b k r) e.2)

-- and any blank, where a blank must be
pub blank-taken : (c : ℕ) (k : List Item) (r : Gathered) → is_blank c ≡ true → take1 one-blank k r c ≡ to k r
unfolding take1
blank-taken c k r h = rw h

-- a space
blank-ends : (k : List Item) → AllEnd k → AllEnd (one one-blank ∷ k)
unfolding is_blank
blank-ends k g r x s = let e = g r none (sane_none k) in (32 ∷ e.0, e.1, single (blank-taken 32 k r refl) e.2)

-- the rest of a number, and which number it is then
num-ends : (s : Slot) (k : List Item) → AllEnd k → AllEnd (num s ∷ k)
unfolding spell decimal ◌if◌else◌
num-ends s k g r none ok =
    let e = g (put s 0 r) none (sane_none k) in
    (48 ∷ e.0, e.1, number false 0 (48 ∷ []) (positive_allowed (can_minus s) 0 (omega arith)) refl e.2)
num-ends s k g r minus ok =
    let e = g (put s 255 r) none (sane_none k) in
    let a = negative-allowed (can_minus s) 1 (record { can = ok; least = omega arith; most = omega (arith, limit-least (can_minus s) true) }) in
    (49 ∷ e.0, e.1, number true 1 (49 ∷ []) a refl e.2)
num-ends s k g r (some m v) ok =
    let e = g (put s (byte_of m v) r) none (sane_none k) in
    (e.0, e.1, number m v [] ok (append-nil (spell (some m v))) e.2)

-- by `}`
line_finishes : (k : List Item) → AllEnd (one line ∷ k)
unfolding take1
line_finishes k r x s = (125 ∷ [], r, single refl (no_blank_lem done))

-- ---- a rule's line, to the end
-- each byte of w
bytes-end : (w : List ℕ) (k : List Item) → AllEnd k → AllEnd (bytes w k)
bytes-end [] k g = g
bytes-end (c ∷ w) k g = byte-ends c (bytes w k) (bytes-end w k g)

-- an item of a quoted plan
item-ends : (a b : Bool) (c : ℕ) (k : List Item) → AllEnd k → AllEnd (cond a gap (cond b (one one-blank) (one (byte c))) ∷ k)
item-ends true b c k g = gap_finishes k g
item-ends false true c k g = blank-ends k g
item-ends false false c k g = byte-ends c k g

-- a quoted plan
plan_finishes : (w : List ℕ) (k : List Item) → AllEnd k → AllEnd (plan w k)
plan_finishes [] k g = g
plan_finishes (c ∷ w) k g = item-ends (eqb c 126) (eqb c 95) c (plan w k) (plan_finishes w k g)

-- a label's numbers
numbers_finish : (shape : Shape) (g j : ℕ) (k : List Item) → AllEnd k → AllEnd (numbers shape g j k)
numbers_finish shape zero j k f = f
numbers_finish shape (suc g) j k f = bytes-end (joint shape j) _ (num-ends _ _ (numbers_finish shape g (j + 1) k f))

-- a label and the lines after it
label_finishes : (shape : Shape) (g : ℕ) → AllEnd (label shape g)
label_finishes shape g =
    plan_finishes (text "~label~=~\"") _
    (numbers_finish shape g 0 _ (plan_finishes (text "\"~]~;") _ (gap_finishes _ (line_finishes []))))

-- a rule's line for any types byte
rule_finishes : (b : ℕ) → AllEnd (rule_line b)
rule_finishes b = plan_finishes (text ">~s") _ (num-ends cell _ (plan_finishes (text "~[") _ (label_finishes (rule_shape b) (weight_bytes b))))

-- by `-`: a rule may follow any name
kind-ends : (k : List Item) → AllEnd (one kind ∷ k)
unfolding take1
kind-ends k r x s = let e = rule_finishes r.types (new_rule r) none tt in (45 ∷ e.0, e.1, single refl e.2)

-- from any point of any plan some text finishes
pub ends : (k : List Item) (r : Gathered) (x : Num) → Sane k x → Ends k r x
ends [] r x s = ([], r, done)
ends (gap ∷ k) r x s = gap_finishes k (ends k) r x s
ends (num s ∷ k) r x ok = num-ends s k (ends k) r x ok
ends (one (byte b) ∷ k) r x s = byte-ends b k (ends k) r x s
ends (one one-blank ∷ k) r x s = blank-ends k (ends k) r x s
ends (one line ∷ k) r x s = line_finishes k r x s
ends (one kind ∷ k) r x s = kind-ends k r x s
