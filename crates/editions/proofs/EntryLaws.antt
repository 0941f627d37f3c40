-- The refusals of the two calls, from what the code has in hand; and the types byte of the other edition.
use mathlib.Core.Path.{◌≡◌, refl, sym, ap, ◌∙◌}
use mathlib.Core.Bool.{Bool, true, false, not}
use mathlib.Core.List.{List}
use Prim.Native.Nat.{ℕ, ◌+◌, ◌-◌, ◌≤◌, ◌<◌}
use native.Mathlib.Omega.{arith}
use lib.ListN.{length}
use borrow.Author.Tests.{leb-true, leb-false, le-leb, lt-leb, not-false}
use Rattle.senders.specs.Tally.{some}
use Rattle.fault.specs.Fault.{Verdict}
use Rattle.fault.specs.declared.Answer.{Answer}
use Rattle.fault.specs.Tests.{◌differs◌}
use Rattle.fault.specs.Fault.{fine, refused, nothing_done, first_fault}
use Rattle.fault.proofs.FaultLaws.{if_yes, if_no, then_stop, then_pass}
use Rattle.threshold.specs.declared.Weights.{Weights}
use Rattle.layout.specs.Layout.{second, second_of, types_in, most_types, weights_of}
use Rattle.table.specs.Table.{rules_of, types_byte, types_of, rule_of}
use Rattle.table.specs.Refusals.{table_fault}
use Rattle.table.specs.Facts.{Sized}
use Rattle.table.proofs.TableLaws.{well_formed}
use Rattle.ink.specs.Ink.{given, left}
use Rattle.ink.proofs.GivenLaws.{Gave, gave_refused}
use Rattle.editions.specs.Moved.{moved_to}
use Rattle.editions.specs.Entry.{divided_by, rule_divides, to_second_fault, to_first_fault}

-- ---- 32
pub divided-is : {b : Bool} {x : Weights} (byte : ℕ) (rule : List ℕ) (m : ℕ) → x ≡ weights_of byte rule m → b ≡ (x.e differs 1) → b ≡ divided_by byte rule m
divided-is byte rule m e f = rw e at f

module _ {b : Bool} {x : ℕ} {rule : List ℕ} (s : List ℕ) (r : ℕ) (e : x ≡ types_byte s) (f : rule ≡ rule_of s r) (g : b ≡ some (types_in x) (divided_by x rule)) where
  pub rule-divides_yes : b ≡ true → 32 ≡ rule_divides s r
  unfolding rule_divides
  rule-divides_yes h = if_yes 0 refl (rw (e, f) at g) h

  pub rule-divides_no : b ≡ false → 0 ≡ rule_divides s r
  unfolding rule_divides
  rule-divides_no h = if_no 32 (rw (e, f) at g) h refl

-- ---- the types byte of the other edition
pub types_of_first : (x : ℕ) → x < second → types_in x ≡ x
unfolding types_in
types_of_first x h = sym (if_no (x - second) refl (lt-leb second x h) refl)

pub types_of_second : (x : ℕ) → second ≤ x → types_in x ≡ x - second
unfolding types_in
types_of_second x h = sym (if_yes x refl refl (le-leb second x h))

pub up_small : {b : Bool} (x : ℕ) → b ≡ second_of x → b ≡ false → x + second < 256
up_small x e f = omega (arith, leb-false second x (sym e ∙ f))

pub up-types : {b : Bool} {x : ℕ} (s : List ℕ) → x ≡ types_byte s → b ≡ second_of x → b ≡ false → types_in (x + second) ≡ types_of s
up-types {b} {x} s h e f = let l = leb-false second x (sym e ∙ f) in rw (← h) (omega (arith, types_of_first x l, types_of_second (x + second) (omega arith)))

pub down-inside : {b : Bool} (x : ℕ) → b ≡ second_of x → not b ≡ false → second ≤ x
down-inside x e f = leb-true second x (sym e ∙ not-false _ f)

pub down-types : {b : Bool} {x : ℕ} (s : List ℕ) → Sized s → x ≡ types_byte s → b ≡ second_of x → not b ≡ false → types_in (x - second) ≡ types_of s
down-types {b} {x} s z h e f =
    let l = types_of_second x (down-inside x e f) in
    let m : types_in x ≤ most_types = rw h z.few_types in
    rw (← h) (omega (arith, l, m, types_of_first (x - second) (omega (arith, l, m))))

-- ---- the calls
pub sized-table : {v : Verdict} (s : List ℕ) → v ≡ table_fault s → v.number ≡ 0 → Sized s
sized-table s e z = (well_formed s (ap (λ (v : Verdict). v.number) (sym e) ∙ z)).sized

-- bytes that are given with the types byte in hand are given with the table's, where nothing is refused
gave_moved : {v : Verdict} {a : Answer} {u out : List ℕ} {x y : ℕ} (s : List ℕ) → fine ≡ v → x ≡ y → a ≡ given 30 fine (moved_to x s) (length out) → u ≡ left fine (moved_to x s) out → Gave 30 v (moved_to y s) out a u
gave_moved s e f g h = record { answer = rw (e, f) at g; bytes = rw (e, f) at h }

-- each way out, by what the table was found to be
module _ {v : Verdict} (s out : List ℕ) (e : v ≡ table_fault s) where
  abbrev ToSecond : Answer → List ℕ → Type 0
  ToSecond a u = Gave 30 (to_second_fault s) (moved_to (types_byte s + second) s) out a u

  abbrev ToFirst : Answer → List ℕ → Type 0
  ToFirst a u = Gave 30 (to_first_fault s) (moved_to (types_byte s - second) s) out a u

  pub second-refused : {a : Answer} → (v.number ≡ 0 → ⊥) → a ≡ nothing_done v → ToSecond a out
  unfolding to_second_fault
  second-refused n q = gave_refused 30 _ out (then_stop _ e n) n q

  pub first-refused : {a : Answer} → (v.number ≡ 0 → ⊥) → a ≡ nothing_done v → ToFirst a out
  unfolding to_first_fault
  first-refused n q = gave_refused 30 _ out (then_stop _ e n) n q

  module _ {b : Bool} {x : ℕ} (z : v.number ≡ 0) (f : x ≡ types_byte s) (g : b ≡ second_of x) where
    pub second-already : {a : Answer} → b ≡ true → a ≡ nothing_done (refused 33) → ToSecond a out
    unfolding to_second_fault
    second-already h q = gave_refused 30 _ out (then_pass e z (if_yes _ refl (rw f at g) h)) (λ z. omega arith) q

    pub second-given : {a : Answer} {u : List ℕ} → b ≡ false → a ≡ given 30 fine (moved_to (x + second) s) (length out) → u ≡ left fine (moved_to (x + second) s) out → ToSecond a u
    unfolding to_second_fault
    second-given h q r = gave_moved s (then_pass e z (if_no _ (rw f at g) h refl)) (ap (λ (y : ℕ). y + second) f) q r

  module _ {w : Verdict} (z : v.number ≡ 0) (d : w ≡ first_fault (rule_divides s) (rules_of s)) where
    pub first-divides : {a : Answer} → (w.number ≡ 0 → ⊥) → a ≡ nothing_done w → ToFirst a out
    unfolding to_first_fault
    first-divides n q = gave_refused 30 _ out (then_pass e z (then_stop _ d n)) n q

    module _ {b : Bool} {x : ℕ} (y : w.number ≡ 0) (f : x ≡ types_byte s) (g : b ≡ second_of x) where
      pub first-already : {a : Answer} → not b ≡ true → a ≡ nothing_done (refused 33) → ToFirst a out
      unfolding to_first_fault
      first-already h q = gave_refused 30 _ out (then_pass e z (then_pass d y (if_yes _ refl (ap not (rw f at g)) h))) (λ z. omega arith) q

      pub first-given : {a : Answer} {u : List ℕ} → not b ≡ false → a ≡ given 30 fine (moved_to (x - second) s) (length out) → u ≡ left fine (moved_to (x - second) s) out → ToFirst a u
      unfolding to_first_fault
      first-given h q r = gave_moved s (then_pass e z (then_pass d y (if_no _ (ap not (rw f at g)) h refl))) (ap (λ (y : ℕ). y - second) f) q r
