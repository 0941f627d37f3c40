-- What is refused of the records of a drawn table is none of 1, 3, 60.
use mathlib.Core.Path.{◌≡◌}
use mathlib.Core.Bool.{Bool, true, false, cond}
use mathlib.Core.List.{List}
use Prim.Native.Nat.{ℕ, zero, suc, ◌≤◌}
use native.Mathlib.Omega.{arith}
use lib.Dec.{eqb}
use Rattle.fault.specs.Fault.{Verdict}
use Rattle.fault.specs.Fault.{fine, verdict, refused, ◌▹◌, first_fault}
use Rattle.fault.proofs.FaultLaws.{if_keeps}
use Rattle.table.specs.Table.{states_of, rules_of}
use Rattle.table.specs.Refusals.{no_initial, no_state, divisor_off, forgets, sends_two, state_off, state_fault, rule_fault, records_fault}

-- ---- refusals of records
-- none of 1, 3, 60
pub record Later (k : ℕ) : Type 0 where
  pub not_1 : k ≡ 1 → ⊥
  pub not_3 : k ≡ 3 → ⊥
  pub not_60 : k ≡ 60 → ⊥

pub later_0 : Later 0
later_0 = record { not_1 = λ z. omega arith; not_3 = λ z. omega arith; not_60 = λ z. omega arith }

pub later_2 : Later 2
later_2 = record { not_1 = λ z. omega arith; not_3 = λ z. omega arith; not_60 = λ z. omega arith }

pub later_above : (k : ℕ) → 4 ≤ k → (k ≡ 60 → ⊥) → Later k
later_above k h n = record { not_1 = λ z. omega arith; not_3 = λ z. omega arith; not_60 = n }

then_later : (v w : Verdict) → Later v.number → Later w.number → Later (v ▹ w).number
unfolding ◌▹◌
then_later v w a b = go (eqb v.number 0)
  where
    go : (t : Bool) → Later (cond t w v).number
    go true = b
    go false = a

first-later : (f : ℕ → ℕ) → ((i : ℕ) → Later (f i)) → (n : ℕ) → Later (first_fault f n).number
unfolding first_fault
first-later f h zero = later_0
first-later f h (suc n) =
    then_later (first_fault f n) _ (first-later f h n)
    (if_keeps (λ (v : Verdict). Later v.number) fine (eqb (f n) 0) (verdict (f n) n) (λ _. later_0) (λ _. h n))

module _ (s : List ℕ) where
  state-later : (i : ℕ) → Later (state_fault s i)
  unfolding state_fault
  state-later i = if_keeps Later 4 (state_off s i) 0 (λ _. later_above 4 (omega arith) (λ z. omega arith)) (λ _. later_0)

  rule-later : (r : ℕ) → Later (rule_fault s r)
  unfolding rule_fault
  rule-later r =
      if_keeps Later 6 (no_state s r) _ (λ _. later_above 6 (omega arith) (λ z. omega arith))
      (λ _. if_keeps Later 9 (divisor_off s r) _ (λ _. later_above 9 (omega arith) (λ z. omega arith))
      (λ _. if_keeps Later 7 (forgets s r) _ (λ _. later_above 7 (omega arith) (λ z. omega arith))
      (λ _. if_keeps Later 8 (sends_two s r) 0 (λ _. later_above 8 (omega arith) (λ z. omega arith)) (λ _. later_0))))

  pub records_later : Later (records_fault s).number
  unfolding records_fault
  records_later =
      then_later (first_fault (state_fault s) (states_of s)) _ (first-later (state_fault s) state-later (states_of s))
      (if_keeps (λ (v : Verdict). Later v.number) (refused 5) (no_initial s) (first_fault (rule_fault s) (rules_of s))
      (λ _. later_above 5 (omega arith) (λ z. omega arith)) (λ _. first-later (rule_fault s) rule-later (rules_of s)))
