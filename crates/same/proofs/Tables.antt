-- Tables that say the same are refused the same records, are read the same beside a bundle, and have one design: each test and each part of the design
-- looks only at what both say.
use mathlib.Core.Path.{◌≡◌, refl, sym, ap, ap₂, ◌∙◌}
use mathlib.Core.Bool.{Bool, not, ◌&&◌, ◌||◌}
use mathlib.Core.List.{List}
use Prim.Native.Nat.{ℕ, zero, suc, ◌+◌, ◌<◌}
use native.Mathlib.Decide.{dec_lt}
use native.Mathlib.Omega.{arith}
use borrow.Author.Tests.{lt-ltb, le-ltb, le-leb}
use Rattle.senders.specs.Tally.{count, some}
use Rattle.senders.specs.Set.{mem, missing}
use Rattle.fault.specs.Bytes.{byte_at}
use Rattle.fault.specs.Tests.{◌below◌, ◌over◌, ◌at_least◌, outside}
use Rattle.fault.specs.Fault.{refused, ◌if◌else◌, ◌▹◌, first_fault}
use Rattle.fault.proofs.FaultLaws.{Clean, then_pass}
use Rattle.threshold.specs.declared.Weights.{Weights}
use Rattle.threshold.specs.Threshold.{threshold_of, met_by}
use Rattle.layout.specs.Layout.{divisor_outside, most_divisor}
use Rattle.table.specs.Table.{states_of, rules_of, types_byte, types_of, initial_of, sent_of, from_of, to_of, rule_of}
use Rattle.table.specs.Refusals.{state_off, no_initial, no_state, divisor_off, forgets, sends_two, state_fault, rule_fault, records_fault, table_fault}
use Rattle.table.specs.Facts.{RuleEnds, WellFormed}
use Rattle.bundle.specs.Bundle.{correct_of, starts_of}
use Rattle.bundle.specs.Refusals.{no_trailer, out_of_bundle, not_admitted, steps_off, not_initial, start_fault, schedule_fault, fault_with}
use Rattle.words.specs.declared.Sizes.{Sizes}
use Rattle.rules.specs.Design.{met_at, design_of}
use Rattle.same.specs.Same.{SameTable}

-- ---- folds that agree below n
some_same : (n : ℕ) (P Q : ℕ → Bool) → ((i : ℕ) → i < n → P i ≡ Q i) → some n P ≡ some n Q
unfolding some
some_same zero P Q h = refl
some_same (suc n) P Q h = ap₂ (λ (a b : Bool). a || b) (some_same n P Q (λ i l. h i (omega arith))) (h n (omega arith))

first-same : (n : ℕ) (f g : ℕ → ℕ) → ((i : ℕ) → i < n → f i ≡ g i) → first_fault f n ≡ first_fault g n
unfolding first_fault
first-same zero f g h = refl
first-same (suc n) f g h = rw (first-same n f g (λ i l. h i (omega arith)), h n (omega arith))

-- ---- what is guarded by a bound
and_same : {a b : Bool} {n n' : ℕ} (x : ℕ) → n ≡ n' → (x < n → a ≡ b) → (x below n && a) ≡ (x below n' && b)
and_same {a} {b} {n} {n'} x e h = go (dec_lt x n)
  where
    go : Dec (x < n) → (x below n && a) ≡ (x below n' && b)
    go (yes l) = rw (← e, lt-ltb x n l) (h l)
    go (no l) = rw (← e, le-ltb x n (omega arith))

if_same : {a b : ℕ} (n x : ℕ) → (x < n → a ≡ b) → (a if x below n else 0) ≡ (b if x below n else 0)
unfolding ◌if◌else◌
if_same {a} {b} n x h = go (dec_lt x n)
  where
    go : Dec (x < n) → (a if x below n else 0) ≡ (b if x below n else 0)
    go (yes l) = rw (lt-ltb x n l) (h l)
    go (no l) = rw (le-ltb x n (omega arith))

module _ (s s' : List ℕ) (E : SameTable s s') where
  initial-same : (i : ℕ) → i < states_of s → initial_of s i ≡ initial_of s' i
  initial-same i h = ap (λ (x : ℕ). mem x 0) (E.flags i h)

  -- ---- the records of a well-formed table
  state-same : (i : ℕ) → i < states_of s → state_fault s i ≡ state_fault s' i
  unfolding state_fault state_off
  state-same i h = rw (E.flags i h, E.sent i h, E.types)

  module _ (r : ℕ) (h : r < rules_of s) (N : RuleEnds s r) where
    left-same : sent_of s (from_of s r) ≡ sent_of s' (from_of s' r)
    left-same = E.sent (from_of s r) N.from ∙ ap (sent_of s') (E.from r h)

    entered_same : sent_of s (to_of s r) ≡ sent_of s' (to_of s' r)
    entered_same = E.sent (to_of s r) N.to ∙ ap (sent_of s') (E.to r h)

    no_state-same : no_state s r ≡ no_state s' r
    unfolding no_state
    no_state-same = λ i. E.from r h i at_least E.states i || E.to r h i at_least E.states i

    divisor-same : divisor_off s r ≡ divisor_off s' r
    unfolding divisor_off
    divisor-same = some_same (types_of s) _ _ (λ m l. ap (λ (w : Weights). outside 1 most_divisor w.e) (E.weights r m h l)) ∙ ap (λ (n : ℕ). some n (divisor_outside (types_byte s') (rule_of s' r))) E.types

    forgets-same : forgets s r ≡ forgets s' r
    unfolding forgets
    forgets-same = λ i. count (E.types i) (missing (left-same i) (entered_same i)) over 0

    sends-same : sends_two s r ≡ sends_two s' r
    unfolding sends_two
    sends-same = λ i. count (E.types i) (missing (entered_same i) (left-same i)) over 1

    rule-same : rule_fault s r ≡ rule_fault s' r
    unfolding rule_fault
    rule-same = λ i. 6 if no_state-same i else 9 if divisor-same i else 7 if forgets-same i else 8 if sends-same i else 0

  pub records_same : WellFormed s → records_fault s ≡ records_fault s'
  unfolding records_fault no_initial
  records_same W =
      let states = first-same (states_of s) (state_fault s) (state_fault s') state-same ∙ ap (first_fault (state_fault s')) E.states in
      let none = ap not (some_same (states_of s) (initial_of s) (initial_of s') initial-same ∙ ap (λ (n : ℕ). some n (initial_of s')) E.states) in
      let rules = first-same (rules_of s) (rule_fault s) (rule_fault s') (λ r h. rule-same r h (W.rule r h).ends) ∙ ap (first_fault (rule_fault s')) E.rules in
      λ i. states i ▹ (refused 5 if none i else rules i)

  -- ---- a bundle beside either
  start-same : (x : ℕ) → not_initial s x ≡ not_initial s' x
  unfolding not_initial
  start-same x = go (dec_lt x (states_of s))
    where
      go : Dec (x < states_of s) → (x at_least states_of s || not (initial_of s x)) ≡ (x at_least states_of s' || not (initial_of s' x))
      go (yes l) = rw (← E.states, initial-same x l)
      go (no l) = rw (← E.states, le-leb (states_of s) x (omega arith))

  pub fault-same : (b : List ℕ) → Clean (table_fault s) → Clean (table_fault s') → fault_with s b ≡ fault_with s' b
  unfolding fault_with schedule_fault start_fault
  fault-same b c c' =
      let starts = first-same (correct_of b) (start_fault s (starts_of b)) (start_fault s' (starts_of b)) (λ p h. start (byte_at (starts_of b) p)) in
      let schedule : schedule_fault s b ≡ schedule_fault s' b = λ i. refused 12 if not_admitted (E.factor i) b else refused 13 if steps_off b else starts i in
      let both : (table_fault s ▹ schedule_fault s b) ≡ (table_fault s' ▹ schedule_fault s' b) = sym (then_pass refl c refl) ∙ schedule ∙ then_pass refl c' refl in
      λ i. refused 10 if no_trailer b else refused 11 if out_of_bundle b else both i
    where
      start : (x : ℕ) → ◌≡◌ {A = ℕ} (14 if not_initial s x else 0) (14 if not_initial s' x else 0)
      start x = λ i. 14 if start-same x i else 0

  -- ---- the design
  met-same : (r m n t c : ℕ) → r < rules_of s → m < types_of s → met_at s r m n t c ≡ met_at s' r m n t c
  unfolding met_at
  met-same r m n t c h l = ap (λ (w : Weights). met_by c (threshold_of w n t)) (E.weights r m h l)

  pub design-same : (z : Sizes) (t : ℕ) → z.rules ≡ rules_of s → z.types ≡ types_of s → design_of z t s ≡ design_of z t s'
  design-same z t er et =
      λ i. record {
        boards = z.correct;
        faulty = z.faulty;
        tolerated = t;
        types = z.types;
        rules = z.rules;
        initial = λ x. and_same x E.states (initial-same x) i;
        accepting = λ x. and_same x E.states (λ h. ap (λ (y : ℕ). mem y 1) (E.flags x h)) i;
        has_sent = λ x m. and_same x E.states (λ h. ap (λ (y : ℕ). mem y m) (E.sent x h)) i;
        from = λ r. if_same z.rules r (λ h. E.from r (rw er at h)) i;
        to = λ r. if_same z.rules r (λ h. E.to r (rw er at h)) i;
        met = λ r m c. met r m c i;
      }
    where
      met : (r m c : ℕ) → (r below z.rules && m below z.types && met_at s r m (z.correct + z.faulty) t c) ≡ (r below z.rules && m below z.types && met_at s' r m (z.correct + z.faulty) t c)
      met r m c = go (dec_lt r z.rules) (dec_lt m z.types)
        where
          go : Dec (r < z.rules) → Dec (m < z.types) → (r below z.rules && m below z.types && met_at s r m (z.correct + z.faulty) t c) ≡ (r below z.rules && m below z.types && met_at s' r m (z.correct + z.faulty) t c)
          go (yes h) (yes l) = rw (lt-ltb r z.rules h, lt-ltb m z.types l) (met-same r m (z.correct + z.faulty) t c (rw er at h) (rw et at l))
          go (yes h) (no l) = rw (lt-ltb r z.rules h, le-ltb m z.types (omega arith))
          go (no h) l = rw (le-ltb r z.rules (omega arith))
