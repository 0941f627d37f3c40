-- What a table that is not refused gives, and where a rule's record lies.
use mathlib.Core.Path.{◌≡◌, refl, sym, ap, ◌∙◌}
use mathlib.Core.Bool.{Bool, true, false, ◌&&◌, ◌||◌, false≢true, not}
use mathlib.Core.List.{List}
use Prim.Native.Nat.{ℕ, ◌+◌, ◌*◌, ◌%◌, ◌^◌, ◌≤◌, ◌<◌}
use native.Mathlib.Nat.{mul-le-mul_right, add-mul, one-mul}
use native.Mathlib.Omega.{arith}
use borrow.Author.Tests.{ltb-false, leb-false, not-false}
use lib.ListN.{length}
use Rattle.senders.specs.Tally.{some}
use Rattle.senders.proofs.TallyLaws.{count-zero, some-found, some-never}
use Rattle.senders.proofs.WordLaws.{shl_one}
use Rattle.fault.specs.Tests.{◌over◌, ◌at_least◌, ◌differs◌, outside}
use Rattle.fault.specs.Fault.{refused, ◌if◌else◌, first_fault}
use Rattle.fault.proofs.FaultLaws.{if_passed, then_clean, first-clean, Clean, if_most, Within, check_within, then_within, first-within}
use Rattle.fault.proofs.TestLaws.{or-none, inside, same}
use Rattle.fault.specs.Bytes.{trailer_bytes}
use Rattle.table.specs.Table.{state_distance, rule_distance, states_of, rules_of, types_byte, types_of, factor_of, most_states, most_rules, most_factor, flags_of, initial_of, sent_of, rule_size, most_records, most_table, rule_at, from_of, rule_of, state_bytes, records_bytes}
use Rattle.table.specs.Refusals.{too_short, counts_outside, counts_off, distances_off, state_off, no_initial, no_state, divisor_off, forgets, sends_two, state_fault, rule_fault, records_fault, table_fault}
use Rattle.layout.specs.Layout.{most_types, types_in, rule_bytes}
use Rattle.layout.proofs.LayoutLaws.{weights-few, divides}
use Rattle.table.specs.Facts.{CountsFit, Sized, StateFits, RuleEnds, RuleFits, WellFormed}

pub long : (s : List ℕ) → too_short s ≡ false → trailer_bytes ≤ length s
unfolding too_short
long s h = ltb-false (length s) trailer_bytes h

pub counts_by : {b : Bool} (n m T k : ℕ) → b ≡ counts_outside n m T k → b ≡ false → CountsFit n m T k
unfolding counts_outside
counts_by n m T k e f =
    let p = or-none (outside 1 most_states n || outside 1 most_rules m || outside 1 most_types T) _ (sym e ∙ f) in
    let q = or-none (outside 1 most_states n || outside 1 most_rules m) _ p.0 in
    let r = or-none (outside 1 most_states n) _ q.0 in
    let st = inside 1 most_states n r.0 in
    let ru = inside 1 most_rules m r.1 in
    let ty = inside 1 most_types T q.1 in
    let fa = inside 1 most_factor k p.1 in
    record {
      some_state = st.0;
      few_states = st.1;
      some_rule = ru.0;
      few_rules = ru.1;
      some_type = ty.0;
      few_types = ty.1;
      some_factor = fa.0;
      few_factor = fa.1;
    }

pub sized : (s : List ℕ) → too_short s ≡ false → counts_off s ≡ false → distances_off s ≡ false → Sized s
unfolding counts_off distances_off
sized s a b d =
    let C = counts_by (states_of s) (rules_of s) (types_of s) (factor_of s) refl b in
    let d₁ = or-none (state_distance s differs records_bytes (states_of s) (rules_of s) (types_byte s) || rule_distance s differs rules_of s * rule_size s) _ d in
    let d₂ = or-none (state_distance s differs records_bytes (states_of s) (rules_of s) (types_byte s)) _ d₁.0 in
    record {
      long = long s a;
      some_state = C.some_state;
      few_states = C.few_states;
      some_rule = C.some_rule;
      few_rules = C.few_rules;
      some_type = C.some_type;
      few_types = C.few_types;
      some_factor = C.some_factor;
      few_factor = C.few_factor;
      whole = same (length s) _ d₁.1 ∙ ap (λ (x : ℕ). x + trailer_bytes) (same (state_distance s) _ d₂.0);
    }

pub long_by : {b : Bool} (s : List ℕ) → b ≡ too_short s → b ≡ false → trailer_bytes ≤ length s
long_by s e f = long s (sym e ∙ f)

pub sized_by : {a b d : Bool} (s : List ℕ) → a ≡ too_short s → a ≡ false → b ≡ counts_off s → b ≡ false → d ≡ distances_off s → d ≡ false → Sized s
sized_by s e f g h i j = sized s (sym e ∙ f) (sym g ∙ h) (sym i ∙ j)

pub rule-inside : (s : List ℕ) → Sized s → (r : ℕ) → r < rules_of s → rule_at s r + rule_size s + trailer_bytes ≤ length s
unfolding rule_at
rule-inside s z r h =
    omega (arith, z.whole, add-mul r 1 (rule_size s), one-mul (rule_size s), mul-le-mul_right {m = r + 1} {n = rules_of s} (rule_size s) (omega arith))

-- `rule_at`, from what it has in hand
module _ {a b l p : ℕ} (s : List ℕ) (k : ℕ) (e : a ≡ states_of s) (f : b ≡ types_byte s) (w : l ≡ rule_bytes b) (g : p ≡ k * l) where
  pub rule-at-is : state_bytes * a + p ≡ rule_at s k
  unfolding rule_at
  rule-at-is = rw (g, w, e, f)

  pub rule-at-inside : Sized s → k < rules_of s → state_bytes * a + p + rule_size s + trailer_bytes ≤ length s
  rule-at-inside z h = rw rule-at-is (rule-inside s z k h)

-- ---- one state, one rule
-- `state_off`, from what it has in hand: a mask with a bit at or above T is at least 2 ^ T
pub state-off_law : {x f m : ℕ} {b : Bool} (s : List ℕ) (i : ℕ) → Sized s → x ≡ sent_of s i → f ≡ flags_of s i → m ≡ types_of s → b ≡ initial_of s i
    → (f over 3 || x at_least 1 * 2 ^ m % 2 ^ 64 || b && x over 0) ≡ state_off s i
unfolding state_off
state-off_law {x} {f} {m} {b} s i z ex ef em eb = rw (ex, ef, em, eb, shl_one (types_of s) (omega (arith, z.few_types)))

none : (k : ℕ) (t : Bool) (rest : ℕ) → (k ≡ 0 → ⊥) → (k if t else rest) ≡ 0 → (t ≡ false) × (rest ≡ 0)
none k t rest n h = if_passed (λ (x : ℕ). x ≡ 0) k t rest n h

initial-unsent : (a : Bool) (x : ℕ) → (a && x over 0) ≡ false → a ≡ true → x ≡ 0
initial-unsent true x h e = omega (arith, ltb-false 0 x h)
initial-unsent false x h e = absurd (false≢true e)

pub state-fits : (s : List ℕ) (i : ℕ) → state_fault s i ≡ 0 → StateFits s i
unfolding state_fault state_off
state-fits s i h =
    let a = or-none (flags_of s i over 3 || sent_of s i at_least 2 ^ types_of s) _ (none 4 _ 0 (λ z. omega arith) h).0 in
    let b = or-none (flags_of s i over 3) _ a.0 in
    record {
      flags = ltb-false 3 (flags_of s i) b.0;
      sent = leb-false (2 ^ types_of s) (sent_of s i) b.1;
      fresh = initial-unsent (initial_of s i) (sent_of s i) a.1;
    }

le-zero : {x : ℕ} → x ≤ 0 → x ≡ 0
le-zero h = omega arith

pub rule-ends : {b : Bool} (s : List ℕ) (r : ℕ) → b ≡ no_state s r → b ≡ false → RuleEnds s r
unfolding no_state
rule-ends s r e f =
    let a = or-none (from_of s r at_least states_of s) _ (sym e ∙ f) in
    record { from = leb-false _ _ a.0; to = leb-false _ _ a.1 }

pub rule_fits : (s : List ℕ) (r : ℕ) → rule_fault s r ≡ 0 → RuleFits s r
unfolding rule_fault divisor_off forgets sends_two
rule_fits s r h =
    let a = none 6 _ _ (λ z. omega arith) h in
    let e = none 9 _ _ (λ z. omega arith) a.1 in
    let b = none 7 _ _ (λ z. omega arith) e.1 in
    let d = none 8 _ 0 (λ z. omega arith) b.1 in
    record {
      ends = rule-ends s r refl a.0;
      divides = divides (types_byte s) (rule_of s r) e.0;
      keeps = count-zero (types_of s) _ (le-zero (ltb-false 0 _ b.0));
      one_new = ltb-false 1 _ d.0;
    }

-- ---- the table
-- `no_initial`, from what its loop has in hand
pub initial-found : {b : Bool} {i n : ℕ} (s : List ℕ) → b ≡ initial_of s i → b ≡ true → i < n → n ≡ states_of s → false ≡ no_initial s
unfolding no_initial
initial-found s e t h w = ap not (some-found (initial_of s) e t h w)

pub initial-never : {i n : ℕ} (s : List ℕ) → some i (initial_of s) ≡ false → i ≤ n → n ≤ i → n ≡ states_of s → true ≡ no_initial s
unfolding no_initial
initial-never s e p h w = ap not (some-never (initial_of s) e p h w)

pub well_formed : (s : List ℕ) → Clean (table_fault s) → WellFormed s
unfolding table_fault records_fault no_initial
well_formed s h =
    let a = if_passed Clean (refused 1) (too_short s) _ (λ z. omega arith) h in
    let b = if_passed Clean (refused 2) (counts_off s) _ (λ z. omega arith) a.1 in
    let d = if_passed Clean (refused 3) (distances_off s) _ (λ z. omega arith) b.1 in
    let e = then_clean (first_fault (state_fault s) (states_of s)) _ d.1 in
    let f = if_passed Clean (refused 5) (no_initial s) _ (λ z. omega arith) e.1 in
    record {
      sized = sized s a.0 b.0 d.0;
      state = λ i l. state-fits s i (first-clean (state_fault s) (states_of s) e.0 i l);
      some_initial = not-false _ f.0;
      rule = λ r l. rule_fits s r (first-clean (rule_fault s) (rules_of s) f.1 r l);
    }

-- ---- its records are few bytes
pub records_short : (n m byte : ℕ) → n ≤ most_states → m ≤ most_rules → types_in byte ≤ most_types → records_bytes n m byte ≤ most_records
records_short n m byte a b c = omega (arith, mul-le-mul_right {m = m} {n = most_rules} (rule_bytes byte) b, weights-few byte most_types c)

-- ---- what a table is refused for is at most 14, its place at most 64
module _ (s : List ℕ) where
  state_most : (i : ℕ) → state_fault s i ≤ 14
  unfolding state_fault
  state_most i = if_most _ (omega arith) (omega arith)

  rule_most : (r : ℕ) → rule_fault s r ≤ 14
  unfolding rule_fault
  rule_most r = if_most _ (omega arith) (if_most _ (omega arith) (if_most _ (omega arith) (if_most _ (omega arith) (omega arith))))

  records_within : Sized s → Within 14 64 (records_fault s)
  unfolding records_fault
  records_within z =
      then_within (first-within 14 64 (state_fault s) state_most (states_of s) (omega (arith, z.few_states)))
      (check_within _ (omega arith) (λ _. first-within 14 64 (rule_fault s) rule_most (rules_of s) z.few_rules))

  pub table-within : Within 14 64 (table_fault s)
  unfolding table_fault
  table-within = check_within _ (omega arith) (λ a. check_within _ (omega arith) (λ b. check_within _ (omega arith) (λ d. records_within (sized s a b d))))

  pub table-short : Sized s → length s ≤ most_table
  table-short z = omega (arith, z.whole, records_short (states_of s) (rules_of s) (types_byte s) z.few_states z.few_rules z.few_types)
