-- A drawing has at most 6,286 bytes: 22 + (16 · 19 + 6 - 1) + 64 · 93 + 3, the first line, the states, the rules and the end. In an accepted table
-- the types byte has at most two digits, k and a state's flags one, a state's number and its mask at most two, a coefficient at most four
-- characters, a divisor one digit. A state's number has a second digit from 10 on, which six states have at most; and the mask of an initial
-- state, of which there is one, is 0, one digit.
use Prim.Native.Nat.{ℕ, zero, suc, ◌+◌, ◌-◌, ◌*◌, ◌/◌, ◌%◌, ◌^◌, ◌≤◌, ◌<◌}
use mathlib.Core.Path.{◌≡◌, refl, ap, ◌∙◌}
use mathlib.Core.Bool.{Bool, true, false, cond, ◌||◌, false≢true}
use mathlib.Core.List.{List, [], ◌∷◌}
use native.Mathlib.Nat.{add-mul, one-mul}
use native.Mathlib.Numerals.{add-one}
use native.Mathlib.Decide.{dec_lt}
use native.Mathlib.Omega.{arith}
use borrow.Author.Tests.{lt-ltb, ltb-false}
use lib.Dec.{ltb}
use lib.ListN.{length}
use Rattle.senders.specs.Tally.{digit, count, some}
use Rattle.fault.specs.Bytes.{byte_at}
use Rattle.fault.specs.Fault.{◌if◌else◌}
use Rattle.layout.specs.Layout.{second, second_of, types_in, type_bytes, weight_bytes, rule_bytes, most_types, most_divisor, end_bytes, divisor_at, weights_at, weights_of}
use Rattle.table.specs.Table.{states_of, rules_of, types_byte, types_of, factor_of, flags_of, initial_of, sent_of, rule_at, rule_of, state_bytes}
use Rattle.table.specs.Facts.{WellFormed}
use Rattle.table.proofs.RecordLaws.{rule-byte}
use Rattle.decimal.specs.Numbers.{text, decimal, spelling}
use Rattle.dot.specs.declared.Shape.{Shape}
use Rattle.dot.specs.Text.{state_shape, rule_shape, joint_at, negative, Piece, char, written, chars, after, tight, a_blank, new_line, head_text, joint, numbers_text, label_text, state_text, rule_text, states_text, rules_text, end_text, table_text, drawing_of}
use Rattle.pen.proofs.LengthLaws.{chars-long, after-long, spelling-long, end-long}

-- ---- numbers
one-digit : (v : ℕ) → v < 10 → length (decimal v) ≡ 1
unfolding decimal ◌if◌else◌
one-digit v h = rw (lt-ltb v 10 h) refl

two_digits : (v : ℕ) → v < 100 → length (decimal v) ≤ 2
unfolding decimal ◌if◌else◌
two_digits v h = rw (lt-ltb v 100 h) (split (ltb v 10))
  where
    split : (a : Bool) → length ((48 + v) ∷ [] if a else (48 + v / 10) ∷ (48 + v % 10) ∷ []) ≤ 2
    split true = omega arith
    split false = omega arith

number-long : (n : Bool) (b : ℕ) → (n ≡ false → b < 10) → length (spelling n b) ≤ cond n 4 1
number-long true b h = spelling-long true b
number-long false b h = omega (arith, one-digit b (h refl))

-- ---- labels
-- the most bytes of the numbers j .. j+g-1, if none but a coefficient has more than a digit
abbrev most : Shape → ℕ → ℕ → ℕ
most shape zero j = 0
most shape (suc g) j = length (joint shape j) + cond (negative shape j) 4 1 + most shape g (j + 1)

most_less : (shape : Shape) (g h j : ℕ) → g ≤ h → most shape g j ≤ most shape h j
most_less shape zero h j l = omega arith
most_less shape (suc g) zero j l = absurd (omega arith)
most_less shape (suc g) (suc h) j l = omega (arith, most_less shape g h (j + 1) (omega arith))

-- a rule's have at most 62 in the first edition and 70 in the second
few-numbers : (byte : ℕ) → types_in byte ≤ most_types → most (rule_shape byte) (weight_bytes byte) 0 ≤ 70
unfolding weight_bytes type_bytes ◌if◌else◌ joint_at
few-numbers byte h = split (second_of byte)
  where
    split : (t : Bool) → most (record { group = cond t 4 3; signed = 3 }) (cond t 4 3 * types_in byte) 0 ≤ 70
    split true = omega (arith, most_less (record { group = 4; signed = 3 }) (4 * types_in byte) 16 0 (omega arith))
    split false = omega (arith, most_less (record { group = 3; signed = 3 }) (3 * types_in byte) 12 0 (omega arith))

numbers-long : (shape : Shape) (s : List ℕ) (n at : ℕ) → ((i : ℕ) → i < n → negative shape i ≡ false → byte_at s (at + i) < 10) → (g j x : ℕ) (p : List Piece) → j + g ≤ n → x ≡ at + j
    → length (written (numbers_text shape g j s x p)) ≤ most shape g j + length (written p)
unfolding numbers_text
numbers-long shape s n at few zero j x p l e = omega arith
numbers-long shape s n at few (suc g) j x p l e =
    let rest = numbers_text shape g (j + 1) s (x + 1) p in
    let b = spelling (negative shape j) (byte_at s x) in
    omega (
      arith,
      chars-long (joint shape j) (chars b rest),
      chars-long b rest,
      number-long (negative shape j) (byte_at s x) (λ z. rw e (few j (omega arith) z)),
      numbers-long shape s n at few g (j + 1) (x + 1) p (omega arith) (omega arith),
    )

-- what ends a label
abbrev closed : List Piece → List Piece
closed p = char 34 ∷ after tight (text "]") (after tight (text ";") p)

label_is : (shape : Shape) (g : ℕ) (s : List ℕ) (at : ℕ) (p : List Piece)
    → length (written (label_text shape g s at p)) ≡ 7 + length (written (numbers_text shape g 0 s at (closed p)))
unfolding label_text written
label_is shape g s at p = omega arith

closed_is : (p : List Piece) → length (written (closed p)) ≡ 3 + length (written p)
unfolding written
closed_is p = omega arith

-- ---- the line of a state
flags-and_mask : (s : List ℕ) (at : ℕ) (p : List Piece) → length (written (numbers_text state_shape state_bytes 0 s at p)) ≡ length (decimal (byte_at s at)) + 1 + length (decimal (byte_at s (at + 1))) + length (written p)
unfolding numbers_text joint_at written ◌if◌else◌
flags-and_mask s at p =
    let b = decimal (byte_at s (at + 1)) in
    omega (arith, chars-long (decimal (byte_at s at)) (char 32 ∷ chars b p), chars-long b p)

state-is : (s : List ℕ) (i : ℕ) (p : List Piece) → length (written (state_text s i p)) ≡ 15 + length (decimal i) + length (decimal (flags_of s i)) + length (decimal (sent_of s i)) + length (written p)
unfolding state_text
state-is s i p =
    let p₁ = label_text state_shape state_bytes s (state_bytes * i) p in
    let p₂ = after a_blank (text "[") p₁ in
    omega (
      arith,
      after-long new_line (text "s") (chars (decimal i) p₂),
      chars-long (decimal i) p₂,
      after-long a_blank (text "[") p₁,
      label_is state_shape state_bytes s (state_bytes * i) p,
      flags-and_mask s (state_bytes * i) (closed p),
      closed_is p,
    )

-- a mask is below 16
few_sets : (T : ℕ) → T ≤ most_types → 2 ^ T ≤ 16
few_sets zero h = omega arith
few_sets (suc zero) h = omega arith
few_sets (suc (suc zero)) h = omega arith
few_sets (suc (suc (suc zero))) h = omega arith
few_sets (suc (suc (suc (suc zero)))) h = omega arith
few_sets (suc (suc (suc (suc (suc T))))) h = absurd (omega arith)

-- it has two digits, or one in an initial state
mask_long : (a : Bool) (x : ℕ) → x < 16 → (a ≡ true → x ≡ 0) → length (decimal x) + digit a ≤ 2
mask_long true x h z = omega (arith, one-digit x (omega (arith, z refl)))
mask_long false x h z = omega (arith, two_digits x (omega arith))

-- of the numbers up to i, i + 1 - 10 have a second digit: it is one more from 10 on
name-long : (i : ℕ) → i < 100 → length (decimal i) + (i - 10) ≤ 1 + (i + 1 - 10)
name-long i h = split (dec_lt i 10)
  where
    split : Dec (i < 10) → length (decimal i) + (i - 10) ≤ 1 + (i + 1 - 10)
    split (yes l) = omega (arith, one-digit i l)
    split (no l) = omega (arith, two_digits i h)

-- ---- the line of a rule
rule-long : (byte : ℕ) (s : List ℕ) (at : ℕ) (p : List Piece) → types_in byte ≤ most_types → byte_at s at < 16 → byte_at s (at + 1) < 16 →
    ((i : ℕ) → i < weight_bytes byte → negative (rule_shape byte) i ≡ false → byte_at s (at + end_bytes + i) < 10) → length (written (rule_text byte s at p)) ≤ 93 + length (written p)
unfolding rule_text
rule-long byte s at p h f t few =
    let a = decimal (byte_at s at) in
    let b = decimal (byte_at s (at + 1)) in
    let p₁ = label_text (rule_shape byte) (weight_bytes byte) s (at + end_bytes) p in
    let p₂ = after a_blank (text "[") p₁ in
    let p₃ = after a_blank (text "s") (chars b p₂) in
    let p₄ = after a_blank (text "->") p₃ in
    omega (
      arith,
      after-long new_line (text "s") (chars a p₄),
      chars-long a p₄,
      two_digits (byte_at s at) (omega arith),
      after-long a_blank (text "->") p₃,
      after-long a_blank (text "s") (chars b p₂),
      chars-long b p₂,
      two_digits (byte_at s (at + 1)) (omega arith),
      after-long a_blank (text "[") p₁,
      label_is (rule_shape byte) (weight_bytes byte) s (at + end_bytes) p,
      numbers-long (rule_shape byte) s (weight_bytes byte) (at + end_bytes) few (weight_bytes byte) 0 (at + end_bytes) (closed p) (omega arith) (omega arith),
      few-numbers byte h,
      closed_is p,
    )

-- of a number that is no coefficient: in the first edition there is none, and in the second it is the divisor of its type
number-divides : (byte : ℕ) (rule : List ℕ) (i : ℕ) → negative (rule_shape byte) i ≡ false → i < weight_bytes byte →
    (m : ℕ) × (m < types_in byte) × (byte_at rule (end_bytes + i) ≡ (weights_of byte rule m).e)
unfolding weight_bytes weights_of weights_at divisor_at type_bytes ◌if◌else◌
number-divides byte rule i h l = split (second_of byte) h l
  where
    split : (t : Bool) → ltb (i % cond t 4 3) 3 ≡ false → i < cond t 4 3 * types_in byte →
        (m : ℕ) × (m < types_in byte) × (byte_at rule (end_bytes + i) ≡ cond t (byte_at rule (end_bytes + cond t 4 3 * m + 3)) 1)
    split true h l =
        let o = ltb-false (i % 4) 3 h in
        let e : end_bytes + 4 * (i / 4) + 3 ≡ end_bytes + i = omega arith in
        (i / 4, omega arith, rw e)
    split false h l = let o = ltb-false (i % 3) 3 h in absurd (omega arith)

-- ---- the first line
head_long : (byte k : ℕ) (p : List Piece) → byte < 100 → k < 10 → length (written (head_text byte k p)) ≤ 22 + length (written p)
unfolding head_text written
head_long byte k p h l =
    let p₁ = after tight (text ";") p in
    let p₂ = after tight (decimal k) p₁ in
    let p₃ = after tight (text "=") p₂ in
    let p₄ = after a_blank (text "k") p₃ in
    let p₅ = after tight (text ";") p₄ in
    omega (arith, chars-long (decimal byte) p₅, chars-long (decimal k) p₁, two_digits byte h, one-digit k l)

-- the types byte is at most 20
byte-few : (byte : ℕ) → byte ≤ types_in byte + second
unfolding types_in ◌if◌else◌
byte-few byte = split (second_of byte)
  where
    split : (t : Bool) → byte ≤ cond t (byte - second) byte + second
    split true = omega arith
    split false = omega arith

-- ---- all of them
-- one that passes is counted
some-counted : (n : ℕ) (P : ℕ → Bool) → some n P ≡ true → 1 ≤ count n P
unfolding some count
some-counted zero P h = absurd (false≢true h)
some-counted (suc n) P h = split (some n P) (P n) refl (some-counted n P) h
  where
    split : (a b : Bool) → some n P ≡ a → (some n P ≡ true → 1 ≤ count n P) → (a || b) ≡ true → 1 ≤ count n P + digit b
    split true b e f _ = omega (arith, f e)
    split false true e f _ = omega arith
    split false false e f g = absurd (false≢true g)

count_next : (i : ℕ) (P : ℕ → Bool) → count (i + 1) P ≡ count i P + digit (P i)
unfolding count
count_next i P = rw add-one refl

module _ (s : List ℕ) (W : WellFormed s) where
  state-long : (i : ℕ) (p : List Piece) → i < states_of s → length (written (state_text s i p)) + digit (initial_of s i) + (i - 10) ≤ 19 + (i + 1 - 10) + length (written p)
  state-long i p l =
      let F = W.state i l in
      omega (
        arith,
        state-is s i p,
        W.sized.few_states,
        name-long i (omega (arith, W.sized.few_states)),
        one-digit (flags_of s i) (omega (arith, F.flags)),
        mask_long (initial_of s i) (sent_of s i) (omega (arith, F.sent, few_sets (types_of s) W.sized.few_types)) F.fresh,
      )

  -- the x states from state i on: one byte less for each that is initial, one more for each from 10 on
  states-long : (x i : ℕ) (p : List Piece) → i + x ≡ states_of s
      → length (written (states_text x s i p)) + count (states_of s) (initial_of s) + (i - 10) ≤ 19 * x + (states_of s - 10) + count i (initial_of s) + length (written p)
  unfolding states_text
  states-long zero i p e = let q : i ≡ states_of s = omega (arith, e) in omega (arith, q, ap (λ (n : ℕ). count n (initial_of s)) q)
  states-long (suc x) i p e =
      omega (
        arith,
        state-long i (states_text x s (i + 1) p) (omega (arith, e)),
        states-long x (i + 1) p (omega (arith, e)),
        count_next i (initial_of s),
      )

  next-rule : (r : ℕ) → rule_at s r + rule_bytes (types_byte s) ≡ rule_at s (r + 1)
  unfolding rule_at
  next-rule r = omega (arith, add-mul r 1 (rule_bytes (types_byte s)), one-mul (rule_bytes (types_byte s)))

  -- a rule's number that is no coefficient has one digit
  divisors : (r i : ℕ) → i < weight_bytes (types_byte s) → negative (rule_shape (types_byte s)) i ≡ false →
      ((m : ℕ) → m < types_in (types_byte s) → (weights_of (types_byte s) (rule_of s r) m).e ≤ most_divisor) → byte_at s (rule_at s r + end_bytes + i) < 10
  divisors r i l n few =
      let d = number-divides (types_byte s) (rule_of s r) i n l in
      let z : rule_at s r + end_bytes + i ≡ rule_at s r + (end_bytes + i) = omega arith in
      rw z (omega (arith, rule-byte s r (end_bytes + i) (omega arith), d.2, few d.0 d.1))

  -- the x rules from rule r on
  rules-long : (x r at : ℕ) (p : List Piece) → r + x ≡ rules_of s → at ≡ rule_at s r → length (written (rules_text x (types_byte s) s at p)) ≤ 93 * x + length (written p)
  unfolding rules_text
  rules-long zero r at p e q = omega arith
  rules-long (suc x) r at p e q =
      let byte = types_byte s in
      let F = W.rule r (omega (arith, e)) in
      let E = F.ends in
      let few : (i : ℕ) → i < weight_bytes byte → negative (rule_shape byte) i ≡ false → byte_at s (at + end_bytes + i) < 10 = λ i l n. rw q (divisors r i l n F.divides.few_divisor) in
      let from : byte_at s at < 16 = rw q (omega (arith, E.from, W.sized.few_states)) in
      let to : byte_at s (at + 1) < 16 = rw q (omega (arith, E.to, W.sized.few_states)) in
      omega (
        arith,
        rule-long byte s at (rules_text x byte s (at + rule_bytes byte) p) W.sized.few_types from to few,
        rules-long x (r + 1) (at + rule_bytes byte) p (omega (arith, e)) (ap (λ (n : ℕ). n + rule_bytes byte) q ∙ next-rule r),
      )

  pub drawing-few : length (drawing_of s) ≤ 6286
  unfolding drawing_of table_text rule_at count
  drawing-few =
      let r = rules_text (rules_of s) (types_byte s) s (state_bytes * states_of s) end_text in
      omega (
        arith,
        W.sized.few_states,
        W.sized.few_rules,
        head_long (types_byte s) (factor_of s) (states_text (states_of s) s 0 r) (omega (arith, byte-few (types_byte s), W.sized.few_types)) (omega (arith, W.sized.few_factor)),
        states-long (states_of s) 0 r (omega arith),
        some-counted (states_of s) (initial_of s) W.some_initial,
        rules-long (rules_of s) 0 (state_bytes * states_of s) end_text (omega arith) (omega arith),
        end-long,
      )
