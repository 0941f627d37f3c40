-- How long a table is in the other edition; its parts put one after the other, from what the code has in hand; and the turns of the loops that put them.
use mathlib.Core.Path.{◌≡◌, refl, sym}
use mathlib.Core.Bool.{Bool, true, false, cond}
use mathlib.Core.List.{List, [], ◌∷◌, ◌++◌}
use Prim.Native.Nat.{ℕ, zero, suc, ◌+◌, ◌-◌, ◌*◌, ◌≤◌, ◌<◌}
use native.Mathlib.Nat.{mul-zero, mul-suc, zero-mul, suc-mul}
use native.Mathlib.Omega.{arith}
use lib.ListN.{length, take, length-append}
use lib.Seq.{length-take-le}
use Rattle.fault.specs.Bytes.{byte_at, trailer_bytes}
use Rattle.fault.specs.Fault.{◌if◌else◌}
use Rattle.fault.proofs.FaultLaws.{if_yes, if_no}
use Rattle.threshold.specs.declared.Weights.{Weights}
use Rattle.layout.specs.Layout.{second_of, types_in, type_bytes, weight_bytes, rule_bytes, weights_of}
use Rattle.table.specs.Table.{states_of, rules_of, types_byte, types_of, factor_of, state_bytes, records_bytes, rule_of}
use Rattle.table.specs.Facts.{CountsFit, Sized}
use Rattle.trailer.specs.Trailer.{trailer_for}
use Rattle.trailer.proofs.TrailerLaws.{trailer-length}
use Rattle.ink.specs.Ink.{stored, Put}
use Rattle.ink.proofs.InkLaws.{RestPut, put_byte, put_then, put_as, rest_less, rest-none}
use Rattle.editions.specs.Moved.{bytes_in, types_from, record_in, rules_from, moved_to}

-- ---- lengths
pub bytes-length : (byte : ℕ) (w : Weights) → length (bytes_in byte w) ≡ type_bytes byte
unfolding bytes_in type_bytes ◌if◌else◌
bytes-length byte w = go (second_of byte)
  where
    go : (b : Bool) → length (cond b (w.a ∷ w.b ∷ w.d ∷ w.e ∷ []) (w.a ∷ w.b ∷ w.d ∷ [])) ≡ cond b 4 3
    go true = refl
    go false = refl

pub types-length : (byte own : ℕ) (rule : List ℕ) (g m : ℕ) → length (types_from byte own rule g m) ≡ type_bytes byte * g
unfolding types_from
types-length byte own rule zero m = sym (mul-zero (type_bytes byte))
types-length byte own rule (suc g) m =
    let w = weights_of own rule m in
    omega (arith, length-append (bytes_in byte w) (types_from byte own rule g (m + 1)), bytes-length byte w, types-length byte own rule g (m + 1), mul-suc (type_bytes byte) g)

pub record_length : (byte own : ℕ) (rule : List ℕ) → types_in byte ≡ types_in own → length (record_in byte own rule) ≡ rule_bytes byte
unfolding record_in weight_bytes
record_length byte own rule e = rw e (omega (arith, types-length byte own rule (types_in own) 0))

pub rules-length : (byte : ℕ) (s : List ℕ) → types_in byte ≡ types_of s → (x r : ℕ) → length (rules_from byte s x r) ≡ x * rule_bytes byte
unfolding rules_from
rules-length byte s e zero r = sym (zero-mul (rule_bytes byte))
rules-length byte s e (suc x) r =
    let w = record_in byte (types_byte s) (rule_of s r) in
    omega (arith, length-append w (rules_from byte s x (r + 1)), record_length byte (types_byte s) (rule_of s r) e, rules-length byte s e x (r + 1), suc-mul x (rule_bytes byte))

pub states-length : {a : ℕ} (s : List ℕ) → Sized s → a ≡ states_of s → length (take (state_bytes * a) s) ≡ state_bytes * a
states-length {a} s z e = length-take-le (state_bytes * a) s (omega (arith, z.whole))

pub moved_length : (byte : ℕ) (s : List ℕ) → Sized s → types_in byte ≡ types_of s → length (moved_to byte s) ≡ records_bytes (states_of s) (rules_of s) byte + trailer_bytes
unfolding moved_to
moved_length byte s z e =
    let front = take (state_bytes * states_of s) s in
    let rules = rules_from byte s (rules_of s) 0 in
    let last = trailer_for (states_of s) (rules_of s) byte (factor_of s) in
    omega (
      arith,
      length-append front (rules ++ last),
      length-append rules last,
      states-length s z refl,
      rules-length byte s e (rules_of s) 0,
      trailer-length (states_of s) (rules_of s) byte (factor_of s),
    )

-- ---- a type
module _ {out o₁ o₂ o₃ : List ℕ} {n m₁ m₂ m₃ : ℕ} {b : Bool} (byte : ℕ) (w : Weights) (e : b ≡ second_of byte)
    (a₁ : m₁ ≡ n + 1) (p₁ : o₁ ≡ stored out n (w.a ∷ [])) (a₂ : m₂ ≡ m₁ + 1) (p₂ : o₂ ≡ stored o₁ m₁ (w.b ∷ [])) (a₃ : m₃ ≡ m₂ + 1) (p₃ : o₃ ≡ stored o₂ m₂ (w.d ∷ [])) where
  three : Put out n (w.a ∷ w.b ∷ w.d ∷ []) m₃ o₃
  three = put_then (put_byte a₁ p₁) (put_then (put_byte a₂ p₂) (put_byte a₃ p₃))

  pub type-put-first : b ≡ false → Put out n (bytes_in byte w) m₃ o₃
  unfolding bytes_in
  type-put-first h = put_as (sym (if_no _ e h refl)) three

  pub type-put-second : {r : ℕ} {end : List ℕ} → b ≡ true → r ≡ m₃ + 1 → end ≡ stored o₃ m₃ (w.e ∷ []) → Put out n (bytes_in byte w) r end
  unfolding bytes_in
  type-put-second h a p = put_as (sym (if_yes _ refl e h)) (put_then three (put_byte a p))

-- ---- all types of a rule
module _ (byte own : ℕ) (rule : List ℕ) where
  -- the rest of the types from m on
  pub types-first : types_from byte own rule (types_in own) 0 ≡ types_from byte own rule (types_in own - 0) 0
  types-first = let e : types_in own - 0 ≡ types_in own = omega arith in rw e

  types_more : (x m : ℕ) → m < x → types_from byte own rule (x - m) m ≡ bytes_in byte (weights_of own rule m) ++ types_from byte own rule (x - (m + 1)) (m + 1)
  unfolding types_from
  types_more x m h = let e : x - m ≡ suc (x - (m + 1)) = omega arith in rw e

  types-over : (x m : ℕ) → x ≤ m → types_from byte own rule (x - m) m ≡ []
  unfolding types_from
  types-over x m h = let e : x - m ≡ 0 = omega arith in rw e

  pub types-turn : {out₀ whole out end : List ℕ} {n₀ n r x m : ℕ} {w : Weights} → RestPut out₀ n₀ whole out n (types_from byte own rule (types_in own - m) m) → m < x → x ≡ types_in own → w ≡ weights_of own rule m → Put out n (bytes_in byte w) r end → RestPut out₀ n₀ whole end r (types_from byte own rule (types_in own - (m + 1)) (m + 1))
  types-turn {m = m} l h e f p = rest_less l (types_more (types_in own) m (omega arith)) (rw f at p)

  pub types-end : {out₀ whole out : List ℕ} {n₀ n x m : ℕ} → RestPut out₀ n₀ whole out n (types_from byte own rule (types_in own - m) m) → x ≤ m → x ≡ types_in own → Put out₀ n₀ whole n out
  types-end {m = m} l h e = rest-none l (types-over (types_in own) m (omega arith))

  pub record_put : {out o₁ o₂ end : List ℕ} {n m₁ m₂ r : ℕ} → m₁ ≡ n + 1 → o₁ ≡ stored out n (byte_at rule 0 ∷ []) → m₂ ≡ m₁ + 1 → o₂ ≡ stored o₁ m₁ (byte_at rule 1 ∷ []) → Put o₂ m₂ (types_from byte own rule (types_in own) 0) r end → Put out n (record_in byte own rule) r end
  unfolding record_in
  record_put a p b q l = put_then (put_byte a p) (put_then (put_byte b q) l)

-- ---- all rules
module _ (byte : ℕ) (s : List ℕ) where
  -- the rest of the rules from r on
  pub rules-first : rules_from byte s (rules_of s) 0 ≡ rules_from byte s (rules_of s - 0) 0
  rules-first = let e : rules_of s - 0 ≡ rules_of s = omega arith in rw e

  rules-more : (x r : ℕ) → r < x → rules_from byte s (x - r) r ≡ record_in byte (types_byte s) (rule_of s r) ++ rules_from byte s (x - (r + 1)) (r + 1)
  unfolding rules_from
  rules-more x r h = let e : x - r ≡ suc (x - (r + 1)) = omega arith in rw e

  rules-over : (x r : ℕ) → x ≤ r → rules_from byte s (x - r) r ≡ []
  unfolding rules_from
  rules-over x r h = let e : x - r ≡ 0 = omega arith in rw e

  pub rules-turn : {out₀ whole out end rule : List ℕ} {n₀ n k x r own : ℕ} → RestPut out₀ n₀ whole out n (rules_from byte s (rules_of s - r) r) → r < x → x ≡ rules_of s → own ≡ types_byte s → rule ≡ rule_of s r → Put out n (record_in byte own rule) k end → RestPut out₀ n₀ whole end k (rules_from byte s (rules_of s - (r + 1)) (r + 1))
  rules-turn {r = r} l h e f g p = rest_less l (rules-more (rules_of s) r (omega arith)) (rw (f, g) at p)

  pub rules-end : {out₀ whole out : List ℕ} {n₀ n x r : ℕ} → RestPut out₀ n₀ whole out n (rules_from byte s (rules_of s - r) r) → x ≤ r → x ≡ rules_of s → Put out₀ n₀ whole n out
  rules-end {r = r} l h e = rest-none l (rules-over (rules_of s) r (omega arith))

-- ---- the whole, from the counts that the code has read
pub counts-fit : {a b k : ℕ} (byte : ℕ) (s : List ℕ) → Sized s → types_in byte ≡ types_of s → a ≡ states_of s → b ≡ rules_of s → k ≡ factor_of s → CountsFit a b (types_in byte) k
counts-fit byte s z t e f g = record {
  some_state = omega (arith, z.some_state);
  few_states = omega (arith, z.few_states);
  some_rule = omega (arith, z.some_rule);
  few_rules = omega (arith, z.few_rules);
  some_type = omega (arith, z.some_type);
  few_types = omega (arith, z.few_types);
  some_factor = omega (arith, z.some_factor);
  few_factor = omega (arith, z.few_factor);
}

pub bytes-needed : {a b l p : ℕ} (byte : ℕ) (s : List ℕ) → Sized s → types_in byte ≡ types_of s → a ≡ states_of s → b ≡ rules_of s → l ≡ rule_bytes byte → p ≡ b * l → state_bytes * a + p + trailer_bytes ≡ length (moved_to byte s)
bytes-needed {p = p} byte s z t e f g h = let q : p ≡ rules_of s * rule_bytes byte = rw (h, f, g) in omega (arith, q, moved_length byte s z t)

-- what is put at the start ends at its length
from_start : {out end w : List ℕ} {r : ℕ} → Put out 0 w r end → Put out 0 w (length w) end
from_start p = record { place = omega arith; bytes = p.bytes }

pub moved-put : {out o₁ o₂ end : List ℕ} {a b k m₁ m₂ r : ℕ} (byte : ℕ) (s : List ℕ) → a ≡ states_of s → b ≡ rules_of s → k ≡ factor_of s → Put out 0 (take (state_bytes * a) s) m₁ o₁ → Put o₁ m₁ (rules_from byte s (rules_of s) 0) m₂ o₂ → Put o₂ m₂ (trailer_for a b byte k) r end → Put out 0 (moved_to byte s) (length (moved_to byte s)) end
unfolding moved_to
moved-put byte s e f g p q l = from_start (put_then (rw e at p) (put_then q (rw (e, f, g) at l)))
