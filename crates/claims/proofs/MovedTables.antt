-- A moved table says what the table says, and is read as one; and a table written in its own edition is itself. Each record is found by the length
-- of those before it, and each type in a record.
use mathlib.Core.Path.{◌≡◌, refl, sym, ap, ap₂, ◌∙◌}
use mathlib.Core.Bool.{Bool, true, false, cond}
use mathlib.Core.List.{List, [], ◌∷◌, ◌++◌, append_assoc}
use Prim.Native.Nat.{ℕ, zero, suc, ◌+◌, ◌-◌, ◌*◌, ◌≤◌, ◌<◌}
use native.Mathlib.Nat.{zero-mul, suc-mul, mul-zero, mul-suc}
use native.Mathlib.Omega.{arith}
use lib.ListN.{length, take, drop, length-append, length-drop}
use lib.Seq.{take_all, take-add, take_at, drop_at, drop-cons, drop-drop, drop-append-add, get_or-append-add, get_or-drop, get_or-take}
use Rattle.fault.specs.Bytes.{byte_at, trailer_of}
use Rattle.fault.specs.Fault.{Verdict}
use Rattle.fault.specs.Fault.{refused, ◌if◌else◌}
use Rattle.fault.proofs.FaultLaws.{if_passed, Clean}
use Rattle.threshold.specs.declared.Weights.{Weights}
use Rattle.layout.specs.Layout.{second_of, types_in, end_bytes, type_bytes, weight_bytes, rule_bytes, divisor_at, weights_at, weights_of}
use Rattle.layout.proofs.LayoutLaws.{weights-inside}
use Rattle.table.specs.Table.{states_of, rules_of, types_byte, types_of, factor_of, state_bytes, rule_size, rule_at, from_of, to_of, rule_of, weights_for, records_bytes}
use Rattle.table.specs.Refusals.{counts_outside, too_short, counts_off, distances_off, records_fault, table_fault}
use Rattle.table.specs.Facts.{Sized}
use Rattle.table.proofs.TableLaws.{well_formed}
use Rattle.table.proofs.RecordLaws.{rule-length, rule-from, rule-to}
use Rattle.trailer.specs.Trailer.{trailer_for}
use Rattle.trailer.proofs.TrailerLaws.{distances, own-table, sized-counts, made_at, made_records}
use Rattle.editions.specs.Moved.{bytes_in, types_from, record_in, rules_from, moved_to}
use Rattle.editions.proofs.MovedLaws.{bytes-length, record_length, rules-length, states-length}
use Rattle.same.specs.Same.{SameTable}
use Rattle.same.proofs.Tables.{records_same}

-- a clean table's records are
records_clean : (s : List ℕ) → Clean (table_fault s) → (records_fault s).number ≡ 0
unfolding table_fault
records_clean s h =
    let a = if_passed Clean (refused 1) (too_short s) _ (λ z. omega arith) h in
    let b = if_passed Clean (refused 2) (counts_off s) _ (λ z. omega arith) a.1 in
    (if_passed Clean (refused 3) (distances_off s) _ (λ z. omega arith) b.1).1

-- ---- what is written of a type is read back
type-back : (byte at : ℕ) (w : Weights) (rec rest : List ℕ) → ((k : ℕ) → byte_at rec (at + k) ≡ byte_at (bytes_in byte w ++ rest) k) → (second_of byte ≡ false → w.e ≡ 1) → weights_at byte rec at ≡ w
unfolding weights_at divisor_at bytes_in ◌if◌else◌
type-back byte at w rec rest h one = go (second_of byte) refl
  where
    first : byte_at rec at ≡ byte_at rec (at + 0)
    first = ap (byte_at rec) (omega arith)

    go : (b : Bool) → second_of byte ≡ b → record { a = byte_at rec at; b = byte_at rec (at + 1); d = byte_at rec (at + 2); e = cond b (byte_at rec (at + 3)) 1 } ≡ w
    go true q = λ i. record { a = (first ∙ rw q at (h 0)) i; b = (rw q at (h 1)) i; d = (rw q at (h 2)) i; e = (rw q at (h 3)) i }
    go false q = λ i. record { a = (first ∙ rw q at (h 0)) i; b = (rw q at (h 1)) i; d = (rw q at (h 2)) i; e = sym (one q) i }

-- ---- types and rules, some of them passed over
skip-types : (byte own : ℕ) (rule : List ℕ) (j y x m : ℕ) → y ≡ j + x → drop (type_bytes byte * j) (types_from byte own rule y m) ≡ types_from byte own rule x (m + j)
unfolding types_from
skip-types byte own rule zero y x m e =
    let a : y ≡ x = omega arith in
    let b : m + 0 ≡ m = omega arith in
    rw (mul-zero, a, b)
skip-types byte own rule (suc j) zero x m e = absurd (omega arith)
skip-types byte own rule (suc j) (suc y) x m e =
    let w = bytes_in byte (weights_of own rule m) in
    let b : m + suc j ≡ m + 1 + j = omega arith in
    let c : type_bytes byte * suc j ≡ length w + type_bytes byte * j = omega (arith, mul-suc (type_bytes byte) j, bytes-length byte (weights_of own rule m)) in
    rw (c, b) (drop-append-add w (types_from byte own rule y (m + 1)) (type_bytes byte * j) ∙ skip-types byte own rule j y x (m + 1) (omega arith))

-- the same of each type is written the same
types-again : (b own own' : ℕ) (rule rule' : List ℕ) (g m : ℕ) → ((i : ℕ) → i < m + g → weights_of own rule i ≡ weights_of own' rule' i) → types_from b own rule g m ≡ types_from b own' rule' g m
unfolding types_from
types-again b own own' rule rule' zero m h = refl
types-again b own own' rule rule' (suc g) m h =
    ap₂ (λ (u v : List ℕ). u ++ v) (ap (bytes_in b) (h m (omega arith))) (types-again b own own' rule rule' g (m + 1) (λ i l. h i (omega arith)))

module _ (byte : ℕ) (s : List ℕ) (t : types_in byte ≡ types_of s) where
  abbrev record_of : ℕ → List ℕ
  record_of r = record_in byte (types_byte s) (rule_of s r)

  record_long : (r : ℕ) → length (record_of r) ≡ rule_bytes byte
  record_long r = record_length byte (types_byte s) (rule_of s r) t

  skip-rules : (j y x r : ℕ) (z : List ℕ) → y ≡ j + x → drop (j * rule_bytes byte) (rules_from byte s y r ++ z) ≡ rules_from byte s x (r + j) ++ z
  unfolding rules_from
  skip-rules zero y x r z e =
      let a : y ≡ x = omega arith in
      let b : r + 0 ≡ r = omega arith in
      rw (zero-mul, a, b)
  skip-rules (suc j) zero x r z e = absurd (omega arith)
  skip-rules (suc j) (suc y) x r z e =
      let b : r + suc j ≡ r + 1 + j = omega arith in
      let c : suc j * rule_bytes byte ≡ length (record_of r) + j * rule_bytes byte = omega (arith, suc-mul j (rule_bytes byte), record_long r) in
      rw (c, b, append_assoc (record_of r) (rules_from byte s y (r + 1)) z)
      (drop-append-add (record_of r) (rules_from byte s y (r + 1) ++ z) (j * rule_bytes byte) ∙ skip-rules j y x (r + 1) z (omega arith))

  -- ---- the moved table, of a table with these sizes
  module _ (Z : Sized s) where
    abbrev s' : List ℕ
    s' = moved_to byte s

    abbrev head : List ℕ
    head = take (state_bytes * states_of s) s

    abbrev rules : List ℕ
    rules = rules_from byte s (rules_of s) 0

    abbrev last : List ℕ
    last = trailer_for (states_of s) (rules_of s) byte (factor_of s)

    head_long : length head ≡ state_bytes * states_of s
    head_long = states-length s Z refl

    body-long : length (head ++ rules) ≡ records_bytes (states_of s) (rules_of s) byte
    body-long = omega (arith, length-append head rules, head_long, rules-length byte s t (rules_of s) 0)

    parts : s' ≡ (head ++ rules) ++ last
    unfolding moved_to
    parts = sym (append_assoc head rules last)

    numbers : (i : ℕ) → byte_at s' (trailer_of s' + i) ≡ byte_at last i
    numbers i = rw parts (made_at (head ++ rules) (states_of s) (rules_of s) byte (factor_of s) body-long i)

    states_are : states_of s ≡ states_of s'
    unfolding trailer_for
    states_are = sym (numbers 4)

    rules_are : rules_of s ≡ rules_of s'
    unfolding trailer_for
    rules_are = sym (numbers 5)

    pub byte_is : types_byte s' ≡ byte
    unfolding trailer_for
    byte_is = numbers 6

    factor_is : factor_of s ≡ factor_of s'
    unfolding trailer_for
    factor_is = sym (numbers 7)

    -- a state's bytes are in the head
    state-byte : (x : ℕ) → x < state_bytes * states_of s → byte_at s x ≡ byte_at s' x
    unfolding moved_to
    state-byte x h =
        sym (get_or-take (state_bytes * states_of s) s x 0 h) ∙ ap (λ (l : List ℕ). byte_at l x) (sym (take_at head (rules ++ last) (state_bytes * states_of s) head_long)) ∙
        get_or-take (state_bytes * states_of s) s' x 0 h

    -- a rule's record is the one that was written
    from-rule : (r : ℕ) → r < rules_of s → drop (state_bytes * states_of s + r * rule_bytes byte) s' ≡ record_of r ++ (rules_from byte s (rules_of s - (r + 1)) (r + 1) ++ last)
    unfolding moved_to rules_from
    from-rule r h =
        let z : rules_of s - r ≡ suc (rules_of s - (r + 1)) = omega arith in
        let o : 0 + r ≡ r = omega arith in
        sym (drop-drop (r * rule_bytes byte) (state_bytes * states_of s) s') ∙ ap (drop (r * rule_bytes byte)) (drop_at head (rules ++ last) (state_bytes * states_of s) head_long) ∙
        skip-rules r (rules_of s) (rules_of s - r) 0 last (omega arith) ∙ rw (z, o) (append_assoc (record_of r) (rules_from byte s (rules_of s - (r + 1)) (r + 1)) last)

    rule-is : (r : ℕ) → r < rules_of s → rule_of s' r ≡ record_of r
    unfolding rule_of rule_at
    rule-is r h =
        (λ i. take (rule_bytes (byte_is i)) (drop (state_bytes * sym states_are i + r * rule_bytes (byte_is i)) s')) ∙
        ap (take (rule_bytes byte)) (from-rule r h) ∙ take_at (record_of r) _ (rule_bytes byte) (record_long r)

    from-same : (r : ℕ) → r < rules_of s → from_of s r ≡ from_of s' r
    unfolding record_in
    from-same r h = sym (rule-from s r) ∙ sym (ap (λ (l : List ℕ). byte_at l 0) (rule-is r h)) ∙ rule-from s' r

    to_same : (r : ℕ) → r < rules_of s → to_of s r ≡ to_of s' r
    unfolding record_in
    to_same r h = sym (rule-to s r) ∙ sym (ap (λ (l : List ℕ). byte_at l 1) (rule-is r h)) ∙ rule-to s' r

    -- what the record says of a type
    said : (r m : ℕ) → m < types_of s → (second_of byte ≡ false → (weights_for s r m).e ≡ 1) → weights_of byte (record_of r) m ≡ weights_for s r m
    unfolding weights_of record_in types_from
    said r m l one = type-back byte (end_bytes + type_bytes byte * m) (weights_for s r m) (record_of r) rest at one
      where
        own : ℕ
        own = types_byte s

        types : List ℕ
        types = types_from byte own (rule_of s r) (types_of s) 0

        rest : List ℕ
        rest = types_from byte own (rule_of s r) (types_of s - (m + 1)) (m + 1)

        at : (k : ℕ) → byte_at (record_of r) (end_bytes + type_bytes byte * m + k) ≡ byte_at (bytes_in byte (weights_for s r m) ++ rest) k
        at k =
            let e : end_bytes + type_bytes byte * m + k ≡ end_bytes + (type_bytes byte * m + k) = omega arith in
            let z : types_of s - m ≡ suc (types_of s - (m + 1)) = omega arith in
            let o : 0 + m ≡ m = omega arith in
            let q : types_from byte own (rule_of s r) (types_of s - m) (0 + m) ≡ bytes_in byte (weights_for s r m) ++ rest = rw (z, o) in
            ap (byte_at (record_of r)) e ∙ get_or-append-add (byte_at (rule_of s r) 0 ∷ byte_at (rule_of s r) 1 ∷ []) types (type_bytes byte * m + k) 0 ∙ sym (get_or-drop (type_bytes byte * m) types k 0) ∙
            ap (λ (l : List ℕ). byte_at l k) (skip-types byte own (rule_of s r) m (types_of s) (types_of s - m) 0 (omega arith) ∙ q)

    -- ---- both say the same
    pub moved_same : ((r m : ℕ) → r < rules_of s → m < types_of s → second_of byte ≡ false → (weights_for s r m).e ≡ 1) → SameTable s s'
    moved_same one = record {
      states = states_are;
      rules = rules_are;
      types = sym (ap types_in byte_is ∙ t);
      factor = factor_is;
      flags = λ i h. state-byte (state_bytes * i) (omega arith);
      sent = λ i h. state-byte (state_bytes * i + 1) (omega arith);
      from = from-same;
      to = to_same;
      weights = λ r m h l. sym ((λ i. weights_of (byte_is i) (rule-is r h i) m) ∙ said r m l (one r m h l));
    }

    -- and the moved one is no less a table
    pub moved-clean : Clean (table_fault s) → SameTable s s' → Clean (table_fault s')
    moved-clean c E =
        let W = well_formed s c in
        let counts : counts_outside (states_of s) (rules_of s) (types_in byte) (factor_of s) ≡ false = rw t (sized-counts s Z) in
        ap (λ (l : List ℕ). (table_fault l).number) parts ∙ ap (λ (v : Verdict). v.number) (made_records (head ++ rules) (states_of s) (rules_of s) byte (factor_of s) body-long counts) ∙
        ap (λ (l : List ℕ). (records_fault l).number) (sym parts) ∙ ap (λ (v : Verdict). v.number) (sym (records_same s s' E W)) ∙ records_clean s c

    -- ---- moved again it is as moved at once
    record_again : (b r : ℕ) → SameTable s s' → r < rules_of s → record_in b (types_byte s') (rule_of s' r) ≡ record_in b (types_byte s) (rule_of s r)
    unfolding record_in
    record_again b r E h =
        let from = rule-from s' r ∙ sym (E.from r h) ∙ sym (rule-from s r) in
        let to = rule-to s' r ∙ sym (E.to r h) ∙ sym (rule-to s r) in
        let types =
        ap (λ (n : ℕ). types_from b (types_byte s') (rule_of s' r) n 0) (sym E.types) ∙
        types-again b (types_byte s') (types_byte s) (rule_of s' r) (rule_of s r) (types_of s) 0 (λ m l. sym (E.weights r m h (omega arith))) in
        λ i. from i ∷ to i ∷ types i

    rules-again : (b x r : ℕ) → SameTable s s' → r + x ≤ rules_of s → rules_from b s' x r ≡ rules_from b s x r
    unfolding rules_from
    rules-again b zero r E h = refl
    rules-again b (suc x) r E h = ap₂ (λ (u v : List ℕ). u ++ v) (record_again b r E (omega arith)) (rules-again b x (r + 1) E (omega arith))

    pub moved-again : (b : ℕ) → SameTable s s' → moved_to b s' ≡ moved_to b s
    unfolding moved_to
    moved-again b E =
        let states = ap (λ (n : ℕ). take (state_bytes * n) s') (sym states_are) ∙ take_at head (rules ++ last) (state_bytes * states_of s) head_long in
        let of-rules = ap (λ (n : ℕ). rules_from b s' n 0) (sym rules_are) ∙ rules-again b (rules_of s) 0 E (omega arith) in
        λ i. states i ++ (of-rules i ++ trailer_for (sym states_are i) (sym rules_are i) b (sym factor_is i))

-- ---- in its own edition
-- the bytes of one type
type-own : (own at : ℕ) (rule : List ℕ) → at + type_bytes own ≤ length rule → bytes_in own (weights_at own rule at) ≡ take (type_bytes own) (drop at rule)
unfolding bytes_in weights_at divisor_at type_bytes ◌if◌else◌
type-own own at rule h = go (second_of own) refl
  where
    one : (k : ℕ) → at + k < length rule → drop (at + k) rule ≡ byte_at rule (at + k) ∷ drop (at + (k + 1)) rule
    one k l = let z : suc (at + k) ≡ at + (k + 1) = omega arith in drop-cons rule (at + k) 0 l ∙ ap (λ (x : ℕ). byte_at rule (at + k) ∷ drop x rule) z

    here : at + 0 ≡ at
    here = omega arith

    three : at + 2 < length rule → drop at rule ≡ byte_at rule at ∷ byte_at rule (at + 1) ∷ byte_at rule (at + 2) ∷ drop (at + 3) rule
    three l =
        rw here at (one 0 (omega arith)) ∙ ap (◌∷◌ (byte_at rule at)) (one 1 (omega arith) ∙ ap (◌∷◌ (byte_at rule (at + 1))) (one 2 l))

    go : (b : Bool) → second_of own ≡ b →
        cond b (byte_at rule at ∷ byte_at rule (at + 1) ∷ byte_at rule (at + 2) ∷ cond b (byte_at rule (at + 3)) 1 ∷ []) (byte_at rule at ∷ byte_at rule (at + 1) ∷ byte_at rule (at + 2) ∷ []) ≡
        take (cond b 4 3) (drop at rule)
    go true q = let l : at + 4 ≤ length rule = rw q at h in rw (three (omega arith), one 3 (omega arith))
    go false q = let l : at + 3 ≤ length rule = rw q at h in rw (three (omega arith))

module _ (own : ℕ) (rule : List ℕ) (l : length rule ≡ rule_bytes own) where
  types-own : (g m : ℕ) → m + g ≤ types_in own → types_from own own rule g m ≡ take (type_bytes own * g) (drop (end_bytes + type_bytes own * m) rule)
  unfolding types_from weights_of
  types-own zero m h = rw mul-zero
  types-own (suc g) m h =
      let i = weights-inside own m (omega arith) in
      let at = end_bytes + type_bytes own * m in
      let next : at + type_bytes own ≡ end_bytes + type_bytes own * (m + 1) = omega (arith, mul-suc (type_bytes own) m, mul_succ m) in
      let more : type_bytes own * suc g ≡ type_bytes own + type_bytes own * g = omega (arith, mul-suc (type_bytes own) g) in
      rw more
      (ap₂ (λ (x y : List ℕ). x ++ y) (type-own own at rule (omega (arith, i))) (types-own g (m + 1) (omega arith) ∙ ap (λ (x : ℕ). take (type_bytes own * g) (drop x rule)) (sym next) ∙ ap (take (type_bytes own * g)) (sym (drop-drop (type_bytes own) at rule))) ∙
      sym (take-add (type_bytes own) (type_bytes own * g) (drop at rule)))
    where
      mul_succ : (m : ℕ) → type_bytes own * (m + 1) ≡ type_bytes own * suc m
      mul_succ m = let z : m + 1 ≡ suc m = omega arith in rw z

  record_own : record_in own own rule ≡ rule
  unfolding record_in weight_bytes
  record_own =
      let two : 2 ≤ length rule = omega arith in
      let zero-at : type_bytes own * 0 ≡ 0 = mul-zero (type_bytes own) in
      let whole : take (type_bytes own * types_in own) (drop (end_bytes + type_bytes own * 0) rule) ≡ drop 2 rule =
      rw zero-at (take_all (type_bytes own * types_in own) (drop 2 rule) (rw length-drop (omega arith))) in
      ap (λ (x : List ℕ). byte_at rule 0 ∷ byte_at rule 1 ∷ x) (types-own (types_in own) 0 (omega arith) ∙ whole) ∙
      sym (drop-cons rule 0 0 (omega arith) ∙ ap (◌∷◌ (byte_at rule 0)) (drop-cons rule 1 0 (omega arith)))

module _ (s : List ℕ) (Z : Sized s) where
  part : (r : ℕ) → rule_of s r ≡ take (rule_size s) (drop (rule_at s r) s)
  unfolding rule_of
  part r = refl

  next : (r : ℕ) → rule_at s (r + 1) ≡ rule_at s r + rule_size s
  unfolding rule_at
  next r = let z : r + 1 ≡ suc r = omega arith in rw z (omega (arith, suc-mul r (rule_size s)))

  first : rule_at s 0 ≡ state_bytes * states_of s
  unfolding rule_at
  first = omega (arith, zero-mul (rule_size s))

  rules-own : (x r : ℕ) → r + x ≤ rules_of s → rules_from (types_byte s) s x r ≡ take (x * rule_size s) (drop (rule_at s r) s)
  unfolding rules_from
  rules-own zero r h = rw zero-mul
  rules-own (suc x) r h =
      let more : suc x * rule_size s ≡ rule_size s + x * rule_size s = omega (arith, suc-mul x (rule_size s)) in
      rw more
      (ap₂ (λ (y z : List ℕ). y ++ z) (record_own (types_byte s) (rule_of s r) (rule-length s Z r (omega arith)) ∙ part r)
      (rules-own x (r + 1) (omega arith) ∙ ap (λ (y : ℕ). take (x * rule_size s) (drop y s)) (next r) ∙ ap (take (x * rule_size s)) (sym (drop-drop (rule_size s) (rule_at s r) s))) ∙
      sym (take-add (rule_size s) (x * rule_size s) (drop (rule_at s r) s)))

  pub own-moved : Clean (table_fault s) → ((x : ℕ) → byte_at s x < 256) → moved_to (types_byte s) s ≡ s
  unfolding moved_to
  own-moved c all =
      let n = state_bytes * states_of s in
      let m = rules_of s * rule_size s in
      let z : rule_at s 0 ≡ n = first in
      let w : n + m ≡ length s - 8 = omega (arith, Z.whole) in
      let last = trailer_for (states_of s) (rules_of s) (types_byte s) (factor_of s) in
      ap (λ (l : List ℕ). take n s ++ (l ++ last)) (rules-own (rules_of s) 0 (omega arith) ∙ ap (λ (x : ℕ). take m (drop x s)) z) ∙
      sym (append_assoc (take n s) (take m (drop n s)) last) ∙ ap (λ (l : List ℕ). l ++ last) (sym (take-add n m s) ∙ ap (λ (x : ℕ). take x s) w) ∙ own-table s (distances s c) all
