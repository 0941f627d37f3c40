-- Every text that fits is read to its end: no item takes a byte that the one before it would take.
use Prim.Native.Nat.{ℕ, zero, suc, ◌≤◌, ◌<◌, ◌-◌, ◌+◌, ◌%◌}
use mathlib.Core.Path.{◌≡◌, refl, sym, ap, ◌∙◌}
use mathlib.Core.Bool.{Bool, true, false, cond, ◌&&◌, ◌||◌, not, false≢true}
use mathlib.Core.List.{List, [], ◌∷◌, ◌++◌}
use native.Mathlib.Omega.{arith}
use lib.Dec.{eqb}
use lib.ListN.{length, length-append}
use borrow.Author.Tests.{lt-leb, ne_eqb, eqb-true, not-true}
use Rattle.fault.specs.Fault.{◌if◌else◌}
use Rattle.decimal.specs.Numbers.{text, decimal}
use Rattle.decimal.specs.Digits.{is_digit}
use Rattle.decimal.proofs.DigitLaws.{digit-range, goes-on-other}
use Rattle.decimal.proofs.NumberLaws.{NoDigit, number_reads}
use Rattle.dot.specs.declared.Shape.{Shape}
use Rattle.dot.specs.Text.{is_blank, state_shape, rule_shape, joint_at, joint}
use Rattle.dot.specs.Plan.{Slot, One, byte, blank as one-blank, line, kind, Item, gap, num, one, plan, bytes, lines, header, named, numbers, label, state_line, rule_line, ending}
use Rattle.dot.specs.Reading.{Num, none, minus, some, can_minus, limit, grown, no_more, grow, begun, byte_of, Gathered, put, new_state, new_rule, next_state, Turn, halt, to, take1, ByteStep, stuck, at, growing, whole, next, ended, drawn, fault, shifted, onward, run}
use Rattle.dot.proofs.Fits.{spell, allowed, Fits, done, blank, no_blank_lem, number, single}
use Rattle.senders.proofs.TallyLaws.{and_both as both}
use Rattle.layout.specs.Layout.{weight_bytes}
use Rattle.table.specs.Table.{state_bytes}
use Rattle.dot.proofs.NumberLaws.{join, limit_most, negative, positive}
use Rattle.dot.proofs.Digits.{shifted_none, first_made, grow_first, reads-longest}

-- ---- neat plans: nothing that follows a gap takes a blank, and something that takes no digit follows each number
abbrev no_blank : List Item → Bool
no_blank [] = true
no_blank (gap ∷ k) = false
no_blank (num s ∷ k) = true
no_blank (one (byte b) ∷ k) = not (is_blank b)
no_blank (one one-blank ∷ k) = false
no_blank (one line ∷ k) = true
no_blank (one kind ∷ k) = true

-- what begins with this takes no digit, and it does not end here
abbrev no_digit : List Item → Bool
no_digit [] = false
no_digit (gap ∷ k) = no_digit k
no_digit (num s ∷ k) = false
no_digit (one (byte b) ∷ k) = not (is_digit b)
no_digit (one one-blank ∷ k) = true
no_digit (one line ∷ k) = true
no_digit (one kind ∷ k) = true

-- so at each gap and each number
abbrev neat : List Item → Bool
neat [] = true
neat (gap ∷ k) = no_blank k && neat k
neat (num s ∷ k) = no_digit k && neat k
neat (one o ∷ k) = neat k

abbrev pub Neat : List Item → Type 0
Neat k = neat k ≡ true

pub neat_header : Neat header
unfolding is_blank is_digit
neat_header = refl

-- bytes in front change nothing
neat_bytes : (w : List ℕ) (k : List Item) → Neat k → Neat (bytes w k)
neat_bytes [] k n = n
neat_bytes (c ∷ w) k n = neat_bytes w k n

-- a number of a label ends where the next joint or the quote begins
joint-ends : (shape : Shape) (j : ℕ) (k : List Item) → no_digit (bytes (joint shape (j + 1)) k) ≡ true
unfolding joint_at ◌if◌else◌ is_digit
joint-ends shape j k = rw (ne_eqb (j + 1) 0 (λ e. omega arith)) (split (eqb ((j + 1) % shape.group) 0))
  where
    split : (b : Bool) → no_digit (bytes (cond b (text ", ") (text " ")) k) ≡ true
    split true = refl
    split false = refl

-- whether it is the last number or not
number-ends : (shape : Shape) (g j : ℕ) (k : List Item) → no_digit k ≡ true → no_digit (numbers shape g (j + 1) k) ≡ true
number-ends shape zero j k d = d
number-ends shape (suc g) j k d = joint-ends shape j _

-- the numbers of a label
neat_numbers : (shape : Shape) (g j : ℕ) (k : List Item) → no_digit k ≡ true → Neat k → Neat (numbers shape g j k)
neat_numbers shape zero j k d n = n
neat_numbers shape (suc g) j k d n =
    neat_bytes (joint shape j) _ (join _ (neat (numbers shape g (j + 1) k)) (number-ends shape g j k d) (neat_numbers shape g (j + 1) k d n))

-- a label of any shape and size
neat_label : (shape : Shape) (g : ℕ) → Neat (label shape g)
unfolding is_blank is_digit
neat_label shape g = neat_numbers shape g 0 (plan (text "\"~]~;") lines) refl refl

-- a rule's line for any types byte
neat_rule : (b : ℕ) → Neat (rule_line b)
unfolding is_blank is_digit
neat_rule b = neat_label (rule_shape b) (weight_bytes b)

-- the plan after an item of one byte is neat
abbrev NeatTurn : Turn → Type 0
NeatTurn halt = Unit {0}
NeatTurn (to k r) = Neat k

-- by either branch of a test
neat_either : (b : Bool) (p q : Turn) → NeatTurn p → NeatTurn q → NeatTurn (cond b p q)
neat_either true p q h g = h
neat_either false p q h g = g

-- wherever a plan goes on, it is neat
neat_turn : (o : One) (k : List Item) (r : Gathered) (c : ℕ) → Neat k → NeatTurn (take1 o k r c)
unfolding take1
neat_turn (byte b) k r c n = neat_either (eqb c b) (to k r) halt n tt
neat_turn one-blank k r c n = neat_either (is_blank c) (to k r) halt n tt
neat_turn line k r c n =
    neat_either (eqb c 125) (to ending r) (cond (eqb c 115) (to named r) halt) refl
    (neat_either (eqb c 115) (to named r) halt refl tt)
neat_turn kind k r c n =
    neat_either (eqb c 91) (cond (next_state r) (to state_line (new_state r)) halt) (cond (eqb c 45) (to (rule_line r.types) (new_rule r)) halt)
    (neat_either (next_state r) (to state_line (new_state r)) halt (neat_label state_shape state_bytes) tt)
    (neat_either (eqb c 45) (to (rule_line r.types) (new_rule r)) halt (neat_rule r.types) tt)

-- ---- the next item begins where a gap or a number ends
-- a blank is at most 32
blank_most : (c : ℕ) → is_blank c ≡ true → c ≤ 32
unfolding is_blank
blank_most c h = split (eqb c 32) (eqb c 9) (eqb c 10) (eqb c 13) refl refl refl refl h
  where
    split : (p q u v : Bool) → eqb c 32 ≡ p → eqb c 9 ≡ q → eqb c 10 ≡ u → eqb c 13 ≡ v → (p || q || u || v) ≡ true → c ≤ 32
    split true q u v e f g i h = omega (arith, eqb-true c 32 e)
    split false true u v e f g i h = omega (arith, eqb-true c 9 f)
    split false false true v e f g i h = omega (arith, eqb-true c 10 g)
    split false false false true e f g i h = omega (arith, eqb-true c 13 i)
    split false false false false e f g i h = absurd (false≢true h)

-- so small a byte is no digit
small_no_digit : (c : ℕ) → c ≤ 32 → is_digit c ≡ false
unfolding is_digit
small_no_digit c h = let o : c < 48 = omega arith in rw (lt-leb 48 c o)

-- and no larger byte is a blank
large_no_blank : (c : ℕ) → 33 ≤ c → is_blank c ≡ false
unfolding is_blank
large_no_blank c h =
    rw (ne_eqb c 32 (λ e. omega arith), ne_eqb c 9 (λ e. omega arith), ne_eqb c 10 (λ e. omega arith), ne_eqb c 13 (λ e. omega arith))

-- a byte that passes a test is none that fails it
not_byte : (b c : ℕ) (p : ℕ → Bool) → p c ≡ true → not (p b) ≡ true → eqb c b ≡ false
not_byte b c p h g = ne_eqb c b (λ e. absurd (false≢true (sym (not-true (p b) g) ∙ ap p (sym e) ∙ h)))

-- no blank goes on with what follows a gap
blank-stuck : (k : List Item) (r : Gathered) (c : ℕ) → no_blank k ≡ true → is_blank c ≡ true → next k r none c ≡ stuck
unfolding next take1 grow growing whole
blank-stuck [] r c n h = refl
blank-stuck (gap ∷ k) r c n h = absurd (false≢true n)
blank-stuck (num s ∷ k) r c n h =
    let l = blank_most c h in rw (small_no_digit c l, ne_eqb c 45 (λ e. omega arith))
blank-stuck (one (byte b) ∷ k) r c n h = rw (not_byte b c is_blank h n)
blank-stuck (one one-blank ∷ k) r c n h = absurd (false≢true n)
blank-stuck (one line ∷ k) r c n h =
    let l = blank_most c h in rw (ne_eqb c 125 (λ e. omega arith), ne_eqb c 115 (λ e. omega arith))
blank-stuck (one kind ∷ k) r c n h =
    let l = blank_most c h in rw (ne_eqb c 91 (λ e. omega arith), ne_eqb c 45 (λ e. omega arith))

-- no digit goes on with what follows a number
digit-stuck : (k : List Item) (r : Gathered) (c : ℕ) → no_digit k ≡ true → is_digit c ≡ true → next k r none c ≡ stuck
unfolding next take1
digit-stuck [] r c n h = refl
digit-stuck (gap ∷ k) r c n h = let d = digit-range c h in rw (large_no_blank c (omega arith)) (digit-stuck k r c n h)
digit-stuck (num s ∷ k) r c n h = absurd (false≢true n)
digit-stuck (one (byte b) ∷ k) r c n h = rw (not_byte b c is_digit h n)
digit-stuck (one one-blank ∷ k) r c n h = let d = digit-range c h in rw (large_no_blank c (omega arith))
digit-stuck (one line ∷ k) r c n h =
    let d = digit-range c h in rw (ne_eqb c 125 (λ e. omega arith), ne_eqb c 115 (λ e. omega arith))
digit-stuck (one kind ∷ k) r c n h =
    let d = digit-range c h in rw (ne_eqb c 91 (λ e. omega arith), ne_eqb c 45 (λ e. omega arith))

-- more than blanks follows a number
not_ended : (k : List Item) → no_digit k ≡ true → ended k ≡ false
unfolding ended
not_ended [] n = absurd (false≢true n)
not_ended (gap ∷ k) n = not_ended k n
not_ended (num s ∷ k) n = refl
not_ended (one o ∷ k) n = refl

-- a fault is no drawing
pub not-drawn : {A : Type 0} {p : ℕ} {r : Gathered} → fault p ≡ drawn r → A
not-drawn e = absurd (let z : ◌≡◌ {A = ℕ} 0 1 = cc in omega arith)

-- a gap may be left where the rest is taken
past-gap : (t : List ℕ) (k : List Item) (r : Gathered) (x : Num) {r' : Gathered} →
    no_blank k ≡ true → run t k r none ≡ drawn r' → run t (gap ∷ k) r x ≡ drawn r'
unfolding run ended next onward
past-gap [] k r x n e = e
past-gap (c ∷ t) k r x {r'} n e = split (is_blank c) refl
  where
    split : (b : Bool) → is_blank c ≡ b → onward (cond b (at (gap ∷ k) r none) (next k r none c)) (run t) ≡ drawn r'
    split true h = not-drawn (sym (ap (λ (q : ByteStep). onward q (run t)) (blank-stuck k r c n h)) ∙ e)
    split false h = e

-- only a digit goes on with a number
pub no_digit_lem : (g n : Bool) (v c : ℕ) → is_digit c ≡ false → grow g (some n v) c ≡ no_more
unfolding grow
no_digit_lem g n v c h = rw (sym (goes-on-other c v (limit g n) refl h))

-- a blank does not
pub blank_no_digit : (g n : Bool) (v c : ℕ) → is_blank c ≡ true → grow g (some n v) c ≡ no_more
blank_no_digit g n v c h = no_digit_lem g n v c (small_no_digit c (blank_most c h))

-- nor does what is taken after a number begin with one
leaves : (t : List ℕ) (k : List Item) (r : Gathered) {r' : Gathered} → no_digit k ≡ true → run t k r none ≡ drawn r' → NoDigit t
unfolding run onward
leaves [] k r m e = tt
leaves (c ∷ t) k r m e = split (is_digit c) refl
  where
    split : (b : Bool) → is_digit c ≡ b → is_digit c ≡ false
    split true h = not-drawn (sym (ap (λ (q : ByteStep). onward q (run t)) (digit-stuck k r c m h)) ∙ e)
    split false h = h

-- ---- a number is taken, and left where the rest is taken
module _ (t : List ℕ) (s : Slot) (k : List Item) (r : Gathered) (r' : Gathered) where
  -- a byte that the number takes
  take-byte : (c : ℕ) (u : List ℕ) (x y : Num) → grow (can_minus s) x c ≡ grown y → run u (num s ∷ k) r y ≡ drawn r' →
      run (c ∷ u) (num s ∷ k) r x ≡ drawn r'
  unfolding run next growing onward
  take-byte c u x y h e = rw (h, e)

  -- all digits
  take-decimal : (n : Bool) (v : ℕ) → v ≤ limit (can_minus s) n → (n ≡ true → 1 ≤ v) → no_digit k ≡ true → run t k (put s (byte_of n v) r) none ≡ drawn r' →
      run (decimal v ++ t) (num s ∷ k) r (begun n) ≡ drawn r'
  take-decimal n v l p m e =
      let g = can_minus s in
      let q = number_reads (limit g n) t (leaves t k (put s (byte_of n v) r) m e) v l (limit_most g n) in
      rw q.text
      (take-byte q.first (q.others ++ t) (begun n) (some n (q.first - 48)) (grow_first g n q.first (first_made n q.first q.digit (λ h. q.positive (p h))))
      (shifted_none _ ∙
      reads-longest s k r n (not_ended k m) (q.others ++ t) 0 (q.first - 48) (length q.others) (record { size = v; after = t }) q.reads (omega (arith, length-append q.others t)) ∙
      ap (shifted (length q.others)) e))

  -- and the minus before them
  take-number : (n : Bool) (v : ℕ) → allowed (can_minus s) n v ≡ true → no_digit k ≡ true → run t k (put s (byte_of n v) r) none ≡ drawn r' →
      run (spell (some n v) ++ t) (num s ∷ k) r none ≡ drawn r'
  unfolding spell grow is_digit
  take-number false v a m e = take-decimal false v (positive (can_minus s) v a) (λ z. absurd (false≢true z)) m e
  take-number true v a m e =
      let p = negative (can_minus s) v a in
      take-byte 45 (decimal v ++ t) none minus (rw p.can) (take-decimal true v p.most (λ z. p.least) m e)

-- ---- a whole text
-- an item of one byte
past_one : (o : One) (k k' : List Item) (r r' r'' : Gathered) (c : ℕ) (t : List ℕ) → take1 o k r c ≡ to k' r' →
    run t k' r' none ≡ drawn r'' → run (c ∷ t) (one o ∷ k) r none ≡ drawn r''
unfolding run next onward
past_one o k k' r r' r'' c t h e = rw (h, e)

-- the end
past_end : (r : Gathered) → run [] [] r none ≡ drawn r
unfolding run ended
past_end r = refl

-- a blank of a gap
past-blank : (k : List Item) (r r' : Gathered) (c : ℕ) (t : List ℕ) → is_blank c ≡ true → run t (gap ∷ k) r none ≡ drawn r' →
    run (c ∷ t) (gap ∷ k) r none ≡ drawn r'
unfolding run next onward
past-blank k r r' c t h e = rw (h, e)

-- of a number that is not begun all is left
from-none : (d w : List ℕ) → spell none ++ d ≡ w → d ≡ w
unfolding spell
from-none d w h = h

-- a text that fits is taken
pub complete : {k : List Item} {r r' : Gathered} {t : List ℕ} → Neat k → Fits k r none t r' → run t k r none ≡ drawn r'
complete n (done {r = r}) = past_end r
complete n (blank {k = k} {r = r} {r' = r'} {c = c} {t = t} e f) = past-blank k r r' c t e (complete n f)
complete n (no_blank_lem {k = k} {r = r} {t = t} f) =
    let p = both (no_blank k) (neat k) n in past-gap t k r none p.0 (complete p.1 f)
complete n (number {s = s} {k = k} {r = r} {r' = r'} {t = t} m v d ok h f) =
    let p = both (no_digit k) (neat k) n in
    rw (from-none d (spell (some m v)) h) (take-number t s k r r' m v ok p.0 (complete p.1 f))
complete n (single {o = o} {k = k} {k' = k'} {r = r} {r' = r'} {r'' = r''} {c = c} {t = t} h f) =
    past_one o k k' r r' r'' c t h (complete (rw h at (neat_turn o k r c n)) f)
