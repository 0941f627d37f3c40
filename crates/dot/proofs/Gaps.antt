-- Where some drawing takes a blank or none, reading stands at a gap, or at a whole number before one.
use Prim.Native.Nat.{ℕ, zero, suc, ◌+◌, ◌-◌, ◌*◌, ◌%◌}
use mathlib.Core.Path.{◌≡◌, refl}
use mathlib.Core.Bool.{Bool, true, false, cond, ◌&&◌, not, false≢true}
use mathlib.Core.List.{List, [], ◌∷◌, ◌++◌}
use native.Mathlib.Omega.{arith}
use lib.Dec.{eqb, leb}
use borrow.Author.Tests.{eqb-true, not-true, ne_eqb}
use Rattle.fault.specs.Fault.{◌if◌else◌}
use Rattle.decimal.specs.Numbers.{text}
use Rattle.decimal.specs.Digits.{is_digit, goes_on}
use Rattle.dot.specs.declared.Shape.{Shape}
use Rattle.dot.specs.Text.{is_blank, state_shape, rule_shape, joint_at, joint, negative, Piece, space, Spaced, over, letter, one_more, no_more as no_blank_lem, needed, table_text}
use Rattle.dot.specs.Plan.{Slot, cell_of, One, byte, blank as one-blank, line, kind, Item, gap, num, one, plan, bytes, lines, header, named, numbers, label, state_line, rule_line, ending}
use Rattle.dot.specs.Reading.{Num, none, minus, some, can_minus, limit, Grown, grown, no_more, grow, byte_of, Gathered, nothing_read, put, new_state, new_rule, next_state, Turn, halt, to, take1, ByteStep, stuck, at, turned, growing, whole, next, ended, Outcome, drawn, fault, later, onward, run, reading}
use Rattle.dot.specs.Drawing.{Tokens, Drawing}
use Rattle.dot.specs.Blanks.{go_on, reach, Between, BetweenAt, begins_blank, begins_digit, ends_digit, Gap}
use Rattle.senders.proofs.TallyLaws.{and_both as both}
use Rattle.layout.specs.Layout.{weight_bytes}
use Rattle.table.specs.Table.{state_bytes}
use Rattle.dot.proofs.NumberLaws.{join}
use Rattle.dot.proofs.Complete.{no_digit_lem}
use Rattle.dot.proofs.Tokens.{tokens-read}

-- ---- plans in which each number is followed by a byte of its own, or by a gap that is not the last
abbrev firm : List Item → Bool
firm [] = false
firm (gap ∷ k) = not (ended k)
firm (num s ∷ k) = false
firm (one (byte b) ∷ k) = true
firm (one one-blank ∷ k) = false
firm (one line ∷ k) = true
firm (one kind ∷ k) = true

abbrev fair : List Item → Bool
fair [] = true
fair (gap ∷ k) = fair k
fair (num s ∷ k) = firm k && fair k
fair (one o ∷ k) = fair k

fair_header : fair header ≡ true
unfolding ended
fair_header = refl

fair_bytes : (w : List ℕ) (k : List Item) → fair k ≡ true → fair (bytes w k) ≡ true
fair_bytes [] k h = h
fair_bytes (c ∷ w) k h = fair_bytes w k h

-- what comes after a label's number
number_firm : (shape : Shape) (g j : ℕ) (k : List Item) → firm k ≡ true → firm (numbers shape g (j + 1) k) ≡ true
unfolding joint_at ◌if◌else◌
number_firm shape zero j k h = h
number_firm shape (suc g) j k h = rw (ne_eqb (j + 1) 0 (λ e. omega arith)) (go (eqb ((j + 1) % shape.group) 0))
  where
    go : (t : Bool) → firm (bytes (cond t (text ", ") (text " ")) (num (cell_of (negative shape (j + 1))) ∷ numbers shape g (j + 1 + 1) k)) ≡ true
    go true = refl
    go false = refl

fair_numbers : (shape : Shape) (g j : ℕ) (k : List Item) → firm k ≡ true → fair k ≡ true → fair (numbers shape g j k) ≡ true
fair_numbers shape zero j k f h = h
fair_numbers shape (suc g) j k f h =
    fair_bytes (joint shape j) _ (join _ (fair (numbers shape g (j + 1) k)) (number_firm shape g j k f) (fair_numbers shape g (j + 1) k f h))

fair_label : (shape : Shape) (g : ℕ) → fair (label shape g) ≡ true
fair_label shape g = fair_numbers shape g 0 (plan (text "\"~]~;") lines) refl refl

fair_rule : (b : ℕ) → fair (rule_line b) ≡ true
unfolding ended
fair_rule b = fair_label (rule_shape b) (weight_bytes b)

-- after an item of one byte, and after any byte
abbrev FairTurn : Turn → Type 0
FairTurn halt = Unit {0}
FairTurn (to k r) = fair k ≡ true

abbrev FairStep : ByteStep → Type 0
FairStep stuck = Unit {0}
FairStep (at k r x) = fair k ≡ true

either : (b : Bool) (p q : Turn) → FairTurn p → FairTurn q → FairTurn (cond b p q)
either true p q f g = f
either false p q f g = g

fair_turn : (o : One) (k : List Item) (r : Gathered) (c : ℕ) → fair k ≡ true → FairTurn (take1 o k r c)
unfolding take1 ended
fair_turn (byte b) k r c h = either (eqb c b) (to k r) halt h tt
fair_turn one-blank k r c h = either (is_blank c) (to k r) halt h tt
fair_turn line k r c h =
    either (eqb c 125) (to ending r) (cond (eqb c 115) (to named r) halt) refl
    (either (eqb c 115) (to named r) halt refl tt)
fair_turn kind k r c h =
    either (eqb c 91) (cond (next_state r) (to state_line (new_state r)) halt) (cond (eqb c 45) (to (rule_line r.types) (new_rule r)) halt)
    (either (next_state r) (to state_line (new_state r)) halt (fair_label state_shape state_bytes) tt)
    (either (eqb c 45) (to (rule_line r.types) (new_rule r)) halt (fair_rule r.types) tt)

fair_turned : (t : Turn) → FairTurn t → FairStep (turned t)
fair_turned halt h = tt
fair_turned (to k r) h = h

fair_cond : (b : Bool) (p q : ByteStep) → FairStep p → FairStep q → FairStep (cond b p q)
fair_cond true p q f g = f
fair_cond false p q f g = g

fair_growing : (g : Grown) (s : Slot) (k : List Item) (r : Gathered) (e : ByteStep) → fair (num s ∷ k) ≡ true → FairStep e → FairStep (growing g s k r e)
unfolding growing
fair_growing (grown y) s k r e h f = h
fair_growing no_more s k r e h f = f

fair_whole : (x : Num) (e : ℕ → ByteStep) → ((v : ℕ) → FairStep (e v)) → FairStep (whole x e)
unfolding whole
fair_whole none e f = tt
fair_whole minus e f = tt
fair_whole (some n v) e f = f (byte_of n v)

fair_next : (k : List Item) (r : Gathered) (x : Num) (c : ℕ) → fair k ≡ true → FairStep (next k r x c)
unfolding next
fair_next [] r x c h = tt
fair_next (gap ∷ k) r x c h = fair_cond (is_blank c) (at (gap ∷ k) r none) (next k r none c) h (fair_next k r none c h)
fair_next (num s ∷ k) r x c h =
    fair_growing (grow (can_minus s) x c) s k r _ h (fair_whole x _ (λ v. fair_next k (put s v r) none c (both (firm k) (fair k) h).1))
fair_next (one o ∷ k) r x c h = fair_turned (take1 o k r c) (fair_turn o k r c h)

fair_on : (p : List ℕ) (e : ByteStep) → ((k : List Item) (r : Gathered) (x : Num) → fair k ≡ true → FairStep (reach p k r x)) → FairStep e → FairStep (go_on e (reach p))
fair_on p stuck ih f = tt
fair_on p (at k r x) ih f = ih k r x f

fair_reach : (p : List ℕ) (k : List Item) (r : Gathered) (x : Num) → fair k ≡ true → FairStep (reach p k r x)
unfolding reach
fair_reach [] k r x h = h
fair_reach (c ∷ p) k r x h = fair_on p (next k r x c) (fair_reach p) (fair_next k r x c h)

-- ---- a number is begun only by a digit, and goes on only by digits
abbrev DigitNum : Bool → Num → Type 0
DigitNum b none = Unit {0}
DigitNum b minus = Unit {0}
DigitNum b (some n v) = b ≡ true

abbrev DigitStep : Bool → ByteStep → Type 0
DigitStep b stuck = Unit {0}
DigitStep b (at k r x) = DigitNum b x

abbrev DigitGrown : Bool → Grown → Type 0
DigitGrown b no_more = Unit {0}
DigitGrown b (grown y) = DigitNum b y

digit-grow : (g : Bool) (x : Num) (c : ℕ) → DigitGrown (is_digit c) (grow g x c)
unfolding grow goes_on
digit-grow g none c = go (is_digit c) (eqb c 45 && g)
  where
    go : (b t : Bool) → DigitGrown b (cond b (grown (some false (c - 48))) (cond t (grown minus) no_more))
    go true t = refl
    go false true = tt
    go false false = tt
digit-grow g minus c = go (is_digit c) (not (eqb c 48))
  where
    go : (b t : Bool) → DigitGrown b (cond (b && t) (grown (some true (c - 48))) no_more)
    go true true = refl
    go true false = tt
    go false t = tt
digit-grow g (some n v) c = go (is_digit c) (not (eqb v 0)) (leb (v * 10 + (c - 48)) (limit g n))
  where
    go : (b t u : Bool) → DigitGrown b (cond (b && t && u) (grown (some n (v * 10 + (c - 48)))) no_more)
    go true true true = refl
    go true true false = tt
    go true false u = tt
    go false t u = tt

digit-growing : (b : Bool) (g : Grown) (s : Slot) (k : List Item) (r : Gathered) (e : ByteStep) → DigitGrown b g → DigitStep b e → DigitStep b (growing g s k r e)
unfolding growing
digit-growing b (grown y) s k r e h f = h
digit-growing b no_more s k r e h f = f

digit-whole : (b : Bool) (x : Num) (e : ℕ → ByteStep) → ((v : ℕ) → DigitStep b (e v)) → DigitStep b (whole x e)
unfolding whole
digit-whole b none e f = tt
digit-whole b minus e f = tt
digit-whole b (some n v) e f = f (byte_of n v)

digit_cond : (b t : Bool) (p q : ByteStep) → DigitStep b p → DigitStep b q → DigitStep b (cond t p q)
digit_cond b true p q f g = f
digit_cond b false p q f g = g

digit-turned : (b : Bool) (t : Turn) → DigitStep b (turned t)
digit-turned b halt = tt
digit-turned b (to k r) = tt

digit-steps : (k : List Item) (r : Gathered) (x : Num) (c : ℕ) → DigitStep (is_digit c) (next k r x c)
unfolding next
digit-steps [] r x c = tt
digit-steps (gap ∷ k) r x c = digit_cond (is_digit c) (is_blank c) (at (gap ∷ k) r none) (next k r none c) tt (digit-steps k r none c)
digit-steps (num s ∷ k) r x c =
    digit-growing (is_digit c) (grow (can_minus s) x c) s k r _ (digit-grow (can_minus s) x c) (digit-whole (is_digit c) x _ (λ v. digit-steps k (put s v r) none c))
digit-steps (one o ∷ k) r x c = digit-turned (is_digit c) (take1 o k r c)

digit-on : (b : Bool) (p : List ℕ) (e : ByteStep) → ((k : List Item) (r : Gathered) (x : Num) → DigitStep b (reach p k r x)) → DigitStep b (go_on e (reach p))
digit-on b p stuck ih = tt
digit-on b p (at k r x) ih = ih k r x

digit-last : (b : Bool) (e : ByteStep) → DigitStep b e → DigitStep b (go_on e (reach []))
unfolding reach
digit-last b stuck f = tt
digit-last b (at k r x) f = f

-- after p
digit-more : (c : ℕ) (p : List ℕ) (k : List Item) (r : Gathered) (x : Num) → DigitStep (ends_digit (c ∷ p)) (reach (c ∷ p) k r x)
unfolding reach
digit-more c [] k r x = digit-last (is_digit c) (next k r x c) (digit-steps k r x c)
digit-more c (d ∷ p) k r x = digit-on (ends_digit (d ∷ p)) (d ∷ p) (next k r x c) (digit-more d p)

digit-reach : (p : List ℕ) → DigitStep (ends_digit p) (reach p header nothing_read none)
unfolding reach
digit-reach [] = tt
digit-reach (c ∷ p) = digit-more c p header nothing_read none

-- ---- what is read after p where the whole is a drawing
abbrev Drawn : Outcome → Type 0
Drawn (drawn r) = Unit {0}
Drawn (fault f) = ⊥

abbrev DrawnFrom : ByteStep → List ℕ → Type 0
DrawnFrom stuck u = Unit {0}
DrawnFrom (at k r x) u = Drawn (run u k r x)

sooner : (o : Outcome) → Drawn (later o) → Drawn o
sooner (drawn r) h = tt
sooner (fault f) h = h

drawn-on : (p u : List ℕ) (e : ByteStep) → ((k : List Item) (r : Gathered) (x : Num) → Drawn (run (p ++ u) k r x) → DrawnFrom (reach p k r x) u) →
    Drawn (onward e (run (p ++ u))) → DrawnFrom (go_on e (reach p)) u
unfolding onward
drawn-on p u stuck ih h = tt
drawn-on p u (at k r x) ih h = ih k r x (sooner (run (p ++ u) k r x) h)

drawn-reach : (p u : List ℕ) (k : List Item) (r : Gathered) (x : Num) → Drawn (run (p ++ u) k r x) → DrawnFrom (reach p k r x) u
unfolding reach run
drawn-reach [] u k r x h = h
drawn-reach (c ∷ p) u k r x h = drawn-on p u (next k r x c) (drawn-reach p u) h

drawn-after : (p u : List ℕ) → Drawing (p ++ u) → DrawnFrom (reach p header nothing_read none) u
unfolding reading
drawn-after p u d =
    let e = tokens-read (p ++ u) d.types d.factor d.states d.rules d.body d.tokens in
    drawn-reach p u header nothing_read none (rw e.1 tt)

-- ---- so the plan is at a gap, or at a whole number before one
-- no byte is both a tab and a carriage return
one_byte : (b : ℕ) (k : List Item) (r : Gathered) (f : List Item → Gathered → Num → Outcome) →
    Drawn (onward (turned (take1 (byte b) k r 9)) f) → Drawn (onward (turned (take1 (byte b) k r 13)) f) → ⊥
unfolding take1 onward
one_byte b k r f = go (eqb 9 b) (eqb 13 b) refl refl
  where
    go : (t u : Bool) → eqb 9 b ≡ t → eqb 13 b ≡ u → Drawn (onward (turned (cond t (to k r) halt)) f) → Drawn (onward (turned (cond u (to k r) halt)) f) → ⊥
    go true true d e h g = omega (arith, eqb-true 9 b d, eqb-true 13 b e)
    go true false d e h g = g
    go false u d e h g = h

-- a rest that begins with no blank is not read where one must be
no_must : (u : List ℕ) (k : List Item) (r : Gathered) (x : Num) → begins_blank u ≡ false → Drawn (run u (one one-blank ∷ k) r x) → ⊥
unfolding run next take1 onward ended
no_must [] k r x s h = h
no_must (c ∷ u) k r x s h = rw s at h

module _ (u q : List ℕ) (b : Bool) (s : begins_blank u ≡ false) (m : (b && begins_digit q) ≡ false) where
  before-gap : (c : Slot) (k : List Item) (n : Bool) (v : ℕ) → firm (gap ∷ k) ≡ true → b ≡ true → Between (num c ∷ (gap ∷ k)) (some n v) q
  before-gap c k n v f d = go q m
    where
      go : (q : List ℕ) → (b && begins_digit q) ≡ false → Between (num c ∷ (gap ∷ k)) (some n v) q
      go [] m = not-true (ended k) f
      go (e ∷ q) m = no_digit_lem (can_minus c) n v e (rw d at m)

  here : (k : List Item) (r : Gathered) (x : Num) → fair k ≡ true → DigitNum b x → Drawn (run u k r x) → ((c : ℕ) → is_blank c ≡ true → Drawn (run (c ∷ u) k r x)) → Between k x q
  unfolding run next take1 onward growing whole grow goes_on is_digit is_blank
  here [] r x f d h g = absurd (g 9 refl)
  here (gap ∷ k) r x f d h g = tt
  here (one (byte b) ∷ k) r x f d h g = absurd (one_byte b k r (run u) (g 9 refl) (g 13 refl))
  here (one one-blank ∷ k) r x f d h g = absurd (no_must u k r x s h)
  here (one line ∷ k) r x f d h g = absurd (g 9 refl)
  here (one kind ∷ k) r x f d h g = absurd (g 9 refl)
  here (num c ∷ k) r none f d h g = absurd (g 9 refl)
  here (num c ∷ k) r minus f d h g = absurd (g 9 refl)
  here (num c ∷ []) r (some n v) f d h g = absurd (false≢true f)
  here (num c ∷ (gap ∷ k)) r (some n v) f d h g = before-gap c k n v (both (firm (gap ∷ k)) (fair (gap ∷ k)) f).0 d
  here (num c ∷ (num c' ∷ k)) r (some n v) f d h g = absurd (false≢true f)
  here (num c ∷ (one (byte b) ∷ k)) r (some n v) f d h g = absurd (one_byte b k (put c (byte_of n v) r) (run u) (g 9 refl) (g 13 refl))
  here (num c ∷ (one one-blank ∷ k)) r (some n v) f d h g = absurd (false≢true f)
  here (num c ∷ (one line ∷ k)) r (some n v) f d h g = absurd (g 9 refl)
  here (num c ∷ (one kind ∷ k)) r (some n v) f d h g = absurd (g 9 refl)

  here-at : (e : ByteStep) → FairStep e → DigitStep b e → DrawnFrom e u → ((c : ℕ) → is_blank c ≡ true → DrawnFrom e (c ∷ u)) → BetweenAt e q
  here-at stuck f d h g = tt
  here-at (at k r x) f d h g = here k r x f d h g

-- a blank between p and q stands between two tokens
pub gap_between : (p q : List ℕ) → Gap p → (ends_digit p && begins_digit q) ≡ false → BetweenAt (reach p header nothing_read none) q
gap_between p q a m =
    here-at a.rest q (ends_digit p) a.solid m (reach p header nothing_read none) (fair_reach p header nothing_read none fair_header) (digit-reach p)
    (drawn-after p a.rest a.tight) (λ c h. drawn-after p (c ∷ a.rest) (a.apart c h))

-- ---- every gap between the tokens of a drawing is one
spaced-append : {a b : List Piece} {p u : List ℕ} → Spaced a p → Spaced b u → Spaced (a ++ b) (p ++ u)
spaced-append over s = s
spaced-append (letter r) s = letter (spaced-append r s)
spaced-append (one_more h r) s = one_more h (spaced-append r s)
spaced-append (no_blank_lem r) s = no_blank_lem (spaced-append r s)
spaced-append (needed h r) s = needed h (spaced-append r s)

-- p has the tokens before the gap, u those after it; B is the types byte
pub tokens-gap : (B k n m : ℕ) (s p u : List ℕ) (a b : List Piece) (d : List ℕ) → Tokens (p ++ u) B k n m s → table_text B k n m s ≡ a ++ (space d ∷ b) →
    Spaced a p → Spaced b u → begins_blank u ≡ false → Gap p
tokens-gap B k n m s p u a b d t e f g h =
    record {
      rest = u;
      solid = h;
      tight = record { types = B; factor = k; states = n; rules = m; body = s; tokens = t };
      apart = λ c z. record {
        types = B;
        factor = k;
        states = n;
        rules = m;
        body = s;
        tokens = record {
          few_types = t.few_types;
          few_factor = t.few_factor;
          few_states = t.few_states;
          all_bytes = t.all_bytes;
          whole = t.whole;
          spaced = rw e (spaced-append f (one_more z (no_blank_lem g)));
        };
      };
    }
