-- Reading a text one byte after the other: what may come after what has been read, and the place of the first byte that may not.
use Rattle.std.specs.Prelude.{ℕ, suc, ◌+◌, ◌-◌, ◌*◌, Bool, true, false, cond, ◌&&◌, not, List, [], ◌∷◌, ◌++◌, eqb}
use Rattle.decimal.specs.Digits.{is_digit, goes_on}
use Rattle.dot.specs.Text.{is_blank}
use Rattle.dot.specs.Plan.{Slot, types, factor, name, cell, coefficient, One, byte, blank, line, kind, Item, gap, num, one, header, named, state_line, rule_line, ending}

-- ---- numbers
-- what is read of a number: nothing, its minus, or its sign (true for minus) and its size so far
pub data Num : Type 0 where
  none minus : Num
  some : Bool → ℕ → Num

-- before its digits: after its minus or not
abbrev pub begun : Bool → Num
begun true = minus
begun false = none

unfoldable pub can_minus : Slot → Bool
can_minus coefficient = true
can_minus types = false
can_minus factor = false
can_minus name = false
can_minus cell = false

-- the largest size of a number below 0 (b) or not, where minus can be (g) or not: −128 to 127, or 0 to 255
unfoldable pub limit : Bool → Bool → ℕ
limit g b = cond g (cond b 128 127) 255

-- one more byte of a number, or none
pub data Grown : Type 0 where
  grown : Num → Grown
  no_more : Grown

unfoldable pub grow : Bool → Num → ℕ → Grown
grow g none c = cond (is_digit c) (grown (some false (c - 48))) (cond (eqb c 45 && g) (grown minus) no_more)
grow g minus c = cond (is_digit c && not (eqb c 48)) (grown (some true (c - 48))) no_more
grow g (some b v) c = cond (goes_on c v (limit g b)) (grown (some b (v * 10 + (c - 48)))) no_more

-- the byte that a whole number stands for
abbrev pub byte_of : Bool → ℕ → ℕ
byte_of false v = v
byte_of true v = 256 - v

-- ---- what has been read: the types byte, k, how many states and rules, the last name's number, and the bytes of the records
pub record Gathered : Type 0 where
  pub types : ℕ
  pub factor : ℕ
  pub states : ℕ
  pub rules : ℕ
  pub last : ℕ
  pub body : List ℕ

abbrev pub nothing_read : Gathered
nothing_read = record { types = 0; factor = 0; states = 0; rules = 0; last = 0; body = [] }

-- a number in its slot
unfoldable pub put : Slot → ℕ → Gathered → Gathered
put types v r = record { types = v; factor = r.factor; states = r.states; rules = r.rules; last = r.last; body = r.body }
put factor v r = record { types = r.types; factor = v; states = r.states; rules = r.rules; last = r.last; body = r.body }
put name v r = record { types = r.types; factor = r.factor; states = r.states; rules = r.rules; last = v; body = r.body }
put cell v r = record { types = r.types; factor = r.factor; states = r.states; rules = r.rules; last = r.last; body = r.body ++ (v ∷ []) }
put coefficient v r = record { types = r.types; factor = r.factor; states = r.states; rules = r.rules; last = r.last; body = r.body ++ (v ∷ []) }

-- one state more
unfoldable pub new_state : Gathered → Gathered
new_state r = record { types = r.types; factor = r.factor; states = r.states + 1; rules = r.rules; last = r.last; body = r.body }

-- one rule more, which leaves the state that was named last
unfoldable pub new_rule : Gathered → Gathered
new_rule r = record { types = r.types; factor = r.factor; states = r.states; rules = r.rules + 1; last = r.last; body = r.body ++ (r.last ∷ []) }

-- a state line's name is the next number, and no state line comes after a rule line
unfoldable pub next_state : Gathered → Bool
next_state r = eqb r.last r.states && eqb r.rules 0

-- ---- one byte
-- after an item of one byte: none may stand there, or where the plan goes on
pub data Turn : Type 0 where
  halt : Turn
  to : List Item → Gathered → Turn

unfoldable pub take1 : One → List Item → Gathered → ℕ → Turn
take1 (byte b) k r c = cond (eqb c b) (to k r) halt
take1 blank k r c = cond (is_blank c) (to k r) halt
take1 line k r c = cond (eqb c 125) (to ending r) (cond (eqb c 115) (to named r) halt)
take1 kind k r c =
    cond (eqb c 91)
    (cond (next_state r) (to state_line (new_state r)) halt)
    (cond (eqb c 45) (to (rule_line r.types) (new_rule r)) halt)

-- after any byte: none of ours may follow, or the rest of the plan, with a number begun
pub data ByteStep : Type 0 where
  stuck : ByteStep
  at : List Item → Gathered → Num → ByteStep

abbrev pub turned : Turn → ByteStep
turned halt = stuck
turned (to k r) = at k r none

-- a number goes on; or it is whole, and what follows takes the byte
unfoldable pub growing : Grown → Slot → List Item → Gathered → ByteStep → ByteStep
growing (grown y) s k r e = at (num s ∷ k) r y
growing no_more s k r e = e

unfoldable pub whole : Num → (ℕ → ByteStep) → ByteStep
whole none e = stuck
whole minus e = stuck
whole (some b v) e = e (byte_of b v)

unfoldable pub next : List Item → Gathered → Num → ℕ → ByteStep
next [] r x c = stuck
next (gap ∷ k) r x c = cond (is_blank c) (at (gap ∷ k) r none) (next k r none c)
next (num s ∷ k) r x c = growing (grow (can_minus s) x c) s k r (whole x (λ v. next k (put s v r) none c))
next (one o ∷ k) r x c = turned (take1 o k r c)

-- ---- a whole text
-- only blanks are left
unfoldable pub ended : List Item → Bool
ended [] = true
ended (gap ∷ k) = ended k
ended (num s ∷ k) = false
ended (one o ∷ k) = false

-- what a text draws, or how many bytes of it some drawing begins with
pub data Outcome : Type 0 where
  drawn : Gathered → Outcome
  fault : ℕ → Outcome

abbrev pub later : Outcome → Outcome
later (drawn r) = drawn r
later (fault p) = fault (suc p)

-- i bytes later
abbrev pub shifted : ℕ → Outcome → Outcome
shifted i (drawn r) = drawn r
shifted i (fault p) = fault (i + p)

unfoldable pub onward : ByteStep → (List Item → Gathered → Num → Outcome) → Outcome
onward stuck f = fault 0
onward (at k r x) f = later (f k r x)

unfoldable pub run : List ℕ → List Item → Gathered → Num → Outcome
run [] k r x = cond (ended k) (drawn r) (fault 0)
run (c ∷ t) k r x = onward (next k r x c) (run t)

unfoldable pub reading : List ℕ → Outcome
reading t = run t header nothing_read none
