-- Reading on through a number: its first digit, and then all that the longest number takes at once.
use mathlib.Core.Path.{◌≡◌, refl, sym, ap, ◌∙◌}
use mathlib.Core.Bool.{Bool, true, false, not, ◌&&◌}
use mathlib.Core.List.{List, [], ◌∷◌}
use Prim.Native.Nat.{ℕ, ◌+◌, ◌-◌, ◌*◌, ◌≤◌}
use native.Mathlib.Omega.{arith}
use lib.Dec.{eqb}
use lib.ListN.{length}
use borrow.Author.Tests.{ne_eqb}
use Rattle.senders.proofs.TallyLaws.{and_both as both}
use Rattle.decimal.specs.Digits.{is_digit, goes_on, Number, longest}
use Rattle.decimal.proofs.DigitLaws.{longest-on, longest-ends}
use Rattle.dot.specs.Plan.{Slot, Item, num}
use Rattle.dot.specs.Reading.{none, some, can_minus, limit, grown, grow, begun, byte_of, Gathered, put, growing, whole, next, ended, Outcome, drawn, fault, later, shifted, onward, run}

-- ---- outcomes some bytes later
pub shifted_none : (o : Outcome) → o ≡ shifted 0 o
shifted_none (drawn r) = refl
shifted_none (fault p) = ap fault (omega arith)

pub shifted-later : (i : ℕ) (o : Outcome) → shifted i (later o) ≡ shifted (i + 1) o
shifted-later i (drawn r) = refl
shifted-later i (fault p) = ap fault (omega arith)

-- ---- the first digit
-- after a minus 0 is none
abbrev pub first : Bool → ℕ → Bool
first n c = is_digit c && not (n && eqb c 48)

pub first_made : (n : Bool) (c : ℕ) → is_digit c ≡ true → (n ≡ true → 1 ≤ c - 48) → first n c ≡ true
first_made false c d p = rw d
first_made true c d p = let o = p refl in rw (d, ne_eqb c 48 (λ z. omega (arith, z, o)))

pub grow_first : (g n : Bool) (c : ℕ) → first n c ≡ true → grow g (begun n) c ≡ grown (some n (c - 48))
unfolding grow
grow_first g false c h = rw (both (is_digit c) (not (false && eqb c 48)) h).0
grow_first g true c h = rw h

-- ---- the digits after it
module _ (s : Slot) (k : List Item) (r : Gathered) (n : Bool) (going : ended k ≡ false) where
  abbrev Reads : List ℕ → ℕ → ℕ → ℕ → Number → Type 0
  Reads t i v j m = shifted i (run t (num s ∷ k) r (some n v)) ≡ shifted j (run m.after k (put s (byte_of n m.size) r) none)

  -- the number that is read is the longest, and it is whole before what stands after it
  pub reads-longest : (t : List ℕ) (i v j : ℕ) (m : Number) → longest (limit (can_minus s) n) v t ≡ m → i + length t ≡ j + length m.after → Reads t i v j m
  unfolding longest run ended next grow growing whole onward
  reads-longest [] i v j m h e = rw (← h, going) (ap fault (omega (arith, e, ap (λ (z : Number). length z.after) h)))
  reads-longest (c ∷ t) i v j m h e = split (goes_on c v (limit (can_minus s) n)) refl (reads-longest t (i + 1) (v * 10 + (c - 48)) j m)
    where
      split : (b : Bool) → goes_on c v (limit (can_minus s) n) ≡ b →
          (longest (limit (can_minus s) n) (v * 10 + (c - 48)) t ≡ m → i + 1 + length t ≡ j + length m.after → Reads t (i + 1) (v * 10 + (c - 48)) j m) → Reads (c ∷ t) i v j m
      split true g more =
          rw g (shifted-later i (run t (num s ∷ k) r (some n (v * 10 + (c - 48)))) ∙ more (sym (longest-on (limit (can_minus s) n) v c t g) ∙ h) (omega arith))
      split false g more =
          let f = sym (longest-ends (limit (can_minus s) n) v c t g) ∙ h in
          let o : i ≡ j = omega (arith, e, ap (λ (z : Number). length z.after) f) in
          rw (← f, g, o)
