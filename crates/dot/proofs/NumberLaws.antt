-- A number and its digits: each byte that a number takes is the next of its decimal text.
use Prim.Native.Nat.{ℕ, ◌≤◌, ◌<◌, ◌+◌, ◌-◌, ◌*◌}
use mathlib.Core.Path.{◌≡◌, refl}
use mathlib.Core.Bool.{Bool, true, false, cond, ◌&&◌, not, false≢true}
use mathlib.Core.List.{[], ◌∷◌, ◌++◌}
use native.Mathlib.Omega.{arith}
use lib.Dec.{eqb, leb, ltb}
use borrow.Author.Tests.{ltb-true, ltb-false, leb-true, eqb-true, eqb-false, lt-ltb, le-ltb, le-leb, not-true}
use Rattle.senders.proofs.TallyLaws.{and_both as both}
use Rattle.fault.specs.Fault.{◌if◌else◌}
use Rattle.decimal.specs.Numbers.{signed, spelling}
use Rattle.decimal.specs.Digits.{is_digit, goes_on}
use Rattle.decimal.proofs.DigitLaws.{Digit, digit-range, goes_on_lem}
use Rattle.decimal.proofs.NumberLaws.{digit-first, digit-next}
use Rattle.dot.specs.Reading.{Num, none, minus, some, Grown, grown, no_more, grow, limit, byte_of}
use Rattle.dot.proofs.Fits.{spell, allowed}

-- ---- tests
-- the test of two that both pass
pub join : (a b : Bool) → a ≡ true → b ≡ true → (a && b) ≡ true
join a b p q = rw (p, q)

-- ---- ranges
-- no number is above 255
pub limit_most : (g b : Bool) → limit g b ≤ 255
unfolding limit
limit_most true true = omega arith
limit_most true false = omega arith
limit_most false b = omega arith

-- and every number has room for a digit
pub limit-least : (g b : Bool) → 9 ≤ limit g b
unfolding limit
limit-least true true = omega arith
limit-least true false = omega arith
limit-least false b = omega arith

-- a number below 0 in its range
pub record Negative (g : Bool) (v : ℕ) : Type 0 where
  pub can : g ≡ true
  pub least : 1 ≤ v
  pub most : v ≤ limit g true

-- what passes the test is one
pub negative : (g : Bool) (v : ℕ) → allowed g true v ≡ true → Negative g v
unfolding allowed
negative g v a =
    let p = both (g && leb 1 v) (leb v (limit g true)) a in
    let q = both g (leb 1 v) p.0 in
    record { can = q.0; least = leb-true 1 v q.1; most = leb-true v (limit g true) p.1 }

-- and passes it
pub negative-allowed : (g : Bool) (v : ℕ) → Negative g v → allowed g true v ≡ true
unfolding allowed
negative-allowed g v n =
    join (g && leb 1 v) (leb v (limit g true)) (join g (leb 1 v) n.can (le-leb 1 v n.least)) (le-leb v (limit g true) n.most)

-- the same of one that is not
pub positive : (g : Bool) (v : ℕ) → allowed g false v ≡ true → v ≤ limit g false
unfolding allowed
positive g v a = leb-true v (limit g false) a

-- and what is in range passes
pub positive_allowed : (g : Bool) (v : ℕ) → v ≤ limit g false → allowed g false v ≡ true
unfolding allowed
positive_allowed g v l = le-leb v (limit g false) l

-- ---- a number that is begun
-- and is in range
abbrev pub in_range : Bool → Num → Bool
in_range g none = true
in_range g minus = g
in_range g (some n v) = allowed g n v

-- it takes the byte c and is y then
pub record Grew (g : Bool) (x y : Num) (c : ℕ) : Type 0 where
  pub spelt : spell y ≡ spell x ++ (c ∷ [])
  pub range_after : in_range g x ≡ true → in_range g y ≡ true

-- if it takes the byte
abbrev pub GrewTo : Bool → Num → ℕ → Grown → Type 0
GrewTo g x c no_more = Unit {0}
GrewTo g x c (grown y) = Grew g x y c

-- the first byte is a digit or the minus
grew_none : (g : Bool) (c : ℕ) → GrewTo g none c (grow g none c)
unfolding grow spell
grew_none g c = go (is_digit c) refl
  where
    sign : (b : Bool) → (eqb c 45 && g) ≡ b → GrewTo g none c (cond b (grown minus) no_more)
    sign false h = tt
    sign true h =
        let p = both (eqb c 45) g h in
        record { spelt = rw (eqb-true c 45 p.0); range_after = λ _. p.1 }

    go : (b : Bool) → is_digit c ≡ b →
        GrewTo g none c (cond b (grown (some false (c - 48))) (cond (eqb c 45 && g) (grown minus) no_more))
    go true h =
        let d = digit-range c h in
        record {
          spelt = digit-first c d;
          range_after = λ _. positive_allowed g (c - 48) (omega (arith, limit-least g false));
        }
    go false h = sign (eqb c 45 && g) refl

-- after the minus a digit other than 0
grew_minus : (g : Bool) (c : ℕ) → GrewTo g minus c (grow g minus c)
unfolding grow spell
grew_minus g c = go (is_digit c && not (eqb c 48)) refl
  where
    go : (b : Bool) → (is_digit c && not (eqb c 48)) ≡ b → GrewTo g minus c (cond b (grown (some true (c - 48))) no_more)
    go false h = tt
    go true h =
        let p = both (is_digit c) (not (eqb c 48)) h in
        let d = digit-range c p.0 in
        let nz : c ≡ 48 → ⊥ = eqb-false c 48 (not-true (eqb c 48) p.1) in
        record {
          spelt = rw (digit-first c d);
          range_after = λ m.
              negative-allowed g (c - 48)
              (record { can = m; least = omega (arith, nz); most = omega (arith, limit-least g true) });
        }

-- a further digit
grew_digit : (g n : Bool) (v c : ℕ) → Digit c → 1 ≤ v → v * 10 + (c - 48) ≤ limit g n →
    Grew g (some n v) (some n (v * 10 + (c - 48))) c
unfolding spell
grew_digit g false v c d o l =
    record {
      spelt = digit-next v c d (λ z. omega (arith, z)) (omega (arith, limit_most g false));
      range_after = λ _. positive_allowed g (v * 10 + (c - 48)) l;
    }
grew_digit g true v c d o l =
    record {
      spelt = rw (digit-next v c d (λ z. omega (arith, z)) (omega (arith, limit_most g true)));
      range_after = λ m.
          negative-allowed g (v * 10 + (c - 48)) (record { can = (negative g v m).can; least = omega arith; most = l });
    }

-- whether there is a further digit or not
grew_some : (g n : Bool) (v c : ℕ) → GrewTo g (some n v) c (grow g (some n v) c)
unfolding grow
grew_some g n v c = go (goes_on c v (limit g n)) refl
  where
    go : (b : Bool) → goes_on c v (limit g n) ≡ b → GrewTo g (some n v) c (cond b (grown (some n (v * 10 + (c - 48)))) no_more)
    go false h = tt
    go true h = let q = goes_on_lem c v (limit g n) h in grew_digit g n v c q.digit q.some q.within

-- whatever byte a number takes is the next of its text, and leaves it in range
pub grew : (g : Bool) (x : Num) (c : ℕ) → GrewTo g x c (grow g x c)
grew g none c = grew_none g c
grew g minus c = grew_minus g c
grew g (some n v) c = grew_some g n v c

-- a number in its range that stands for the byte b, and its text
pub record Spelt (g : Bool) (b : ℕ) : Type 0 where
  pub below_0 : Bool
  pub size : ℕ
  pub in_range : allowed g below_0 size ≡ true
  pub the_text : spelling g b ≡ spell (some below_0 size)
  pub the_byte : byte_of below_0 size ≡ b

-- every byte is some number
pub byte_spelt : (g : Bool) (b : ℕ) → b < 256 → Spelt g b
unfolding spell signed ◌if◌else◌ limit
byte_spelt false b l =
    record { below_0 = false; size = b; in_range = positive_allowed false b (omega arith); the_text = refl; the_byte = refl }
byte_spelt true b l = go (ltb b 128) refl
  where
    go : (t : Bool) → ltb b 128 ≡ t → Spelt true b
    go true h =
        let o = ltb-true b 128 h in
        record { below_0 = false; size = b; in_range = positive_allowed true b (omega arith); the_text = rw h; the_byte = refl }
    go false h =
        let o = ltb-false b 128 h in
        record {
          below_0 = true;
          size = 256 - b;
          in_range = negative-allowed true (256 - b) (record { can = refl; least = omega arith; most = omega arith });
          the_text = rw h;
          the_byte = omega arith;
        }

-- every number in its range is some byte, whose text it has
pub record HasByte (g n : Bool) (v : ℕ) : Type 0 where
  pub a_byte : byte_of n v < 256
  pub its_text : spelling g (byte_of n v) ≡ spell (some n v)

-- by its sign
pub has-byte : (g n : Bool) (v : ℕ) → allowed g n v ≡ true → HasByte g n v
unfolding spell signed ◌if◌else◌ limit
has-byte false false v a = record { a_byte = omega (arith, positive false v a); its_text = refl }
has-byte false true v a = absurd (false≢true (negative false v a).can)
has-byte true false v a =
    let l = positive true v a in
    let o : v < 128 = omega arith in
    record { a_byte = omega arith; its_text = rw (lt-ltb v 128 o) }
has-byte true true v a =
    let i = negative true v a in
    let l = i.most in
    let o : 128 ≤ 256 - v = omega arith in
    let e : 256 - (256 - v) ≡ v = omega arith in
    record { a_byte = omega (arith, i.least); its_text = rw (le-ltb (256 - v) 128 o, e) }
