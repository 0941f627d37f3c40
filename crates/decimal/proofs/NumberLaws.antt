-- Decimal text and its digits: each digit that a number takes is the next byte of its text; so what is read is what was written.
use mathlib.Core.Path.{◌≡◌, refl, sym, ap, ◌∙◌}
use mathlib.Core.Bool.{Bool, true, false}
use mathlib.Core.List.{List, [], ◌∷◌, ◌++◌}
use Prim.Native.Nat.{ℕ, ◌+◌, ◌-◌, ◌*◌, ◌/◌, ◌%◌, ◌≤◌, ◌<◌}
use native.Mathlib.Omega.{arith}
use lib.Dec.{ltb}
use lib.Seq.{append_snoc}
use borrow.Author.Tests.{ltb-true, ltb-false, lt-ltb, le-ltb}
use Rattle.fault.specs.Fault.{◌if◌else◌}
use Rattle.decimal.specs.Numbers.{decimal}
use Rattle.decimal.specs.Digits.{is_digit, goes_on, Number, longest}
use Rattle.decimal.proofs.DigitLaws.{Digit, range-digit, goes_on_lem, goes-on-made, goes-on-other, longest-on, longest-ends}

-- ---- decimal text
-- below 10
pub one-digit : (v : ℕ) → v < 10 → decimal v ≡ (48 + v) ∷ []
unfolding decimal ◌if◌else◌
one-digit v h = rw (lt-ltb v 10 h)

-- below 100
pub two_digits : (v : ℕ) → 10 ≤ v → v < 100 → decimal v ≡ (48 + v / 10) ∷ (48 + v % 10) ∷ []
unfolding decimal ◌if◌else◌
two_digits v l h = rw (le-ltb v 10 l, lt-ltb v 100 h)

-- from 100 on
pub three-digits : (v : ℕ) → 100 ≤ v → decimal v ≡ (48 + v / 100) ∷ (48 + v / 10 % 10) ∷ (48 + v % 10) ∷ []
unfolding decimal ◌if◌else◌
three-digits v l = let o : 10 ≤ v = omega arith in rw (le-ltb v 10 o, le-ltb v 100 l)

-- a digit is the text of the number that it stands for
pub digit-first : (c : ℕ) → Digit c → decimal (c - 48) ≡ c ∷ []
digit-first c d =
    let o : c - 48 < 10 = omega arith in
    let e : 48 + (c - 48) ≡ c = omega arith in
    rw (one-digit (c - 48) o, e)

-- a digit more at the end of a number that is not 0
pub digit-next : (v c : ℕ) → Digit c → (v ≡ 0 → ⊥) → v * 10 + (c - 48) ≤ 255 → decimal (v * 10 + (c - 48)) ≡ decimal v ++ (c ∷ [])
digit-next v c d nz l = go (ltb v 10) refl
  where
    go : (b : Bool) → ltb v 10 ≡ b → decimal (v * 10 + (c - 48)) ≡ decimal v ++ (c ∷ [])
    go true h =
        let l10 : v < 10 = ltb-true v 10 h in
        let a : 10 ≤ v * 10 + (c - 48) = omega arith in
        let b : v * 10 + (c - 48) < 100 = omega arith in
        let e : (v * 10 + (c - 48)) / 10 ≡ v = omega arith in
        let f : 48 + (v * 10 + (c - 48)) % 10 ≡ c = omega arith in
        rw (two_digits (v * 10 + (c - 48)) a b, one-digit v l10, e, f)
    go false h =
        let l10 : 10 ≤ v = ltb-false v 10 h in
        let l100 : v < 100 = omega arith in
        let a : 100 ≤ v * 10 + (c - 48) = omega arith in
        let e : (v * 10 + (c - 48)) / 100 ≡ v / 10 = omega arith in
        let g : (v * 10 + (c - 48)) / 10 % 10 ≡ v % 10 = omega arith in
        let f : 48 + (v * 10 + (c - 48)) % 10 ≡ c = omega arith in
        rw (three-digits (v * 10 + (c - 48)) a, two_digits v l10 l100, e, g, f)

-- ---- what is read is the number's text
-- a number of size v before t, in text, is the text of the longest and what stands after that
pub record Spells (most v : ℕ) (t : List ℕ) (n : Number) : Type 0 where
  pub text : decimal v ++ t ≡ decimal n.size ++ n.after
  pub within : v ≤ most → n.size ≤ most

pub longest_spells : (most v : ℕ) (t : List ℕ) → most ≤ 255 → Spells most v t (longest most v t)
unfolding longest
longest_spells most v [] l = record { text = refl; within = λ h. h }
longest_spells most v (c ∷ t) l = split (goes_on c v most) refl (longest_spells most (v * 10 + (c - 48)) t l)
  where
    split : (b : Bool) → goes_on c v most ≡ b → Spells most (v * 10 + (c - 48)) t (longest most (v * 10 + (c - 48)) t) → Spells most v (c ∷ t) (longest most v (c ∷ t))
    split false h s = rw (longest-ends most v c t h) (record { text = refl; within = λ z. z })
    split true h s =
        let g = goes_on_lem c v most h in
        let o : v ≡ 0 → ⊥ = λ z. omega (arith, g.some, z) in
        rw (longest-on most v c t h)
        (record {
          text = sym (append_snoc (decimal v) c t) ∙ ap (λ (x : List ℕ). x ++ t) (sym (digit-next v c g.digit o (omega (arith, g.within)))) ∙ s.text;
          within = λ _. s.within g.within;
        })

-- ---- and a number's text is read
-- no digit comes next
abbrev pub NoDigit : List ℕ → Type 0
NoDigit [] = Unit {0}
NoDigit (c ∷ t) = is_digit c ≡ false

longest-stops : (most v : ℕ) (t : List ℕ) → NoDigit t → longest most v t ≡ record { size = v; after = t }
unfolding longest
longest-stops most v [] h = refl
longest-stops most v (c ∷ t) h = longest-ends most v c t (sym (goes-on-other c v most refl h))

-- the first digit, and the others, before t
pub record Reads (most x : ℕ) (t : List ℕ) : Type 0 where
  pub first : ℕ
  pub others : List ℕ
  pub text : decimal x ≡ first ∷ others
  pub digit : is_digit first ≡ true
  pub positive : 1 ≤ x → 1 ≤ first - 48
  pub reads : longest most (first - 48) (others ++ t) ≡ record { size = x; after = t }

module _ (most : ℕ) (t : List ℕ) (h : NoDigit t) where
  reads-one : (x : ℕ) → x < 10 → Reads most x t
  reads-one x l =
      let e : 48 + x - 48 ≡ x = omega arith in
      record { first = 48 + x; others = []; text = one-digit x l; digit = range-digit (48 + x) (omega arith) (omega arith); positive = λ o. omega arith; reads = rw e (longest-stops most x t h) }

  reads_two : (x : ℕ) → 10 ≤ x → x < 100 → x ≤ most → Reads most x t
  reads_two x a b l =
      let e : 48 + x / 10 - 48 ≡ x / 10 = omega arith in
      let f : x / 10 * 10 + (48 + x % 10 - 48) ≡ x = omega arith in
      let g = goes-on-made (48 + x % 10) (x / 10) most (range-digit (48 + x % 10) (omega arith) (omega arith)) (omega arith) (omega (arith, f)) in
      record {
        first = 48 + x / 10;
        others = (48 + x % 10) ∷ [];
        text = two_digits x a b;
        digit = range-digit (48 + x / 10) (omega arith) (omega arith);
        positive = λ o. omega arith;
        reads = rw e (longest-on most (x / 10) (48 + x % 10) t g ∙ rw f (longest-stops most x t h));
      }

  reads_three : (x : ℕ) → 100 ≤ x → x ≤ most → most ≤ 255 → Reads most x t
  reads_three x a l b =
      let e : 48 + x / 100 - 48 ≡ x / 100 = omega arith in
      let m : x / 100 * 10 + (48 + x / 10 % 10 - 48) ≡ x / 10 = omega arith in
      let f : x / 10 * 10 + (48 + x % 10 - 48) ≡ x = omega arith in
      let g = goes-on-made (48 + x / 10 % 10) (x / 100) most (range-digit (48 + x / 10 % 10) (omega arith) (omega arith)) (omega arith) (omega (arith, m)) in
      let k = goes-on-made (48 + x % 10) (x / 10) most (range-digit (48 + x % 10) (omega arith) (omega arith)) (omega arith) (omega (arith, f)) in
      record {
        first = 48 + x / 100;
        others = (48 + x / 10 % 10) ∷ (48 + x % 10) ∷ [];
        text = three-digits x a;
        digit = range-digit (48 + x / 100) (omega arith) (omega arith);
        positive = λ o. omega arith;
        reads = rw e (longest-on most (x / 100) (48 + x / 10 % 10) ((48 + x % 10) ∷ t) g ∙ rw m (longest-on most (x / 10) (48 + x % 10) t k ∙ rw f (longest-stops most x t h)));
      }

  pub number_reads : (x : ℕ) → x ≤ most → most ≤ 255 → Reads most x t
  number_reads x l b = split (ltb x 10) (ltb x 100) refl refl
    where
      split : (p q : Bool) → ltb x 10 ≡ p → ltb x 100 ≡ q → Reads most x t
      split true q u w = reads-one x (ltb-true x 10 u)
      split false true u w = reads_two x (ltb-false x 10 u) (ltb-true x 100 w) l
      split false false u w = reads_three x (ltb-false x 100 w) l b
