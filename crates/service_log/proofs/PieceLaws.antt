-- The pieces of a line: a word by its bytes, a number after it, and the line feed.
use mathlib.Core.Path.{◌≡◌, refl, sym, ap, ◌∙◌}
use mathlib.Core.Bool.{Bool, true, false, ◌&&◌, false≢true}
use mathlib.Core.List.{List, []}
use Prim.Native.Nat.{ℕ, suc, ◌+◌, ◌-◌, ◌*◌, ◌≤◌, ◌<◌}
use native.Mathlib.Omega.{arith}
use lib.Dec.{eqb, ltb}
use lib.ListN.{length, drop, length-drop, drop_of_length-le}
use lib.Seq.{drop-cons, drop-drop, get_or-drop}
use Rattle.senders.proofs.TallyLaws.{and_both as both}
use borrow.Author.Tests.{eqb-true, eq-eqb, ltb-true, ltb-false, lt-ltb}
use Rattle.fault.specs.Bytes.{byte_at, u16_at}
use Rattle.fault.specs.Fault.{◌if◌else◌}
use Rattle.decimal.specs.Digits.{is_digit, peeked, Ends}
use Rattle.decimal.specs.declared.Number.{Number}
use Rattle.decimal.proofs.DigitLaws.{peek-there, digit-range}
use Rattle.service_log.specs.Said.{Said, nothing, begins, counted, numbered}
use Rattle.service_log.specs.Cursor.{Four, Numbered}
use Rattle.std.specs.Prelude.{Option, Some, None}

-- peeking into the rest of a text is peeking further on
pub peek-drop : (t : List ℕ) (i : ℕ) → peeked (drop i t) 0 ≡ peeked t i
unfolding peeked ◌if◌else◌
peek-drop t i = split (ltb i (length t)) refl
  where
    split : (b : Bool) → ltb i (length t) ≡ b → (byte_at (drop i t) 0 if ltb 0 (length (drop i t)) else 256) ≡ (byte_at t i if ltb i (length t) else 256)
    split true h =
        let o = ltb-true i (length t) h in
        let e : length (drop i t) ≡ length t - i = length-drop i t in
        let p : 0 < length (drop i t) = omega (arith, e) in
        let z : i + 0 ≡ i = omega arith in
        rw (h, lt-ltb 0 (length (drop i t)) p) (get_or-drop i t 0 0 ∙ ap (byte_at t) z)
    split false h = let o = ltb-false i (length t) h in rw (h, drop_of_length-le t o)

peek-nothing : peeked [] 0 ≡ 256
unfolding peeked ◌if◌else◌
peek-nothing = refl

-- ---- words
same : (a b : Bool) → (a ≡ true → b ≡ true) → (b ≡ true → a ≡ true) → a ≡ b
same true b f g = sym (f refl)
same false true f g = absurd (false≢true (g refl))
same false false f g = refl

begins-byte : (w t : List ℕ) (j i : ℕ) → j < length w → i < length t
    → begins (drop j w) (drop i t) ≡ (eqb (byte_at t i) (byte_at w j) && begins (drop (suc j) w) (drop (suc i) t))
unfolding begins
begins-byte w t j i h l = rw (drop-cons w j 0 h, drop-cons t i 0 l)

-- a number of two bytes has no others, and so a number of four has no other halves
bytes_of : {a b c d : ℕ} → a + 256 * b ≡ c + 256 * d → a < 256 → c < 256 → (a ≡ c) × (b ≡ d)
bytes_of {a} {b} {c} {d} e l m = let z : a ≡ c = omega arith in (z, omega (arith, z))

halves_of : {a b c d : ℕ} → a + 65536 * b ≡ c + 65536 * d → a < 65536 → c < 65536 → (a ≡ c) × (b ≡ d)
halves_of {a} {b} {c} {d} e l m = let z : a ≡ c = omega arith in (z, omega (arith, z))

-- the word of six bytes, by the number of the first four and that of the last two
module _ {w t : List ℕ} {i a b c d : ℕ} (six : length w ≡ 6) (l : i + 6 ≤ length t) (A : Four t i a) (B : Four w 0 b)
    (ec : c ≡ u16_at t (i + 4)) (c₁ : byte_at t (i + 4) < 256) (c₂ : byte_at t (i + 4 + 1) < 256)
    (ed : d ≡ u16_at w 4) (d₁ : byte_at w 4 < 256) (d₂ : byte_at w 5 < 256) where
  -- the tests of the word's bytes, from each of them on
  abbrev from₅ : Bool
  from₅ = eqb (byte_at t (i + 4 + 1)) (byte_at w 5) && true

  abbrev from₄ : Bool
  from₄ = eqb (byte_at t (i + 4)) (byte_at w 4) && from₅

  abbrev from₃ : Bool
  from₃ = eqb (byte_at t (i + 2 + 1)) (byte_at w 3) && from₄

  abbrev from₂ : Bool
  from₂ = eqb (byte_at t (i + 2)) (byte_at w 2) && from₃

  abbrev from₁ : Bool
  from₁ = eqb (byte_at t (i + 1)) (byte_at w 1) && from₂

  abbrev chain : Bool
  chain = eqb (byte_at t i) (byte_at w 0) && from₁

  same_byte : (i j : ℕ) (rest : Bool) → (eqb (byte_at t i) (byte_at w j) && rest) ≡ true → (byte_at t i ≡ byte_at w j) × (rest ≡ true)
  same_byte i j rest h = let p = both (eqb (byte_at t i) (byte_at w j)) rest h in (eqb-true _ _ p.0, p.1)

  begins_chain : begins w (drop i t) ≡ chain
  unfolding begins
  begins_chain =
      let e₁ : suc i ≡ i + 1 = omega arith in
      let e₂ : suc (i + 1) ≡ i + 2 = omega arith in
      let e₃ : suc (i + 2) ≡ i + 2 + 1 = omega arith in
      let e₄ : suc (i + 2 + 1) ≡ i + 4 = omega arith in
      let e₅ : suc (i + 4) ≡ i + 4 + 1 = omega arith in
      let o : length w ≤ 6 = omega (arith, six) in
      begins-byte w t 0 i (omega (arith, six)) (omega arith) ∙ rw e₁
      (ap (λ (x : Bool). eqb (byte_at t i) (byte_at w 0) && x) (begins-byte w t 1 (i + 1) (omega (arith, six)) (omega arith) ∙ rw e₂
      (ap (λ (x : Bool). eqb (byte_at t (i + 1)) (byte_at w 1) && x) (begins-byte w t 2 (i + 2) (omega (arith, six)) (omega arith) ∙ rw e₃
      (ap (λ (x : Bool). eqb (byte_at t (i + 2)) (byte_at w 2) && x) (begins-byte w t 3 (i + 2 + 1) (omega (arith, six)) (omega arith) ∙ rw e₄
      (ap (λ (x : Bool). eqb (byte_at t (i + 2 + 1)) (byte_at w 3) && x) (begins-byte w t 4 (i + 4) (omega (arith, six)) (omega arith) ∙ rw e₅
      (ap (λ (x : Bool). eqb (byte_at t (i + 4)) (byte_at w 4) && x) (begins-byte w t 5 (i + 4 + 1) (omega (arith, six)) (omega arith) ∙
      ap (λ (x : List ℕ). eqb (byte_at t (i + 4 + 1)) (byte_at w 5) && begins x (drop (suc (i + 4 + 1)) t)) (drop_of_length-le w o)))))))))))

  pub begins_six : (eqb a b && eqb c d) ≡ begins w (drop i t)
  begins_six = same _ _ forth back ∙ sym begins_chain
    where
      forth : (eqb a b && eqb c d) ≡ true → chain ≡ true
      forth h =
          let p = both (eqb a b) (eqb c d) h in
          let ab = eqb-true a b p.0 in
          let cd = eqb-true c d p.1 in
          let q = halves_of (sym A.is ∙ ab ∙ B.is) (omega (arith, A.first, A.second)) (omega (arith, B.first, B.second)) in
          let r₀ = bytes_of q.0 A.first B.first in
          let r₁ = bytes_of q.1 A.third B.third in
          let r₂ = bytes_of (sym ec ∙ cd ∙ ed) c₁ d₁ in
          rw (eq-eqb _ _ r₀.0, eq-eqb _ _ r₀.1, eq-eqb _ _ r₁.0, eq-eqb _ _ r₁.1, eq-eqb _ _ r₂.0, eq-eqb _ _ r₂.1)

      back : chain ≡ true → (eqb a b && eqb c d) ≡ true
      back h =
          let p₀ = same_byte i 0 from₁ h in
          let p₁ = same_byte (i + 1) 1 from₂ p₀.1 in
          let p₂ = same_byte (i + 2) 2 from₃ p₁.1 in
          let p₃ = same_byte (i + 2 + 1) 3 from₄ p₂.1 in
          let p₄ = same_byte (i + 4) 4 from₅ p₃.1 in
          let p₅ = same_byte (i + 4 + 1) 5 true p₄.1 in
          let ab : a ≡ b = omega (arith, A.is, B.is, p₀.0, p₁.0, p₂.0, p₃.0) in
          let cd : c ≡ d = omega (arith, ec, ed, p₄.0, p₅.0) in
          rw (eq-eqb a b ab, eq-eqb c d cd)

-- ---- numbers
pub number-none : (t : List ℕ) (i : ℕ) {x : ℕ} {b : Bool} → i < length t → x ≡ byte_at t i → b ≡ is_digit x → b ≡ false → Numbered t i [] None
unfolding numbered begins counted ◌if◌else◌
number-none t i l e eb h = λ k. rw (peek-drop t i ∙ sym (peek-there t i l e), sym eb ∙ h)

-- what the first digit is
pub record First (x : ℕ) : Type 0 where
  pub least : 48 ≤ x
  pub size : x - 48 ≤ 255

pub first-digit : {x : ℕ} {b : Bool} → b ≡ is_digit x → b ≡ true → First x
first-digit {x} {b} eb h = let d = digit-range x (sym eb ∙ h) in record { least = d.from; size = omega (arith, d.to) }

pub number_read : {t : List ℕ} {i x : ℕ} {b : Bool} {n : Number} → i < length t → x ≡ byte_at t i → b ≡ is_digit x → b ≡ true → Ends t (i + 1) (x - 48) 254 n → Numbered t i [] (Some n)
unfolding numbered begins counted ◌if◌else◌
number_read {t} {i} {x} {b} {n} l e eb h N =
    record {
      on = λ k. rw (peek-drop t i ∙ sym (peek-there t i l e), sym eb ∙ h, drop-drop 1 i t, N.whole);
      within = N.within;
      onward = omega (arith, N.onward);
      small = N.small;
    }

-- ---- a word and a number
pub numbered-none : (t w : List ℕ) (i : ℕ) {b : Bool} → b ≡ begins w (drop i t) → b ≡ false → Numbered t i w None
unfolding numbered ◌if◌else◌
numbered-none t w i e h = λ k. rw (sym e ∙ h)

-- a word of six bytes and a digit do not fit in fewer than seven
pub numbered-short : (t w : List ℕ) (i : ℕ) → length w ≡ 6 → length t - i < 7 → Numbered t i w None
unfolding numbered counted is_digit ◌if◌else◌
numbered-short t w i six l = λ k. split k (begins w (drop i t)) refl
  where
    split : (k : ℕ → List ℕ → Said) (b : Bool) → begins w (drop i t) ≡ b → numbered w k (drop i t) ≡ nothing
    split k false e = rw e
    split k true e =
        let o : length (drop i t) ≤ length w = rw (length-drop i t, six) (omega (arith, l)) in
        rw (e, drop_of_length-le (drop i t) o, peek-nothing)

-- what comes after the word is what it is followed by
pub numbered-some : (t w : List ℕ) (i : ℕ) {b : Bool} (n : Option Number) → length w ≡ 6 → b ≡ begins w (drop i t) → b ≡ true → Numbered t (i + 6) [] n → Numbered t i w n
unfolding numbered begins ◌if◌else◌
numbered-some t w i None six e h N = λ k. rw (sym e ∙ h, six, drop-drop 6 i t) (N k)
numbered-some t w i (Some n) six e h N =
    record {
      on = λ k. rw (sym e ∙ h, six, drop-drop 6 i t) (N.on k);
      within = N.within;
      onward = omega (arith, N.onward);
      small = N.small;
    }
