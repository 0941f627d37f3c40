-- Peeking, and a number's digits one after the other.
use mathlib.Core.Path.{◌≡◌, refl, sym, ap, ◌∙◌}
use mathlib.Core.Bool.{Bool, true, false, not, ◌&&◌, true≢false}
use mathlib.Core.List.{List, [], ◌∷◌}
use Prim.Native.Nat.{ℕ, suc, ◌+◌, ◌-◌, ◌*◌, ◌≤◌, ◌<◌}
use native.Mathlib.Omega.{arith}
use native.Mathlib.Numerals.{add-one}
use lib.Dec.{ltb, eqb, leb}
use lib.ListN.{length, drop, drop_of_length-le}
use lib.Seq.{drop-cons}
use Rattle.senders.proofs.TallyLaws.{and_both as both}
use borrow.Author.Tests.{ltb-true, lt-ltb, le-ltb, le-leb, leb-true, eqb-false, ne_eqb, not-true}
use Rattle.fault.specs.Bytes.{byte_at}
use Rattle.fault.specs.Fault.{◌if◌else◌}
use Rattle.decimal.specs.Digits.{is_digit, peeked, goes_on, longest, Ends}

-- ---- peeking
pub peek-there : (t : List ℕ) (i : ℕ) {x : ℕ} → i < length t → x ≡ byte_at t i → x ≡ peeked t i
unfolding peeked ◌if◌else◌
peek-there t i h e = rw (lt-ltb i (length t) h) e

pub peek-over : (t : List ℕ) (i : ℕ) → length t ≤ i → 256 ≡ peeked t i
unfolding peeked ◌if◌else◌
peek-over t i h = rw (le-ltb i (length t) h)

-- what was seen is a byte of the text
pub record Seen (t : List ℕ) (i x : ℕ) : Type 0 where
  pub there : i < length t
  pub byte_is : byte_at t i ≡ x

-- a test that 256 fails is passed only by a byte of the text
pub seen : (p : ℕ → Bool) (t : List ℕ) (i : ℕ) {x : ℕ} → p 256 ≡ false → x ≡ peeked t i → p x ≡ true → Seen t i x
unfolding peeked ◌if◌else◌
seen p t i {x} f e y = split (ltb i (length t)) refl
  where
    split : (b : Bool) → ltb i (length t) ≡ b → Seen t i x
    split true h = record { there = ltb-true i (length t) h; byte_is = sym (rw h at e) }
    split false h = let z : x ≡ 256 = rw h at e in absurd (true≢false (sym y ∙ ap p z ∙ f))

pub seen_byte : (t : List ℕ) (i : ℕ) {x : ℕ} → x ≡ peeked t i → i < length t → byte_at t i ≡ x
unfolding peeked ◌if◌else◌
seen_byte t i e h = sym (rw (lt-ltb i (length t) h) at e)

-- ---- digits
pub record Digit (c : ℕ) : Type 0 where
  pub from : 48 ≤ c
  pub to : c ≤ 57

pub digit-range : (c : ℕ) → is_digit c ≡ true → Digit c
unfolding is_digit
digit-range c h =
    let p = both (leb 48 c) (leb c 57) h in
    record { from = leb-true 48 c p.0; to = leb-true c 57 p.1 }

pub range-digit : (c : ℕ) → 48 ≤ c → c ≤ 57 → is_digit c ≡ true
unfolding is_digit
range-digit c a b = rw (le-leb 48 c a, le-leb c 57 b)

pub digit-least : (x : ℕ) {d : Bool} → d ≡ is_digit x → d ≡ true → 48 ≤ x
digit-least x e h = (digit-range x (sym e ∙ h)).from

-- ---- whether a byte goes on
pub goes-on-digit : (x v most : ℕ) {d : Bool} → d ≡ is_digit x → d ≡ true → (not (eqb v 0) && leb (v * 10 + (x - 48)) most) ≡ goes_on x v most
unfolding goes_on
goes-on-digit x v most e h = rw (sym e ∙ h)

pub goes-on-other : (x v most : ℕ) {d : Bool} → d ≡ is_digit x → d ≡ false → false ≡ goes_on x v most
unfolding goes_on
goes-on-other x v most e h = rw (sym e ∙ h)

-- what a byte that goes on is
pub record GoesOn (x w most : ℕ) : Type 0 where
  pub digit : Digit x
  pub some : 1 ≤ w
  pub within : w * 10 + (x - 48) ≤ most

pub goes_on_lem : (x w most : ℕ) → goes_on x w most ≡ true → GoesOn x w most
unfolding goes_on
goes_on_lem x w most h =
    let p = both (is_digit x && not (eqb w 0)) (leb (w * 10 + (x - 48)) most) h in
    let q = both (is_digit x) (not (eqb w 0)) p.0 in
    let z : w ≡ 0 → ⊥ = eqb-false w 0 (not-true (eqb w 0) q.1) in
    record { digit = digit-range x q.0; some = omega (arith, z); within = leb-true (w * 10 + (x - 48)) most p.1 }

pub goes-on-made : (x w most : ℕ) → is_digit x ≡ true → 1 ≤ w → w * 10 + (x - 48) ≤ most → goes_on x w most ≡ true
unfolding goes_on
goes-on-made x w most d s l = let o : w ≡ 0 → ⊥ = λ z. omega (arith, z) in rw (d, ne_eqb w 0 o, le-leb (w * 10 + (x - 48)) most l)

none_over : (w most : ℕ) → goes_on 256 w most ≡ false
unfolding goes_on is_digit
none_over w most = refl

-- ---- the loop over the digits
pub record Growing (t : List ℕ) (i v most j w : ℕ) : Type 0 where
  pub within : j ≤ length t
  pub onward : i ≤ j
  pub small : w ≤ 255
  pub same : longest most v (drop i t) ≡ longest most w (drop j t)

pub grows_none : {t : List ℕ} {i v most : ℕ} → i ≤ length t → v ≤ 255 → Growing t i v most i v
grows_none l h = record { within = l; onward = omega arith; small = h; same = refl }

-- what the next digit is
pub record Next (w x : ℕ) : Type 0 where
  pub least : 48 ≤ x
  pub most : w * 10 + (x - 48) ≤ 255

pub grows-next : {w x most : ℕ} {b : Bool} → b ≡ goes_on x w most → b ≡ true → most ≤ 255 → Next w x
grows-next {w} {x} {most} eb h l =
    let q = goes_on_lem x w most (sym eb ∙ h) in
    record { least = q.digit.from; most = omega (arith, q.within) }

pub longest-on : (most w c : ℕ) (t : List ℕ) → goes_on c w most ≡ true → longest most w (c ∷ t) ≡ longest most (w * 10 + (c - 48)) t
unfolding longest ◌if◌else◌
longest-on most w c t h = rw h

pub longest-ends : (most w c : ℕ) (t : List ℕ) → goes_on c w most ≡ false → longest most w (c ∷ t) ≡ record { size = w; after = c ∷ t }
unfolding longest ◌if◌else◌
longest-ends most w c t h = rw h

-- it never shrinks
pub longest-least : (most v : ℕ) (t : List ℕ) → v ≤ (longest most v t).size
unfolding longest
longest-least most v [] = omega arith
longest-least most v (c ∷ t) = split (goes_on c v most) refl (longest-least most (v * 10 + (c - 48)) t)
  where
    split : (b : Bool) → goes_on c v most ≡ b → v * 10 + (c - 48) ≤ (longest most (v * 10 + (c - 48)) t).size → v ≤ (longest most v (c ∷ t)).size
    split false h o = rw (longest-ends most v c t h) (omega arith)
    split true h o = rw (longest-on most v c t h) (omega (arith, o))

pub grows-more : {t : List ℕ} {i v j w x most : ℕ} {b : Bool} → Growing t i v most j w → most ≤ 255 → j < length t →
    x ≡ byte_at t j → b ≡ goes_on x w most → b ≡ true → Growing t i v most (j + 1) (w * 10 + (x - 48))
grows-more {t} {i} {v} {j} {w} {x} {most} g l o e eb h =
    record {
      within = omega arith;
      onward = omega (arith, g.onward);
      small = (grows-next eb h l).most;
      same = rw (e, add-one j) (g.same ∙ ap (longest most w) (drop-cons t j 0 o) ∙ longest-on most w (byte_at t j) (drop (suc j) t) (sym (ap (λ (z : ℕ). goes_on z w most) e) ∙ sym eb ∙ h));
    }

-- a byte of another kind ends it
pub grows_stop : {t : List ℕ} {i v j w x most : ℕ} {b : Bool} → Growing t i v most j w → j < length t → x ≡ byte_at t j → b ≡ goes_on x w most → b ≡ false →
    Ends t i v most (record { place = j; value = w })
grows_stop {t} {i} {v} {j} {w} {x} {most} g o e eb h =
    record {
      within = g.within;
      onward = g.onward;
      small = g.small;
      whole = g.same ∙ rw (drop-cons t j 0 o) (longest-ends most w (byte_at t j) (drop (suc j) t) (sym (ap (λ (z : ℕ). goes_on z w most) e) ∙ sym eb ∙ h));
    }

-- and so does the end of the text
pub grows_over : {t : List ℕ} {i v j w most : ℕ} → Growing t i v most j w → length t ≤ j → Ends t i v most (record { place = length t; value = w })
unfolding longest
grows_over {t} {i} {v} {j} {w} {most} g l =
    let e : j ≡ length t = omega (arith, g.within) in
    rw (← e)
    (record {
      within = g.within;
      onward = g.onward;
      small = g.small;
      whole = g.same ∙ rw (drop_of_length-le t l);
    })
