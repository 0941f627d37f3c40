-- A number, digit by digit.
use mathlib.Core.Path.{◌≡◌, refl, sym, ap, ◌∙◌}
use mathlib.Core.Bool.{Bool, true, false, cond, not, ◌&&◌, true≢false}
use mathlib.Core.List.{List, ◌∷◌}
use Prim.Native.Nat.{ℕ, ◌+◌, ◌-◌, ◌≤◌, ◌<◌}
use native.Mathlib.Omega.{arith}
use lib.Dec.{eqb}
use lib.ListN.{length, drop, length-drop}
use borrow.Author.Tests.{eqb-true, eqb-false, not-true, not-false}
use Rattle.senders.proofs.TallyLaws.{and_both as both}
use Rattle.fault.specs.Bytes.{byte_at}
use Rattle.decimal.specs.declared.Number as declared
use Rattle.decimal.specs.Digits.{is_digit, peeked, Number, Ends}
use Rattle.decimal.proofs.DigitLaws.{seen, seen_byte, digit-range, longest-least}
use Rattle.dot.specs.Plan.{Slot, Item, num}
use Rattle.dot.specs.Reading.{can_minus, limit, none, minus, some, begun, grown, no_more, grow, byte_of, Gathered, put, stuck, growing, whole, next, ended}
use Rattle.dot.proofs.Digits.{first, grow_first, reads-longest}
use Rattle.drawing.specs.declared.Cursor.{Cursor}
use Rattle.drawing.specs.Cursor.{from, Begun, Counted, Digits, RestOfDigits}
use Rattle.drawing.proofs.FromLaws.{from_byte, from-not}
use Rattle.drawing.proofs.PlanLaws.{at-free, at-stuck, sticks}

-- ---- sizes
pub limit-plain : (g b : Bool) → not g ≡ true → 255 ≡ limit g b
unfolding limit
limit-plain g b h = rw (not-true g h)

pub limit-below : (g b : Bool) → not g ≡ false → b ≡ true → 128 ≡ limit g b
unfolding limit
limit-below g b h e = rw (not-false g h, e)

pub limit_above : (g b : Bool) → not g ≡ false → b ≡ false → 127 ≡ limit g b
unfolding limit
limit_above g b h e = rw (not-false g h, e)

-- ---- the first digit
pub record First (t : List ℕ) (i x : ℕ) (neg : Bool) : Type 0 where
  pub there : i + 1 ≤ length t
  pub least : 48 ≤ x
  pub size : x - 48 < 10
  pub positive : neg ≡ true → 1 ≤ x - 48

pub first-digit : (t : List ℕ) (i : ℕ) (neg : Bool) {x : ℕ} {b : Bool} → x ≡ peeked t i → b ≡ first neg x → b ≡ true → First t i x neg
unfolding is_digit
first-digit t i neg {x} e eb y =
    let h : first neg x ≡ true = sym eb ∙ y in
    let z = seen (first neg) t i refl e h in
    let p = both (is_digit x) (not (neg && eqb x 48)) h in
    let a = digit-range x p.0 in
    record {
      there = omega (arith, z.there);
      least = a.from;
      size = omega (arith, a.to);
      positive = λ n. let o : x ≡ 48 → ⊥ = eqb-false x 48 (not-true (eqb x 48) (rw n at p.1)) in omega (arith, o, a.from);
    }

pub digits-begin : {t : List ℕ} {i x : ℕ} {signed neg b : Bool} {d : Cursor} → x ≡ peeked t i → b ≡ first neg x → b ≡ true →
    RestOfDigits t (i + 1) (x - 48) signed neg d → Digits t i signed neg d
unfolding next growing is_digit
digits-begin {t} {i} {x} {signed} {neg} {b} {d} e eb y f =
    let h : first neg x ≡ true = sym eb ∙ y in
    let z = seen (first neg) t i refl e h in
    record {
      within = f.within;
      onward = omega (arith, f.onward);
      further = λ _. f.onward;
      small = f.small;
      on = λ s k r m n.
          from_byte t i (num s ∷ k) (num s ∷ k) r r (begun neg) (some neg (x - 48)) z.there (rw (z.byte_is, grow_first (can_minus s) neg x h)) ∙
          f.on s k r m n;
    }

stuck-first : (s : Slot) (k : List Item) (r : Gathered) (signed neg : Bool) (x : ℕ) → can_minus s ≡ signed → first neg x ≡ false →
    (neg ≡ false → (signed && eqb x 45) ≡ false) → next (num s ∷ k) r (begun neg) x ≡ stuck
unfolding next grow growing whole
stuck-first s k r signed true x m h p = rw h
stuck-first s k r signed false x m h p = split (is_digit x) refl
  where
    sign : (g c : Bool) → g ≡ signed → eqb x 45 ≡ c → growing (cond (c && g) (grown minus) no_more) s k r stuck ≡ stuck
    sign g false e o = refl
    sign false true e o = refl
    sign true true e o = absurd (true≢false (sym (rw (← e, o)) ∙ p refl))

    split : (b : Bool) → is_digit x ≡ b → growing (grow (can_minus s) none x) s k r stuck ≡ stuck
    split true o = absurd (true≢false (sym (rw o) ∙ h))
    split false o = rw o (sign (can_minus s) (eqb x 45) m refl)

pub digits-none : {t : List ℕ} {i x : ℕ} {signed neg b : Bool} {d : Cursor} → i ≤ length t → Begun t i signed neg → x ≡ peeked t i →
    b ≡ first neg x → b ≡ false → d ≡ sticks i → Digits t i signed neg d
unfolding ended
digits-none {t} {i} {x} {signed} {neg} {b} {d} l g e eb y f =
    rw f
    (record {
      within = l;
      onward = omega arith;
      further = λ z. absurd (true≢false z);
      small = omega arith;
      on = λ s k r m n.
          from-not t i (num s ∷ k) r (begun neg) l
          (λ o. rw (seen_byte t i e o) (stuck-first s k r signed neg x m (sym eb ∙ y) (λ z. rw e (g.plain z)))) refl ∙
          sym (at-stuck t (sticks i) k (put s 0 r) refl);
    })

-- ---- the digits after it
pub rest_positive : {t : List ℕ} {i v most : ℕ} {neg : Bool} {n : declared.Number} → Ends t i v most n → (neg ≡ true → 1 ≤ v) → neg ≡ true → 1 ≤ n.value
rest_positive {t} {i} {v} {most} e p h = let o = p h in omega (arith, o, longest-least most v (drop i t), ap (λ (z : Number). z.size) e.whole)

pub rest-reads : {t : List ℕ} {i v u most : ℕ} {signed neg : Bool} {n : declared.Number} → most ≡ limit signed neg → Ends t i v most n →
    u ≡ byte_of neg n.value → u < 256 → RestOfDigits t i v signed neg (record { place = n.place; stuck = false; value = u })
unfolding from
rest-reads {t} {i} {v} {u} {most} {signed} {neg} {n} em e eu lu =
    record {
      within = e.within;
      onward = e.onward;
      small = lu;
      on = λ s k r m g.
          reads-longest s k r neg g (drop i t) i v n.place (record { size = n.value; after = drop n.place t }) (rw (m, ← em) e.whole)
          (omega (arith, length-drop i t, length-drop n.place t, e.within, e.onward)) ∙
          rw (← eu) (sym (at-free t (record { place = n.place; stuck = false; value = u }) k (put s u r) refl));
    }

-- ---- a whole number
pub number_stays : {t : List ℕ} {c d : Cursor} {signed : Bool} → c.place ≤ length t → c.stuck ≡ true → d ≡ sticks c.place → Counted t c signed d
number_stays {t} {c} {d} {signed} l h f =
    rw f
    (record {
      within = l;
      free = λ z. absurd (true≢false z);
      onward = omega arith;
      further = λ z. absurd (true≢false z);
      small = omega arith;
      on = λ s k r m n. at-stuck t c (num s ∷ k) r h ∙ sym (at-stuck t (sticks c.place) k (put s 0 r) refl);
    })

pub sign_there : (t : List ℕ) (i : ℕ) {x : ℕ} {signed : Bool} → x ≡ peeked t i → (signed && eqb x 45) ≡ true → (i + 1 ≤ length t) × Begun t (i + 1) signed true
sign_there t i {x} {signed} e h =
    let p = both signed (eqb x 45) h in
    let z = seen (λ (x : ℕ). eqb x 45) t i refl e p.1 in
    (omega (arith, z.there), record { can = λ _. p.0; plain = λ n. absurd (true≢false n) })

pub sign_none : {t : List ℕ} {i x : ℕ} {signed : Bool} → x ≡ peeked t i → (signed && eqb x 45) ≡ false → Begun t i signed false
sign_none {t} {i} {x} {signed} e h = record { can = λ n. absurd (true≢false (sym n)); plain = λ _. rw (← e) h }

pub number-minus : {t : List ℕ} {c d : Cursor} {x : ℕ} {signed : Bool} → c.stuck ≡ false → x ≡ peeked t c.place → (signed && eqb x 45) ≡ true →
    Digits t (c.place + 1) signed true d → Counted t c signed d
unfolding next growing grow is_digit
number-minus {t} {c} {d} {x} {signed} h e y f =
    let p = both signed (eqb x 45) y in
    let z = seen (λ (x : ℕ). eqb x 45) t c.place refl e p.1 in
    let q : byte_at t c.place ≡ 45 = z.byte_is ∙ eqb-true x 45 p.1 in
    record {
      within = f.within;
      free = λ _. h;
      onward = omega (arith, f.onward);
      further = λ o. omega (arith, f.onward);
      small = f.small;
      on = λ s k r m n.
          at-free t c (num s ∷ k) r h ∙
          from_byte t c.place (num s ∷ k) (num s ∷ k) r r none minus z.there (rw (q, m, p.0)) ∙
          f.on s k r m n;
    }

pub number-plain : {t : List ℕ} {c d : Cursor} {signed : Bool} → c.stuck ≡ false → Digits t c.place signed false d → Counted t c signed d
number-plain {t} {c} {d} {signed} h f =
    record {
      within = f.within;
      free = λ _. h;
      onward = f.onward;
      further = f.further;
      small = f.small;
      on = λ s k r m n. at-free t c (num s ∷ k) r h ∙ f.on s k r m n;
    }
