-- A quoted plan, code by code.
use mathlib.Core.Path.{◌≡◌, refl, sym, ap, ◌∙◌}
use mathlib.Core.Bool.{Bool, true, false, cond, true≢false}
use mathlib.Core.List.{List, [], ◌∷◌}
use Prim.Native.Nat.{ℕ, ◌+◌, ◌≤◌, ◌<◌}
use native.Mathlib.Omega.{arith}
use native.Mathlib.Numerals.{add-one}
use lib.Dec.{eqb}
use lib.ListN.{length, drop, drop_of_length-le}
use lib.Seq.{drop-cons}
use borrow.Author.Tests.{eq-eqb, ne_eqb}
use Rattle.fault.specs.Bytes.{byte_at}
use Rattle.fault.specs.Fault.{◌if◌else◌}
use Rattle.decimal.specs.Digits.{peeked}
use Rattle.decimal.proofs.DigitLaws.{seen, seen_byte}
use Rattle.dot.specs.Text.{is_blank}
use Rattle.dot.specs.Plan.{Item, gap, one, byte, blank, item, plan}
use Rattle.dot.specs.Reading.{none, Gathered, stuck, at, to, halt, turned, take1, next, ended, fault}
use Rattle.drawing.specs.declared.Cursor.{Cursor}
use Rattle.drawing.specs.Cursor.{from, reached, asked, Skipped, Followed}
use Rattle.drawing.proofs.FromLaws.{from_byte, from-not}

-- ---- cursors
pub at-free : (t : List ℕ) (c : Cursor) (k : List Item) (r : Gathered) → c.stuck ≡ false → reached t c k r ≡ from t c.place k r none
unfolding reached ◌if◌else◌
at-free t c k r h = rw h

pub at-stuck : (t : List ℕ) (c : Cursor) (k : List Item) (r : Gathered) → c.stuck ≡ true → reached t c k r ≡ fault c.place
unfolding reached ◌if◌else◌
at-stuck t c k r h = rw h

abbrev pub stands : ℕ → Cursor
stands i = record { place = i; stuck = false; value = 0 }

abbrev pub sticks : ℕ → Cursor
sticks i = record { place = i; stuck = true; value = 0 }

-- what is asked of a byte
pub asked-blank : (c x : ℕ) {b : Bool} → c ≡ 95 → b ≡ is_blank x → b ≡ asked c x
unfolding asked ◌if◌else◌
asked-blank c x h e = rw (eq-eqb c 95 h) e

pub asked-byte : (c x : ℕ) → (c ≡ 95 → ⊥) → eqb x c ≡ asked c x
unfolding asked ◌if◌else◌
asked-byte c x h = rw (ne_eqb c 95 h)

asked-none : (c : ℕ) → c < 256 → asked c 256 ≡ false
unfolding asked ◌if◌else◌ is_blank
asked-none c l = split (eqb c 95) refl
  where
    split : (b : Bool) → eqb c 95 ≡ b → (is_blank 256 if b else eqb 256 c) ≡ false
    split true h = refl
    split false h = ne_eqb 256 c (λ e. omega arith)

asked-next : (c x : ℕ) (k : List Item) (r : Gathered) → (c ≡ 126 → ⊥) → next (item c ∷ k) r none x ≡ cond (asked c x) (at k r none) stuck
unfolding asked next take1 ◌if◌else◌
asked-next c x k r h = rw (ne_eqb c 126 h) (split (eqb c 95) refl)
  where
    either : (b : Bool) → turned (cond b (to k r) halt) ≡ cond b (at k r none) stuck
    either true = refl
    either false = refl

    split : (b : Bool) → eqb c 95 ≡ b → next (cond b (one blank) (one (byte c)) ∷ k) r none x ≡ cond (is_blank x if b else eqb x c) (at k r none) stuck
    split true e = either (is_blank x)
    split false e = either (eqb x c)

asked-going : (c : ℕ) (k : List Item) → (c ≡ 126 → ⊥) → ended (item c ∷ k) ≡ false
unfolding ended
asked-going c k h = rw (ne_eqb c 126 h) (split (eqb c 95))
  where
    split : (b : Bool) → ended (cond b (one blank) (one (byte c)) ∷ k) ≡ false
    split true = refl
    split false = refl

-- ---- one code
pub item_stays : {t : List ℕ} {c : Cursor} (w : List ℕ) → c.place ≤ length t → c.stuck ≡ true → Followed t c w c
item_stays {t} {c} w l h =
    record { within = l; free = λ z. z; onward = omega arith; on = λ k r. at-stuck t c (plan w k) r h ∙ sym (at-stuck t c k r h) }

pub item-gap : {t : List ℕ} {c d : Cursor} {code j : ℕ} → c.stuck ≡ false → code ≡ 126 → Skipped t c.place j → d ≡ stands j → Followed t c (code ∷ []) d
item-gap {t} {c} {d} {code} {j} h e s f =
    rw f
    (record {
      within = s.within;
      free = λ _. h;
      onward = s.onward;
      on = λ k r. at-free t c (plan (code ∷ []) k) r h ∙ gapped k r ∙ s.on k r ∙ sym (at-free t (stands j) k r refl);
    })
  where
    gapped : (k : List Item) (r : Gathered) → from t c.place (item code ∷ k) r none ≡ from t c.place (gap ∷ k) r none
    gapped k r = rw (eq-eqb code 126 e)

pub item-taken : {t : List ℕ} {c d : Cursor} {code x : ℕ} {b : Bool} → c.stuck ≡ false → (code ≡ 126 → ⊥) → code < 256 →
    x ≡ peeked t c.place → b ≡ asked code x → b ≡ true → d ≡ stands (c.place + 1) → Followed t c (code ∷ []) d
item-taken {t} {c} {d} {code} {x} h n l e eb y f =
    let z = seen (asked code) t c.place (asked-none code l) e (sym eb ∙ y) in
    rw f
    (record {
      within = omega (arith, z.there);
      free = λ _. h;
      onward = omega arith;
      on = λ k r.
          at-free t c (plan (code ∷ []) k) r h ∙
          from_byte t c.place (item code ∷ k) k r r none none z.there (rw z.byte_is (asked-next code x k r n ∙ rw (sym eb ∙ y))) ∙
          sym (at-free t (stands (c.place + 1)) k r refl);
    })

pub item_refused : {t : List ℕ} {c d : Cursor} {code x : ℕ} {b : Bool} → c.stuck ≡ false → c.place ≤ length t → (code ≡ 126 → ⊥) →
    x ≡ peeked t c.place → b ≡ asked code x → b ≡ false → d ≡ sticks c.place → Followed t c (code ∷ []) d
item_refused {t} {c} {d} {code} {x} h l n e eb y f =
    rw f
    (record {
      within = l;
      free = λ z. absurd (true≢false z);
      onward = omega arith;
      on = λ k r.
          at-free t c (plan (code ∷ []) k) r h ∙
          from-not t c.place (item code ∷ k) r none l
          (λ o. rw (seen_byte t c.place e o) (asked-next code x k r n ∙ rw (sym eb ∙ y))) (asked-going code k n) ∙
          sym (at-stuck t (sticks c.place) k r refl);
    })

-- ---- all codes
pub record Going (t : List ℕ) (c : Cursor) (w : List ℕ) (j : ℕ) (d : Cursor) : Type 0 where
  pub within : d.place ≤ length t
  pub free : d.stuck ≡ false → c.stuck ≡ false
  pub onward : c.place ≤ d.place
  pub on : (k : List Item) (r : Gathered) → reached t c (plan w k) r ≡ reached t d (plan (drop j w) k) r

pub plan-begins : {t : List ℕ} {c : Cursor} (w : List ℕ) → c.place ≤ length t → Going t c w 0 c
plan-begins w l = record { within = l; free = λ z. z; onward = omega arith; on = λ k r. refl }

pub plan-goes-on : {t w : List ℕ} {c d e : Cursor} {j b : ℕ} → Going t c w j d → j < length w → b ≡ byte_at w j → Followed t d (b ∷ []) e → Going t c w (j + 1) e
plan-goes-on {t} {w} {c} {d} {e} {j} {b} g h eb f =
    record {
      within = f.within;
      free = λ z. g.free (f.free z);
      onward = omega (arith, g.onward, f.onward);
      on = λ k r. g.on k r ∙ ap (λ (v : List ℕ). reached t d (plan v k) r) codes ∙ f.on (plan (drop (j + 1) w) k) r;
    }
  where
    codes : drop j w ≡ b ∷ drop (j + 1) w
    codes = rw (eb, add-one j) (drop-cons w j 0 h)

pub plan-ends : {t w : List ℕ} {c d : Cursor} {j : ℕ} → Going t c w j d → length w ≤ j → Followed t c w d
plan-ends {t} {w} {c} {d} {j} g h =
    record {
      within = g.within;
      free = g.free;
      onward = g.onward;
      on = λ k r. g.on k r ∙ ap (λ (v : List ℕ). reached t d (plan v k) r) (drop_of_length-le w h);
    }
