-- Reading on from a place: one byte further, stuck there, at the text's end, and past a gap.
use mathlib.Core.Path.{◌≡◌, refl, sym, ap, ◌∙◌}
use mathlib.Core.Bool.{Bool, true, false, not}
use mathlib.Core.List.{List, ◌∷◌}
use Prim.Native.Nat.{ℕ, suc, ◌+◌, ◌≤◌, ◌<◌}
use native.Mathlib.Omega.{arith}
use native.Mathlib.Numerals.{add-one}
use lib.Dec.{ltb}
use lib.ListN.{length, drop, drop_of_length-le}
use lib.Seq.{drop-cons}
use borrow.Author.Tests.{ltb-true, ltb-false, not-true, not-false}
use Rattle.fault.specs.Bytes.{byte_at}
use Rattle.dot.specs.Text.{is_blank}
use Rattle.dot.specs.Plan.{Item, gap}
use Rattle.dot.specs.Reading.{Num, none, Gathered, stuck, at, next, ended, drawn, fault, onward, run}
use Rattle.dot.proofs.Digits.{shifted-later}
use Rattle.drawing.specs.Cursor.{from, Skipped}

-- a byte that may follow
pub from_byte : (t : List ℕ) (i : ℕ) (k k' : List Item) (r r' : Gathered) (x x' : Num) → i < length t →
    next k r x (byte_at t i) ≡ at k' r' x' → from t i k r x ≡ from t (i + 1) k' r' x'
unfolding from run onward
from_byte t i k k' r r' x x' h e = rw (drop-cons t i 0 h, e, add-one i) (rw (add-one i) at (shifted-later i (run (drop (suc i) t) k' r' x')))

-- a byte that may not
pub from-stuck : (t : List ℕ) (i : ℕ) (k : List Item) (r : Gathered) (x : Num) → i < length t →
    next k r x (byte_at t i) ≡ stuck → from t i k r x ≡ fault i
unfolding from run onward
from-stuck t i k r x h e = rw (drop-cons t i 0 h, e) (ap fault (omega arith))

-- the text's end
pub from_end : (t : List ℕ) (i : ℕ) (k : List Item) (r : Gathered) (x : Num) → i ≡ length t → ended k ≡ false → from t i k r x ≡ fault i
unfolding from run
from_end t i k r x h e = let o : length t ≤ i = omega arith in rw (drop_of_length-le t o, e) (ap fault (omega arith))

pub from-over : (t : List ℕ) (i : ℕ) (k : List Item) (r : Gathered) (x : Num) → i ≡ length t → ended k ≡ true → from t i k r x ≡ drawn r
unfolding from run
from-over t i k r x h e = let o : length t ≤ i = omega arith in rw (drop_of_length-le t o, e)

-- two plans that ask the same of the next byte, and of the end
pub from-same : (t : List ℕ) (i : ℕ) (k k' : List Item) (r r' : Gathered) (x x' : Num) → i ≤ length t →
    (i < length t → next k r x (byte_at t i) ≡ next k' r' x' (byte_at t i)) →
    (i ≡ length t → from t i k r x ≡ from t i k' r' x') → from t i k r x ≡ from t i k' r' x'
unfolding from run
from-same t i k k' r r' x x' l f g = split (ltb i (length t)) refl
  where
    split : (b : Bool) → ltb i (length t) ≡ b → from t i k r x ≡ from t i k' r' x'
    split true h = let o = ltb-true i (length t) h in rw (drop-cons t i 0 o, f o)
    split false h = let o = ltb-false i (length t) h in g (omega arith)

-- ---- gaps
-- the gap goes on from i to j
pub record Passing (t : List ℕ) (i j : ℕ) : Type 0 where
  pub within : j ≤ length t
  pub onward : i ≤ j
  pub on : (k : List Item) (r : Gathered) → from t i (gap ∷ k) r none ≡ from t j (gap ∷ k) r none

pub gap-begins : {t : List ℕ} {i : ℕ} → i ≤ length t → Passing t i i
gap-begins h = record { within = h; onward = omega arith; on = λ k r. refl }

pub gap-goes-on : {t : List ℕ} {i j x : ℕ} {b : Bool} → Passing t i j → j < length t → x ≡ byte_at t j → b ≡ is_blank x → not b ≡ false → Passing t i (j + 1)
unfolding next
gap-goes-on {t} {i} {j} {x} {b} p h ex eb nb =
    let e : is_blank (byte_at t j) ≡ true = ap is_blank (sym ex) ∙ sym eb ∙ not-false b nb in
    record {
      within = omega arith;
      onward = omega (arith, p.onward);
      on = λ k r. p.on k r ∙ from_byte t j (gap ∷ k) (gap ∷ k) r r none none h (rw e);
    }

gap-left : (t : List ℕ) (i j : ℕ) → Passing t i j → (j < length t → is_blank (byte_at t j) ≡ false) → Skipped t i j
unfolding next run from ended
gap-left t i j p f = record { within = p.within; onward = p.onward; on = λ k r. p.on k r ∙ past k r }
  where
    past : (k : List Item) (r : Gathered) → from t j (gap ∷ k) r none ≡ from t j k r none
    past k r =
        from-same t j (gap ∷ k) k r r none none p.within (λ h. rw (f h))
        (λ h. let o : length t ≤ j = omega arith in rw (drop_of_length-le t o))

pub gap-stops : {t : List ℕ} {i j x : ℕ} {b : Bool} → Passing t i j → x ≡ byte_at t j → b ≡ is_blank x → not b ≡ true → Skipped t i j
gap-stops {t} {i} {j} {x} {b} p ex eb nb = gap-left t i j p (λ h. ap is_blank (sym ex) ∙ sym eb ∙ not-true b nb)

pub gap_ends : {t : List ℕ} {i j : ℕ} → Passing t i j → length t ≤ j → Skipped t i (length t)
gap_ends {t} {i} {j} p h = let e : length t ≡ j = omega (arith, p.within) in rw e (gap-left t i j p (λ o. absurd (omega arith)))

-- ---- the next byte
-- no byte may follow, nor the end
pub from-not : (t : List ℕ) (i : ℕ) (k : List Item) (r : Gathered) (x : Num) → i ≤ length t →
    (i < length t → next k r x (byte_at t i) ≡ stuck) → ended k ≡ false → from t i k r x ≡ fault i
from-not t i k r x l f e = split (ltb i (length t)) refl
  where
    split : (b : Bool) → ltb i (length t) ≡ b → from t i k r x ≡ fault i
    split true h = let o = ltb-true i (length t) h in from-stuck t i k r x o (f o)
    split false h = let o = ltb-false i (length t) h in from_end t i k r x (omega arith) e
