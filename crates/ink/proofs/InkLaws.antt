-- Laws of `stored`, and of what is put part by part.
use Prim.Native.Nat.{ℕ, suc, ◌+◌, ◌≤◌, ◌<◌}
use mathlib.Core.Path.{◌≡◌, refl, sym, ap, ◌∙◌}
use mathlib.Core.Bool.{Bool, true, false}
use mathlib.Core.List.{List, [], ◌∷◌, ◌++◌}
use native.Mathlib.Numerals.{add-one}
use native.Mathlib.Omega.{arith}
use lib.Dec.{ltb}
use lib.ListN.{length, set, get_or, drop, length-set, length-append, drop_of_length-le}
use lib.Seq.{drop-cons, sets, sets-eq}
use borrow.Author.Tests.{lt-ltb, le-ltb}
use Rattle.fault.specs.Fault.{◌if◌else◌}
use Rattle.ink.specs.Ink.{stored, Put}

pub stored-fits : (out : List ℕ) (n b : ℕ) → n < length out → set out n b ≡ stored out n (b ∷ [])
unfolding stored ◌if◌else◌
stored-fits out n b h = rw (lt-ltb n (length out) h)

pub stored-over : (out : List ℕ) (n b : ℕ) → length out ≤ n → out ≡ stored out n (b ∷ [])
unfolding stored ◌if◌else◌
stored-over out n b h = rw (le-ltb n (length out) h)

stored-none : (out : List ℕ) (n : ℕ) → stored out n [] ≡ out
unfolding stored
stored-none out n = refl

-- one text after the other
pub stored_more : (out : List ℕ) (n m : ℕ) (v w : List ℕ) → m ≡ n + length v → stored (stored out n v) m w ≡ stored out n (v ++ w)
unfolding stored
stored_more out n m [] w e = let z : m ≡ n = omega arith in rw z
stored_more out n m (b ∷ v) w e = stored_more (set out n b if ltb n (length out) else out) (n + 1) m v w (omega arith)

stored-byte-length : (out : List ℕ) (n b : ℕ) (t : Bool) → length (set out n b if t else out) ≡ length out
unfolding ◌if◌else◌
stored-byte-length out n b true = length-set out n b
stored-byte-length out n b false = refl

pub stored-length : (out : List ℕ) (n : ℕ) (w : List ℕ) → length (stored out n w) ≡ length out
unfolding stored
stored-length out n [] = refl
stored-length out n (b ∷ w) = stored-length (set out n b if ltb n (length out) else out) (n + 1) w ∙ stored-byte-length out n b (ltb n (length out))

-- ---- texts put one after the other
pub put-none : {out : List ℕ} {n : ℕ} → Put out n [] n out
put-none {out} {n} = record { place = omega arith; bytes = sym (stored-none out n) }

pub put_byte : {out end : List ℕ} {n b r : ℕ} → r ≡ n + 1 → end ≡ stored out n (b ∷ []) → Put out n (b ∷ []) r end
put_byte e f = record { place = e; bytes = f }

pub put_then : {out mid end : List ℕ} {n m r : ℕ} {v w : List ℕ} → Put out n v m mid → Put mid m w r end → Put out n (v ++ w) r end
put_then {out} {mid} {end} {n} {m} {r} {v} {w} p q =
    record {
      place = omega (arith, p.place, q.place, length-append v w);
      bytes = q.bytes ∙ rw p.bytes (stored_more out n m v w p.place);
    }

-- what is put as w is put as the text v that w is
pub put_as : {out end : List ℕ} {n r : ℕ} {v w : List ℕ} → v ≡ w → Put out n w r end → Put out n v r end
put_as e p = rw e p

-- ---- the rest of a loop
-- of a whole that is to be put at n₀ into out₀, the rest is still to be put at n into out
pub record RestPut (out₀ : List ℕ) (n₀ : ℕ) (whole out : List ℕ) (n : ℕ) (rest : List ℕ) : Type 0 where
  pub place : n + length rest ≡ n₀ + length whole
  pub bytes : stored out n rest ≡ stored out₀ n₀ whole

pub rest_all : {out : List ℕ} {n : ℕ} {whole rest : List ℕ} → whole ≡ rest → RestPut out n whole out n rest
rest_all {out} {n} e = record { place = ap (λ (w : List ℕ). n + length w) (sym e); bytes = ap (stored out n) (sym e) }

pub rest_less : {out₀ whole out mid v all rest : List ℕ} {n₀ n m : ℕ} → RestPut out₀ n₀ whole out n all → all ≡ v ++ rest → Put out n v m mid → RestPut out₀ n₀ whole mid m rest
rest_less {out₀} {whole} {out} {mid} {v} {all} {rest} {n₀} {n} {m} l e p =
    record {
      place = omega (arith, p.place, l.place, length-append v rest, ap length e);
      bytes = rw p.bytes (stored_more out n m v rest p.place ∙ ap (stored out n) (sym e) ∙ l.bytes);
    }

pub rest-none : {out₀ whole out rest : List ℕ} {n₀ n : ℕ} → RestPut out₀ n₀ whole out n rest → rest ≡ [] → Put out₀ n₀ whole n out
rest-none {out₀} {whole} {out} {rest} {n₀} {n} l e =
    record {
      place = omega (arith, l.place, ap length e);
      bytes = sym (stored-none out n) ∙ ap (stored out n) (sym e) ∙ l.bytes;
    }

-- the bytes of a word, one by one
pub word_more : {out₀ out mid : List ℕ} {n₀ n m : ℕ} (word : List ℕ) (i : ℕ) → RestPut out₀ n₀ word out n (drop i word) → i < length word → m ≡ n + 1 → mid ≡ stored out n (get_or word i 0 ∷ []) → RestPut out₀ n₀ word mid m (drop (i + 1) word)
word_more word i l h e f = rest_less l (rw (add-one, drop-cons word i 0)) (put_byte e f)

pub word_over : {out₀ out : List ℕ} {n₀ n : ℕ} (word : List ℕ) (i : ℕ) → RestPut out₀ n₀ word out n (drop i word) → length word ≤ i → Put out₀ n₀ word n out
word_over word i l h = rest-none l (drop_of_length-le word h)

-- ---- where all fits
stored_sets : (out : List ℕ) (n : ℕ) (w : List ℕ) → n + length w ≤ length out → stored out n w ≡ sets out n w
unfolding stored ◌if◌else◌
stored_sets out n [] h = refl
stored_sets out n (b ∷ w) h =
    let l : n < length out = omega arith in
    rw (lt-ltb n (length out) l, add-one n) (stored_sets (set out n b) (suc n) w (omega (arith, length-set out n b)))

pub stored-whole : (out w : List ℕ) → length w ≤ length out → stored out 0 w ≡ w ++ drop (length w) out
stored-whole out w h =
    let o : 0 + length w ≤ length out = omega arith in
    let z : 0 + length w ≡ length w = omega arith in
    stored_sets out 0 w o ∙ sets-eq w out 0 o ∙ ap (λ (x : ℕ). w ++ drop x out) z

pub stored-nothing : (n : ℕ) (w : List ℕ) → stored [] n w ≡ []
stored-nothing n w = nil (stored [] n w) (stored-length [] n w)
  where
    nil : (l : List ℕ) → length l ≡ 0 → l ≡ []
    nil [] e = refl
    nil (x ∷ l) e = absurd (omega arith)
