-- A fact about the level's number, from the tests `level == 0` and `level == 1`.
use mathlib.Core.Path.{◌≡◌, refl}
use mathlib.Core.Bool.{◌&&◌, or-false}
use mathlib.Core.List.{List}
use Prim.Native.Nat.{ℕ, zero, suc, ◌+◌, ◌-◌, ◌*◌, ◌≤◌, ◌<◌}
use native.Mathlib.Nat.{mul-le-mul}
use native.Mathlib.Numerals.{add-one}
use native.Mathlib.Omega.{arith}
use lib.Dec.{eqb}
use lib.ListN.{get_or, set}
use borrow.Author.Tests.{lt-ltb, le-ltb, ne_eqb}
use Rattle.senders.specs.Tally.{least}
use Rattle.senders.specs.Set.{insert}
use Rattle.fault.specs.Tests.{◌below◌}
use Rattle.fault.specs.Fault.{◌if◌else◌}
use Rattle.paper.specs.Paper.{column}
use Rattle.paper.specs.Form.{wide, slot, bump, two, coll, shown}
use Rattle.paper.proofs.FormLaws.{wide-some}
use Rattle.words.specs.Words.{from_correct, from_faulty}

pub sets : (P : ℕ → Type 0) → P 0 → (k : ℕ) → k ≡ 0 → P k
sets P h zero e = h
sets P h (suc k) e = absurd (omega arith)

pub tags : (P : ℕ → Type 0) → P 1 → (k : ℕ) → k ≡ 1 → P k
tags P h zero e = absurd (omega arith)
tags P h (suc zero) e = h
tags P h (suc (suc j)) e = absurd (omega arith)

-- the levels that count
pub counts : (P : ℕ → Type 0) → ((j : ℕ) → P (suc j)) → (k : ℕ) → (k ≡ 0 → ⊥) → P k
counts P h zero n = absurd (n refl)
counts P h (suc j) n = h j

-- the forms whose cells have one word
pub singles : (P : ℕ → Type 0) → P 0 → ((j : ℕ) → P (suc (suc j))) → (k : ℕ) → (k ≡ 1 → ⊥) → P k
singles P g h zero o = g
singles P g h (suc zero) o = absurd (o refl)
singles P g h (suc (suc j)) o = h j

-- a board's own message changes a word as the board's number does
pub bump-own : (k C f p v : ℕ) → bump k p v ≡ bump k ((column k C f).own p) v
unfolding bump
bump-own zero C f p v = refl
bump-own (suc k) C f p v = refl

pub source-few : (k C f q : ℕ) → C + f ≤ 64 → q < (column k C f).sources → q < 64
source-few zero C f q h l = omega arith
source-few (suc zero) C f q h l = omega arith
source-few (suc (suc k)) C f q h l = omega arith

-- ---- the levels that count, by how many words a cell has
pub slot-last : (k : ℕ) → wide k - 1 ≡ slot k 1
unfolding wide slot
slot-last zero = refl
slot-last (suc zero) = refl
slot-last (suc (suc k)) = refl

pub slot_is : (k q : ℕ) → (k ≡ 0 → ⊥) → q < wide k → q ≡ slot k q
unfolding wide slot
slot_is zero q n l = absurd (n refl)
slot_is (suc zero) q n l = refl
slot_is (suc (suc k)) q n l = omega arith

pub sources_are : (k C f : ℕ) → (k ≡ 0 → ⊥) → wide k ≡ (column k C f).sources
unfolding wide
sources_are zero C f n = absurd (n refl)
sources_are (suc zero) C f n = refl
sources_are (suc (suc k)) C f n = refl

pub source-slot : (k C f q : ℕ) → (k ≡ 0 → ⊥) → q < (column k C f).sources → q < wide k
source-slot k C f q n l = omega (arith, l, sources_are k C f n)

pub card-is : (k C f v w : ℕ) → (k ≡ 0 → ⊥) → v + (wide k - 1) * w ≡ (column k C f).card (coll k C f (two v w))
unfolding wide coll
card-is zero C f v w n = absurd (n refl)
card-is (suc zero) C f v w n = omega arith
card-is (suc (suc k)) C f v w n = omega arith

-- the counts of a cell, and of a sent word
pub correct-counted : (k C f v w : ℕ) → (k ≡ 0 → ⊥) → v ≡ from_correct k C f (coll k C f (two v w))
unfolding from_correct coll
correct-counted zero C f v w n = absurd (n refl)
correct-counted (suc zero) C f v w n = refl
correct-counted (suc (suc k)) C f v w n = refl

pub faulty-untold : (k C f v w : ℕ) → (k ≡ 0 → ⊥) → (k ≡ 1 → ⊥) → 0 ≡ from_faulty k C f (coll k C f (two v w))
unfolding from_faulty
faulty-untold zero C f v w n o = absurd (n refl)
faulty-untold (suc zero) C f v w n o = absurd (o refl)
faulty-untold (suc (suc k)) C f v w n o = refl

pub told_word : (k C f v w : ℕ) → from_correct k C f (coll k C f (two v w)) ≡ from_correct k C f (shown k C f v)
unfolding from_correct coll shown
told_word zero C f v w = refl
told_word (suc zero) C f v w = refl
told_word (suc (suc k)) C f v w = refl

-- the last word counts once at most
pub last_once : {x : ℕ} (k w m : ℕ) → x ≡ wide k → w ≤ m → (x - 1) * w ≤ m
last_once {x} k w m e h = let l : x - 1 ≤ 1 = omega (arith, e, (wide-some k).1) in omega (arith, mul-le-mul {n₂ = 1} {m₂ = m} l h)

-- the first count's limit
abbrev pub limit_of : ℕ → ℕ → ℕ → ℕ
limit_of x f out = out + f if eqb x 1 else out

-- ---- a receipt, by the code's two ways
abbrev received : ℕ → ℕ → ℕ → List ℕ → List ℕ
received k i q w = set w (i + slot k q) (bump k q (get_or w (i + slot k q) 0))

pub set-received : {x : ℕ} (k i q : ℕ) (w : List ℕ) → k ≡ 0 → x ≡ insert q (get_or w i 0) → set w i x ≡ received k i q w
unfolding slot bump
set-received {x} k i q w e h = sets (λ (j : ℕ). set w i x ≡ received j i q w) (let z : i + 0 ≡ i = omega arith in rw (z, h)) k e

pub count-received : (k i q : ℕ) (w : List ℕ) → (k ≡ 0 → ⊥) → q < wide k → set w (i + q) (get_or w (i + q) 0 + 1) ≡ received k i q w
unfolding bump
count-received k i q w n l =
    rw (← slot_is k q n l) (counts (λ (j : ℕ). set w (i + q) (get_or w (i + q) 0 + 1) ≡ set w (i + q) (bump j q (get_or w (i + q) 0))) (λ j. rw add-one) k n)

-- in transit: a count against its limit
pub first-transit : (k C f q v w out : ℕ) → (k ≡ 0 → ⊥) → q ≡ 0 → (v below limit_of (wide k) f out) ≡ (column k C f).in_transit q (coll k C f (two v w)) (shown k C f out)
unfolding wide coll shown ◌if◌else◌
first-transit zero C f q v w out n e = absurd (n refl)
first-transit (suc zero) C f q v w out n e = rw (e, or-false)
first-transit (suc (suc k)) C f q v w out n e = rw e

pub other-transit : (k C f q v w out : ℕ) → (k ≡ 0 → ⊥) → (q ≡ 0 → ⊥) → (q below wide k && w below f) ≡ (column k C f).in_transit q (coll k C f (two v w)) (shown k C f out)
unfolding wide coll shown
other-transit zero C f q v w out n o = absurd (n refl)
other-transit (suc zero) C f zero v w out n o = absurd (o refl)
other-transit (suc zero) C f (suc zero) v w out n o = refl
other-transit (suc zero) C f (suc (suc q)) v w out n o = rw (le-ltb (suc (suc q)) 2 (omega arith), ne_eqb (suc (suc q)) 0 (omega arith), ne_eqb (suc (suc q)) 1 (omega arith))
other-transit (suc (suc k)) C f zero v w out n o = absurd (o refl)
other-transit (suc (suc k)) C f (suc q) v w out n o = rw (le-ltb (suc q) 1 (omega arith), ne_eqb (suc q) 0 (omega arith))

-- the lowest source in transit
module _ (C f v w out : ℕ) where
  abbrev lowest : ℕ → ℕ
  lowest k = least (column k C f).sources (λ q. (column k C f).in_transit q (coll k C f (two v w)) (shown k C f out))

  pub first-zero : (k : ℕ) → (k ≡ 0 → ⊥) → v < limit_of (wide k) f out → 0 ≡ lowest k
  unfolding wide coll shown least ◌if◌else◌
  first-zero zero n l = absurd (n refl)
  first-zero (suc zero) n l = rw (lt-ltb v out l)
  first-zero (suc (suc k)) n l = rw (lt-ltb v (out + f) l)

  pub first_one : (k : ℕ) → (k ≡ 0 → ⊥) → limit_of (wide k) f out ≤ v → w < f → 1 ≡ lowest k
  unfolding wide coll shown least ◌if◌else◌
  first_one zero n l h = absurd (n refl)
  first_one (suc zero) n l h = rw (le-ltb v out l, lt-ltb w f h)
  first_one (suc (suc k)) n l h = rw (le-ltb v (out + f) l)

  pub first-none : (k : ℕ) → (k ≡ 0 → ⊥) → limit_of (wide k) f out ≤ v → f ≤ w → wide k ≡ lowest k
  unfolding wide coll shown least ◌if◌else◌
  first-none zero n l h = absurd (n refl)
  first-none (suc zero) n l h = rw (le-ltb v out l, le-ltb w f h)
  first-none (suc (suc k)) n l h = rw (le-ltb v (out + f) l)
