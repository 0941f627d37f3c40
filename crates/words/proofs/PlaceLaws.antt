-- Where cells and sent words stand: their numbers are small, and they lie inside a configuration.
use mathlib.Core.Path.{◌≡◌, refl, sym, ap, ◌∙◌}
use mathlib.Core.List.{List}
use Prim.Native.Nat.{ℕ, zero, suc, ◌+◌, ◌-◌, ◌*◌, ◌≤◌, ◌<◌}
use native.Mathlib.Nat.{mul-le-mul, mul_assoc, add-mul}
use native.Mathlib.Omega.{arith}
use lib.Arith.{digits_lt}
use lib.ListN.{get_or}
use Rattle.paper.specs.Words.{size, cell_at, sent_at, stopped_at, cell, sent, stopped}
use Rattle.paper.specs.Form.{wide, slot, two, coll}
use Rattle.paper.proofs.FormLaws.{wide-some}
use Rattle.words.specs.declared.Sizes.{Sizes}
use Rattle.words.specs.Words.{room_of, stopped_of}
use Rattle.words.specs.Facts.{Bounded, At}

-- a cell by its row
spread : (p T m k : ℕ) → p * (T * k) + m * k ≡ (p * T + m) * k
spread p T m k = sym (add-mul (p * T) m k ∙ ap (λ (x : ℕ). x + m * k) (mul_assoc p T k))

module _ (s : Sizes) (B : Bounded s) where
  wide-few : s.wide ≤ 2
  wide-few = rw B.wide (wide-some s.level).1

  row-few : s.row ≤ 8
  row-few = rw B.row (mul-le-mul {n₂ = 4} {m₂ = 2} B.types wide-few)

  pub rows_few : s.correct * s.row ≤ 512
  rows_few = mul-le-mul {n₂ = 64} {m₂ = 8} (omega (arith, B.boards)) row-few

  pub rows_are : s.correct * s.row ≡ s.correct * s.types * wide s.level
  rows_are = rw (B.row, B.wide) (sym (mul_assoc s.correct s.types (wide s.level)))

  module _ {p m : ℕ} (A : At s p m) where
    pub row-at-few : p * s.row ≤ 504
    row-at-few = mul-le-mul {n₂ = 63} {m₂ = 8} (omega (arith, A.board, B.boards)) row-few

    pub cell-few : m * s.wide ≤ 6
    cell-few = mul-le-mul {n₂ = 3} {m₂ = 2} (omega (arith, A.type, B.types)) wide-few

    pub cell_in_room : cell_at s.correct s.types (wide s.level) p m 0 + wide s.level < room_of s
    unfolding cell_at size
    cell_in_room =
        let k = wide s.level in
        omega (arith, digits_lt {q = p * s.types + m} {m = s.correct * s.types} {r = k - 1} {c = k} (digits_lt A.board A.type) (omega (arith, (wide-some s.level).0)), (wide-some s.level).0)

    -- `cell_at`, from what it has in hand
    pub cell-is : s.correct + p * s.row + m * s.wide ≡ cell_at s.correct s.types (wide s.level) p m 0
    unfolding cell_at
    cell-is = rw (B.row, B.wide) (omega (arith, spread p s.types m (wide s.level)))

    pub cell-inside : s.correct + p * s.row + m * s.wide + wide s.level < room_of s
    cell-inside = rw cell-is cell_in_room

-- the words of a cell stand one after the other
pub cell-next : (C T k p m e : ℕ) → cell_at C T k p m 0 + e ≡ cell_at C T k p m e
unfolding cell_at
cell-next C T k p m e = omega arith

-- the stopped boards stand after the sent words, and last
pub stopped-is : (s : Sizes) → sent_at s.correct s.types (wide s.level) s.types ≡ stopped_at s.correct s.types (wide s.level)
unfolding sent_at stopped_at
stopped-is s = refl

pub stopped-last : (s : Sizes) → stopped_at s.correct s.types (wide s.level) + 1 ≡ room_of s
unfolding stopped_at size
stopped-last s = refl

pub sent_in_room : (s : Sizes) (m : ℕ) → m < s.types → sent_at s.correct s.types (wide s.level) m < room_of s
unfolding sent_at size
sent_in_room s m h = omega arith

-- the words of a cell, and the sent words, lie before them
pub cell-before : (s : Sizes) (i j : ℕ) → i + wide s.level < room_of s → j < i + wide s.level → j < stopped_at s.correct s.types (wide s.level)
cell-before s i j h l = omega (arith, stopped-last s)

pub first-before : (s : Sizes) (i : ℕ) → i + wide s.level < room_of s → i < stopped_at s.correct s.types (wide s.level)
first-before s i h = cell-before s i i h (omega (arith, (wide-some s.level).0))

pub sent-before : (s : Sizes) {i : ℕ} (m : ℕ) → i ≡ sent_at s.correct s.types (wide s.level) m → m < s.types → i < stopped_at s.correct s.types (wide s.level)
unfolding sent_at stopped_at
sent-before s m e h = rw e (omega arith)

-- what a cell shows, from its first word and the word of source 1
pub coll-two : (k C f : ℕ) (g : ℕ → ℕ) → coll k C f (two (g 0) (g (slot k 1))) ≡ coll k C f g
unfolding coll slot
coll-two zero C f g = refl
coll-two (suc zero) C f g = refl
coll-two (suc (suc k)) C f g = refl

pub coll-words : (k C f T p m : ℕ) (w : List ℕ) {i j : ℕ} → i ≡ cell_at C T (wide k) p m 0 → j ≡ i + slot k 1
    → coll k C f (two (get_or w i 0) (get_or w j 0)) ≡ coll k C f (cell C T (wide k) w p m)
unfolding cell
coll-words k C f T p m w {i} {j} e h =
    let z : j ≡ cell_at C T (wide k) p m (slot k 1) = h ∙ ap (λ (x : ℕ). x + slot k 1) e ∙ cell-next C T (wide k) p m (slot k 1) in
    rw (e, z) (coll-two k C f (cell C T (wide k) w p m))

pub stopped_word : (s : Sizes) (w : List ℕ) {i : ℕ} → i ≡ stopped_at s.correct s.types (wide s.level) → get_or w i 0 ≡ stopped_of s w
unfolding stopped
stopped_word s w e = rw e

pub sent_word : (C T k m : ℕ) (w : List ℕ) {i : ℕ} → i ≡ sent_at C T k m → get_or w i 0 ≡ sent C T k w m
unfolding sent
sent_word C T k m w e = rw e
