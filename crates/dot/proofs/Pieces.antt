-- Pieces and plans: the text of pieces fits a plan, and a text that fits is taken apart into pieces.
use Prim.Native.Nat.{ℕ, ◌<◌}
use mathlib.Core.Path.{◌≡◌, refl, sym, ap, subst}
use mathlib.Core.Bool.{Bool, true, false, cond}
use mathlib.Core.List.{List, [], ◌∷◌, ◌++◌}
use lib.Dec.{eqb}
use borrow.Author.Tests.{eqb-true}
use Rattle.decimal.specs.Numbers.{spelling}
use Rattle.dot.specs.Text.{is_blank, Piece, char, space, must, Spaced, over, letter, one_more, no_more, needed, chars, after}
use Rattle.dot.specs.Plan.{Slot, cell, cell_of, One, byte, blank as one-blank, Item, gap, num, one, bytes}
use Rattle.dot.specs.Reading.{Num, none, some, can_minus, byte_of, Gathered, put, Turn, halt, to, take1, turned}
use Rattle.dot.proofs.Fits.{spell, Fits, done, blank, no_blank_lem, number, single}
use Rattle.dot.proofs.NumberLaws.{byte_spelt, has-byte}
use Rattle.dot.proofs.Sound.{Then}
use Rattle.dot.proofs.Ends.{byte-taken, blank-taken}

-- ---- pieces that fit a plan
-- the pieces p, with whatever blanks, fit the plan k after r, and then q has been read
abbrev pub Goes : List Piece → List Item → Gathered → Gathered → Type 0
Goes p k r q = (t : List ℕ) → Spaced p t → Fits k r none t q

-- nothing fits the empty plan
pub over-goes : {r : Gathered} → Goes [] [] r r
over-goes t over = done

-- a byte that an item takes
pub one-goes : {c : ℕ} {p : List Piece} {o : One} {k k' : List Item} {r r' q : Gathered} → take1 o k r c ≡ to k' r' → Goes p k' r' q →
    Goes (char c ∷ p) (one o ∷ k) r q
one-goes h g t (letter {t = u} s) = single h (g u s)

-- a byte that must be
pub byte-goes : (c : ℕ) {p : List Piece} {k : List Item} {r q : Gathered} → Goes p k r q → Goes (char c ∷ p) (one (byte c) ∷ k) r q
byte-goes c {k} {r} g = one-goes (byte-taken c k r) g

-- bytes that must be
pub bytes_go : (w : List ℕ) {p : List Piece} {k : List Item} {r q : Gathered} → Goes p k r q → Goes (chars w p) (bytes w k) r q
bytes_go [] g = g
bytes_go (c ∷ w) g = byte-goes c (bytes_go w g)

-- any blanks
pub gap-goes : {d : List ℕ} {p : List Piece} {k : List Item} {r q : Gathered} → Goes p k r q → Goes (space d ∷ p) (gap ∷ k) r q
gap-goes g t (one_more {t = u} h s) = blank h (gap-goes g u s)
gap-goes g t (no_more s) = no_blank_lem (g t s)

-- the blank that must be
pub must-goes : {p : List Piece} {k : List Item} {r q : Gathered} → Goes p k r q → Goes (must ∷ p) (one one-blank ∷ k) r q
must-goes {k} {r} g t (needed {c = c} {t = u} h s) = single (blank-taken c k r h) (g u s)

-- a token after any blanks
pub after-goes : (w : List ℕ) {d : List ℕ} {p : List Piece} {k : List Item} {r q : Gathered} → Goes p k r q → Goes (after d w p) (gap ∷ bytes w k) r q
after-goes w g = gap-goes (bytes_go w g)

-- a token's bytes, and what follows
record TokenCut (w : List ℕ) (p : List Piece) (t : List ℕ) : Type 0 where
  rest : List ℕ
  whole : t ≡ w ++ rest
  spaced : Spaced p rest

-- the bytes of a token stand as they are
cut : (w : List ℕ) (p : List Piece) (t : List ℕ) → Spaced (chars w p) t → TokenCut w p t
cut [] p t s = record { rest = t; whole = refl; spaced = s }
cut (c ∷ w) p t (letter {t = u} s) =
    let h = cut w p u s in
    record { rest = h.rest; whole = ap (λ (l : List ℕ). c ∷ l) h.whole; spaced = h.spaced }

-- a number
pub num-goes : (s : Slot) (b : ℕ) {p : List Piece} {k : List Item} {r q : Gathered} → b < 256 → Goes p k (put s b r) q →
    Goes (chars (spelling (can_minus s) b) p) (num s ∷ k) r q
unfolding spell
num-goes s b {p} {k} {r} {q} l g t x =
    let e = byte_spelt (can_minus s) b l in
    let h = cut (spelling (can_minus s) b) p t x in
    let f : Goes p k (put s (byte_of e.below_0 e.size) r) q = rw e.the_byte g in
    rw h.whole (number e.below_0 e.size (spelling (can_minus s) b) e.in_range e.the_text (f h.rest h.spaced))

-- a number of a label, which may be below 0 or not
pub cell-goes : (n : Bool) (b : ℕ) {p : List Piece} {k : List Item} {r q : Gathered} → b < 256 → Goes p k (put cell b r) q →
    Goes (chars (spelling n b) p) (num (cell_of n) ∷ k) r q
unfolding can_minus put
cell-goes true b l g = num-goes (cell_of true) b l g
cell-goes false b l g = num-goes (cell_of false) b l g

-- ---- a text that fits, from its front
-- the pieces f have been read back, and the rest fits k
pub record RestFits (f : List Piece → List Piece) (k : List Item) (r q : Gathered) (t : List ℕ) : Type 0 where
  pub rest : List ℕ
  pub fits : Fits k r none rest q
  pub spaced : (p : List Piece) → Spaced p rest → Spaced (f p) t

-- one part after the other
infixr 40 ◌▸◌
pub ◌▸◌ : {f g : List Piece → List Piece} {k k' : List Item} {r r' q : Gathered} {t : List ℕ} →
    (e : RestFits f k r q t) → RestFits g k' r' q e.rest → RestFits (λ p. f (g p)) k' r' q t
◌▸◌ {g} e e' = record { rest = e'.rest; fits = e'.fits; spaced = λ p s. e.spaced (g p) (e'.spaced p s) }

-- the byte that an item takes, and what fits after it
pub record Taken (o : One) (k : List Item) (r q : Gathered) (t : List ℕ) : Type 0 where
  pub first : ℕ
  pub rest : List ℕ
  pub whole : t ≡ first ∷ rest
  pub then : Then (turned (take1 o k r first)) rest q

-- an item of one byte takes a byte
pub taken : {o : One} {k : List Item} {r q : Gathered} {x : Num} {t : List ℕ} → Fits (one o ∷ k) r x t q → Taken o k r q t
taken (single {r'' = q} {c = c} {t = u} h f) =
    record { first = c; rest = u; whole = refl; then = subst (λ (e : Turn). Then (turned e) u q) (sym h) f }

-- a test that lets the plan go on has passed
passed : (d : Bool) {k : List Item} {r q : Gathered} {u : List ℕ} → Then (turned (cond d (to k r) halt)) u q → (d ≡ true) × Fits k r none u q
passed true f = (refl, f)
passed false f = absurd f

-- a byte that must be
pub byte-rest : (b : ℕ) {k : List Item} {r q : Gathered} {t : List ℕ} → Fits (one (byte b) ∷ k) r none t q → RestFits (λ p. char b ∷ p) k r q t
unfolding take1
byte-rest b f =
    let e = taken f in
    let g = passed (eqb e.first b) e.then in
    record { rest = e.rest; fits = g.1; spaced = λ p s. rw (e.whole, eqb-true e.first b g.0) (letter s) }

-- bytes that must be
pub bytes_rest : (w : List ℕ) {k : List Item} {r q : Gathered} {t : List ℕ} → Fits (bytes w k) r none t q → RestFits (chars w) k r q t
bytes_rest [] {t} f = record { rest = t; fits = f; spaced = λ p s. s }
bytes_rest (b ∷ w) f = let e = byte-rest b f in e ▸ bytes_rest w e.fits

-- the blank that must be
pub must-rest : {k : List Item} {r q : Gathered} {t : List ℕ} → Fits (one one-blank ∷ k) r none t q → RestFits (λ p. must ∷ p) k r q t
unfolding take1
must-rest f =
    let e = taken f in
    let g = passed (is_blank e.first) e.then in
    record { rest = e.rest; fits = g.1; spaced = λ p s. rw e.whole (needed g.0 s) }

-- the blanks of a gap
pub gap-rest : (d : List ℕ) {k : List Item} {r q : Gathered} {x : Num} {t : List ℕ} → Fits (gap ∷ k) r x t q → RestFits (λ p. space d ∷ p) k r q t
gap-rest d (blank h f) =
    let e = gap-rest d f in
    record { rest = e.rest; fits = e.fits; spaced = λ p s. one_more h (e.spaced p s) }
gap-rest d (no_blank_lem {t = t} f) = record { rest = t; fits = f; spaced = λ p s. no_more s }

-- a token after its gap
pub after-rest : (d w : List ℕ) {k : List Item} {r q : Gathered} {t : List ℕ} → Fits (gap ∷ bytes w k) r none t q → RestFits (after d w) k r q t
after-rest d w f = let e = gap-rest d f in e ▸ bytes_rest w e.fits

-- a token in front
chars-spaced : (w : List ℕ) (p : List Piece) (t : List ℕ) → Spaced p t → Spaced (chars w p) (w ++ t)
chars-spaced [] p t s = s
chars-spaced (c ∷ w) p t s = letter (chars-spaced w p t s)

-- a number stands for some byte
pub record NumRest (s : Slot) (k : List Item) (r q : Gathered) (t : List ℕ) : Type 0 where
  pub value : ℕ
  pub rest : RestFits (chars (spelling (can_minus s) value)) k (put s value r) q t

-- whichever it is
pub num-rest : {s : Slot} {k : List Item} {r q : Gathered} {t : List ℕ} → Fits (num s ∷ k) r none t q → NumRest s k r q t
unfolding spell
num-rest (number {s = s} {t = t} n v d ok h f) =
    let e = has-byte (can_minus s) n v ok in
    record {
      value = byte_of n v;
      rest = record { rest = t; fits = f; spaced = λ p x. rw (h, e.its_text) (chars-spaced (spell (some n v)) p t x) };
    }

-- a number of a label
pub record CellRest (n : Bool) (k : List Item) (r q : Gathered) (t : List ℕ) : Type 0 where
  pub value : ℕ
  pub rest : RestFits (chars (spelling n value)) k (put cell value r) q t

-- is a byte more of the records, whether it may be below 0 or not
pub cell-rest : (n : Bool) {k : List Item} {r q : Gathered} {t : List ℕ} → Fits (num (cell_of n) ∷ k) r none t q → CellRest n k r q t
unfolding can_minus put
cell-rest true f = let e = num-rest f in record { value = e.value; rest = e.rest }
cell-rest false f = let e = num-rest f in record { value = e.value; rest = e.rest }

-- one byte further
pub on-byte : {f : List Piece → List Piece} {k k' : List Item} {r r' q : Gathered} {t : List ℕ} (g : RestFits f k r q t) (c b : ℕ) (u : List ℕ) →
    g.rest ≡ c ∷ u → eqb c b ≡ true → Fits k' r' none u q → RestFits (λ p. f (char b ∷ p)) k' r' q t
on-byte g c b u e h f = record { rest = u; fits = f; spaced = λ p s. g.spaced (char b ∷ p) (rw (e, eqb-true c b h) (letter s)) }
