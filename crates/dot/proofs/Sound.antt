-- What the reading takes fits the plan: a step read backwards, then a whole run.
use Prim.Native.Nat.{ℕ}
use mathlib.Core.Path.{◌≡◌, refl, sym, ap, ◌∙◌}
use mathlib.Core.Bool.{Bool, true, false, cond, false≢true}
use mathlib.Core.List.{List, [], ◌∷◌, ◌++◌, append_assoc, append-nil}
use Rattle.dot.specs.Text.{is_blank}
use Rattle.dot.specs.Plan.{Slot, One, Item, gap, num, one}
use Rattle.dot.specs.Reading.{Num, none, minus, some, can_minus, Grown, grown, no_more, grow, byte_of, Gathered, put, Turn, halt, to, take1, ByteStep, stuck, at, turned, growing, whole, next, ended, Outcome, drawn, fault, later, onward, run}
use Rattle.dot.proofs.Fits.{spell, Fits, done, blank, no_blank_lem, number, single}
use Rattle.dot.proofs.NumberLaws.{in_range, GrewTo, grew}

-- what fits after a step
abbrev pub Then : ByteStep → List ℕ → Gathered → Type 0
Then stuck t r = ⊥
Then (at k r x) t r' = Fits k r x t r'

-- a number in range, where a number stands
abbrev pub Sane : List Item → Num → Type 0
Sane [] x = Unit {0}
Sane (gap ∷ k) x = Unit {0}
Sane (num s ∷ k) x = in_range (can_minus s) x ≡ true
Sane (one o ∷ k) x = Unit {0}

-- the same after a step
abbrev pub SaneStep : ByteStep → Type 0
SaneStep stuck = Unit {0}
SaneStep (at k r x) = Sane k x

-- no number is begun
pub sane_none : (k : List Item) → Sane k none
sane_none [] = tt
sane_none (gap ∷ k) = tt
sane_none (num s ∷ k) = refl
sane_none (one o ∷ k) = tt

-- ---- a step read backwards
-- a byte more in front of a number that is begun
longer : {s : Slot} {k : List Item} {r r' : Gathered} {x y : Num} {c : ℕ} {t : List ℕ} →
    spell y ≡ spell x ++ (c ∷ []) → Fits (num s ∷ k) r y t r' → Fits (num s ∷ k) r x (c ∷ t) r'
longer {x} {c} e (number n v d ok h f) =
    number n v (c ∷ d) ok (sym (append_assoc (spell x) (c ∷ []) d) ∙ ap (λ (l : List ℕ). l ++ d) (sym e) ∙ h) f

-- at an item of one byte
after_one : (o : One) (k : List Item) (r : Gathered) (x : Num) (c : ℕ) {t : List ℕ} {r'' : Gathered} (e : Turn) →
    take1 o k r c ≡ e → Then (turned e) t r'' → Fits (one o ∷ k) r x (c ∷ t) r''
after_one o k r x c halt h f = absurd f
after_one o k r x c (to k' r') h f = single h f

-- at a gap the byte is a blank or the next item's
after-gap : (k : List Item) (r : Gathered) (x : Num) (c : ℕ) {t : List ℕ} {r'' : Gathered} (b : Bool) → is_blank c ≡ b →
    (Then (next k r none c) t r'' → Fits k r none (c ∷ t) r'') →
    Then (cond b (at (gap ∷ k) r none) (next k r none c)) t r'' → Fits (gap ∷ k) r x (c ∷ t) r''
after-gap k r x c true e ih f = blank e f
after-gap k r x c false e ih f = no_blank_lem (ih f)

-- a whole number ends before the byte
after-whole : (s : Slot) (k : List Item) (r : Gathered) (x : Num) (c : ℕ) {t : List ℕ} {r'' : Gathered} → in_range (can_minus s) x ≡ true →
    ((v : ℕ) → Then (next k (put s v r) none c) t r'' → Fits k (put s v r) none (c ∷ t) r'') →
    Then (whole x (λ v. next k (put s v r) none c)) t r'' → Fits (num s ∷ k) r x (c ∷ t) r''
unfolding whole
after-whole s k r none c ok ih f = absurd f
after-whole s k r minus c ok ih f = absurd f
after-whole s k r (some n v) c ok ih f = number n v [] ok (append-nil (spell (some n v))) (ih (byte_of n v) f)

-- at a number the byte is its next or comes after it
after-num : (s : Slot) (k : List Item) (r : Gathered) (x : Num) (c : ℕ) {t : List ℕ} {r'' : Gathered} (g : Grown) →
    GrewTo (can_minus s) x c g → in_range (can_minus s) x ≡ true →
    ((v : ℕ) → Then (next k (put s v r) none c) t r'' → Fits k (put s v r) none (c ∷ t) r'') →
    Then (growing g s k r (whole x (λ v. next k (put s v r) none c))) t r'' → Fits (num s ∷ k) r x (c ∷ t) r''
unfolding growing
after-num s k r x c no_more g ok ih f = after-whole s k r x c ok ih f
after-num s k r x c (grown y) g ok ih f = longer g.spelt f

-- what fits after a step by c fits before it with c in front
pub back : (k : List Item) (r : Gathered) (x : Num) (c : ℕ) {t : List ℕ} {r'' : Gathered} →
    Sane k x → Then (next k r x c) t r'' → Fits k r x (c ∷ t) r''
unfolding next
back [] r x c s f = absurd f
back (gap ∷ k) r x c s f = after-gap k r x c (is_blank c) refl (back k r none c (sane_none k)) f
back (num s ∷ k) r x c ok f =
    after-num s k r x c (grow (can_minus s) x c) (grew (can_minus s) x c) ok (λ v. back k (put s v r) none c (sane_none k)) f
back (one o ∷ k) r x c s f = after_one o k r x c (take1 o k r c) refl f

-- ---- a step leaves a number in range
-- by either branch of a test
sane_either : (b : Bool) (p q : ByteStep) → SaneStep p → SaneStep q → SaneStep (cond b p q)
sane_either true p q h g = h
sane_either false p q h g = g

-- after one byte no number is begun
sane_one : (e : Turn) → SaneStep (turned e)
sane_one halt = tt
sane_one (to k r) = sane_none k

-- a number that grows stays in range
sane_num : (s : Slot) (k : List Item) (r : Gathered) (x : Num) (c : ℕ) (g : Grown) →
    GrewTo (can_minus s) x c g → in_range (can_minus s) x ≡ true → ((v : ℕ) → SaneStep (next k (put s v r) none c)) →
    SaneStep (growing g s k r (whole x (λ v. next k (put s v r) none c)))
unfolding growing whole
sane_num s k r x c (grown y) g ok ih = g.range_after ok
sane_num s k r none c no_more g ok ih = tt
sane_num s k r minus c no_more g ok ih = tt
sane_num s k r (some n v) c no_more g ok ih = ih (byte_of n v)

-- every step
pub sane_next : (k : List Item) (r : Gathered) (x : Num) (c : ℕ) → Sane k x → SaneStep (next k r x c)
unfolding next
sane_next [] r x c s = tt
sane_next (gap ∷ k) r x c s =
    sane_either (is_blank c) (at (gap ∷ k) r none) (next k r none c) tt (sane_next k r none c (sane_none k))
sane_next (num s ∷ k) r x c ok =
    sane_num s k r x c (grow (can_minus s) x c) (grew (can_minus s) x c) ok (λ v. sane_next k (put s v r) none c (sane_none k))
sane_next (one o ∷ k) r x c s = sane_one (take1 o k r c)

-- ---- a whole run
-- a text may end where only gaps are left
fits-ended : (k : List Item) (r : Gathered) (x : Num) → ended k ≡ true → Fits k r x [] r
unfolding ended
fits-ended [] r x e = done
fits-ended (gap ∷ k) r x e = no_blank_lem (fits-ended k r none e)
fits-ended (num s ∷ k) r x e = absurd (false≢true e)
fits-ended (one o ∷ k) r x e = absurd (false≢true e)

-- what a run tells of its text
abbrev pub FitsIfDrawn : Outcome → List Item → Gathered → Num → List ℕ → Type 0
FitsIfDrawn (drawn r') k r x t = Fits k r x t r'
FitsIfDrawn (fault p) k r x t = Unit {0}

-- where the text ends
sound-end : (k : List Item) (r : Gathered) (x : Num) (b : Bool) → ended k ≡ b → FitsIfDrawn (cond b (drawn r) (fault 0)) k r x []
sound-end k r x true e = fits-ended k r x e
sound-end k r x false e = tt

-- one byte in front
sound-later : (o : Outcome) (k k' : List Item) (r r' : Gathered) (x x' : Num) (c : ℕ) (t : List ℕ) →
    ((r'' : Gathered) → Fits k' r' x' t r'' → Fits k r x (c ∷ t) r'') → FitsIfDrawn o k' r' x' t → FitsIfDrawn (later o) k r x (c ∷ t)
sound-later (drawn r'') k k' r r' x x' c t b f = b r'' f
sound-later (fault p) k k' r r' x x' c t b f = tt

-- a byte that is taken or not
sound-step : (k : List Item) (r : Gathered) (x : Num) (c : ℕ) (t : List ℕ) (e : ByteStep) → SaneStep e →
    ((r'' : Gathered) → Then e t r'' → Fits k r x (c ∷ t) r'') →
    ((k : List Item) (r : Gathered) (x : Num) → Sane k x → FitsIfDrawn (run t k r x) k r x t) →
    FitsIfDrawn (onward e (run t)) k r x (c ∷ t)
unfolding onward
sound-step k r x c t stuck s b ih = tt
sound-step k r x c t (at k' r' x') s b ih = sound-later (run t k' r' x') k k' r r' x x' c t b (ih k' r' x' s)

-- a text that is taken fits
pub sound : (t : List ℕ) (k : List Item) (r : Gathered) (x : Num) → Sane k x → FitsIfDrawn (run t k r x) k r x t
unfolding run
sound [] k r x s = sound-end k r x (ended k) refl
sound (c ∷ t) k r x s = sound-step k r x c t (next k r x c) (sane_next k r x c s) (λ r''. back k r x c s) (sound t)
