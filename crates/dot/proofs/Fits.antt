-- The texts that fit a plan: what reading accepts, as a relation. That they are the drawings is shown in Tokens.antt.
use Prim.Native.Nat.{ℕ, suc, ◌≤◌, ◌<◌}
use mathlib.Core.Path.{◌≡◌}
use mathlib.Core.Bool.{Bool, true, false, ◌&&◌}
use mathlib.Core.List.{List, [], ◌∷◌, ◌++◌}
use lib.Dec.{leb}
use lib.ListN.{length, take}
use Rattle.decimal.specs.Numbers.{decimal}
use Rattle.dot.specs.Text.{is_blank}
use Rattle.dot.specs.Plan.{Slot, One, Item, gap, num, one, header}
use Rattle.dot.specs.Reading.{Num, none, minus, some, Gathered, nothing_read, put, take1, to, can_minus, limit, byte_of}

-- as much of a number as is read
unfoldable pub spell : Num → List ℕ
spell none = []
spell minus = 45 ∷ []
spell (some false v) = decimal v
spell (some true v) = 45 ∷ decimal v

-- a whole number in its range
unfoldable pub allowed : Bool → Bool → ℕ → Bool
allowed g false v = leb v (limit g false)
allowed g true v = g && leb 1 v && leb v (limit g true)

-- the text t fits the plan k after r has been read, and r' has then been read; x is the part of a number that came before t
pub data Fits : List Item → Gathered → Num → List ℕ → Gathered → Type 0 where
  done : {r : Gathered} {x : Num} → Fits [] r x [] r
  blank : {k : List Item} {r r' : Gathered} {x : Num} {c : ℕ} {t : List ℕ} →
      is_blank c ≡ true → Fits (gap ∷ k) r none t r' → Fits (gap ∷ k) r x (c ∷ t) r'
  no_blank_lem : {k : List Item} {r r' : Gathered} {x : Num} {t : List ℕ} → Fits k r none t r' → Fits (gap ∷ k) r x t r'
  number : {s : Slot} {k : List Item} {r r' : Gathered} {x : Num} {t : List ℕ} (n : Bool) (v : ℕ) (d : List ℕ) →
      allowed (can_minus s) n v ≡ true → spell x ++ d ≡ spell (some n v) → Fits k (put s (byte_of n v) r) none t r' →
      Fits (num s ∷ k) r x (d ++ t) r'
  single : {o : One} {k k' : List Item} {r r' r'' : Gathered} {x : Num} {c : ℕ} {t : List ℕ} →
      take1 o k r c ≡ to k' r' → Fits k' r' none t r'' → Fits (one o ∷ k) r x (c ∷ t) r''

-- the text draws r
abbrev pub Draws : List ℕ → Gathered → Type 0
Draws t r = Fits header nothing_read none t r

-- some drawing begins with p
abbrev pub BeginsFit : List ℕ → Type 0
BeginsFit p = (q : List ℕ) × (r : Gathered) × Draws (p ++ q) r

-- where a text leaves all that fit
pub record ExactFit (t : List ℕ) (p : ℕ) : Type 0 where
  pub within : p ≤ length t
  pub goes_on : BeginsFit (take p t)
  pub no_further : p < length t → BeginsFit (take (suc p) t) → ⊥
  pub no_drawing : (r : Gathered) → Draws t r → ⊥
