-- What a step keeps: the number of words, and in the levels that count how large they get.
use mathlib.Core.Path.{◌≡◌, refl, ◌∙◌}
use mathlib.Core.List.{List, [], ◌∷◌}
use Prim.Native.Nat.{ℕ, zero, suc, ◌+◌, ◌-◌, ◌≤◌, ◌<◌}
use native.Mathlib.Omega.{arith}
use lib.ListN.{get_or, set, length-set}
use Rattle.paper.specs.Words.{stop}
use Rattle.paper.specs.Form.{wide, bump}
use Rattle.words.specs.declared.Sizes.{Sizes}
use Rattle.words.specs.Facts.{Holds}

-- no word before place n is over k
abbrev pub Under : ℕ → ℕ → List ℕ → Type 0
Under n k w = (i : ℕ) → i < n → get_or w i 0 ≤ k

pub under_more : (n j k : ℕ) (w : List ℕ) → j ≤ k → Under n j w → Under n k w
under_more n j k w l h i hi = omega (arith, h i hi)

-- a word that is put before it is not over k; one that is put after it does not matter
pub under_set : (n : ℕ) (w : List ℕ) (i v k : ℕ) → Under n k w → (i < n → v ≤ k) → Under n k (set w i v)
under_set n [] i v k h l j hj = h j hj
under_set n (x ∷ w) zero v k h l zero hj = l hj
under_set n (x ∷ w) zero v k h l (suc j) hj = h (suc j) hj
under_set n (x ∷ w) (suc i) v k h l zero hj = h zero hj
under_set n (x ∷ w) (suc i) v k h l (suc j) hj = under_set (n - 1) w i v k (λ a ha. h (suc a) (omega arith)) (λ z. l (omega arith)) j (omega arith)

bump_under : (f q v : ℕ) → (f ≡ 0 → ⊥) → bump f q v ≤ v + 1
unfolding bump
bump_under zero q v n = absurd (n refl)
bump_under (suc f) q v n = omega arith

-- a word that is bumped grows by one at the most
pub under_bump : (n f : ℕ) → (f ≡ 0 → ⊥) → (w : List ℕ) (i q k : ℕ) → Under n k w → Under n (k + 1) (set w i (bump f q (get_or w i 0)))
under_bump n f ne w i q k h = under_set n w i _ (k + 1) (under_more n k (k + 1) w (omega arith) h) (λ z. omega (arith, h i z, bump_under f q (get_or w i 0) ne))

-- ---- the same for configurations
pub holds_more : (s : Sizes) (j k : ℕ) (w : List ℕ) → j ≤ k → Holds s j w → Holds s k w
holds_more s j k w l h = record { fits = h.fits; small = λ n. under_more _ j k w l (h.small n) }

pub holds-put : (s : Sizes) (k : ℕ) (w : List ℕ) (i v : ℕ) → Holds s k w → v ≤ k → Holds s k (set w i v)
holds-put s k w i v H l = record { fits = length-set w i v ∙ H.fits; small = λ n. under_set _ w i v k (H.small n) (λ z. l) }

-- a stop changes the last word alone
pub holds-stop : (s : Sizes) (k : ℕ) (w : List ℕ) (p : ℕ) → Holds s k w → Holds s k (stop s.correct s.types (wide s.level) p w)
unfolding stop
holds-stop s k w p H = record { fits = length-set w _ _ ∙ H.fits; small = λ n. under_set _ w _ _ k (H.small n) (λ z. absurd (omega arith)) }
