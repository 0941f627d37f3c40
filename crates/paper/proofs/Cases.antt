-- What holds in both of two cases holds: of a test, and of a number that is p or another; by looking.
use mathlib.Core.Path.{◌≡◌, refl, subst⁻¹}
use mathlib.Core.Logic.{◌≢◌}
use mathlib.Core.Bool.{Bool, true, false}
use Prim.Native.Nat.{ℕ}
use native.Mathlib.Decide.{ℕ_discrete}

pub yes_no : {P : Type 0} (b : Bool) → (b ≡ true → P) → (b ≡ false → P) → P
yes_no true f g = f refl
yes_no false f g = g refl

pub same_or : (P : ℕ → Type 0) (p q : ℕ) → P p → (q ≢ p → P q) → P q
same_or P p q h o = go (ℕ_discrete q p)
  where
    go : Dec (q ≡ p) → P q
    go (yes e) = subst⁻¹ P e h
    go (no e) = o e
