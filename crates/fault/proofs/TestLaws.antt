-- What a test's answer tells.
use mathlib.Core.Path.{◌≡◌, refl}
use mathlib.Core.Bool.{Bool, true, false, ◌||◌, true≢false}
use Prim.Native.Nat.{ℕ, ◌≤◌}
use borrow.Author.Tests.{ltb-false, eqb-true, eqb-false, not-true, not-false}
use Rattle.fault.specs.Tests.{◌differs◌, outside, ◌below◌, ◌over◌}

pub or-none : (a b : Bool) → (a || b) ≡ false → (a ≡ false) × (b ≡ false)
or-none true b h = absurd (true≢false h)
or-none false b h = (refl, h)

pub inside : (lo hi x : ℕ) → outside lo hi x ≡ false → (lo ≤ x) × (x ≤ hi)
inside lo hi x h = let p = or-none (x below lo) (x over hi) h in (ltb-false x lo p.0, ltb-false hi x p.1)

pub same : (a b : ℕ) → (a differs b) ≡ false → a ≡ b
same a b h = eqb-true a b (not-false _ h)

pub other : (a b : ℕ) → (a differs b) ≡ true → a ≡ b → ⊥
other a b h = eqb-false a b (not-true _ h)
