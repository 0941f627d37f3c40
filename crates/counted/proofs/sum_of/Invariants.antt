-- What was added so far is the sum below i, whatever says what the calls answer; and it is small where they are.
use mathlib.Core.Path.{◌≡◌}
use Prim.Native.Nat.{ℕ, ◌*◌, ◌≤◌, ◌<◌}
use Rattle.receipts.specs.Receipts.{sum_below}
use Rattle.counted.proofs.sum_of.Given as goal

abbrev pub invariant-loop-i : goal.invariant-loop-i
invariant-loop-i g l = ((h : ℕ → ℕ) → ((i : ℕ) (x : ℕ) → i < l.n → goal.F-post g l.f i x → x ≡ h i) → l.sum ≡ sum_below l.i h)
    × ((most : ℕ) → ((i : ℕ) (x : ℕ) → i < l.n → goal.F-post g l.f i x → x ≤ most) → l.sum ≤ l.i * most)
