-- Tests over the numbers below k: how many pass, whether one or all do, and the first that does.
use Rattle.std.specs.Prelude.{◌≡◌, Bool, true, false, ◌&&◌, ◌||◌, ℕ, zero, suc, ◌+◌, ◌<◌}

abbrev pub digit : Bool → ℕ
digit true = 1
digit false = 0

-- how many numbers below k pass
unfoldable pub count : ℕ → (ℕ → Bool) → ℕ
count zero P = 0
count (suc k) P = count k P + digit (P k)

-- one of them passes
unfoldable pub some : ℕ → (ℕ → Bool) → Bool
some zero P = false
some (suc k) P = some k P || P k

-- all of them pass
unfoldable pub every : ℕ → (ℕ → Bool) → Bool
every zero P = true
every (suc k) P = every k P && P k

abbrev pub least_if : Bool → ℕ → ℕ
least_if true r = 0
least_if false r = suc r

-- the least number below k that passes; k where none does
unfoldable pub least : ℕ → (ℕ → Bool) → ℕ
least zero P = 0
least (suc k) P = least_if (P 0) (least k (λ i. P (suc i)))

-- q is the least number below k that passes
pub record Least (k : ℕ) (P : ℕ → Bool) (q : ℕ) : Type 0 where
  pub below : q < k
  pub passes : P q ≡ true
  pub first : (i : ℕ) → i < q → P i ≡ false
