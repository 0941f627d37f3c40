-- Bytes put one after the other into lent memory, so far as they fit; and bytes that are given as a whole or not at all.
use Rattle.std.specs.Prelude.{ℕ, ◌+◌, ◌≤◌, ◌<◌, ◌≡◌, List, [], ◌∷◌, ◌++◌, length, set, drop}
use Rattle.fault.specs.Fault.{Verdict}
use Rattle.fault.specs.declared.Answer.{Answer}
use Rattle.fault.specs.Tests.{◌below◌, ◌differs◌}
use Rattle.fault.specs.Fault.{refused, nothing_done, ◌if◌else◌}

-- a place is below 2^64 - 1, so that the next one never wraps
abbrev pub places : ℕ
places = 18446744073709551615

-- out with w put at n
unfoldable pub stored : List ℕ → ℕ → List ℕ → List ℕ
stored out n [] = out
stored out n (b ∷ w) = stored (set out n b if n below length out else out) (n + 1) w

-- w was put at n: r is the place after it, and end is what out has become
pub record Put (out : List ℕ) (n : ℕ) (w : List ℕ) (r : ℕ) (end : List ℕ) : Type 0 where
  pub place : r ≡ n + length w
  pub bytes : end ≡ stored out n w

-- ---- bytes that are given where nothing is refused
-- the refusal; k: lent bytes fewer than the bytes needed; or how many were written
unfoldable pub given : ℕ → Verdict → List ℕ → ℕ → Answer
given k v w lent =
    nothing_done v if v.number differs 0 else
    nothing_done (refused k) if lent below length w else
    record { refusal = 0; place = 0; count = length w }

-- a refusal changes no byte; the bytes past those written stay
unfoldable pub left : Verdict → List ℕ → List ℕ → List ℕ
left v w out =
    out if v.number differs 0 else
    out if length out below length w else
    w ++ drop (length w) out

-- a call that answers and leaves lent bytes gives w: into any bytes that are enough, and those past it stay; into fewer nothing, with k
pub record Gives (k : ℕ) (answer : ℕ → Answer) (bytes : List ℕ → List ℕ) (w : List ℕ) : Type 0 where
  pub answered : (lent : ℕ) → length w ≤ lent → answer lent ≡ record { refusal = 0; place = 0; count = length w }
  pub written : (out : List ℕ) → length w ≤ length out → bytes out ≡ w ++ drop (length w) out
  pub short : (lent : ℕ) → lent < length w → answer lent ≡ nothing_done (refused k)
  pub kept : (out : List ℕ) → length out < length w → bytes out ≡ out
