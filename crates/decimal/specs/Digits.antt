-- Reading a number in plain decimal, digit by digit: no leading zero, and no digit with which it would pass the largest that may stand there (Q-1, Q-6).
use Rattle.std.specs.Prelude.{◌≡◌, Bool, not, ◌&&◌, List, [], ◌∷◌, ℕ, ◌+◌, ◌-◌, ◌*◌, ◌≤◌, eqb, leb, length, drop}
use Rattle.fault.specs.Bytes.{byte_at}
use Rattle.fault.specs.Tests.{◌below◌}
use Rattle.fault.specs.Fault.{◌if◌else◌}
use Rattle.decimal.specs.declared.Number as declared

unfoldable pub is_digit : ℕ → Bool
is_digit c = leb 48 c && leb c 57

-- the byte at i; past the end 256, which is no byte
unfoldable pub peeked : List ℕ → ℕ → ℕ
peeked t i = byte_at t i if i below length t else 256

-- the byte x goes on with a number of size v, to at most `most`; 0 goes on with none
unfoldable pub goes_on : ℕ → ℕ → ℕ → Bool
goes_on x v most = is_digit x && not (eqb v 0) && leb (v * 10 + (x - 48)) most

-- a number of size v before the bytes t, with each digit that goes on: its size, and what stands after it
pub record Number : Type 0 where
  pub size : ℕ
  pub after : List ℕ

unfoldable pub longest : ℕ → ℕ → List ℕ → Number
longest most v [] = record { size = v; after = [] }
longest most v (c ∷ t) = longest most (v * 10 + (c - 48)) t if goes_on c v most else record { size = v; after = c ∷ t }

-- n is the number of size v before byte i, and stands where it ends
pub record Ends (t : List ℕ) (i v most : ℕ) (n : declared.Number) : Type 0 where
  pub within : n.place ≤ length t
  pub onward : i ≤ n.place
  pub small : n.value ≤ 255
  pub whole : longest most v (drop i t) ≡ record { size = n.value; after = drop n.place t }
