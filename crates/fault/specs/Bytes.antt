-- Bytes and little-endian numbers of a part, and where its trailer stands (outline, "Bundle layout").
use Rattle.std.specs.Prelude.{ℕ, ◌+◌, ◌-◌, ◌*◌, ◌/◌, ◌%◌, List, ◌∷◌, length, get_or}

abbrev pub byte_at : List ℕ → ℕ → ℕ
byte_at s i = get_or s i 0

abbrev pub u16_at : List ℕ → ℕ → ℕ
u16_at s i = byte_at s i + 256 * byte_at s (i + 1)

-- a number of two bytes, the low one first, before w
abbrev pub two_bytes : ℕ → List ℕ → List ℕ
two_bytes x w = x % 256 ∷ x / 256 ∷ w

-- a trailer is the last bytes of its part
abbrev pub trailer_bytes : ℕ
trailer_bytes = 8

abbrev pub trailer_of : List ℕ → ℕ
trailer_of s = length s - trailer_bytes

-- a step record: board, rule, type, source, a byte each
abbrev pub step_bytes : ℕ
step_bytes = 4

-- the most steps that a schedule has, and their bytes
abbrev pub most_steps : ℕ
most_steps = 4096

abbrev pub most_step_bytes : ℕ
most_step_bytes = most_steps * step_bytes
