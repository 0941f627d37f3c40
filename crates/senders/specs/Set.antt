-- A set of senders is a number: bit q is 1 where q is a member (outline, "Configuration words").
-- The correct senders are 0 .. c-1, the faulty ones c .. c+f-1 (outline, "What the bench does").
use Rattle.std.specs.Prelude.{Bool, not, ◌&&◌, ℕ, ◌+◌, ◌/◌, ◌%◌, ◌^◌, eqb}
use Rattle.std.specs.Int.Bits.{bit_or}
use Rattle.senders.specs.Tally.{count}

-- the most boards, since a set has a bit for each; and the most that may be faulty, which leaves one
abbrev pub most_boards : ℕ
most_boards = 64

abbrev pub most_tolerated : ℕ
most_tolerated = 63

-- q is in the set
unfoldable pub mem : ℕ → ℕ → Bool
mem set q = eqb (set / 2 ^ q % 2) 1

-- the set with q in it
unfoldable pub insert : ℕ → ℕ → ℕ
insert q set = bit_or set (2 ^ q)

-- q is in the set and missing from the other
abbrev pub missing : ℕ → ℕ → ℕ → Bool
missing set other q = mem set q && not (mem other q)

-- how many correct senders are in the set (paper, Definition 3.3, points 2 and 4)
abbrev pub correct_count : ℕ → ℕ → ℕ
correct_count c set = count c (mem set)

-- how many faulty senders are in the set (point 3)
abbrev pub faulty_count : ℕ → ℕ → ℕ → ℕ
faulty_count c f set = count f (λ i. mem set (c + i))
