-- The echo table, 51 bytes, and schedule W (outline, "The echo table and one bundle").
use Rattle.std.specs.Prelude.{List, [], ◌∷◌, ◌++◌, ℕ, set}

-- V0 (initial), V1 (initial), SE (sent), AC (sent, accepting)
abbrev states : List ℕ
states = 0x01 ∷ 0x00 ∷ 0x01 ∷ 0x00 ∷ 0x00 ∷ 0x01 ∷ 0x02 ∷ 0x01 ∷ []

abbrev rules : List ℕ
rules =
    0x00 ∷ 0x00 ∷ 0x00 ∷ 0x00 ∷ 0x00 ∷ 0x00 ∷ 0x02 ∷ 0x00 ∷ 0x01 ∷ 0x01 ∷ 0x00 ∷ 0x03 ∷ 0x01 ∷ 0xFF ∷ 0x00 ∷
    0x01 ∷ 0x02 ∷ 0x00 ∷ 0x00 ∷ 0x00 ∷ 0x02 ∷ 0x02 ∷ 0x00 ∷ 0x00 ∷ 0x00 ∷ 0x02 ∷ 0x03 ∷ 0x01 ∷ 0xFF ∷ 0x00 ∷
    0x03 ∷ 0x03 ∷ 0x00 ∷ 0x00 ∷ 0x00 ∷ []

abbrev trailer : List ℕ
trailer = 0x2B ∷ 0x00 ∷ 0x23 ∷ 0x00 ∷ 0x04 ∷ 0x07 ∷ 0x01 ∷ 0x03 ∷ []

abbrev pub echo : List ℕ
echo = states ++ (rules ++ trailer)

-- with x as the byte d of rule 1, which then asks for t + x echoes; the outline's is 1. Before it stand 8 bytes of states, 5 of rule 0, and from, to, a, b
abbrev pub asking : ℕ → List ℕ
asking x = set echo 17 x

-- W's starts and first two steps; then three receipts of board 2 by rules 3, 4, 5, from these sources; n, t, f, then the form
abbrev pub five_steps : ℕ → ℕ → ℕ → ℕ → List ℕ
five_steps a b c form =
    0x01 ∷ 0x01 ∷ 0x01 ∷
    0x00 ∷ 0x03 ∷ 0xFF ∷ 0xFF ∷
    0x01 ∷ 0x03 ∷ 0xFF ∷ 0xFF ∷
    0x02 ∷ 0x03 ∷ 0x00 ∷ a ∷
    0x02 ∷ 0x04 ∷ 0x00 ∷ b ∷
    0x02 ∷ 0x05 ∷ 0x00 ∷ c ∷
    0x14 ∷ 0x00 ∷ 0x17 ∷ 0x00 ∷ 0x04 ∷ 0x01 ∷ 0x01 ∷ form ∷ []

abbrev pub W : List ℕ
W = five_steps 0 3 1 0

-- W in counting form: correct, faulty, correct
abbrev pub WCounting : List ℕ
WCounting = five_steps 0 1 0 1

-- W in plain form (Q-4): source 0 is the only one
abbrev pub WPlain : List ℕ
WPlain = five_steps 0 0 0 2

-- three boards in V0, n = 4, t = f = 1, and one step: board 0 takes a rule on one echo, from this source of this form
abbrev pub one_echo : ℕ → ℕ → ℕ → List ℕ
one_echo rule form source = 0 ∷ 0 ∷ 0 ∷ 0 ∷ rule ∷ 0 ∷ source ∷ 4 ∷ 0 ∷ 7 ∷ 0 ∷ 4 ∷ 1 ∷ 1 ∷ form ∷ []
