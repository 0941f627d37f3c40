-- Figures of the second edition (Q-7).
use Rattle.std.specs.Prelude.{List, [], ◌∷◌, ◌++◌, ℕ, ◌+◌, length, replicate, pos, negsuc}
use Rattle.threshold.specs.declared.Weights.{Weights}
use Rattle.decimal.specs.Numbers.{text}
use Rattle.first_step.specs.declared.First.{First}
use Rattle.figures.specs.Case.{Case, comes_to, asks, reads, runs, translates_to, first_of, draws, undraws, schedule_in}

abbrev weighs : ℕ → ℕ → ℕ → ℕ → Weights
weighs a b d e = record { a = a; b = b; d = d; e = e }

-- the echo table in the second edition, but that rules 2 and 5 ask for more than (n + t)/2 echoes: examples/majority.table
abbrev pub majority : List ℕ
majority =
    0x01 ∷ 0x00 ∷ 0x01 ∷ 0x00 ∷ 0x00 ∷ 0x01 ∷ 0x02 ∷ 0x01 ∷
    0x00 ∷ 0x00 ∷ 0x00 ∷ 0x00 ∷ 0x00 ∷ 0x01 ∷ 0x00 ∷ 0x02 ∷ 0x00 ∷ 0x01 ∷ 0x01 ∷ 0x01 ∷ 0x00 ∷ 0x03 ∷ 0x01 ∷ 0x01 ∷ 0x01 ∷ 0x02 ∷
    0x01 ∷ 0x02 ∷ 0x00 ∷ 0x00 ∷ 0x00 ∷ 0x01 ∷ 0x02 ∷ 0x02 ∷ 0x00 ∷ 0x00 ∷ 0x00 ∷ 0x01 ∷ 0x02 ∷ 0x03 ∷ 0x01 ∷ 0x01 ∷ 0x01 ∷ 0x02 ∷
    0x03 ∷ 0x03 ∷ 0x00 ∷ 0x00 ∷ 0x00 ∷ 0x01 ∷
    0x32 ∷ 0x00 ∷ 0x2A ∷ 0x00 ∷ 0x04 ∷ 0x07 ∷ 0x11 ∷ 0x03 ∷ []

-- n = 5, t = f = 1, all boards in V1: three send, and board 2 hears boards 0 and 1, and then these messages
abbrev heard : ℕ → List ℕ → List ℕ
heard form more =
    schedule_in form (1 ∷ 1 ∷ 1 ∷ 1 ∷ [])
    (0 ∷ 3 ∷ 255 ∷ 255 ∷ 1 ∷ 3 ∷ 255 ∷ 255 ∷ 2 ∷ 3 ∷ 255 ∷ 255 ∷ 2 ∷ 4 ∷ 0 ∷ 0 ∷ more)
    5 1 1

-- one state, one rule from it to itself with these bytes, and this types byte
abbrev ruled : ℕ → List ℕ → List ℕ
ruled byte w = 1 ∷ 0 ∷ 0 ∷ 0 ∷ (w ++ ((4 + length w) ∷ 0 ∷ (2 + length w) ∷ 0 ∷ 1 ∷ 1 ∷ byte ∷ 1 ∷ []))

-- a table of two types with a divisor each, and its drawing
abbrev halves : List ℕ
halves = ruled 18 (0x01 ∷ 0x00 ∷ 0xFF ∷ 0x02 ∷ 0x01 ∷ 0x00 ∷ 0x00 ∷ 0x03 ∷ [])

abbrev halves_text : List ℕ
halves_text = text "digraph t {\nT=18; k=1;\ns0 [label=\"1 0\"];\ns0 -> s0 [label=\"1 0 -1 2, 1 0 0 3\"];\n}\n"

-- one board, beside a table, is read with this refusal and place
abbrev refuses : List ℕ → ℕ → ℕ → Case
refuses table k p = reads (schedule_in 0 (0 ∷ []) [] 1 0 0) table k p

-- three states, of which the last two have sent one type and two, and two rules of two types: ends and divisor of both types for each
abbrev twice : ℕ → ℕ → ℕ → ℕ → ℕ → ℕ → List ℕ
twice p q x p' q' x' =
    1 ∷ 0 ∷ 0 ∷ 1 ∷ 0 ∷ 3 ∷ p ∷ q ∷ 0 ∷ 0 ∷ 0 ∷ 1 ∷ 0 ∷ 0 ∷ 0 ∷ x ∷ p' ∷ q' ∷ 0 ∷ 0 ∷ 0 ∷ 1 ∷ 0 ∷ 0 ∷ 0 ∷ x' ∷
    26 ∷ 0 ∷ 20 ∷ 0 ∷ 3 ∷ 2 ∷ 18 ∷ 1 ∷ []

-- a rule's label in a drawing of one state, with this in front of it
abbrev labelled : List ℕ → List ℕ → List ℕ
labelled T w = text "digraph t{T=" ++ (T ++ (text ";k=1;s0[label=\"1 0\"];s0->s0[label=\"" ++ (w ++ text "\"];}")))

-- a drawing that is refused, and one byte lent that stays
abbrev undrawn : List ℕ → ℕ → ℕ → Case
undrawn t k p = undraws t k p 0 (9 ∷ [])

abbrev pub divisors : List Case
divisors =
    -- halves and wholes on both sides of 0: always up, so −1/2 is 0 and −3/2 is −1
    comes_to (weighs 0 0 0xFF 2) 1 0 (pos 0) ∷
    comes_to (weighs 0 0 0xFE 2) 1 0 (negsuc 0) ∷
    comes_to (weighs 0 0 0xFD 2) 1 0 (negsuc 0) ∷
    comes_to (weighs 0 0 0 2) 1 0 (pos 0) ∷
    comes_to (weighs 0 0 1 2) 1 0 (pos 1) ∷
    comes_to (weighs 0 0 2 2) 1 0 (pos 1) ∷
    comes_to (weighs 0 0 3 2) 1 0 (pos 2) ∷
    -- the ends, −16,384 and 16,256, by 8 and by 7
    comes_to (weighs 0x80 0x80 0x80 8) 64 63 (negsuc 2047) ∷
    comes_to (weighs 0x7F 0x7F 0x7F 8) 64 63 (pos 2032) ∷
    comes_to (weighs 0x80 0x80 0x80 7) 64 63 (negsuc 2339) ∷
    comes_to (weighs 0x7F 0x7F 0x7F 7) 64 63 (pos 2323) ∷
    -- more than (n + t)/2: n + t odd, and even
    asks majority 2 0 4 1 (pos 3) ∷
    asks majority 2 0 5 1 (pos 4) ∷
    asks majority 5 0 1 0 (pos 1) ∷
    asks majority 5 0 64 21 (pos 43) ∷
    -- each type has a divisor of its own
    asks halves 0 0 6 0 (pos 3) ∷
    asks halves 0 1 6 0 (pos 2) ∷
    -- with four echoes of five boards board 2 accepts, in each form; with three it does not
    runs (majority ++ heard 0 (2 ∷ 4 ∷ 0 ∷ 1 ∷ 2 ∷ 4 ∷ 0 ∷ 4 ∷ 2 ∷ 5 ∷ 0 ∷ 2 ∷ [])) [] 0 0 7 (2 ∷ 2 ∷ 3 ∷ 1 ∷ 0 ∷ 0 ∷ 23 ∷ 0 ∷ 7 ∷ 0 ∷ []) ∷
    runs (heard 1 (2 ∷ 4 ∷ 0 ∷ 0 ∷ 2 ∷ 4 ∷ 0 ∷ 1 ∷ 2 ∷ 5 ∷ 0 ∷ 0 ∷ [])) majority 0 0 7 (2 ∷ 2 ∷ 3 ∷ 1 ∷ 0 ∷ 0 ∷ 0 ∷ 0 ∷ 3 ∷ 1 ∷ 0 ∷ 0 ∷ 3 ∷ 0 ∷ []) ∷
    runs (heard 2 (2 ∷ 4 ∷ 0 ∷ 0 ∷ 2 ∷ 4 ∷ 0 ∷ 0 ∷ 2 ∷ 5 ∷ 0 ∷ 0 ∷ [])) majority 0 0 7 (2 ∷ 2 ∷ 3 ∷ 1 ∷ 0 ∷ 0 ∷ 4 ∷ 0 ∷ 3 ∷ 0 ∷ []) ∷
    runs (majority ++ heard 0 (2 ∷ 4 ∷ 0 ∷ 1 ∷ 2 ∷ 5 ∷ 0 ∷ 2 ∷ [])) [] 25 5 5 (2 ∷ 2 ∷ 2 ∷ 1 ∷ 0 ∷ 0 ∷ 3 ∷ 0 ∷ 7 ∷ 0 ∷ []) ∷
    translates_to (heard 0 (2 ∷ 4 ∷ 0 ∷ 1 ∷ 2 ∷ 4 ∷ 0 ∷ 4 ∷ 2 ∷ 5 ∷ 0 ∷ 2 ∷ [])) majority 1 0 0 40 (heard 1 (2 ∷ 4 ∷ 0 ∷ 0 ∷ 2 ∷ 4 ∷ 0 ∷ 1 ∷ 2 ∷ 5 ∷ 0 ∷ 0 ∷ [])) ∷
    first_of (heard 0 (2 ∷ 4 ∷ 0 ∷ 1 ∷ 2 ∷ 4 ∷ 0 ∷ 4 ∷ [])) majority (First.Step 0 4 0 0) ∷
    -- 9 on each side
    refuses (ruled 17 (0 ∷ 0 ∷ 0 ∷ 0 ∷ [])) 9 0 ∷
    refuses (ruled 17 (0 ∷ 0 ∷ 0 ∷ 1 ∷ [])) 0 0 ∷
    refuses (ruled 17 (0 ∷ 0 ∷ 0 ∷ 8 ∷ [])) 0 0 ∷
    refuses (ruled 17 (0 ∷ 0 ∷ 0 ∷ 9 ∷ [])) 9 0 ∷
    refuses (ruled 17 (0 ∷ 0 ∷ 0 ∷ 255 ∷ [])) 9 0 ∷
    -- of any type; and the lowest rule: on one rule 6, 9, 7, 8, before the next
    refuses (twice 0 0 1 0 1 9) 9 1 ∷
    refuses (twice 0 3 9 0 0 1) 6 0 ∷
    refuses (twice 1 0 9 0 0 1) 9 0 ∷
    refuses (twice 0 2 9 0 0 1) 9 0 ∷
    refuses (twice 1 0 1 0 3 9) 7 0 ∷
    refuses (twice 0 2 1 0 0 9) 8 0 ∷
    -- the types byte, with as many bytes as its edition has
    refuses (ruled 0 []) 2 0 ∷
    refuses (ruled 4 (replicate 12 1)) 0 0 ∷
    refuses (ruled 5 (replicate 15 1)) 2 0 ∷
    refuses (ruled 16 []) 2 0 ∷
    refuses (ruled 20 (replicate 16 1)) 0 0 ∷
    refuses (ruled 21 (replicate 20 1)) 2 0 ∷
    -- and with as many as the other has
    refuses (ruled 17 (replicate 3 1)) 3 0 ∷
    refuses (ruled 1 (replicate 4 1)) 3 0 ∷
    -- drawings, both ways, to the byte
    draws halves 0 0 81 (halves_text ++ (9 ∷ [])) ∷
    undraws halves_text 0 0 20 (halves ++ (9 ∷ [])) ∷
    -- three numbers where four must be, and four where three; a sign, and 256, as a divisor
    undrawn (labelled (text "17") (text "0 0 0")) 60 54 ∷
    undrawn (labelled (text "1") (text "0 0 0 1")) 60 53 ∷
    undrawn (labelled (text "17") (text "0 0 0 -1")) 60 55 ∷
    undrawn (labelled (text "17") (text "0 0 0 256")) 60 57 ∷
    -- as form a divisor may be 0 to 255; then it is 9, and the types byte is 2
    undrawn (labelled (text "17") (text "0 0 0 0")) 9 0 ∷
    undrawn (labelled (text "17") (text "0 0 0 255")) 9 0 ∷
    undrawn (labelled (text "16") []) 2 0 ∷
    undrawn (labelled (text "21") (text "0 0 0 1, 0 0 0 1, 0 0 0 1, 0 0 0 1, 0 0 0 1")) 2 0 ∷
    draws (ruled 17 (0 ∷ 0 ∷ 0 ∷ 9 ∷ [])) 9 0 0 (9 ∷ []) ∷ []
