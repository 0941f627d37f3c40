-- Figures of drawings (Q-1).
use Rattle.std.specs.Prelude.{List, [], ◌∷◌, ◌++◌, ℕ, replicate}
use Rattle.decimal.specs.Numbers.{text}
use Rattle.echo.specs.Echo.{echo}
use Rattle.figures.specs.Case.{Case, draws, undraws}

-- the echo table's drawing: the lines of Q-1, as crates/capi/macaroosh.h sets them
abbrev echo_text : List ℕ
echo_text =
    text "digraph t {\nT=1; k=3;\n" ++
    text "s0 [label=\"1 0\"];\ns1 [label=\"1 0\"];\ns2 [label=\"0 1\"];\ns3 [label=\"2 1\"];\n" ++
    text "s0 -> s0 [label=\"0 0 0\"];\ns0 -> s2 [label=\"0 1 1\"];\ns0 -> s3 [label=\"1 -1 0\"];\n" ++
    text "s1 -> s2 [label=\"0 0 0\"];\ns2 -> s2 [label=\"0 0 0\"];\ns2 -> s3 [label=\"1 -1 0\"];\n" ++
    text "s3 -> s3 [label=\"0 0 0\"];\n}\n"

-- the same tokens with no blank that can be left out
abbrev echo_tight : List ℕ
echo_tight =
    text "digraph t{T=1;k=3;s0[label=\"1 0\"];s1[label=\"1 0\"];s2[label=\"0 1\"];s3[label=\"2 1\"];" ++
    text "s0->s0[label=\"0 0 0\"];s0->s2[label=\"0 1 1\"];s0->s3[label=\"1 -1 0\"];" ++
    text "s1->s2[label=\"0 0 0\"];s2->s2[label=\"0 0 0\"];s2->s3[label=\"1 -1 0\"];s3->s3[label=\"0 0 0\"];}"

-- a table of two types, with six different coefficients, and its drawing
abbrev two_types : List ℕ
two_types = 0x01 ∷ 0x00 ∷ 0x00 ∷ 0x00 ∷ 0xFF ∷ 0x02 ∷ 0x03 ∷ 0x04 ∷ 0x05 ∷ 0xFA ∷ 0x0A ∷ 0x00 ∷ 0x08 ∷ 0x00 ∷ 0x01 ∷ 0x01 ∷ 0x02 ∷ 0x01 ∷ []

abbrev two_types_text : List ℕ
two_types_text = text "digraph t {\nT=2; k=1;\ns0 [label=\"1 0\"];\ns0 -> s0 [label=\"-1 2 3, 4 5 -6\"];\n}\n"

-- a text that leaves all drawings at p; a drawing that is refused with k at place p; and one byte lent that stays
abbrev leaves : List ℕ → ℕ → Case
leaves t p = undraws t 60 p 0 (9 ∷ [])

abbrev refuses : List ℕ → ℕ → ℕ → Case
refuses t k p = undraws t k p 0 (9 ∷ [])

abbrev pub drawings : List Case
drawings =
    -- Q-1: the echo table's drawing, to the byte, both ways, with a byte past it that stays; and from its tokens alone
    draws echo 0 0 280 (echo_text ++ (9 ∷ [])) ∷
    undraws echo_text 0 0 51 (echo ++ (9 ∷ [])) ∷
    undraws echo_tight 0 0 51 echo ∷
    -- types in their order, each with a, b, d
    draws two_types 0 0 77 (two_types_text ++ (9 ∷ [])) ∷
    undraws two_types_text 0 0 18 two_types ∷
    -- with a byte too few
    draws echo 61 0 0 (replicate 279 9) ∷
    undraws echo_text 61 0 0 (replicate 50 9) ∷
    -- nothing, and a beginning of every drawing
    leaves [] 0 ∷
    leaves (text "digrap") 6 ∷
    -- numbers: 256 at the 6, 01 at the 1, -0 at the 0
    leaves (text "digraph t{T=256;k=3;}") 14 ∷
    leaves (text "digraph t{T=01;k=3;}") 13 ∷
    leaves (text "digraph t{T=1;k=3;s0->s0[label=\"-0 0 0\"];}") 33 ∷
    -- a state line that is not the next, and one after a rule, at the bracket; a byte after the end
    leaves (text "digraph t{T=1;k=3;s1[label=\"1 0\"];}") 20 ∷
    leaves (text "digraph t{T=1;k=3;s0->s0[label=\"0 0 0\"];s0[label=\"1 0\"];}") 42 ∷
    leaves (text "digraph t{T=1;k=3;}x") 19 ∷
    -- drawings of no table: no states and no rules; no types, and a label with nothing in it; a state with flags 4
    refuses (text "digraph t{T=1;k=3;}") 2 0 ∷
    refuses (text "digraph t{T=0;k=3;s0[label=\"1 0\"];s0->s0[label=\"\"];}") 2 0 ∷
    refuses (text "digraph t{T=1;k=3;s0[label=\"1 0\"];s1[label=\"4 0\"];s0->s0[label=\"0 0 0\"];}") 4 1 ∷ []
