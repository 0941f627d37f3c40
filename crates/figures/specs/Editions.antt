-- Figures of tables moved to the other edition (Q-8).
use Rattle.std.specs.Prelude.{List, [], ◌∷◌, ◌++◌, ℕ, set, replicate}
use Rattle.first_step.specs.declared.First.{First}
use Rattle.echo.specs.Echo.{echo, W, WCounting}
use Rattle.figures.specs.Case.{Case, runs, translates, first_of, to_second, to_first}
use Rattle.figures.specs.Divisors.{majority}

-- the echo table in the second edition
abbrev echo_second : List ℕ
echo_second =
    0x01 ∷ 0x00 ∷ 0x01 ∷ 0x00 ∷ 0x00 ∷ 0x01 ∷ 0x02 ∷ 0x01 ∷
    0x00 ∷ 0x00 ∷ 0x00 ∷ 0x00 ∷ 0x00 ∷ 0x01 ∷ 0x00 ∷ 0x02 ∷ 0x00 ∷ 0x01 ∷ 0x01 ∷ 0x01 ∷ 0x00 ∷ 0x03 ∷ 0x01 ∷ 0xFF ∷ 0x00 ∷ 0x01 ∷
    0x01 ∷ 0x02 ∷ 0x00 ∷ 0x00 ∷ 0x00 ∷ 0x01 ∷ 0x02 ∷ 0x02 ∷ 0x00 ∷ 0x00 ∷ 0x00 ∷ 0x01 ∷ 0x02 ∷ 0x03 ∷ 0x01 ∷ 0xFF ∷ 0x00 ∷ 0x01 ∷
    0x03 ∷ 0x03 ∷ 0x00 ∷ 0x00 ∷ 0x00 ∷ 0x01 ∷
    0x32 ∷ 0x00 ∷ 0x2A ∷ 0x00 ∷ 0x04 ∷ 0x07 ∷ 0x11 ∷ 0x03 ∷ []

abbrev pub editions : List Case
editions =
    -- there and back, to the byte, with a byte past it that stays
    to_second echo 0 0 58 (echo_second ++ (9 ∷ [])) ∷
    to_first echo_second 0 0 51 (echo ++ (9 ∷ [])) ∷
    -- with a byte too few
    to_second echo 30 0 0 (replicate 57 9) ∷
    to_first echo_second 30 0 0 (replicate 50 9) ∷
    -- already there, whatever the room
    to_second echo_second 33 0 0 [] ∷
    to_first echo 33 0 0 (replicate 51 9) ∷
    -- rules 2 and 5 divide by 2: the lowest is told, whatever the room
    to_first majority 32 2 0 (replicate 51 9) ∷
    to_first majority 32 2 0 [] ∷
    -- the table's own comes first: flags 4 in state 0; a divisor of 0 in rule 0
    to_second (set echo_second 0 4) 4 0 0 (9 ∷ []) ∷
    to_first (set majority 13 0) 9 0 0 (9 ∷ []) ∷
    -- W beside either, and with either in front
    runs W echo_second 0 0 5 (2 ∷ 2 ∷ 3 ∷ 0 ∷ 0 ∷ 11 ∷ 7 ∷ 0 ∷ []) ∷
    runs (echo_second ++ W) [] 0 0 5 (2 ∷ 2 ∷ 3 ∷ 0 ∷ 0 ∷ 11 ∷ 7 ∷ 0 ∷ []) ∷
    translates W echo_second 0 0 31 WCounting ∷
    first_of (echo_second ++ W) [] (First.Step 0 4 0 0) ∷ []
