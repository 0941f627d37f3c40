-- Figures of receipts and sends (Q-13), with the echo table.
use Rattle.std.specs.Prelude.{List, [], ◌∷◌, ◌++◌, ℕ}
use Rattle.echo.specs.Echo.{echo, W, WCounting, WPlain}
use Rattle.figures.specs.Case.{Case, counts, schedule_in, schedule}

-- board p takes rule r, without a message, or with an echo from this source; it stops
abbrev takes : ℕ → ℕ → List ℕ
takes p r = p ∷ r ∷ 255 ∷ 255 ∷ []

abbrev hears : ℕ → ℕ → ℕ → List ℕ
hears p r q = p ∷ r ∷ 0 ∷ q ∷ []

abbrev stops : ℕ → List ℕ
stops p = p ∷ 254 ∷ 255 ∷ 255 ∷ []

-- three boards in V1, n = 4, t = f = 1, in message form and in this one; four of which none is faulty
abbrev three : List ℕ → List ℕ
three steps = schedule (1 ∷ 1 ∷ 1 ∷ []) steps 4 1 1

abbrev three_in : ℕ → List ℕ → List ℕ
three_in form steps = schedule_in form (1 ∷ 1 ∷ 1 ∷ []) steps 4 1 1

abbrev four : List ℕ → List ℕ
four steps = schedule (0 ∷ 1 ∷ 1 ∷ 1 ∷ []) steps 4 1 0

-- all three send; then board p hears all four, three of them correct
abbrev all_send : List ℕ
all_send = takes 0 3 ++ (takes 1 3 ++ takes 2 3)

abbrev hears_all : ℕ → List ℕ
hears_all p = hears p 4 0 ++ (hears p 4 0 ++ (hears p 4 0 ++ hears p 4 1))

abbrev pub receiving : List Case
receiving =
    -- W in each form: three receipts, of which one is faulty, and three sends; two of its steps lead on where the echo was sent
    counts W echo 8 0 0 5 3 3 ∷
    counts WCounting echo 11 0 0 5 3 3 ∷
    counts WPlain echo 8 0 0 5 3 3 ∷
    counts (echo ++ W) [] 8 0 0 5 3 3 ∷
    -- without a step none
    counts (three []) echo 8 0 0 0 0 0 ∷
    -- a refused step is none: the same echo again
    counts (three (takes 0 3 ++ (hears 1 3 0 ++ hears 1 4 0))) echo 8 24 2 2 1 2 ∷
    counts (three (takes 0 3 ++ takes 0 3)) echo 8 22 1 1 0 1 ∷
    -- a wait and a stop are neither; a wait with a message receives it
    counts (four (takes 0 0 ++ (takes 1 3 ++ (stops 1 ++ hears 0 0 1)))) echo 10 0 0 4 1 1 ∷
    -- all boards send: C · T sends; and hear all that there is, C · T · n receipts
    counts (three_in 1 (all_send ++ (hears_all 0 ++ (hears_all 1 ++ hears_all 2)))) echo 11 0 0 15 12 3 ∷
    counts (three_in 1 (all_send ++ (hears_all 0 ++ (hears_all 1 ++ (hears_all 2 ++ hears 2 4 0))))) echo 11 24 15 15 12 3 ∷
    -- with any other refusal both are 0
    counts W echo 7 30 0 0 0 0 ∷
    counts (schedule (1 ∷ 2 ∷ 1 ∷ []) [] 4 1 1) echo 8 14 1 0 0 0 ∷ []
