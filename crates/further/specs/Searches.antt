-- Figures of searches (Q-9), with the echo table.
use Rattle.std.specs.Prelude.{List, [], ◌∷◌, ◌++◌, ℕ, replicate}
use Rattle.echo.specs.Echo.{echo, W, WPlain}
use Rattle.figures.specs.Case.{Case, searches, schedule_in, schedule}

-- three boards in one state, n = 4, t = f = 1, and a board alone in V1, n = 1, t = f = 0; after these steps in counting form
abbrev three : ℕ → List ℕ → List ℕ
three state steps = schedule_in 1 (state ∷ state ∷ state ∷ []) steps 4 1 1

abbrev single : List ℕ → List ℕ
single steps = schedule_in 1 (1 ∷ []) steps 1 0 0

-- board p takes rule r, without a message, or with an echo from this source
abbrev takes : ℕ → ℕ → List ℕ
takes p r = p ∷ r ∷ 255 ∷ 255 ∷ []

abbrev hears : ℕ → ℕ → ℕ → List ℕ
hears p r q = p ∷ r ∷ 0 ∷ q ∷ []

-- so many lent bytes, which stay
abbrev kept : ℕ → List ℕ
kept n = replicate n 9

abbrev pub searching : List Case
searching =
    -- from all V1, four steps deep: board 1 sends on the first echo and then hears two; with a try less in the budget that is not found
    searches (three 1 []) echo 4 1505 0 0 4 1505 (takes 0 3 ++ (hears 1 3 0 ++ (hears 1 4 0 ++ hears 1 5 1))) ∷
    searches (three 1 []) echo 4 1504 0 0 17 1504 (kept 16) ∷
    -- five steps deep a longer one comes first, and is found sooner; a byte past it stays
    searches (three 1 []) echo 5 76 0 0 5 76 (takes 0 3 ++ (hears 0 4 0 ++ (hears 0 4 1 ++ (takes 1 3 ++ (hears 0 5 0 ++ (9 ∷ [])))))) ∷
    -- from all V0 there is none three steps deep; one try less is not enough to say so
    searches (three 0 []) echo 3 540 0 0 16 540 (kept 12) ∷
    searches (three 0 []) echo 3 539 0 0 17 539 (kept 12) ∷
    -- one board alone hears itself; source 1 is tried where none is faulty, and no wait is
    searches (single []) echo 2 99 0 0 2 24 (takes 0 3 ++ hears 0 5 0) ∷
    searches (single []) echo 2 23 0 0 17 23 (kept 8) ∷
    -- one step deep there is none; three deep the first is not the shortest
    searches (single []) echo 1 18 0 0 16 18 (kept 4) ∷
    searches (single []) echo 3 99 0 0 3 35 (takes 0 3 ++ (hears 0 4 0 ++ takes 0 5)) ∷
    -- from where a schedule ends; of more bytes only those of the steps that were found change
    searches (single (takes 0 3)) echo 1 15 0 0 1 15 (hears 0 5 0) ∷
    searches (echo ++ single (takes 0 3 ++ hears 0 4 0)) [] 3 99 0 0 1 14 (takes 0 5 ++ kept 8) ∷
    -- an end that accepts already: no step, nothing tried, no byte changes
    searches (single (takes 0 3 ++ hears 0 5 0)) echo 2 0 0 0 0 0 (kept 8) ∷
    -- no step asked for: none; a step is due and the budget is 0: spent, also eight deep
    searches (single []) echo 0 0 0 0 16 0 [] ∷
    searches (single []) echo 8 0 0 0 17 0 (kept 32) ∷
    -- 34 by the whole number, after what reading refuses, before 35; 35 before 30
    searches (schedule (1 ∷ 2 ∷ 1 ∷ []) [] 4 1 1) echo 9 99 14 1 0 0 [] ∷
    searches W echo 9 99 34 0 0 0 [] ∷
    searches (single []) echo 4294967297 99 34 0 0 0 (kept 40) ∷
    searches W echo 2 99 35 0 0 0 [] ∷
    searches WPlain echo 2 99 35 0 0 0 (kept 8) ∷
    -- 30 before a step's refusal, also where the end accepts already
    searches (single (takes 0 3 ++ takes 0 3)) echo 1 99 30 0 0 0 (kept 3) ∷
    searches (single (takes 0 3 ++ takes 0 3)) echo 1 99 22 1 0 0 (kept 4) ∷
    searches (single (takes 0 3 ++ hears 0 5 0)) echo 2 99 30 0 0 0 (kept 7) ∷ []
