-- Figures of two neighbouring steps exchanged (Q-10).
use Rattle.std.specs.Prelude.{List, [], ◌∷◌, ℕ}
use Rattle.exchange.specs.Exchange.{exchanged}
use Rattle.first_step.specs.declared.First.{First}
use Rattle.echo.specs.Echo.{echo, W, WCounting, WPlain}
use Rattle.figures.specs.Case.{Case, runs, first_of, schedule_in}

-- board 0 sends its echo, and board 1 hears it: two boards, of which none is faulty; and three, with a faulty process
abbrev hearing : ℕ → List ℕ
hearing form = schedule_in form (1 ∷ 1 ∷ []) (0 ∷ 3 ∷ 255 ∷ 255 ∷ 1 ∷ 3 ∷ 0 ∷ 0 ∷ []) 2 0 0

abbrev hearing_one : ℕ → List ℕ
hearing_one form = schedule_in form (1 ∷ 1 ∷ 1 ∷ []) (0 ∷ 3 ∷ 255 ∷ 255 ∷ 1 ∷ 3 ∷ 0 ∷ 0 ∷ []) 4 1 1

abbrev pub orders : List Case
orders =
    -- W's first two steps: boards 0 and 1 send, in either order, and its run is W's; in each form
    runs (exchanged 0 W) echo 0 0 5 (2 ∷ 2 ∷ 3 ∷ 0 ∷ 0 ∷ 11 ∷ 7 ∷ 0 ∷ []) ∷
    runs (exchanged 0 WCounting) echo 0 0 5 (2 ∷ 2 ∷ 3 ∷ 0 ∷ 0 ∷ 0 ∷ 0 ∷ 2 ∷ 1 ∷ 3 ∷ 0 ∷ []) ∷
    runs (exchanged 0 WPlain) echo 0 0 5 (2 ∷ 2 ∷ 3 ∷ 0 ∷ 0 ∷ 3 ∷ 3 ∷ 0 ∷ []) ∷
    -- the next two: board 1 sends, and board 2 hears board 0 and sends
    runs (exchanged 1 W) echo 0 0 5 (2 ∷ 2 ∷ 3 ∷ 0 ∷ 0 ∷ 11 ∷ 7 ∷ 0 ∷ []) ∷
    runs (exchanged 1 WCounting) echo 0 0 5 (2 ∷ 2 ∷ 3 ∷ 0 ∷ 0 ∷ 0 ∷ 0 ∷ 2 ∷ 1 ∷ 3 ∷ 0 ∷ []) ∷
    runs (exchanged 1 WPlain) echo 0 0 5 (2 ∷ 2 ∷ 3 ∷ 0 ∷ 0 ∷ 3 ∷ 3 ∷ 0 ∷ []) ∷
    first_of (exchanged 1 W) echo (First.Step 0 4 0 0) ∷
    -- the second hears what the first sent: accepted in this order, and exchanged refused with 24, in each form
    runs (hearing 0) echo 0 0 2 (2 ∷ 2 ∷ 0 ∷ 1 ∷ 3 ∷ 0 ∷ []) ∷
    runs (exchanged 0 (hearing 0)) echo 24 0 0 (1 ∷ 1 ∷ 0 ∷ 0 ∷ 0 ∷ 0 ∷ []) ∷
    runs (hearing 1) echo 0 0 2 (2 ∷ 2 ∷ 0 ∷ 0 ∷ 1 ∷ 0 ∷ 2 ∷ 0 ∷ []) ∷
    runs (exchanged 0 (hearing 1)) echo 24 0 0 (1 ∷ 1 ∷ 0 ∷ 0 ∷ 0 ∷ 0 ∷ 0 ∷ 0 ∷ []) ∷
    runs (hearing 2) echo 0 0 2 (2 ∷ 2 ∷ 0 ∷ 1 ∷ 2 ∷ 0 ∷ []) ∷
    runs (exchanged 0 (hearing 2)) echo 24 0 0 (1 ∷ 1 ∷ 0 ∷ 0 ∷ 0 ∷ 0 ∷ []) ∷
    first_of (exchanged 0 (hearing 0)) echo (First.Refused 24 0) ∷
    -- where one process is faulty, the plain form can't tell whose message it is: either order, and the same words
    runs (hearing_one 2) echo 0 0 2 (2 ∷ 2 ∷ 1 ∷ 0 ∷ 1 ∷ 0 ∷ 2 ∷ 0 ∷ []) ∷
    runs (exchanged 0 (hearing_one 2)) echo 0 0 2 (2 ∷ 2 ∷ 1 ∷ 0 ∷ 1 ∷ 0 ∷ 2 ∷ 0 ∷ []) ∷
    runs (exchanged 0 (hearing_one 1)) echo 24 0 0 (1 ∷ 1 ∷ 1 ∷ 0 ∷ 0 ∷ 0 ∷ 0 ∷ 0 ∷ 0 ∷ 0 ∷ 0 ∷ []) ∷
    -- one board's own: W's board 2 waits in SE before it is there, 22; it accepts on two echoes of three, 25
    runs (exchanged 2 W) echo 22 2 2 (2 ∷ 2 ∷ 1 ∷ 0 ∷ 0 ∷ 0 ∷ 3 ∷ 0 ∷ []) ∷
    runs (exchanged 3 W) echo 25 3 3 (2 ∷ 2 ∷ 2 ∷ 0 ∷ 0 ∷ 1 ∷ 7 ∷ 0 ∷ []) ∷ []
