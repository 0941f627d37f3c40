-- Figures of lists of configurations (Q-12), with the echo table.
use Rattle.std.specs.Prelude.{List, [], ◌∷◌, ◌++◌, ℕ, replicate, take, drop}
use Rattle.echo.specs.Echo.{echo, asking, W, WPlain}
use Rattle.figures.specs.Case.{Case, checks, schedule_in}

-- three boards in V0, n = 4, t = f = 1; a board alone in this state, n = 1, t = f = 0; so many boards in V0, none faulty, t = 1
abbrev three : List ℕ
three = schedule_in 1 (0 ∷ 0 ∷ 0 ∷ []) [] 4 1 1

abbrev single : ℕ → List ℕ
single state = schedule_in 1 (state ∷ []) [] 1 0 0

abbrev many : ℕ → List ℕ
many C = schedule_in 1 (replicate C 0) [] C 1 0

-- three boards in V0 that have heard so many faulty echoes each
abbrev heard : ℕ → ℕ → ℕ → List ℕ
heard a b c = 0 ∷ 0 ∷ 0 ∷ 0 ∷ a ∷ 0 ∷ b ∷ 0 ∷ c ∷ 0 ∷ 0 ∷ []

-- all that they can come to: 8 configurations of 11 words
abbrev quiet : List ℕ
quiet = heard 0 0 0 ++ (heard 0 0 1 ++ (heard 0 1 0 ++ (heard 0 1 1 ++ (heard 1 0 0 ++ (heard 1 0 1 ++ (heard 1 1 0 ++ heard 1 1 1))))))

-- a board alone: its state, the echoes received, correct and faulty, those sent, whether it is stopped
abbrev alone : ℕ → ℕ → ℕ → ℕ → ℕ → List ℕ
alone state correct faulty sent stopped = state ∷ correct ∷ faulty ∷ sent ∷ stopped ∷ []

-- what a board alone in V1 comes to: it sends, hears itself, and accepts
abbrev begins : List ℕ
begins = alone 1 0 0 0 0

abbrev sends : List ℕ
sends = alone 2 0 0 1 0

abbrev hears : List ℕ
hears = alone 2 1 0 1 0

abbrev accepts : List ℕ
accepts = alone 3 1 0 1 0

abbrev pub listing : List Case
listing =
    -- from all V0 nothing accepts, beside the table and with it; a board alone in V0 stays there
    checks three echo quiet 0 0 8 ∷
    checks (echo ++ three) [] quiet 0 0 8 ∷
    checks (single 0) echo (alone 0 0 0 0 0) 0 0 1 ∷
    -- where one echo is enough, the first step leads outside
    checks three (asking 0) quiet 73 0 0 ∷
    -- one configuration dropped: the lowest from which a step leads there; the start
    checks three echo (take 77 quiet) 73 3 0 ∷
    checks three echo (take 44 quiet ++ drop 55 quiet) 73 0 0 ∷
    checks three echo (drop 11 quiet) 72 0 0 ∷
    checks three echo [] 72 0 0 ∷
    -- a step without a message leads outside too
    checks (single 1) echo begins 73 0 0 ∷
    -- closed, but one accepts, which is not the start
    checks (single 1) echo (begins ++ (sends ++ (hears ++ accepts))) 74 3 0 ∷
    -- all of 73 comes before 74
    checks (single 1) echo (begins ++ (sends ++ accepts)) 73 1 0 ∷
    -- twice the same, and out of order: the later one; one word short, one too many
    checks (single 0) echo (alone 0 0 0 0 0 ++ alone 0 0 0 0 0) 70 1 0 ∷
    checks (single 1) echo (begins ++ (hears ++ (sends ++ accepts))) 70 2 0 ∷
    checks three echo (take 87 quiet) 70 0 0 ∷
    checks three echo (quiet ++ (0 ∷ [])) 70 0 0 ∷
    -- 512 configurations are enough to be out of order, 513 are too many
    checks (single 0) echo (replicate 2560 0) 70 1 0 ∷
    checks (single 0) echo (replicate 2565 0) 70 0 0 ∷
    -- not in counting form, with steps, 7 boards; 6 are few enough
    checks W echo [] 70 0 0 ∷
    checks WPlain echo [] 70 0 0 ∷
    checks (schedule_in 1 (1 ∷ []) (0 ∷ 3 ∷ 255 ∷ 255 ∷ []) 1 0 0) echo [] 70 0 0 ∷
    checks (many 7) echo [] 70 0 0 ∷
    checks (many 6) echo [] 72 0 0 ∷
    -- what reading refuses comes first
    checks (single 2) echo (replicate 2565 0) 14 0 0 ∷
    -- a state that the table has not, and counts that are too high; each before the start is missed
    checks (single 0) echo (alone 4 0 0 0 0) 71 0 0 ∷
    checks (single 0) echo (alone 0 0 0 0 0 ++ alone 0 2 0 0 0) 71 1 0 ∷
    checks (single 0) echo (alone 0 0 0 0 0 ++ alone 0 0 1 0 0) 71 1 0 ∷
    checks (single 0) echo (alone 0 0 0 0 0 ++ alone 0 0 0 2 0) 71 1 0 ∷
    checks (single 0) echo (alone 0 0 0 0 0 ++ alone 0 0 0 0 1) 71 1 0 ∷
    checks three echo (quiet ++ heard 1 1 2) 71 8 0 ∷
    -- the order is asked for first
    checks (single 0) echo (alone 4 0 0 0 0 ++ alone 0 0 0 0 0) 70 1 0 ∷
    -- more received than sent is in range; nothing is then in transit, and the echo that is had leads outside
    checks (single 0) echo (alone 0 0 0 0 0 ++ alone 0 1 0 0 0) 73 1 0 ∷
    -- a step to words out of range leads outside: the board sends once more than there are boards
    checks (single 1) echo (begins ++ (alone 1 0 0 1 0 ++ (sends ++ (hears ++ accepts)))) 73 1 0 ∷ []
