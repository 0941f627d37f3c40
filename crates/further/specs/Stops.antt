-- Figures of boards that stop (Q-11), with the echo table.
use Rattle.std.specs.Prelude.{List, [], ◌∷◌, ◌++◌, ℕ, replicate}
use Rattle.decimal.specs.Numbers.{text}
use Rattle.exchange.specs.Exchange.{exchanged}
use Rattle.first_step.specs.declared.First.{First}
use Rattle.echo.specs.Echo.{echo, W}
use Rattle.figures.specs.Case.{Case, runs, translates_to, first_of, replays, searches, schedule_in, schedule}

-- board p stops; takes rule r without a message; takes it and hears an echo from this source
abbrev stops : ℕ → List ℕ
stops p = p ∷ 254 ∷ 255 ∷ 255 ∷ []

abbrev takes : ℕ → ℕ → List ℕ
takes p r = p ∷ r ∷ 255 ∷ 255 ∷ []

abbrev hears : ℕ → ℕ → ℕ → List ℕ
hears p r q = p ∷ r ∷ 0 ∷ q ∷ []

-- boards in V1, and these steps: n = 4, t = f = 1, so that none may stop; n = 4, t = 1, f = 0, one; n = 7, t = 2, f = 1, one; n = 7, t = 2, f = 0, two
abbrev none_may : List ℕ → List ℕ
none_may steps = schedule (replicate 3 1) steps 4 1 1

abbrev one_in : ℕ → List ℕ → List ℕ
one_in form steps = schedule_in form (replicate 4 1) steps 4 1 0

abbrev one_may : List ℕ → List ℕ
one_may = one_in 0

abbrev one_of_two : List ℕ → List ℕ
one_of_two steps = schedule (replicate 6 1) steps 7 2 1

abbrev two_may : List ℕ → List ℕ
two_may steps = schedule (replicate 7 1) steps 7 2 0

-- the words of so many boards in V1 of which these are stopped, in message form
abbrev still : ℕ → ℕ → List ℕ
still C set = replicate C 1 ++ (replicate C 0 ++ (0 ∷ set ∷ []))

-- board 0 sends its echo and stops, and then board 1 hears that echo and sends its own; a source that is the same in each form
abbrev heard_later : ℕ → List ℕ
heard_later form = one_in form (takes 0 3 ++ (stops 0 ++ hears 1 3 0))

-- boards 0, 1 and 2 send; board 1 hears two of them, and board 0 too; in counting form, and then these steps
abbrev near : List ℕ → List ℕ
near steps = one_in 1 (takes 0 3 ++ (takes 1 3 ++ (takes 2 3 ++ (hears 0 4 0 ++ (hears 0 4 0 ++ (hears 1 4 0 ++ (hears 1 4 0 ++ steps)))))))

-- one state and 64 rules from it to itself, as many as a table has at most; and two boards of it of which one may stop
abbrev sixty_four : List ℕ
sixty_four = 1 ∷ 0 ∷ (replicate 320 0 ++ (66 ∷ 1 ∷ 64 ∷ 1 ∷ 1 ∷ 64 ∷ 1 ∷ 1 ∷ []))

abbrev of_sixty_four : List ℕ → List ℕ
of_sixty_four steps = schedule (0 ∷ 0 ∷ []) steps 2 1 0

abbrev pub stopping : List Case
stopping =
    -- 27 where f is t, as where t is 0
    runs (none_may (stops 0)) echo 27 0 0 (still 3 0) ∷
    runs (schedule (1 ∷ []) (stops 0) 1 0 0) echo 27 0 0 (1 ∷ 0 ∷ 0 ∷ 0 ∷ []) ∷
    -- one may stop, whichever it is, and not two; a faulty one counts
    runs (one_may (stops 0)) echo 0 0 1 (still 4 1) ∷
    runs (one_may (stops 3)) echo 0 0 1 (still 4 8) ∷
    runs (one_may (stops 0 ++ stops 1)) echo 27 1 1 (still 4 1) ∷
    runs (one_of_two (stops 5)) echo 0 0 1 (still 6 32) ∷
    runs (one_of_two (stops 5 ++ stops 0)) echo 27 1 1 (still 6 32) ∷
    -- two may, and not three
    runs (two_may (stops 0)) echo 0 0 1 (still 7 1) ∷
    runs (two_may (stops 0 ++ stops 3)) echo 0 0 2 (still 7 9) ∷
    runs (two_may (stops 0 ++ (stops 3 ++ stops 6))) echo 27 2 2 (still 7 9) ∷
    -- the last of 64 boards: the highest bit
    runs (schedule (replicate 64 1) (stops 63) 64 1 0) echo 0 0 1 (still 64 9223372036854775808) ∷
    -- 26: a second stop, where no more may stop and where one more may; a rule of the board's state, of another, and of no table; a stop with a message
    runs (one_may (stops 0 ++ stops 0)) echo 26 1 1 (still 4 1) ∷
    runs (two_may (stops 0 ++ stops 0)) echo 26 1 1 (still 7 1) ∷
    runs (one_may (stops 0 ++ takes 0 3)) echo 26 1 1 (still 4 1) ∷
    runs (one_may (stops 0 ++ takes 0 0)) echo 26 1 1 (still 4 1) ∷
    runs (one_may (stops 0 ++ takes 0 7)) echo 26 1 1 (still 4 1) ∷
    runs (one_may (stops 0 ++ hears 0 254 0)) echo 26 1 1 (still 4 1) ∷
    -- 20 before it, also for a faulty board
    runs (one_may (stops 0 ++ stops 4)) echo 20 1 1 (still 4 1) ∷
    runs (none_may (stops 3)) echo 20 0 0 (still 3 0) ∷
    -- 23: a stop with a message, with a type alone, with a source alone; before 27
    runs (one_may (hears 0 254 0)) echo 23 0 0 (still 4 0) ∷
    runs (one_may (hears 0 254 255)) echo 23 0 0 (still 4 0) ∷
    runs (one_may (0 ∷ 254 ∷ 255 ∷ 0 ∷ [])) echo 23 0 0 (still 4 0) ∷
    runs (none_may (hears 0 254 0)) echo 23 0 0 (still 3 0) ∷
    -- the rules beside 254 are none, whatever they look like
    runs (one_may (takes 0 253)) echo 21 0 0 (still 4 0) ∷
    runs (one_may (takes 0 255)) echo 21 0 0 (still 4 0) ∷
    -- in a table of 64 rules 254 stops all the same; 63 is a rule, and 64 none
    runs (of_sixty_four (stops 1)) sixty_four 0 0 1 (0 ∷ 0 ∷ 0 ∷ 0 ∷ 0 ∷ 2 ∷ []) ∷
    runs (of_sixty_four (takes 1 63)) sixty_four 0 0 1 (0 ∷ 0 ∷ 0 ∷ 0 ∷ 0 ∷ 0 ∷ []) ∷
    runs (of_sixty_four (takes 1 64)) sixty_four 21 0 0 (0 ∷ 0 ∷ 0 ∷ 0 ∷ 0 ∷ 0 ∷ []) ∷
    -- what a stopped board has sent is heard, in each form; the word of stopped boards is the same in each
    runs (heard_later 0) echo 0 0 3 (2 ∷ 2 ∷ 1 ∷ 1 ∷ 0 ∷ 1 ∷ 0 ∷ 0 ∷ 3 ∷ 1 ∷ []) ∷
    runs (heard_later 1) echo 0 0 3 (2 ∷ 2 ∷ 1 ∷ 1 ∷ 0 ∷ 0 ∷ 1 ∷ 0 ∷ 0 ∷ 0 ∷ 0 ∷ 0 ∷ 2 ∷ 1 ∷ []) ∷
    runs (heard_later 2) echo 0 0 3 (2 ∷ 2 ∷ 1 ∷ 1 ∷ 0 ∷ 1 ∷ 0 ∷ 0 ∷ 2 ∷ 1 ∷ []) ∷
    -- and goes from each to each
    translates_to (heard_later 0) echo 1 0 0 24 (heard_later 1) ∷
    translates_to (heard_later 0) echo 2 0 0 24 (heard_later 2) ∷
    translates_to (heard_later 1) echo 0 0 0 24 (heard_later 0) ∷
    translates_to (heard_later 1) echo 2 0 0 24 (heard_later 2) ∷
    translates_to (heard_later 2) echo 0 0 0 24 (heard_later 0) ∷
    translates_to (heard_later 2) echo 1 0 0 24 (heard_later 1) ∷
    -- a log says it by rule 254 (Q-6)
    replays (one_may []) echo (text "board 0 rule 3\nboard 0 rule 254\nboard 1 rule 3 type 0 from 0\n") 0 0 3 (heard_later 0) (2 ∷ 2 ∷ 1 ∷ 1 ∷ 0 ∷ 1 ∷ 0 ∷ 0 ∷ 3 ∷ 1 ∷ []) ∷
    -- the words are one more: as many as there were before are too few
    runs (one_may []) echo 0 0 0 (still 4 0) ∷
    runs (one_may []) echo 30 0 0 (replicate 9 9) ∷
    runs W echo 30 0 0 (replicate 7 9) ∷
    -- first steps: board 0's, and after its stop board 1's, in each form; where only board 0 has one, none
    first_of (one_may []) echo (First.Step 0 3 255 255) ∷
    first_of (one_may (stops 0)) echo (First.Step 1 3 255 255) ∷
    first_of (one_may (stops 0 ++ stops 1)) echo (First.Refused 27 1) ∷
    first_of (heard_later 0) echo (First.Step 1 4 0 1) ∷
    first_of (heard_later 1) echo (First.Step 1 4 0 0) ∷
    first_of (heard_later 2) echo (First.Step 1 4 0 0) ∷
    first_of (schedule (1 ∷ 0 ∷ 0 ∷ 0 ∷ []) [] 4 1 0) echo (First.Step 0 3 255 255) ∷
    first_of (schedule (1 ∷ 0 ∷ 0 ∷ 0 ∷ []) (stops 0) 4 1 0) echo First.Nothing ∷
    -- searches: 72 are tried at each configuration, a stopped board's 18 too; four boards may send, and after a stop three
    searches (one_in 1 []) echo 1 99 0 0 16 72 (replicate 4 9) ∷
    searches (one_in 1 (stops 0)) echo 1 99 0 0 16 72 (replicate 4 9) ∷
    searches (one_in 1 []) echo 2 999 0 0 16 360 (replicate 8 9) ∷
    searches (one_in 1 (stops 0)) echo 2 288 0 0 16 288 (replicate 8 9) ∷
    searches (one_in 1 (stops 0)) echo 2 287 0 0 17 287 (replicate 8 9) ∷
    -- one echo more, and board 0 accepts; once it is stopped, board 1 does, after the 18 tries of board 0
    searches (near []) echo 1 99 0 0 1 15 (hears 0 5 0) ∷
    searches (near (stops 0)) echo 1 99 0 0 1 33 (hears 1 5 0) ∷
    -- a stopped board that accepts: no step, nothing tried
    searches (near (hears 0 5 0 ++ stops 0)) echo 1 0 0 0 0 0 (replicate 4 9) ∷
    -- two stops in either order: each is accepted alone, and the second is refused where one may stop (Q-10); where two may, the words are the same
    runs (one_may (stops 1)) echo 0 0 1 (still 4 2) ∷
    runs (exchanged 0 (one_may (stops 0 ++ stops 1))) echo 27 1 1 (still 4 2) ∷
    runs (exchanged 0 (two_may (stops 0 ++ stops 3))) echo 0 0 2 (still 7 9) ∷
    -- a stop and another board's step, which hears what was sent before it, in either order; and one board's own, 26
    runs (exchanged 1 (heard_later 0)) echo 0 0 3 (2 ∷ 2 ∷ 1 ∷ 1 ∷ 0 ∷ 1 ∷ 0 ∷ 0 ∷ 3 ∷ 1 ∷ []) ∷
    runs (exchanged 0 (heard_later 0)) echo 26 1 1 (still 4 1) ∷ []
