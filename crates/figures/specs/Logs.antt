-- Figures of logs (Q-6).
use Rattle.std.specs.Prelude.{List, [], ◌∷◌, ◌++◌, ℕ, replicate}
use Rattle.decimal.specs.Numbers.{text, decimal}
use Rattle.bundle.specs.Bundle.{steps_of}
use Rattle.schedule.specs.Records.{steps_in}
use Rattle.service_log.specs.Line.{log_of}
use Rattle.echo.specs.Echo.{echo, five_steps, W}
use Rattle.figures.specs.Case.{Case, replays, judges, schedule_in, schedule}
use Rattle.figures.specs.Outline.{pair, pair_in, senders}

-- W without its steps; a log of W's five lines with these senders; W's start with one step, and its words
abbrev WEmpty : List ℕ
WEmpty = schedule (1 ∷ 1 ∷ 1 ∷ []) [] 4 1 1

abbrev WLog : ℕ → ℕ → ℕ → List ℕ
WLog a b c =
    text "board 0 rule 3\nboard 1 rule 3\nboard 2 rule 3 type 0 from " ++ (decimal a ++ (text "\nboard 2 rule 4 type 0 from " ++ (decimal b ++
    (text "\nboard 2 rule 5 type 0 from " ++ (decimal c ++ text "\n")))))

abbrev with_step : ℕ → ℕ → ℕ → ℕ → List ℕ
with_step p r m q = schedule (1 ∷ 1 ∷ 1 ∷ []) (p ∷ r ∷ m ∷ q ∷ []) 4 1 1

abbrev start_words : List ℕ
start_words = 1 ∷ 1 ∷ 1 ∷ 0 ∷ 0 ∷ 0 ∷ 0 ∷ 0 ∷ []

-- a log that is refused with 50 at line p, and what was lent stays
abbrev wrong_line : List ℕ → ℕ → Case
wrong_line log p = replays WEmpty echo log 50 p 0 (replicate 40 9) (replicate 9 9)

abbrev pub logs : List Case
logs =
    -- Q-6: W's log over W without its steps is W to the byte, and runs as W does; a byte and a word past what is needed stay
    replays WEmpty echo (WLog 0 3 1) 0 0 5 (W ++ (9 ∷ [])) (2 ∷ 2 ∷ 3 ∷ 0 ∷ 0 ∷ 11 ∷ 7 ∷ 0 ∷ 9 ∷ []) ∷
    -- no log: a bundle without steps; and with a table in front
    replays WEmpty echo [] 0 0 0 WEmpty (1 ∷ 1 ∷ 1 ∷ 0 ∷ 0 ∷ 0 ∷ 0 ∷ 0 ∷ []) ∷
    replays (echo ++ WEmpty) [] (WLog 0 3 1) 0 0 5 (echo ++ W) (2 ∷ 2 ∷ 3 ∷ 0 ∷ 0 ∷ 11 ∷ 7 ∷ 0 ∷ []) ∷
    -- a line that counts an echo twice (P5): the bundle is written, and the words are those before that step
    replays WEmpty echo (WLog 0 3 0) 24 4 4 (five_steps 0 3 0 0) (2 ∷ 2 ∷ 2 ∷ 0 ∷ 0 ∷ 9 ∷ 7 ∷ 0 ∷ []) ∷
    -- numbers: 254 is only read, and running refuses the board; 255, 256, a leading zero and a sign are no number of a line
    replays WEmpty echo (text "board 254 rule 3\n") 20 0 0 (with_step 254 3 255 255) start_words ∷
    wrong_line (text "board 0 rule 255\n") 0 ∷
    wrong_line (text "board 256 rule 3\n") 0 ∷
    wrong_line (text "board 0 rule 3\nboard 1 rule 03\n") 1 ∷
    wrong_line (text "board 0 rule 4 type 0 from -1\n") 0 ∷
    -- shapes: no last line feed, a carriage return, an empty line, two blanks, a blank at the end, a message without its source
    wrong_line (text "board 0 rule 3\nboard 1 rule 3") 1 ∷
    wrong_line (text "board 0 rule 3\r\n") 0 ∷
    wrong_line (text "board 0 rule 3\n\n") 1 ∷
    wrong_line (text "board 0  rule 3\n") 0 ∷
    wrong_line (text "board 0 rule 3 \n") 0 ∷
    wrong_line (text "board 0 rule 3 type 0\n") 0 ∷
    -- 51 at line 4,096, before that line is looked at; the line before is looked at, and 4,096 right lines are not refused
    judges 1 4095 (text "board 0 rule 3\nx") 51 4096 ∷
    judges 1 4095 (text "x") 50 4095 ∷
    judges 1 4095 (text "board 0 rule 3\n") 0 0 ∷
    -- 52 for W itself and for another form, before 50
    replays W echo (text "x") 52 0 0 (replicate 31 9) (replicate 8 9) ∷
    replays (schedule_in 1 (1 ∷ 1 ∷ 1 ∷ []) [] 4 1 1) echo [] 52 0 0 (replicate 31 9) (replicate 11 9) ∷
    -- 30 for a byte too few, and for a word too few: neither is written to
    replays WEmpty echo (WLog 0 3 1) 30 0 0 (replicate 30 9) (replicate 8 9) ∷
    replays WEmpty echo (WLog 0 3 1) 30 0 0 (replicate 31 9) (replicate 7 9) ∷
    -- two types and unequal starts: the log of its schedule
    replays (schedule_in 0 (2 ∷ 0 ∷ 1 ∷ []) [] 5 4 2) pair (log_of (steps_in (steps_of (pair_in 0 senders)))) 0 0 16 (pair_in 0 senders) (3 ∷ 5 ∷ 6 ∷ 31 ∷ 14 ∷ 4 ∷ 24 ∷ 23 ∷ 0 ∷ 7 ∷ 6 ∷ 0 ∷ []) ∷ []
