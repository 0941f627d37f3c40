-- The outline's figures that are proved (marked P), and those of requests Q-2, Q-4 and Q-5, as one list of cases.
use Rattle.std.specs.Prelude.{List, [], ◌∷◌, ◌++◌, ℕ, replicate, pos, negsuc}
use Rattle.first_step.specs.declared.First.{First}
use Rattle.echo.specs.Echo.{echo, asking, one_echo, five_steps, W, WCounting, WPlain}
use Rattle.figures.specs.Case.{Case, comes_to, asks, reads, runs, translates, translates_to, first_of, schedule_in, schedule}

-- a table of two types, k = 1: states 0 to 2 are initial, 3 has sent type 0, 4 type 1, 5 and 6 both; no rule that asks for messages asks for as many of both types
abbrev pub pair : List ℕ
pair =
    0x01 ∷ 0x00 ∷ 0x01 ∷ 0x00 ∷ 0x01 ∷ 0x00 ∷ 0x00 ∷ 0x01 ∷ 0x00 ∷ 0x02 ∷ 0x00 ∷ 0x03 ∷ 0x02 ∷ 0x03 ∷
    0x00 ∷ 0x04 ∷ 0x00 ∷ 0x00 ∷ 0x00 ∷ 0x01 ∷ 0xFF ∷ 0x00 ∷
    0x01 ∷ 0x04 ∷ 0x01 ∷ 0xFF ∷ 0x00 ∷ 0x00 ∷ 0x00 ∷ 0x00 ∷
    0x02 ∷ 0x03 ∷ 0x00 ∷ 0x00 ∷ 0x00 ∷ 0x00 ∷ 0x00 ∷ 0x00 ∷
    0x03 ∷ 0x05 ∷ 0x01 ∷ 0x00 ∷ 0x00 ∷ 0x00 ∷ 0x01 ∷ 0x00 ∷
    0x03 ∷ 0x03 ∷ 0x00 ∷ 0x00 ∷ 0x00 ∷ 0x00 ∷ 0x00 ∷ 0x00 ∷
    0x04 ∷ 0x04 ∷ 0x00 ∷ 0x00 ∷ 0x00 ∷ 0x00 ∷ 0x00 ∷ 0x00 ∷
    0x04 ∷ 0x05 ∷ 0x00 ∷ 0x00 ∷ 0x01 ∷ 0x00 ∷ 0x00 ∷ 0x00 ∷
    0x05 ∷ 0x05 ∷ 0x00 ∷ 0x00 ∷ 0x00 ∷ 0x00 ∷ 0x00 ∷ 0x00 ∷
    0x05 ∷ 0x06 ∷ 0x00 ∷ 0x01 ∷ 0x00 ∷ 0xFF ∷ 0x01 ∷ 0x01 ∷
    0x56 ∷ 0x00 ∷ 0x48 ∷ 0x00 ∷ 0x07 ∷ 0x09 ∷ 0x02 ∷ 0x01 ∷ []

-- receipts: board, rule and type of each, and then its source
abbrev sourced : List ℕ → List ℕ → List ℕ
sourced [] qs = []
sourced (p ∷ []) qs = []
sourced (p ∷ r ∷ []) qs = []
sourced (p ∷ r ∷ m ∷ xs) [] = []
sourced (p ∷ r ∷ m ∷ xs) (q ∷ qs) = p ∷ r ∷ m ∷ q ∷ sourced xs qs

-- for that table, n = 5, t = 4, f = 2: board 0 sends type 0, then 15 receipts from these sources, the last of type m
abbrev pair_last : ℕ → ℕ → List ℕ → List ℕ
pair_last m form sources =
    schedule_in form (2 ∷ 0 ∷ 1 ∷ [])
    (0 ∷ 2 ∷ 255 ∷ 255 ∷
    sourced
    (2 ∷ 1 ∷ 0 ∷ 1 ∷ 0 ∷ 1 ∷ 2 ∷ 6 ∷ 0 ∷ 1 ∷ 6 ∷ 0 ∷ 1 ∷ 7 ∷ 1 ∷ 0 ∷ 4 ∷ 0 ∷ 0 ∷ 4 ∷ 1 ∷ 0 ∷ 4 ∷ 0 ∷
    0 ∷ 4 ∷ 1 ∷ 2 ∷ 7 ∷ 0 ∷ 0 ∷ 4 ∷ 0 ∷ 0 ∷ 4 ∷ 0 ∷ 0 ∷ 4 ∷ 1 ∷ 0 ∷ 4 ∷ 0 ∷ 2 ∷ 8 ∷ m ∷ [])
    sources)
    5 4 2

-- it ends with 5 and 3 messages of the two types at board 0, 1 and 2 at board 1, 4 and 0 at board 2
abbrev pub pair_in : ℕ → List ℕ → List ℕ
pair_in = pair_last 0

-- the sources of its receipts: senders; their tags, and the lowest senders of these; none told; the correct tag first, and the lowest senders of that
abbrev pub senders : List ℕ
senders = 4 ∷ 3 ∷ 0 ∷ 2 ∷ 4 ∷ 3 ∷ 2 ∷ 1 ∷ 3 ∷ 1 ∷ 4 ∷ 2 ∷ 1 ∷ 0 ∷ 2 ∷ []

abbrev tags : List ℕ
tags = 1 ∷ 1 ∷ 0 ∷ 0 ∷ 1 ∷ 1 ∷ 0 ∷ 0 ∷ 1 ∷ 0 ∷ 1 ∷ 0 ∷ 0 ∷ 0 ∷ 0 ∷ []

abbrev lowest_of_tags : List ℕ
lowest_of_tags = 3 ∷ 3 ∷ 0 ∷ 0 ∷ 4 ∷ 3 ∷ 1 ∷ 0 ∷ 3 ∷ 1 ∷ 4 ∷ 1 ∷ 2 ∷ 2 ∷ 2 ∷ []

abbrev untold : List ℕ
untold = replicate 15 0

abbrev correct_first : List ℕ
correct_first = 0 ∷ 0 ∷ 1 ∷ 0 ∷ 0 ∷ 0 ∷ 0 ∷ 0 ∷ 0 ∷ 0 ∷ 0 ∷ 1 ∷ 1 ∷ 1 ∷ 0 ∷ []

abbrev lowest_of_correct_first : List ℕ
lowest_of_correct_first = 0 ∷ 2 ∷ 3 ∷ 0 ∷ 1 ∷ 0 ∷ 1 ∷ 1 ∷ 2 ∷ 1 ∷ 2 ∷ 3 ∷ 3 ∷ 4 ∷ 2 ∷ []

-- where rule 1 asks for t in place of t + 1, a faulty echo alone brings board 0 from V0 to SE
abbrev pub one_enough : Case
one_enough = runs (one_echo 1 0 3) (asking 0) 0 0 1 (2 ∷ 0 ∷ 0 ∷ 8 ∷ 0 ∷ 0 ∷ 1 ∷ 0 ∷ [])

abbrev pub outline : List Case
outline =
    -- P1: rules 1 and 2 at n = 4, t = 1, and at n = 1, t = 0
    asks echo 1 0 4 1 (pos 2) ∷
    asks echo 2 0 4 1 (pos 3) ∷
    asks echo 1 0 1 0 (pos 1) ∷
    asks echo 2 0 1 0 (pos 1) ∷
    -- P2: the ends, -16,384 and 16,256
    comes_to (record { a = 0x80; b = 0x80; d = 0x80; e = 1 }) 64 63 (negsuc 16383) ∷
    comes_to (record { a = 0x7F; b = 0x7F; d = 0x7F; e = 1 }) 64 63 (pos 16256) ∷
    -- P3, P4: W, and W in counting form; the last word, here and below, is the set of stopped boards (Q-11)
    runs W echo 0 0 5 (2 ∷ 2 ∷ 3 ∷ 0 ∷ 0 ∷ 11 ∷ 7 ∷ 0 ∷ []) ∷
    runs WCounting echo 0 0 5 (2 ∷ 2 ∷ 3 ∷ 0 ∷ 0 ∷ 0 ∷ 0 ∷ 2 ∷ 1 ∷ 3 ∷ 0 ∷ []) ∷
    -- P5: W with last source 0, whose echo board 2 has heard
    runs (five_steps 0 3 0 0) echo 24 4 4 (2 ∷ 2 ∷ 2 ∷ 0 ∷ 0 ∷ 9 ∷ 7 ∷ 0 ∷ []) ∷
    -- P6: W's counting form; P7: so is that of W with senders 1, 3, 0 in its receipts, and it comes back as W itself
    translates W echo 0 0 31 WCounting ∷
    translates (five_steps 1 3 0 0) echo 0 0 31 WCounting ∷
    translates WCounting echo 0 0 31 W ∷
    -- a byte past the bundle stays; with a byte too few, and for P5's refused step, all stay
    translates W echo 0 0 31 (WCounting ++ (9 ∷ [])) ∷
    translates W echo 30 0 0 (replicate 30 9) ∷
    translates (five_steps 0 3 0 0) echo 24 4 0 (replicate 31 9) ∷
    -- P8: admitted n, t, f at k = 3
    reads (schedule (0 ∷ 0 ∷ 0 ∷ []) [] 3 1 0) echo 12 0 ∷
    reads (schedule (0 ∷ 0 ∷ []) [] 4 1 2) echo 12 0 ∷
    reads (schedule (0 ∷ []) [] 1 0 0) echo 0 0 ∷
    -- W with the echo table in front, and beside it
    reads (echo ++ W) [] 0 0 ∷
    reads W echo 0 0 ∷
    -- P9: one faulty echo does not make two; nobody has sent
    runs (schedule (0 ∷ 0 ∷ 0 ∷ []) (0 ∷ 1 ∷ 0 ∷ 3 ∷ []) 4 1 1) echo 25 0 0 (0 ∷ 0 ∷ 0 ∷ 0 ∷ 0 ∷ 0 ∷ 0 ∷ 0 ∷ []) ∷
    runs (schedule (0 ∷ 0 ∷ 0 ∷ []) (0 ∷ 0 ∷ 0 ∷ 1 ∷ []) 4 1 1) echo 24 0 0 (0 ∷ 0 ∷ 0 ∷ 0 ∷ 0 ∷ 0 ∷ 0 ∷ 0 ∷ []) ∷
    -- P10: a board can't hear its echo in the step that sends it; it can in the next
    runs (schedule (1 ∷ []) (0 ∷ 3 ∷ 0 ∷ 0 ∷ []) 1 0 0) echo 24 0 0 (1 ∷ 0 ∷ 0 ∷ 0 ∷ []) ∷
    runs (schedule (1 ∷ []) (0 ∷ 3 ∷ 255 ∷ 255 ∷ 0 ∷ 5 ∷ 0 ∷ 0 ∷ []) 1 0 0) echo 0 0 2 (3 ∷ 1 ∷ 1 ∷ 0 ∷ []) ∷
    -- two correct echoes were sent and heard: a third is not in transit, whatever room a faulty one has
    runs (schedule_in 1 (1 ∷ 1 ∷ 1 ∷ []) (0 ∷ 3 ∷ 255 ∷ 255 ∷ 2 ∷ 3 ∷ 0 ∷ 0 ∷ 2 ∷ 4 ∷ 0 ∷ 0 ∷ 2 ∷ 4 ∷ 0 ∷ 0 ∷ []) 4 1 1) echo 24 3 3 (2 ∷ 1 ∷ 2 ∷ 0 ∷ 0 ∷ 0 ∷ 0 ∷ 2 ∷ 0 ∷ 2 ∷ 0 ∷ []) ∷
    -- after W the first possible step is 00 04 00 00 (Q-2), also in counting form; after P5's refusal there is none
    first_of W echo (First.Step 0 4 0 0) ∷
    first_of WCounting echo (First.Step 0 4 0 0) ∷
    first_of (five_steps 0 3 0 0) echo (First.Refused 24 4) ∷
    -- Q-4: W in plain form, from both others; it comes back with the correct tag where that is in transit, which it is each time
    runs WPlain echo 0 0 5 (2 ∷ 2 ∷ 3 ∷ 0 ∷ 0 ∷ 3 ∷ 3 ∷ 0 ∷ []) ∷
    translates_to W echo 2 0 0 31 WPlain ∷
    translates_to WCounting echo 2 0 0 31 WPlain ∷
    translates_to WPlain echo 1 0 0 31 (five_steps 0 0 0 1) ∷
    translates_to WPlain echo 0 0 0 31 (five_steps 0 1 2 0 ++ (9 ∷ [])) ∷
    translates WPlain echo 0 0 31 (five_steps 0 0 0 1) ∷
    first_of WPlain echo (First.Step 0 4 0 0) ∷
    -- with two sent, board 0 hears two by the correct tag and a third by the faulty one
    translates_to (schedule_in 2 (1 ∷ 1 ∷ 1 ∷ []) (0 ∷ 3 ∷ 255 ∷ 255 ∷ 1 ∷ 3 ∷ 0 ∷ 0 ∷ 0 ∷ 4 ∷ 0 ∷ 0 ∷ 0 ∷ 4 ∷ 0 ∷ 0 ∷ 0 ∷ 4 ∷ 0 ∷ 0 ∷ []) 4 1 1) echo 1 0 0 31
    (schedule_in 1 (1 ∷ 1 ∷ 1 ∷ []) (0 ∷ 3 ∷ 255 ∷ 255 ∷ 1 ∷ 3 ∷ 0 ∷ 0 ∷ 0 ∷ 4 ∷ 0 ∷ 0 ∷ 0 ∷ 4 ∷ 0 ∷ 0 ∷ 0 ∷ 4 ∷ 0 ∷ 1 ∷ []) 4 1 1) ∷
    -- with one sent, it hears two, sent plus f, and no third
    runs (schedule_in 2 (1 ∷ 1 ∷ 1 ∷ []) (0 ∷ 3 ∷ 255 ∷ 255 ∷ 0 ∷ 4 ∷ 0 ∷ 0 ∷ 0 ∷ 4 ∷ 0 ∷ 0 ∷ 0 ∷ 4 ∷ 0 ∷ 0 ∷ []) 4 1 1) echo 24 3 3 (2 ∷ 1 ∷ 1 ∷ 2 ∷ 0 ∷ 0 ∷ 1 ∷ 0 ∷ []) ∷
    -- source 1 is none; form 3 is none
    runs (schedule_in 2 (1 ∷ 1 ∷ 1 ∷ []) (0 ∷ 3 ∷ 255 ∷ 255 ∷ 0 ∷ 4 ∷ 0 ∷ 1 ∷ []) 4 1 1) echo 23 1 1 (2 ∷ 1 ∷ 1 ∷ 0 ∷ 0 ∷ 0 ∷ 1 ∷ 0 ∷ []) ∷
    reads (schedule_in 3 (1 ∷ 1 ∷ 1 ∷ []) [] 4 1 1) echo 12 0 ∷
    -- 31: the present form, and unknown ones, by the whole number; before 30 and a refused step, after 14
    translates_to W echo 0 31 0 0 (replicate 31 9) ∷
    translates_to W echo 3 31 0 0 (replicate 31 9) ∷
    translates_to W echo 4294967297 31 0 0 (replicate 31 9) ∷
    translates_to WPlain echo 2 31 0 0 (9 ∷ []) ∷
    translates_to (five_steps 0 3 0 0) echo 0 31 0 0 (replicate 31 9) ∷
    translates_to (schedule (2 ∷ []) [] 1 0 0) echo 0 14 0 0 (9 ∷ []) ∷
    translates_to W echo 2 30 0 0 (replicate 30 9) ∷
    -- Q-2: one board alone has sent, heard itself and accepted; it can only wait, in any form
    first_of (schedule (1 ∷ []) (0 ∷ 3 ∷ 255 ∷ 255 ∷ 0 ∷ 5 ∷ 0 ∷ 0 ∷ []) 1 0 0) echo First.Nothing ∷
    first_of (schedule_in 1 (1 ∷ []) (0 ∷ 3 ∷ 255 ∷ 255 ∷ 0 ∷ 5 ∷ 0 ∷ 0 ∷ []) 1 0 0) echo First.Nothing ∷
    first_of (schedule_in 2 (1 ∷ []) (0 ∷ 3 ∷ 255 ∷ 255 ∷ 0 ∷ 5 ∷ 0 ∷ 0 ∷ []) 1 0 0) echo First.Nothing ∷
    -- Q-5: in V0 a board hears a faulty echo and waits; by rule 1 it is refused, in the forms that P9 leaves out too
    runs (one_echo 0 0 3) echo 0 0 1 (0 ∷ 0 ∷ 0 ∷ 8 ∷ 0 ∷ 0 ∷ 0 ∷ 0 ∷ []) ∷
    runs (one_echo 1 1 1) echo 25 0 0 (0 ∷ 0 ∷ 0 ∷ 0 ∷ 0 ∷ 0 ∷ 0 ∷ 0 ∷ 0 ∷ 0 ∷ 0 ∷ []) ∷
    runs (one_echo 1 2 0) echo 25 0 0 (0 ∷ 0 ∷ 0 ∷ 0 ∷ 0 ∷ 0 ∷ 0 ∷ 0 ∷ []) ∷
    -- where rule 1 asks for t in place of t + 1, the same step is accepted in every form: board 0 is in SE, and one echo is sent
    one_enough ∷
    runs (one_echo 1 1 1) (asking 0) 0 0 1 (2 ∷ 0 ∷ 0 ∷ 0 ∷ 1 ∷ 0 ∷ 0 ∷ 0 ∷ 0 ∷ 1 ∷ 0 ∷ []) ∷
    runs (one_echo 1 2 0) (asking 0) 0 0 1 (2 ∷ 0 ∷ 0 ∷ 1 ∷ 0 ∷ 0 ∷ 1 ∷ 0 ∷ []) ∷
    -- after that wait the next board may hear the faulty echo; where rule 1 asks for t, board 0 goes to SE by itself
    first_of (one_echo 0 0 3) echo (First.Step 1 0 0 3) ∷
    first_of (one_echo 0 0 3) (asking 0) (First.Step 0 1 255 255) ∷
    -- two types and unequal starts, in each form, with the table in front: no two boards, cells or sent words are the same
    runs (pair ++ pair_in 0 senders) echo 0 0 16 (3 ∷ 5 ∷ 6 ∷ 31 ∷ 14 ∷ 4 ∷ 24 ∷ 23 ∷ 0 ∷ 7 ∷ 6 ∷ 0 ∷ []) ∷
    runs (pair ++ pair_in 1 tags) echo 0 0 16 (3 ∷ 5 ∷ 6 ∷ 3 ∷ 2 ∷ 2 ∷ 1 ∷ 1 ∷ 0 ∷ 0 ∷ 2 ∷ 3 ∷ 1 ∷ 0 ∷ 0 ∷ 3 ∷ 2 ∷ 0 ∷ []) ∷
    runs (pair ++ pair_in 2 untold) echo 0 0 16 (3 ∷ 5 ∷ 6 ∷ 5 ∷ 3 ∷ 1 ∷ 2 ∷ 4 ∷ 0 ∷ 3 ∷ 2 ∷ 0 ∷ []) ∷
    -- with the last receipt of type 1, board 2 has three of the four of type 0 that rule 8 asks for
    runs (pair_last 1 0 senders) pair 25 15 15 (3 ∷ 5 ∷ 5 ∷ 31 ∷ 14 ∷ 4 ∷ 24 ∷ 19 ∷ 0 ∷ 7 ∷ 6 ∷ 0 ∷ []) ∷
    runs (pair_last 1 1 tags) pair 25 15 15 (3 ∷ 5 ∷ 5 ∷ 3 ∷ 2 ∷ 2 ∷ 1 ∷ 1 ∷ 0 ∷ 0 ∷ 2 ∷ 2 ∷ 1 ∷ 0 ∷ 0 ∷ 3 ∷ 2 ∷ 0 ∷ []) ∷
    runs (pair_last 1 2 untold) pair 25 15 15 (3 ∷ 5 ∷ 5 ∷ 5 ∷ 3 ∷ 1 ∷ 2 ∷ 3 ∷ 0 ∷ 3 ∷ 2 ∷ 0 ∷ []) ∷
    -- with the first two starts exchanged, rule 2 does not leave board 0's state
    runs (schedule_in 0 (0 ∷ 2 ∷ 1 ∷ []) (0 ∷ 2 ∷ 255 ∷ 255 ∷ []) 5 4 2) pair 22 0 0 (0 ∷ 2 ∷ 1 ∷ 0 ∷ 0 ∷ 0 ∷ 0 ∷ 0 ∷ 0 ∷ 0 ∷ 0 ∷ 0 ∷ []) ∷
    -- between any two forms; senders and tags that are not told come back as the lowest and as the correct one, and leave other words
    translates_to (pair_in 0 senders) pair 1 0 0 75 (pair_in 1 tags) ∷
    translates_to (pair_in 0 senders) pair 2 0 0 75 (pair_in 2 untold) ∷
    translates_to (pair_in 1 tags) pair 0 0 0 75 (pair_in 0 lowest_of_tags) ∷
    translates_to (pair_in 1 tags) pair 2 0 0 75 (pair_in 2 untold) ∷
    translates_to (pair_in 2 untold) pair 1 0 0 75 (pair_in 1 correct_first) ∷
    translates_to (pair_in 2 untold) pair 0 0 0 75 (pair_in 0 lowest_of_correct_first) ∷
    translates_to (pair ++ pair_in 2 untold) echo 0 0 0 169 (pair ++ pair_in 0 lowest_of_correct_first) ∷
    runs (pair_in 0 lowest_of_tags) pair 0 0 16 (3 ∷ 5 ∷ 6 ∷ 31 ∷ 14 ∷ 1 ∷ 24 ∷ 15 ∷ 0 ∷ 7 ∷ 6 ∷ 0 ∷ []) ∷
    runs (pair_in 1 correct_first) pair 0 0 16 (3 ∷ 5 ∷ 6 ∷ 3 ∷ 2 ∷ 2 ∷ 1 ∷ 1 ∷ 0 ∷ 2 ∷ 0 ∷ 3 ∷ 1 ∷ 0 ∷ 0 ∷ 3 ∷ 2 ∷ 0 ∷ []) ∷
    runs (pair_in 0 lowest_of_correct_first) pair 0 0 16 (3 ∷ 5 ∷ 6 ∷ 31 ∷ 14 ∷ 1 ∷ 6 ∷ 15 ∷ 0 ∷ 7 ∷ 6 ∷ 0 ∷ []) ∷
    -- board 0 has all of type 0, and by rule 3 lacks one of type 1: only faulty board 4 can send it
    first_of (pair ++ pair_in 0 senders) echo (First.Step 0 3 1 4) ∷
    first_of (pair ++ pair_in 1 tags) echo (First.Step 0 3 1 1) ∷
    first_of (pair ++ pair_in 2 untold) echo (First.Step 0 3 1 0) ∷ []
