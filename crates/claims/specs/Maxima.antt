-- The four maxima of crates/capi/macaroosh.h: whatever is accepted has at most so many words and bytes, and some table and some bundle have
-- as many. Proofs: proofs/Maxima.antt.
use Rattle.std.specs.Prelude.{◌≡◌, List, [], ◌∷◌, ◌++◌, ℕ, zero, suc, ◌≤◌, length, replicate}
use Rattle.table.specs.Refusals.{table_fault}
use Rattle.bundle.specs.Refusals.{read_fault}
use Rattle.dot.specs.Text.{drawing_of}
use Rattle.claims.specs.Demand1.{room_in}

-- the bytes w, n times over
abbrev times : ℕ → List ℕ → List ℕ
times zero w = []
times (suc n) w = w ++ times n w

-- a table of 16 states, 64 rules and 4 types, in the second edition. State 15 is initial and has sent nothing; the others have sent all four types. Each rule goes
-- from state 15 to state 15; its a, b, d are -128, and e is 8. The distances are 1,184 and 1,152
abbrev pub largest : List ℕ
largest = times 15 (0 ∷ 15 ∷ []) ++ (1 ∷ 0 ∷ []) ++ times 64 (15 ∷ 15 ∷ times 4 (128 ∷ 128 ∷ 128 ∷ 8 ∷ [])) ++ (160 ∷ 4 ∷ 128 ∷ 4 ∷ 16 ∷ 64 ∷ 20 ∷ 8 ∷ [])

-- a bundle with this table in front: 64 boards, all of them correct and in state 15, 4,096 waits of board 0, counting form. The distances are
-- 16,384 and 16,448
abbrev pub longest : List ℕ
longest = largest ++ replicate 64 15 ++ times 4096 (0 ∷ 0 ∷ 255 ∷ 255 ∷ []) ++ (0 ∷ 64 ∷ 64 ∷ 64 ∷ 64 ∷ 0 ∷ 0 ∷ 1 ∷ [])

pub record Maxima : Type 0 where
  -- so many are enough: words of a configuration, bytes of a table, of its drawing and of a bundle
  pub words : (b standing : List ℕ) → (read_fault b standing).number ≡ 0 → room_in b standing ≤ 581
  pub table : (s : List ℕ) → (table_fault s).number ≡ 0 → length s ≤ 1192
  pub drawing : (s : List ℕ) → (table_fault s).number ≡ 0 → length (drawing_of s) ≤ 6286
  pub bundle : (b standing : List ℕ) → (read_fault b standing).number ≡ 0 → length b ≤ 17648
  -- and they are reached, all four by one bundle that is read and its table
  pub words_reached : ((read_fault longest []).number ≡ 0) × (room_in longest [] ≡ 581)
  pub table_reached : ((table_fault largest).number ≡ 0) × (length largest ≡ 1192)
  pub drawing_reached : length (drawing_of largest) ≡ 6286
  pub bundle_reached : length longest ≡ 17648
