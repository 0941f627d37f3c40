-- What the functions on words may count on.
use Rattle.std.specs.Prelude.{◌≡◌, List, ℕ, ◌+◌, ◌*◌, ◌≤◌, ◌<◌, length, get_or}
use Rattle.paper.specs.Words.{stopped_at}
use Rattle.paper.specs.Form.{wide}
use Rattle.words.specs.declared.Sizes.{Sizes}
use Rattle.words.specs.Words.{column_in, room_of}

-- the numbers are small enough, and those of the places are as the level says
pub record Bounded (s : Sizes) : Type 0 where
  pub boards : s.correct + s.faulty ≤ 64
  pub types : s.types ≤ 4
  pub rules : s.rules ≤ 64
  pub wide : s.wide ≡ wide s.level
  pub row : s.row ≡ s.types * s.wide

-- what the level's functions count on
abbrev pub Leveled : Sizes → Type 0
Leveled s = (s.correct + s.faulty ≤ 64) × (s.wide ≡ wide s.level)

-- no word of a configuration that counts is over the first number after a schedule
abbrev pub at_end : ℕ
at_end = 10000

-- nor over the next between steps, nor over the last within one: far more than 4,096 steps can count, and sums of a few such words fit
abbrev pub at_rest : ℕ
at_rest = 900000

abbrev pub in_step : ℕ
in_step = 1000000

-- the most words that a configuration has: 64 states, 64 · 4 cells of two words, 4 sent, the stopped boards
abbrev pub most_words : ℕ
most_words = 581

-- the words are as many as a configuration has, and in the levels that count none is over k but the last, which is a set in every level
pub record Holds (s : Sizes) (k : ℕ) (w : List ℕ) : Type 0 where
  pub fits : length w ≡ room_of s
  pub small : (s.level ≡ 0 → ⊥) → (i : ℕ) → i < stopped_at s.correct s.types (wide s.level) → get_or w i 0 ≤ k

-- a board and a type that there are
pub record At (s : Sizes) (p m : ℕ) : Type 0 where
  pub board : p < s.correct
  pub type : m < s.types

-- and a source
pub record Sourced (s : Sizes) (q : ℕ) : Type 0 where
  pub below : q < (column_in s).sources

-- what a step does to the bound: a receipt and a send add one each, and a state is a byte
abbrev pub Grown : Sizes → List ℕ → List ℕ → Type 0
Grown s w w' = (k : ℕ) → 256 ≤ k → Holds s k w → Holds s (k + 2) w'
