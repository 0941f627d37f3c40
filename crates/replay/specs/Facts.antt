-- What the room for a log's steps is made of.
use Rattle.std.specs.Prelude.{◌≡◌, List, ℕ}
use Rattle.bundle.specs.Bundle.{step_distance, correct_of}
use Rattle.bundle.specs.Facts.{Read}
use Rattle.words.specs.declared.Sizes.{Sizes}

-- a bundle without steps that was read, whatever its table, with a board of the numbers for each start
pub record Blank (s : Sizes) (b : List ℕ) : Type 0 where
  pub table : List ℕ
  pub read : Read table b
  pub correct : s.correct ≡ correct_of b
  pub none : step_distance b ≡ 0
