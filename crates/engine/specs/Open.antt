-- The one beginning of a call: a bundle is read, and where it is not refused, its numbers and its rules are ready for stepping.
use Rattle.std.specs.Prelude.{◌≡◌, List, ℕ}
use Rattle.fault.specs.Fault.{Verdict}
use Rattle.bundle.specs.Bundle.{correct_of, table_in_use}
use Rattle.bundle.specs.Refusals.{read_fault}
use Rattle.bundle.specs.Facts.{Trailed, Parted, Read}
use Rattle.words.specs.declared.Sizes.{Sizes}
use Rattle.words.specs.Facts.{Bounded}
use Rattle.rules.specs.Kept.{Kept}
use Rattle.engine.specs.Design.{sizes_in, design_in}

-- what a bundle that was read gives, with its table in use
pub record Ready (b standing : List ℕ) (s : Sizes) (ends leasts : List ℕ) : Type 0 where
  pub read : Read (table_in_use b standing) b
  pub sizes : s ≡ sizes_in b standing
  pub bounded : Bounded s
  pub kept : Kept (design_in b standing) s ends leasts

pub record Opens (b standing : List ℕ) (v : Verdict) (s : Sizes) (ends leasts : List ℕ) : Type 0 where
  pub same : v ≡ read_fault b standing
  pub ready : v.number ≡ 0 → Ready b standing s ends leasts

-- a bundle whose starts and steps lie where its trailer says, with a start for each board of the numbers
pub record Parts (s : Sizes) (b : List ℕ) : Type 0 where
  pub trailed : Trailed b
  pub parted : Parted b
  pub correct : s.correct ≡ correct_of b
