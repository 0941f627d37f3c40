-- A bundle with its schedule in another form (outline, "Translation"; Q-4): same length, same table, starts and n, t, f.
use Rattle.std.specs.Prelude.{List, ◌++◌, ℕ, ◌-◌, length, set, take, drop}
use Rattle.fault.specs.Bytes.{trailer_of}
use Rattle.bundle.specs.Bundle.{level_of, steps_at, starts_of}
use Rattle.paper.specs.Paper.{Design, Step}
use Rattle.paper.specs.Words.{start}
use Rattle.paper.specs.Form.{wide}
use Rattle.agree.specs.Translation.{moved}
use Rattle.schedule.specs.Records.{bytes_of}
use Rattle.words.specs.declared.Sizes.{Sizes}
use Rattle.engine.specs.Design.{sizes_of, design_with}
use Rattle.engine.specs.Entry.{schedule_of}

-- the bundle with the steps ss in place of its own, and with the form k, which is its last byte
unfoldable pub rewritten : List ℕ → List Step → ℕ → List ℕ
rewritten b ss k = set (take (steps_at b) b ++ (bytes_of ss ++ drop (trailer_of b) b)) (length b - 1) k

-- its first words at level i, whatever level it is at itself
abbrev pub begin_of : Sizes → List ℕ → ℕ → List ℕ
begin_of s b i = start s.types (wide i) (starts_of b)

-- its steps at level i, for a design
abbrev pub moved_by : Sizes → List ℕ → Design → ℕ → List Step
moved_by s b d i = moved s.level i d (begin_of s b) (schedule_of b)

-- the bundle in form i
unfoldable pub translation_with : List ℕ → List ℕ → ℕ → List ℕ
translation_with table b i = rewritten b (moved_by (sizes_of table b) b (design_with table b) (level_of i)) i
