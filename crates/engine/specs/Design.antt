-- The numbers of a bundle and its table, and the design that they come to.
use Rattle.std.specs.Prelude.{List, ℕ, ◌*◌}
use Rattle.table.specs.Table.{rules_of, types_of}
use Rattle.bundle.specs.Bundle.{t_of, f_of, form_of, level_of, correct_of, table_in_use}
use Rattle.paper.specs.Paper.{Design}
use Rattle.paper.specs.Form.{wide}
use Rattle.words.specs.declared.Sizes.{Sizes}
use Rattle.rules.specs.Design.{design_of}

-- the numbers that stepping goes by, from the trailers of the table and the bundle
abbrev pub sizes_of : List ℕ → List ℕ → Sizes
sizes_of table b = record { level = level_of (form_of b); correct = correct_of b; faulty = f_of b; types = types_of table; rules = rules_of table; wide = wide (level_of (form_of b)); row = types_of table * wide (level_of (form_of b)); tolerated = t_of b }

abbrev pub design_with : List ℕ → List ℕ → Design
design_with table b = design_of (sizes_of table b) (t_of b) table

-- ---- beside a standing table
abbrev pub sizes_in : List ℕ → List ℕ → Sizes
sizes_in b standing = sizes_of (table_in_use b standing) b

abbrev pub design_in : List ℕ → List ℕ → Design
design_in b standing = design_with (table_in_use b standing) b
