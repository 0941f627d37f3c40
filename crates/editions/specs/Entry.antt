-- What `to_second` and `to_first` answer and leave, for every table and lent bytes (Q-8, "Refusals: 32 .. 33 .. 30 .. after the table's own").
use Rattle.std.specs.Prelude.{Bool, not, List, ℕ, ◌+◌, ◌-◌}
use Rattle.senders.specs.Tally.{some}
use Rattle.fault.specs.Fault.{Verdict}
use Rattle.fault.specs.declared.Answer.{Answer}
use Rattle.fault.specs.Tests.{◌differs◌}
use Rattle.fault.specs.Fault.{fine, refused, ◌if◌else◌, ◌▹◌, first_fault}
use Rattle.layout.specs.Layout.{second, second_of, weights_of}
use Rattle.table.specs.Table.{rules_of, types_byte, types_of, rule_of}
use Rattle.table.specs.Refusals.{table_fault}
use Rattle.ink.specs.Ink.{given, left}
use Rattle.editions.specs.Moved.{moved_to}

-- 32, of a rule: an e other than 1
abbrev pub divided_by : ℕ → List ℕ → ℕ → Bool
divided_by byte rule m = (weights_of byte rule m).e differs 1

unfoldable pub rule_divides : List ℕ → ℕ → ℕ
rule_divides s r = 32 if some (types_of s) (divided_by (types_byte s) (rule_of s r)) else 0

-- ---- in order, after the table's own: 32, going back, the lowest such rule; 33, the table is in that edition already
unfoldable pub to_second_fault : List ℕ → Verdict
to_second_fault s = table_fault s ▹ (refused 33 if second_of (types_byte s) else fine)

unfoldable pub to_first_fault : List ℕ → Verdict
to_first_fault s = table_fault s ▹ first_fault (rule_divides s) (rules_of s) ▹ (refused 33 if not (second_of (types_byte s)) else fine)

-- ---- the two calls; 30: lent bytes fewer than the bytes needed
unfoldable pub to_second_answer : List ℕ → ℕ → Answer
to_second_answer s lent = given 30 (to_second_fault s) (moved_to (types_byte s + second) s) lent

unfoldable pub to_second_bytes : List ℕ → List ℕ → List ℕ
to_second_bytes s out = left (to_second_fault s) (moved_to (types_byte s + second) s) out

unfoldable pub to_first_answer : List ℕ → ℕ → Answer
to_first_answer s lent = given 30 (to_first_fault s) (moved_to (types_byte s - second) s) lent

unfoldable pub to_first_bytes : List ℕ → List ℕ → List ℕ
to_first_bytes s out = left (to_first_fault s) (moved_to (types_byte s - second) s) out
