-- From bytes to the paper: what a table with n, t, f comes to, as a design.
use Rattle.std.specs.Prelude.{Bool, ◌&&◌, List, ℕ, ◌+◌, ℤ}
use Rattle.senders.specs.Tally.{least}
use Rattle.senders.specs.Set.{mem, missing}
use Rattle.threshold.specs.Threshold.{threshold_of, met_by, least_of}
use Rattle.table.specs.Table as table
use Rattle.fault.specs.Tests.{◌below◌}
use Rattle.fault.specs.Fault.{◌if◌else◌}
use Rattle.table.specs.Table.{states_of, initial_of, accepting_of, from_of, to_of, weights_for}
use Rattle.paper.specs.Paper.{Design}
use Rattle.words.specs.declared.Sizes.{Sizes}

-- the threshold of rule r for type m
abbrev pub threshold_for : List ℕ → ℕ → ℕ → ℕ → ℕ → ℤ
threshold_for table r m n t = threshold_of (weights_for table r m) n t

unfoldable pub met_at : List ℕ → ℕ → ℕ → ℕ → ℕ → ℕ → Bool
met_at table r m n t count = met_by count (threshold_for table r m n t)

-- the least count that meets it
abbrev pub least_at : List ℕ → ℕ → ℕ → ℕ → ℕ → ℕ
least_at table r m n t = least_of (threshold_for table r m n t)

-- the type that rule r sends: the lowest that its end has sent and its start has not; T where there is none
abbrev pub sends_of : ℕ → List ℕ → ℕ → ℕ
sends_of T tab r = least T (missing (table.sent_of tab (to_of tab r)) (table.sent_of tab (from_of tab r)))

-- the design: n is the correct boards and the faulty ones. Of a state, a rule or a type that there is not it says nothing, whatever bytes stand
-- there: tables that say the same have one design
abbrev pub design_of : Sizes → ℕ → List ℕ → Design
design_of s t tab = record {
  boards = s.correct;
  faulty = s.faulty;
  tolerated = t;
  types = s.types;
  rules = s.rules;
  initial = λ i. i below states_of tab && initial_of tab i;
  accepting = λ i. i below states_of tab && accepting_of tab i;
  has_sent = λ i m. i below states_of tab && mem (table.sent_of tab i) m;
  from = λ r. from_of tab r if r below s.rules else 0;
  to = λ r. to_of tab r if r below s.rules else 0;
  met = λ r m c. r below s.rules && m below s.types && met_at tab r m (s.correct + s.faulty) t c;
}
