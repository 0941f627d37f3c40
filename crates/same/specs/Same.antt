-- Two tables that say the same, whatever their bytes (Q-8, "any schedule runs the same on both"); and two bundles of which all is the same that the calls look at.
use Rattle.std.specs.Prelude.{◌≡◌, List, ℕ, ◌<◌}
use Rattle.bundle.specs.Refusals.{read_fault}
use Rattle.table.specs.Table.{states_of, rules_of, types_of, factor_of, flags_of, sent_of, from_of, to_of, weights_for}
use Rattle.engine.specs.Design.{sizes_in, design_in}
use Rattle.engine.specs.Entry.{ran_of}

-- the same numbers of states, rules and types, the same k, and of each state and rule that there is the same
pub record SameTable (s s' : List ℕ) : Type 0 where
  pub states : states_of s ≡ states_of s'
  pub rules : rules_of s ≡ rules_of s'
  pub types : types_of s ≡ types_of s'
  pub factor : factor_of s ≡ factor_of s'
  pub flags : (i : ℕ) → i < states_of s → flags_of s i ≡ flags_of s' i
  pub sent : (i : ℕ) → i < states_of s → sent_of s i ≡ sent_of s' i
  pub from : (r : ℕ) → r < rules_of s → from_of s r ≡ from_of s' r
  pub to : (r : ℕ) → r < rules_of s → to_of s r ≡ to_of s' r
  pub weights : (r m : ℕ) → r < rules_of s → m < types_of s → weights_for s r m ≡ weights_for s' r m

-- two bundles, each beside a standing table: the same refusal of reading, sizes, design and run
pub record SameRun (b standing b' standing' : List ℕ) : Type 0 where
  pub fault : read_fault b standing ≡ read_fault b' standing'
  pub sizes : sizes_in b standing ≡ sizes_in b' standing'
  pub design : design_in b standing ≡ design_in b' standing'
  pub ran : ran_of b standing ≡ ran_of b' standing'
