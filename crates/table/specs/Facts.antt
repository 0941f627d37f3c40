-- What a table that is not refused gives to the stages above, as named facts. They follow from `table_fault`: proofs/TableLaws.antt.
use Rattle.std.specs.Prelude.{◌≡◌, true, false, List, ℕ, ◌+◌, ◌^◌, ◌≤◌, ◌<◌, length}
use Rattle.senders.specs.Tally.{count, some}
use Rattle.senders.specs.Set.{missing}
use Rattle.fault.specs.Bytes.{trailer_bytes}
use Rattle.table.specs.Table.{states_of, rules_of, types_of, factor_of, most_states, most_rules, most_factor, flags_of, initial_of, sent_of, types_byte, records_bytes, from_of, to_of, rule_of}
use Rattle.layout.specs.Layout.{most_types, Divides}

-- counts that a table may have (refusal 2)
pub record CountsFit (states rules types factor : ℕ) : Type 0 where
  pub some_state : 1 ≤ states
  pub few_states : states ≤ most_states
  pub some_rule : 1 ≤ rules
  pub few_rules : rules ≤ most_rules
  pub some_type : 1 ≤ types
  pub few_types : types ≤ most_types
  pub some_factor : 1 ≤ factor
  pub few_factor : factor ≤ most_factor

-- its sizes (refusals 1 to 3)
pub record Sized (s : List ℕ) : Type 0 where
  pub long : trailer_bytes ≤ length s
  pub some_state : 1 ≤ states_of s
  pub few_states : states_of s ≤ most_states
  pub some_rule : 1 ≤ rules_of s
  pub few_rules : rules_of s ≤ most_rules
  pub some_type : 1 ≤ types_of s
  pub few_types : types_of s ≤ most_types
  pub some_factor : 1 ≤ factor_of s
  pub few_factor : factor_of s ≤ most_factor
  pub whole : length s ≡ records_bytes (states_of s) (rules_of s) (types_byte s) + trailer_bytes

-- a state (refusal 4)
pub record StateFits (s : List ℕ) (i : ℕ) : Type 0 where
  pub flags : flags_of s i ≤ 3
  pub sent : sent_of s i < 2 ^ types_of s
  pub fresh : initial_of s i ≡ true → sent_of s i ≡ 0

-- a rule's ends (refusal 6)
pub record RuleEnds (s : List ℕ) (r : ℕ) : Type 0 where
  pub from : from_of s r < states_of s
  pub to : to_of s r < states_of s

-- a rule (refusals 6 to 9): the paper's assumptions A1, nothing is forgotten, and A2, at most one new type
pub record RuleFits (s : List ℕ) (r : ℕ) : Type 0 where
  pub ends : RuleEnds s r
  pub divides : Divides (types_byte s) (rule_of s r)
  pub keeps : (m : ℕ) → m < types_of s → missing (sent_of s (from_of s r)) (sent_of s (to_of s r)) m ≡ false
  pub one_new : count (types_of s) (missing (sent_of s (to_of s r)) (sent_of s (from_of s r))) ≤ 1

pub record WellFormed (s : List ℕ) : Type 0 where
  pub sized : Sized s
  pub state : (i : ℕ) → i < states_of s → StateFits s i
  pub some_initial : some (states_of s) (initial_of s) ≡ true
  pub rule : (r : ℕ) → r < rules_of s → RuleFits s r
