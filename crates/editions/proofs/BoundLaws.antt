-- Every answer's numbers are small: refusals to 33, places to 64, and a moved table is no longer than the longest.
use mathlib.Core.Path.{◌≡◌, refl}
use mathlib.Core.Bool.{Bool, false, not}
use mathlib.Core.List.{List}
use Prim.Native.Nat.{ℕ, ◌+◌, ◌-◌, ◌≤◌}
use native.Mathlib.Decide.{ℕ_discrete}
use native.Mathlib.Omega.{arith}
use lib.ListN.{length}
use borrow.Author.Tests.{eq-eqb, ne_eqb}
use Rattle.fault.specs.Fault.{Verdict}
use Rattle.fault.specs.Fault.{fine, refused, ◌if◌else◌, ◌▹◌, first_fault}
use Rattle.fault.proofs.FaultLaws.{Clean, Within, if_passed, if_most, check_within, then_clean, then_within, first-within as firsts-within}
use Rattle.layout.specs.Layout.{second, second_of, types_in}
use Rattle.table.specs.Table.{states_of, rules_of, types_byte, types_of, most_table}
use Rattle.table.specs.Refusals.{table_fault}
use Rattle.table.specs.Facts.{Sized}
use Rattle.table.proofs.TableLaws.{well_formed, table-within, records_short}
use Rattle.ink.proofs.GivenLaws.{GivenWithin, given-within}
use Rattle.editions.specs.Moved.{moved_to}
use Rattle.editions.specs.Entry.{rule_divides, to_second_fault, to_first_fault, to_second_answer, to_first_answer}
use Rattle.editions.proofs.MovedLaws.{moved_length}
use Rattle.editions.proofs.EntryLaws.{up-types, down-types}

moved-short : (byte : ℕ) (s : List ℕ) → Sized s → types_in byte ≡ types_of s → length (moved_to byte s) ≤ most_table
moved-short byte s Z e =
    omega (arith, moved_length byte s Z e, records_short (states_of s) (rules_of s) byte Z.few_states Z.few_rules (rw e Z.few_types))

already : (t : Bool) → Clean (refused 33 if t else fine) → t ≡ false
already t h = (if_passed Clean (refused 33) t fine (λ z. omega arith) h).0

module _ (s : List ℕ) where
  -- after the table's own, where that refuses nothing
  own-within : (v : Verdict) → (Clean (table_fault s) → Within 33 64 v) → Within 33 64 (table_fault s ▹ v)
  unfolding ◌▹◌
  own-within v h = go (ℕ_discrete (table_fault s).number 0)
    where
      go : Dec ((table_fault s).number ≡ 0) → Within 33 64 (table_fault s ▹ v)
      go (yes z) = rw (eq-eqb (table_fault s).number 0 z) (h z)
      go (no z) = rw (ne_eqb (table_fault s).number 0 z) (let W = table-within s in record { number = omega (arith, W.number); place = W.place })

  already-within : (t : Bool) → Within 33 64 (refused 33 if t else fine)
  already-within t = check_within t (omega arith) (λ _. record { number = omega arith; place = omega arith })

  pub second-within : (lent : ℕ) → GivenWithin 33 64 most_table (to_second_answer s lent)
  unfolding to_second_answer to_second_fault
  second-within lent =
      given-within 30 33 64 most_table _ (moved_to (types_byte s + second) s) lent (omega arith) (own-within _ (λ _. already-within (second_of (types_byte s))))
      (λ z. let c = then_clean (table_fault s) _ z in
      moved-short (types_byte s + second) s (well_formed s c.0).sized (up-types s refl refl (already (second_of (types_byte s)) c.1)))

  divides_most : (r : ℕ) → rule_divides s r ≤ 33
  unfolding rule_divides
  divides_most r = if_most _ (omega arith) (omega arith)

  pub first-within : (lent : ℕ) → GivenWithin 33 64 most_table (to_first_answer s lent)
  unfolding to_first_answer to_first_fault
  first-within lent =
      given-within 30 33 64 most_table _ (moved_to (types_byte s - second) s) lent (omega arith)
      (own-within _ (λ c. then_within (firsts-within 33 64 (rule_divides s) divides_most (rules_of s) (well_formed s c).sized.few_rules) (already-within (not (second_of (types_byte s))))))
      (λ z. let c = then_clean (table_fault s) _ z in
      let d = then_clean (first_fault (rule_divides s) (rules_of s)) _ c.1 in
      moved-short (types_byte s - second) s (well_formed s c.0).sized (down-types s (well_formed s c.0).sized refl refl (already (not (second_of (types_byte s))) d.1)))
