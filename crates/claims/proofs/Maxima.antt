-- The maxima: that each is enough is a law about what was accepted, that it is reached is computed.
use mathlib.Core.Path.{◌≡◌, refl}
use mathlib.Core.List.{[]}
use native.Mathlib.Omega.{arith}
use lib.ListN.{length}
use Rattle.senders.specs.Tally.{count, some}
use Rattle.senders.specs.Set.{mem}
use Rattle.fault.specs.Fault.{◌if◌else◌, ◌▹◌, first_fault}
use Rattle.layout.specs.Layout.{types_in, type_bytes, weight_bytes, divisor_at, weights_at, weights_of}
use Rattle.table.specs.Table.{rule_at, rule_of}
use Rattle.table.specs.Refusals.{counts_outside, too_short, counts_off, distances_off, state_off, no_initial, no_state, divisor_off, forgets, sends_two, state_fault, rule_fault, records_fault, table_fault}
use Rattle.table.proofs.TableLaws.{well_formed, table-short}
use Rattle.bundle.specs.Bundle.{front_length, table_in_use, starts_of, level_of}
use Rattle.bundle.specs.Refusals.{read_fault, no_trailer, out_of_bundle, not_admitted, steps_off, not_initial, start_fault, schedule_fault, fault_with}
use Rattle.bundle.proofs.BundleLaws.{read_by, read_short}
use Rattle.paper.specs.Words.{size}
use Rattle.paper.specs.Form.{wide}
use Rattle.decimal.specs.Numbers.{decimal, signed}
use Rattle.dot.specs.Text.{written, head_text, joint_at, numbers_text, label_text, state_text, rule_text, states_text, rules_text, table_text, drawing_of}
use Rattle.claims.specs.Demand1.{room_in}
use Rattle.claims.proofs.Demand1.{room-few}
use Rattle.claims.proofs.LongestDrawing.{drawing-few}
use Rattle.claims.specs.Maxima.{largest, longest, Maxima}

-- ---- the table
table-accepted : (table_fault largest).number ≡ 0
unfolding
    count some mem ◌if◌else◌ ◌▹◌ first_fault types_in type_bytes weight_bytes divisor_at weights_at weights_of rule_at rule_of counts_outside too_short counts_off distances_off state_off no_initial no_state divisor_off forgets sends_two state_fault rule_fault records_fault table_fault
table-accepted = refl

table-long : length largest ≡ 1192
table-long = refl

drawing-long : length (drawing_of largest) ≡ 6286
unfolding decimal signed ◌if◌else◌ types_in type_bytes weight_bytes written head_text joint_at numbers_text label_text state_text rule_text states_text rules_text table_text drawing_of
drawing-long = refl

-- ---- the bundle
bundle-read : (read_fault longest []).number ≡ 0
unfolding
    count some mem ◌if◌else◌ ◌▹◌ first_fault types_in type_bytes weight_bytes divisor_at weights_at weights_of rule_at rule_of counts_outside too_short counts_off distances_off state_off no_initial no_state divisor_off forgets sends_two state_fault rule_fault records_fault table_fault
    front_length table_in_use starts_of no_trailer out_of_bundle not_admitted steps_off not_initial start_fault schedule_fault fault_with
bundle-read = refl

bundle-room : room_in longest [] ≡ 581
unfolding ◌if◌else◌ types_in front_length table_in_use level_of wide size
bundle-room = refl

bundle-long : length longest ≡ 17648
bundle-long = refl

pub maxima : Maxima
maxima = record {
  words = λ b standing z. room-few b standing 581 z (omega arith);
  table = λ s z. omega (arith, table-short s (well_formed s z).sized);
  drawing = λ s z. omega (arith, drawing-few s (well_formed s z));
  bundle = λ b standing z. omega (arith, read_short b standing (read_by b standing refl z refl));
  words_reached = (bundle-read, bundle-room);
  table_reached = (table-accepted, table-long);
  drawing_reached = drawing-long;
  bundle_reached = bundle-long;
}
