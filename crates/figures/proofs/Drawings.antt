-- Each figure is computed from the definitions.
use mathlib.Core.Path.{refl}
use Rattle.senders.specs.Tally.{count, some, every}
use Rattle.senders.specs.Set.{mem, insert}
use Rattle.threshold.specs.Threshold.{signed_byte, sum_of, rounded_up, threshold_of}
use Rattle.fault.specs.Fault.{◌if◌else◌, ◌▹◌, first_fault}
use Rattle.layout.specs.Layout.{types_in, type_bytes, weight_bytes, divisor_at, weights_at, weights_of}
use Rattle.table.specs.Table.{rule_at, rule_of}
use Rattle.table.specs.Refusals.{counts_outside, too_short, counts_off, distances_off, state_off, no_initial, no_state, divisor_off, forgets, sends_two, state_fault, rule_fault, records_fault, table_fault}
use Rattle.bundle.specs.Bundle.{front_length, table_in_use, starts_of, steps_of, level_of}
use Rattle.bundle.specs.Refusals.{no_trailer, out_of_bundle, not_admitted, steps_off, not_initial, start_fault, schedule_fault, fault_with}
use Rattle.paper.specs.Words.{size, cell_at, sent_at, stopped_at, state, cell, sent, stopped, hear, tell, stop, start}
use Rattle.paper.specs.Form.{wide, slot, bump, coll, shown}
use Rattle.paper.specs.Step.{heard, taken, stepped, malformed, not_in_transit, not_met, take_fault, stop_fault, step_fault}
use Rattle.schedule.specs.Records.{steps_in}
use Rattle.rules.specs.Design.{met_at}
use Rattle.paper.specs.Paper.{kind_of}
use Rattle.paper.specs.Machine.{run_by, follow_all}
use Rattle.engine.specs.Entry.{ran_with, ran_answer, run_answer, run_words}
use Rattle.decimal.specs.Numbers.{decimal, signed}
use Rattle.decimal.specs.Digits.{is_digit, goes_on}
use Rattle.dot.specs.Text.{is_blank, written, head_text, joint_at, numbers_text, label_text, state_text, rule_text, states_text, rules_text, table_text, drawing_of}
use Rattle.dot.specs.Reading.{can_minus, limit, grow, put, new_state, new_rule, next_state, take1, growing, whole, next, ended, onward, run as run_text, reading}
use Rattle.ink.specs.Ink.{given, left}
use Rattle.trailer.specs.Trailer.{trailer_for}
use Rattle.drawing.specs.Entry.{table_of, drawn_fault, drawn_table, draw_answer, draw_bytes, undraw_answer, undraw_bytes}
use Rattle.figures.specs.Case.{Every}
use Rattle.figures.specs.Drawings.{drawings}

pub drawings_hold : Every drawings
unfolding
    count some every mem insert signed_byte sum_of rounded_up threshold_of ◌if◌else◌ ◌▹◌ first_fault types_in type_bytes weight_bytes divisor_at weights_at weights_of rule_at too_short counts_off distances_off state_off no_initial
    no_state divisor_off forgets sends_two rule_of level_of
    state_fault rule_fault records_fault table_fault front_length table_in_use starts_of steps_of no_trailer out_of_bundle not_admitted steps_off not_initial start_fault schedule_fault
    fault_with size cell_at sent_at stopped_at state cell sent stopped hear tell stop start wide slot bump coll shown heard taken stepped malformed not_in_transit not_met take_fault stop_fault step_fault steps_in kind_of run_by follow_all met_at ran_with
    ran_answer run_answer run_words counts_outside
    decimal signed is_blank written head_text joint_at numbers_text label_text state_text rule_text states_text rules_text table_text drawing_of is_digit goes_on can_minus limit grow put new_state new_rule next_state
    take1 growing whole next ended onward run_text reading trailer_for table_of drawn_fault drawn_table given left draw_answer draw_bytes undraw_answer undraw_bytes
drawings_hold = ((refl, refl), ((refl, refl), ((refl, refl), ((refl, refl), ((refl, refl), ((refl, refl), ((refl, refl), ((refl, refl), ((refl, refl), ((refl, refl), ((refl, refl), ((refl, refl), ((refl, refl), ((refl, refl), ((refl, refl), ((refl, refl), ((refl, refl), ((refl, refl), tt))))))))))))))))))
