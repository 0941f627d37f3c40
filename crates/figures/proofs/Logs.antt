-- Each figure is computed from the definitions.
use mathlib.Core.Path.{refl}
use Rattle.senders.specs.Tally.{count, some, every}
use Rattle.senders.specs.Set.{mem, insert}
use Rattle.threshold.specs.Threshold.{signed_byte, sum_of, rounded_up, threshold_of}
use Rattle.fault.specs.Fault.{◌if◌else◌, ◌▹◌, first_fault}
use Rattle.layout.specs.Layout.{types_in, type_bytes, weight_bytes, divisor_at, weights_at, weights_of}
use Rattle.table.specs.Table.{rule_at, rule_of}
use Rattle.table.specs.Refusals.{counts_outside, too_short, counts_off, distances_off, state_off, no_initial, no_state, divisor_off, forgets, sends_two, state_fault, rule_fault, records_fault, table_fault}
use Rattle.bundle.specs.Bundle.{front_length, table_in_use, starts_of, steps_of, level_of}
use Rattle.bundle.specs.Refusals.{no_trailer, out_of_bundle, not_admitted, steps_off, not_initial, start_fault, schedule_fault, fault_with}
use Rattle.paper.specs.Words.{size, cell_at, sent_at, stopped_at, state, cell, sent, stopped, hear, tell, stop, start}
use Rattle.paper.specs.Form.{wide, slot, bump, coll, shown}
use Rattle.paper.specs.Step.{heard, taken as rule_taken, stepped, malformed, not_in_transit, not_met, take_fault, stop_fault, step_fault}
use Rattle.schedule.specs.Records.{steps_in, bytes_of}
use Rattle.rules.specs.Design.{met_at}
use Rattle.paper.specs.Paper.{kind_of}
use Rattle.paper.specs.Machine.{run_by, follow_all}
use Rattle.engine.specs.Entry.{ran_with, ran_answer, run_answer, run_words}
use Rattle.decimal.specs.Numbers.{decimal}
use Rattle.decimal.specs.Digits.{is_digit, goes_on, peeked, longest}
use Rattle.service_log.specs.Line.{message_of, line_of, log_of}
use Rattle.service_log.specs.Said.{begins, counted, numbered, ends, ended as feed_ended, hearing, said_by}
use Rattle.service_log.specs.Lines.{judged, fault_from, taken, steps_from}
use Rattle.replay.specs.Made.{raised, made}
use Rattle.replay.specs.Entry.{not_empty, no_room, replay_fault, replay_answer, replay_bytes, replay_words}
use Rattle.figures.specs.Case.{Every}
use Rattle.figures.specs.Logs.{logs}

pub logs_hold : Every logs
unfolding
    count some every mem insert signed_byte sum_of rounded_up threshold_of ◌if◌else◌ ◌▹◌ first_fault types_in type_bytes weight_bytes divisor_at weights_at weights_of rule_at too_short counts_off distances_off state_off no_initial
    no_state divisor_off forgets sends_two rule_of level_of
    state_fault rule_fault records_fault table_fault front_length table_in_use starts_of steps_of no_trailer out_of_bundle not_admitted steps_off not_initial start_fault schedule_fault
    fault_with size cell_at sent_at stopped_at state cell sent stopped hear tell stop start wide slot bump coll shown heard rule_taken stepped malformed not_in_transit not_met take_fault stop_fault step_fault steps_in bytes_of kind_of run_by follow_all met_at ran_with
    ran_answer run_answer run_words counts_outside
    decimal is_digit goes_on peeked longest message_of line_of log_of begins counted numbered ends feed_ended hearing said_by judged fault_from taken steps_from raised made not_empty no_room replay_fault replay_answer replay_bytes replay_words
logs_hold = ((refl, refl, refl), ((refl, refl, refl), ((refl, refl, refl), ((refl, refl, refl), ((refl, refl, refl), ((refl, refl, refl), ((refl, refl, refl), ((refl, refl, refl), ((refl, refl, refl), ((refl, refl, refl), ((refl, refl, refl), ((refl, refl, refl), ((refl, refl, refl), ((refl, refl, refl), ((refl, refl, refl), (refl, (refl, (refl, ((refl, refl, refl), ((refl, refl, refl), ((refl, refl, refl), ((refl, refl, refl), ((refl, refl, refl), tt)))))))))))))))))))))))
