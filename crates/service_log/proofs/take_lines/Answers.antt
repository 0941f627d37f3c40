-- The loop keeps that the refusal, the steps and what is written from here on, after the lines before, are those of the log; what the line at hand is
-- decides the turn.
use Rattle.service_log.proofs.LinesLaws.{taking_none, taking_end, taking_other, taking_more, taking_long, taking_full}
use Rattle.service_log.proofs.take_lines.Goals as goal

pub loop-place-init : goal.loop-place-init
loop-place-init c = taking_none _ _

pub returns-in-End : goal.returns-in-End
returns-in-End c = let t = taking_end c.loop-place.invariant c.in-End.ensures in
    record { number_value = (t.fault, t.count); out_after = t.written }

pub returns-in-Other : goal.returns-in-Other
returns-in-Other c = let t = taking_other c.loop-place.invariant c.loop-place-test.true c.in-Other.ensures in
    record { number_value = (t.fault, t.count); out_after = t.written }

pub put_step-requires : goal.put_step-requires
put_step-requires c = let s = c.in-Said.ensures.1.1 in
    (c.loop-place-test.true, s.board, s.rule, s.type, s.source)

pub loop-place-preserved : goal.loop-place-preserved
loop-place-preserved c = taking_more c.loop-place.invariant c.loop-place-test.true _ _ _ c.in-Said.ensures c.put_step.ensures

pub returns-then-at-log : goal.returns-then-at-log
returns-then-at-log c = let t = taking_long c.loop-place.invariant c.loop-place-test.false c.if-at-log.true in record { number_value = (t.fault, t.count); out_after = t.written }

pub returns : goal.returns
returns c = let t = taking_full c.loop-place.invariant c.loop-place-test.false c.if-at-log.false in record { number_value = (t.fault, t.count); out_after = t.written }
