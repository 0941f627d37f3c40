-- The loop keeps that the refusal, the steps and what is written from here on, after the lines before, are those of the log; what the line at hand is
-- decides the turn.
use Rattle.service_log.proofs.LinesLaws.{Taking}
use Rattle.service_log.proofs.take_lines.Given as goal

abbrev pub invariant-loop-place : goal.invariant-loop-place
invariant-loop-place l = Taking l.log l.initial.out l.at l.place l.out
