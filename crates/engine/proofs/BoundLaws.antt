-- Every answer's numbers are small, whatever the bytes.
use mathlib.Core.Path.{refl}
use mathlib.Core.List.{List}
use Prim.Native.Nat.{ℕ, ◌/◌, ◌≤◌}
use native.Mathlib.Omega.{arith}
use lib.Dec.{eqb}
use lib.ListN.{length}
use Rattle.fault.specs.Tests.{◌below◌, ◌differs◌}
use Rattle.fault.proofs.FaultLaws.{if_keeps, if_most}
use Rattle.fault.proofs.TestLaws.{same}
use Rattle.bundle.specs.Bundle.{table_in_use, steps_of}
use Rattle.bundle.specs.Refusals.{read_fault}
use Rattle.bundle.specs.Facts.{Read}
use Rattle.bundle.proofs.BundleLaws.{read_by, read-within}
use Rattle.schedule.proofs.RecordLaws.{length-steps}
use Rattle.paper.proofs.RunLaws.{RanWithin, run-within}
use Rattle.fault.specs.declared.Answer.{Answer}
use Rattle.engine.specs.Design.{sizes_of, design_with, sizes_in}
use Rattle.words.specs.Words.{room_of}
use Rattle.engine.specs.Entry.{schedule_of, start_in, ran_with, ran_of, ran_answer, run_answer}

-- refusals go to 31, places and a schedule's steps to 4,096; a count to n
pub record AnswerWithin (n : ℕ) (a : Answer) : Type 0 where
  pub refusal : a.refusal ≤ 31
  pub place : a.place ≤ 4096
  pub count : a.count ≤ n

pub schedule-few : (t b : List ℕ) → Read t b → length (schedule_of b) ≤ 4096
schedule-few t b R =
    let l = R.parted.steps_long in
    let e = length-steps (length (steps_of b) / 4) (steps_of b) (omega (arith, R.parted.whole_steps)) in
    omega (arith, R.parted.few_steps)

pub ran-within : (t b : List ℕ) → Read t b → RanWithin 4096 (ran_with t b)
unfolding ran_with
ran-within t b R =
    let W = run-within (sizes_of t b).level (design_with t b) (start_in (sizes_of t b) b) (schedule_of b) in
    record { accepted = omega (arith, W.accepted, schedule-few t b R); refusal = W.refusal }

pub run-answer-within : (b standing : List ℕ) (lent : ℕ) → AnswerWithin 4096 (run_answer b standing lent)
unfolding run_answer ran_answer
run-answer-within b standing lent =
    if_keeps (AnswerWithin 4096) _ ((read_fault b standing).number differs 0) _
    (λ _. let W = read-within (table_in_use b standing) b in record { refusal = omega (arith, W.number); place = omega (arith, W.place); count = omega arith })
    (λ e. if_keeps (AnswerWithin 4096) _ (lent below room_of (sizes_in b standing)) _
    (λ _. record { refusal = omega arith; place = omega arith; count = omega arith })
    (λ _. let W = ran-within (table_in_use b standing) b (read_by b standing refl (same _ 0 e) refl) in
    record { refusal = omega (arith, W.refusal); place = if_most (eqb (ran_of b standing).refusal 0) (omega arith) W.accepted; count = W.accepted }))
