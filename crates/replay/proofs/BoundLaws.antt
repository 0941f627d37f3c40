-- Every answer's numbers are small, whatever the bytes.
use mathlib.Core.List.{List}
use Prim.Native.Nat.{ℕ, zero, suc, ◌+◌, ◌≤◌}
use native.Mathlib.Omega.{arith}
use lib.Dec.{eqb}
use lib.ListN.{length}
use Rattle.fault.specs.Fault.{Verdict}
use Rattle.fault.specs.declared.Answer.{Answer}
use Rattle.fault.specs.Bytes.{most_steps}
use Rattle.fault.specs.Tests.{◌differs◌}
use Rattle.fault.proofs.FaultLaws.{if_keeps, Within, check_within, then_within}
use Rattle.bundle.specs.Bundle.{table_in_use}
use Rattle.bundle.proofs.BundleLaws.{read-within}
use Rattle.service_log.specs.Said.{Said, nothing, said, said_by}
use Rattle.service_log.specs.Lines.{judged, fault_from}
use Rattle.engine.proofs.BoundLaws.{run-answer-within}
use Rattle.replay.specs.Entry.{not_empty, made_of, no_room, replay_fault, replay_answer}

wider : {k p k' p' : ℕ} {v : Verdict} → k ≤ k' → p ≤ p' → Within k p v → Within k' p' v
wider l m W = record { number = omega (arith, W.number); place = omega (arith, W.place) }

-- a log's refusal is 50 or 51, at a line that it has room for or the next
log_within : (n i : ℕ) (t : List ℕ) → i + n ≤ most_steps → Within 52 most_steps (fault_from n i t)
unfolding fault_from judged
log_within zero i t l = if_keeps (Within 52 most_steps) _ (eqb (length t) 0) _ (λ _. record { number = omega arith; place = omega arith }) (λ _. record { number = omega arith; place = omega (arith, l) })
log_within (suc n) i t l =
    if_keeps (Within 52 most_steps) _ (eqb (length t) 0) _ (λ _. record { number = omega arith; place = omega arith })
    (λ _. by (said_by t) (λ u. log_within n (i + 1) u (omega (arith, l))))
  where
    by : (x : Said) → ((u : List ℕ) → Within 52 most_steps (fault_from n (i + 1) u)) → Within 52 most_steps (judged i x (fault_from n (i + 1)))
    by nothing f = record { number = omega arith; place = omega (arith, l) }
    by (said s u) f = f u

fault-within : (b standing log : List ℕ) (bytes words : ℕ) → Within 52 most_steps (replay_fault b standing log bytes words)
unfolding replay_fault
fault-within b standing log bytes words =
    then_within (wider (omega arith) (omega arith) (read-within (table_in_use b standing) b))
    (check_within (not_empty b) (omega arith) (λ _. then_within (log_within most_steps 0 log (omega arith))
    (check_within (no_room b standing log bytes words) (omega arith) (λ _. record { number = omega arith; place = omega arith }))))

-- refusals go to 52, places and steps to 4,096
pub record ReplayWithin (a : Answer) : Type 0 where
  pub refusal : a.refusal ≤ 52
  pub place : a.place ≤ 4096
  pub count : a.count ≤ 4096

pub replay-within : (b standing log : List ℕ) (bytes words : ℕ) → ReplayWithin (replay_answer b standing log bytes words)
unfolding replay_answer
replay-within b standing log bytes words =
    if_keeps ReplayWithin _ ((replay_fault b standing log bytes words).number differs 0) _
    (λ _. let W = fault-within b standing log bytes words in record { refusal = W.number; place = W.place; count = omega arith })
    (λ _. let W = run-answer-within (made_of b log) standing words in record { refusal = omega (arith, W.refusal); place = W.place; count = W.count })
