-- Every answer's numbers are small, whatever the bytes.
use mathlib.Core.Path.{refl}
use mathlib.Core.List.{List}
use Prim.Native.Nat.{ℕ}
use native.Mathlib.Omega.{arith}
use lib.Dec.{eqb}
use lib.ListN.{length}
use Rattle.fault.specs.Tests.{◌below◌, ◌differs◌}
use Rattle.fault.proofs.FaultLaws.{if_keeps}
use Rattle.fault.proofs.TestLaws.{same}
use Rattle.bundle.specs.Bundle.{most_bundle, table_in_use}
use Rattle.bundle.specs.Refusals.{read_fault}
use Rattle.bundle.proofs.BundleLaws.{read_by, read-within, read_short}
use Rattle.engine.specs.Entry.{ran_of}
use Rattle.engine.proofs.BoundLaws.{AnswerWithin, ran-within}
use Rattle.translate.specs.Entry.{no_other, wrote, translate_to_answer}

-- as a run's, but the count is of bytes: a bundle that is read has at most as many as a bundle has
pub translate-answer-within : (b standing : List ℕ) (k lent : ℕ) → AnswerWithin most_bundle (translate_to_answer b standing k lent)
unfolding translate_to_answer wrote
translate-answer-within b standing k lent =
    if_keeps (AnswerWithin most_bundle) _ ((read_fault b standing).number differs 0) _
    (λ _. let W = read-within (table_in_use b standing) b in record { refusal = omega (arith, W.number); place = omega (arith, W.place); count = omega arith })
    (λ e. if_keeps (AnswerWithin most_bundle) _ (no_other b k) _
    (λ _. record { refusal = omega arith; place = omega arith; count = omega arith })
    (λ _. if_keeps (AnswerWithin most_bundle) _ (lent below length b) _
    (λ _. record { refusal = omega arith; place = omega arith; count = omega arith })
    (λ _. let R = read_by b standing refl (same _ 0 e) refl in
    let W = ran-within (table_in_use b standing) b R in
    if_keeps (AnswerWithin most_bundle) _ (eqb (ran_of b standing).refusal 0) _
    (λ _. record { refusal = omega arith; place = omega arith; count = read_short b standing R })
    (λ _. record { refusal = omega (arith, W.refusal); place = W.accepted; count = omega arith }))))
