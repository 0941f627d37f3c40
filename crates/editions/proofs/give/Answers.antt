-- The bytes needed are those of the moved table: too few lent and enough of them are two cases of `given` and `left`.
use mathlib.Core.Path.{refl, ap}
use Prim.Native.Nat.{ℕ}
use native.Mathlib.Omega.{arith}
use Rattle.fault.specs.Refusals.{nothing_by}
use Rattle.ink.proofs.GivenLaws.{gave_short, gave_all}
use Rattle.editions.specs.Moved.{moved_to}
use Rattle.editions.proofs.MovedLaws.{bytes-needed}
use Rattle.editions.proofs.give.Goals as goal

pub returns-then-out-n : goal.returns-then-out-n
returns-then-out-n c = let a = c.args in
    let n = bytes-needed a.byte a.table.now c.requires.0 c.requires.2 c.states.ensures.0 c.rules.ensures.0 c.rule_bytes.ensures.0 c.times-rules.ensures.0 in
    let E = gave_short 30 (moved_to a.byte a.table.now) a.out.now refl refl (omega (arith, n, c.if-out-n.true)) (ap nothing_by c.at.ensures) in record { value = E.answer; out_after = E.bytes }

pub returns : goal.returns
returns c = let a = c.args in
    let n = bytes-needed a.byte a.table.now c.requires.0 c.requires.2 c.states.ensures.0 c.rules.ensures.0 c.rule_bytes.ensures.0 c.times-rules.ensures.0 in
    let E = gave_all 30 (moved_to a.byte a.table.now) a.out.now refl refl (omega (arith, n, c.if-out-n.false)) (ap (λ (k : ℕ). record { refusal = 0; place = 0; count = k }) n) c.write.ensures.bytes in record { value = E.answer; out_after = E.bytes }
