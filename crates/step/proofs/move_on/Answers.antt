-- The state is entered; then the kept type is sent, if there is one. Both are the definition's, at the kept numbers.
use mathlib.Core.Path.{ap, ◌∙◌, subst⁻¹}
use native.Mathlib.Omega.{arith}
use lib.ListN.{length, set}
use Rattle.step.proofs.StepLaws.{board_in_room}
use Rattle.step.proofs.KeptLaws.{moved-sent, moved-quiet, length_moved}
use Rattle.words.proofs.KeepLaws.{holds-put}
use Rattle.words.specs.Facts.{in_step, Holds}
use Rattle.step.proofs.move_on.Goals as goal

pub enter-requires : goal.enter-requires
enter-requires c = (omega (arith, c.requires.2.fits, board_in_room c.args.rules.sizes c.args.p c.requires.0), omega (arith, c.requires.0, c.args.rules.bounded.boards))

pub tell-requires : goal.tell-requires
tell-requires c = let a = c.args in
    (c.args.rules.bounded, record { board = c.requires.0; type = omega (arith, c.if-m-rules.true) }, subst⁻¹ (Holds a.rules.sizes in_step) c.enter.ensures (holds-put a.rules.sizes in_step a.w.now a.p c.to.result c.requires.2 (omega (arith, c.to.ensures.1))))

pub shape_of-w-then-m-rules : goal.shape_of-w-then-m-rules
shape_of-w-then-m-rules c = let a = c.args in
    ap length (moved-sent a.rules.sizes a.rules.ends.now a.p a.r a.w.now (c.enter.ensures ∙ ap (set a.w.now a.p) c.to.ensures.0) c.sends-m.ensures c.if-m-rules.true c.tell.ensures) ∙ length_moved a.rules.sizes a.rules.ends.now a.p a.r a.w.now

pub returns-then-m-rules : goal.returns-then-m-rules
returns-then-m-rules c = let a = c.args in
    moved-sent a.rules.sizes a.rules.ends.now a.p a.r a.w.now (c.enter.ensures ∙ ap (set a.w.now a.p) c.to.ensures.0) c.sends-m.ensures c.if-m-rules.true c.tell.ensures

pub shape_of-w-else-m-rules : goal.shape_of-w-else-m-rules
shape_of-w-else-m-rules c = let a = c.args in
    ap length (moved-quiet a.rules.sizes a.rules.ends.now a.p a.r a.w.now (c.enter.ensures ∙ ap (set a.w.now a.p) c.to.ensures.0) c.sends-m.ensures c.if-m-rules.false) ∙ length_moved a.rules.sizes a.rules.ends.now a.p a.r a.w.now

pub returns-else-m-rules : goal.returns-else-m-rules
returns-else-m-rules c = let a = c.args in
    moved-quiet a.rules.sizes a.rules.ends.now a.p a.r a.w.now (c.enter.ensures ∙ ap (set a.w.now a.p) c.to.ensures.0) c.sends-m.ensures c.if-m-rules.false
