-- The starts of the boards below i stand in front of the words as they were; at the end these are all starts.
use mathlib.Core.Path.{◌≡◌, refl, ap, ◌∙◌}
use mathlib.Core.List.{List, ◌++◌}
use Prim.Native.Nat.{ℕ}
use native.Mathlib.Omega.{arith}
use lib.ListN.{length, take, drop}
use lib.Seq.{take-length}
use Rattle.engine.proofs.RunLaws.{placed_long, placed_more}
use Rattle.engine.proofs.place.Goals as goal

pub loop-i-init : goal.loop-i-init
loop-i-init c = refl

pub bounds-w-i : goal.bounds-w-i
bounds-w-i c = let a = c.args in
    omega (arith, ap length c.loop-i.invariant ∙ placed_long a.w.now a.starts.now c.loop-i.i c.loop-i.auto.i-end (omega (arith, c.loop-i.auto.i-end, c.requires)), c.requires, c.loop-i-test.true)

pub loop-i-preserved : goal.loop-i-preserved
loop-i-preserved c = let a = c.args in let h = c.loop-i-test.true in
    placed_more a.w.now a.starts.now c.loop-i.i _ c.loop-i.invariant h (omega (arith, h, c.requires)) c.from.ensures

pub shape_of-w : goal.shape_of-w
shape_of-w c = let a = c.args in
    ap length c.loop-i.invariant ∙ placed_long a.w.now a.starts.now c.loop-i.i c.loop-i.auto.i-end (omega (arith, c.loop-i.auto.i-end, c.requires))

pub returns : goal.returns
returns c = let a = c.args in
    let e : c.loop-i.i ≡ length a.starts.now = omega (arith, c.loop-i.auto.i-end, c.loop-i-test.false) in
    c.loop-i.invariant ∙ ap (λ (k : ℕ). take k a.starts.now ++ drop k a.w.now) e ∙ ap (λ (v : List ℕ). v ++ drop (length a.starts.now) a.w.now) (take-length a.starts.now)
