-- The starts in front of zeros are the first configuration.
use mathlib.Core.Path.{ap, sym, ◌∙◌, subst⁻¹}
use native.Mathlib.Omega.{arith}
use lib.ListN.{length, length-replicate}
use Rattle.words.specs.Facts.{Holds}
use Rattle.engine.proofs.RunLaws.{boards-fit, begun, first_holds}
use Rattle.engine.proofs.begin.Goals as goal

pub place-requires : goal.place-requires
place-requires c = let a = c.args in
    omega (arith, ap length c.clear.ensures ∙ length-replicate (length a.w.now) 0, c.requires.1, boards-fit a.s a.starts.now c.requires.0)

pub shape_of-w : goal.shape_of-w
shape_of-w c = let a = c.args in
    ap length (begun a.s a.starts.now c.requires.0 (length a.w.now) c.requires.1 c.clear.ensures c.place.ensures) ∙ (first_holds a.s a.starts.now c.requires.0 (λ i. omega (arith, c.type_inv.starts i))).fits ∙ sym c.requires.1

pub returns : goal.returns
returns c = let a = c.args in
    let e = begun a.s a.starts.now c.requires.0 (length a.w.now) c.requires.1 c.clear.ensures c.place.ensures in
    record { w_after = e; holds = subst⁻¹ (Holds a.s 256) e (first_holds a.s a.starts.now c.requires.0 (λ i. omega (arith, c.type_inv.starts i))) }
