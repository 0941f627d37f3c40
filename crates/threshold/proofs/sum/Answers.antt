-- Each sum and product is small enough to be read back from its bits unchanged, so the result is the sum over the integers.
use mathlib.Core.Path.{ap}
use native.Mathlib.Omega.{arith}
use lib.Signed.{mag}
use Rattle.threshold.specs.Threshold.{sum_of}
use Rattle.threshold.proofs.SizeLaws.{bits_back}
use Rattle.threshold.proofs.sum.Goals as goal

pub plus-requires : goal.plus-requires
plus-requires c = rw (bits_back c.scaled.result c.scaled.type_inv, bits_back c.scaled-2.result c.scaled-2.type_inv) (omega arith)

pub plus-requires-2 : goal.plus-requires-2
plus-requires-2 c = let x = c.scaled in
    let y = c.scaled-2 in
    rw (bits_back c.plus.result c.plus.type_inv, bits_back c.signed.result c.signed.type_inv)
    (omega (arith, ap mag (bits_back x.result x.type_inv), ap mag (bits_back y.result y.type_inv)))

pub returns : goal.returns
unfolding sum_of
returns c = let x = c.scaled in
    let y = c.scaled-2 in
    let p = c.plus in
    let d = c.signed in
    let s = c.plus-2 in
    rw (bits_back s.result s.type_inv) (
      rw (s.ensures.0, bits_back p.result p.type_inv, p.ensures.0, bits_back x.result x.type_inv, bits_back y.result y.type_inv, bits_back d.result d.type_inv, x.ensures.0, y.ensures.0, d.ensures.0),
      omega (arith, s.ensures.1, ap mag (bits_back x.result x.type_inv), ap mag (bits_back y.result y.type_inv), ap mag (bits_back p.result p.type_inv), ap mag (bits_back d.result d.type_inv)),
    )
