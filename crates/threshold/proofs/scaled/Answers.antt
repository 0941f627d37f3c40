-- A byte is under 128 in size and n at most 64, so the product is at most 8192 and doesn't wrap.
use native.Mathlib.Omega.{arith}
use mir.Facts.{to_z-of_z}
use Rattle.threshold.proofs.SizeLaws.{bits_back, small, mag_mul}
use Rattle.threshold.proofs.scaled.Goals as goal

pub overflow_mul-result : goal.overflow_mul-result
overflow_mul-result c = rw (bits_back c.signed.result c.signed.type_inv, small c.args.n (omega arith))
    (record { sfits = omega (arith, mag_mul c.signed.result c.args.n 128 64 c.signed.ensures.1 c.requires) })

pub returns : goal.returns
returns c = rw (to_z-of_z (overflow_mul-result c), bits_back c.signed.result c.signed.type_inv, small c.args.n (omega arith))
    (rw c.signed.ensures.0, mag_mul c.signed.result c.args.n 128 64 c.signed.ensures.1 c.requires)
