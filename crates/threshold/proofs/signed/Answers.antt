-- The library's cast of a byte is two's complement, and widening keeps the number.
use mathlib.Core.Path.{◌≡◌, ◌∙◌}
use mir.Facts.{to_z-of_z}
use mir.Syntax.{w8, w64}
use mir.Val.{to_z, of_z}
use Rattle.threshold.specs.Threshold.{signed_byte}
use Rattle.threshold.proofs.SizeLaws.{bits_back, signed-byte, byte_small}
use Rattle.threshold.proofs.signed.Goals as goal

pub returns : goal.returns
returns c =
    let e : to_z w64 (of_z w64 c.from.result) ≡ signed_byte c.args.x =
    bits_back c.from.result c.from.type_inv ∙ c.from.ensures ∙ to_z-of_z {w = w8} (record { sfits = c.cast_signed.type_inv }) ∙ c.cast_signed.ensures ∙ signed-byte c.args.x in
    (e, rw e (byte_small c.args.x c.ranges.x.fits))
