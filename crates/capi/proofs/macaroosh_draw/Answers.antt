-- Every answer of a drawing fits its bits, so that it can be packed; the lent bytes are as drawing leaves them.
use borrow.Author.Rules.{rules}
use Rattle.capi.proofs.PackedLaws.{draw-fits_by, packed_by}
use Rattle.capi.proofs.macaroosh_draw.Goals as goal

pub pack-requires : goal.pack-requires
pack-requires c = search draw-fits_by

pub returns : goal.returns
returns c = record { value = search packed_by; out_after = search rules }
