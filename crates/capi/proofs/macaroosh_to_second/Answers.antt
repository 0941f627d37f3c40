-- Every answer of a move fits its bits, so that it can be packed; the lent bytes are as the move leaves them.
use borrow.Author.Rules.{rules}
use Rattle.capi.proofs.PackedLaws.{to-second-fits_by, packed_by}
use Rattle.capi.proofs.macaroosh_to_second.Goals as goal

pub pack-requires : goal.pack-requires
pack-requires c = search to-second-fits_by

pub returns : goal.returns
returns c = record { value = search packed_by; out_after = search rules }
