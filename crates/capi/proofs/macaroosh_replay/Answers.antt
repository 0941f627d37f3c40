-- Every answer of a replay fits its bits, so that it can be packed; what was lent is as the replay leaves it.
use borrow.Author.Rules.{rules}
use Rattle.capi.proofs.PackedLaws.{replay-fits_by, packed_by}
use Rattle.capi.proofs.macaroosh_replay.Goals as goal

pub pack-requires : goal.pack-requires
pack-requires c = search replay-fits_by

pub returns : goal.returns
returns c = record { value = search packed_by; out_after = search rules; words_after = search rules }
