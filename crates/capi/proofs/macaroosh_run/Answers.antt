-- Every answer of a run fits its bits, so that it can be packed; the lent words are as the run leaves them.
use borrow.Author.Rules.{rules}
use Rattle.capi.proofs.PackedLaws.{run-fits_by, packed_by}
use Rattle.capi.proofs.macaroosh_run.Goals as goal

pub pack-requires : goal.pack-requires
pack-requires c = search run-fits_by

pub returns : goal.returns
returns c = record { value = search packed_by; words_after = search rules }
