-- Every answer of a check fits its bits, so that it can be packed.
use Rattle.capi.proofs.PackedLaws.{list_fits_by, packed_by}
use Rattle.capi.proofs.macaroosh_check_list.Goals as goal

pub pack-requires : goal.pack-requires
pack-requires c = search list_fits_by

pub returns : goal.returns
returns c = search packed_by
