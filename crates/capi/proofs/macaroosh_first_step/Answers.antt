-- Every first step and refusal fits its bits, so that it can be packed.
use Rattle.capi.proofs.PackedLaws.{first-fits_by, packed-first_by}
use Rattle.capi.proofs.macaroosh_first_step.Goals as goal

pub pack_first-requires : goal.pack_first-requires
pack_first-requires c = search first-fits_by

pub returns : goal.returns
returns c = search packed-first_by
