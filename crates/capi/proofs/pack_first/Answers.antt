-- Each kind of answer goes to its own sum; a matched answer is the one that came in, so its numbers fit as that one's do.
use Rattle.capi.proofs.PackedLaws.{told-fits, told-packed}
use Rattle.capi.proofs.pack_first.Goals as goal

pub pack_refused-requires : goal.pack_refused-requires
pack_refused-requires c = search told-fits

pub pack_step-requires : goal.pack_step-requires
pack_step-requires c = search told-fits

pub returns-in-Refused : goal.returns-in-Refused
returns-in-Refused c = search told-packed

pub returns-in-Step : goal.returns-in-Step
returns-in-Step c = search told-packed
