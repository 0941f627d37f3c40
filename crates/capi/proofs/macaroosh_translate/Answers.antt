-- Every answer of a translation fits its bits, also that to the usual form; the lent bytes are as the translation leaves them.
use borrow.Author.Rules.{rules}
use Rattle.capi.proofs.PackedLaws.{translate-fits_by, packed_by}
use Rattle.capi.proofs.macaroosh_translate.Goals as goal

pub pack-requires : goal.pack-requires
pack-requires c = search translate-fits_by

pub returns : goal.returns
returns c = record { value = search packed_by; out_after = search rules }
