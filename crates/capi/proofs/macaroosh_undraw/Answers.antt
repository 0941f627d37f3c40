-- A capped answer of undrawing fits its bits, so that it can be packed; the lent bytes are as undrawing leaves them.
use borrow.Author.Rules.{rules}
use Rattle.capi.proofs.PackedLaws.{undraw-fits_by, packed-capped}
use Rattle.capi.proofs.macaroosh_undraw.Goals as goal

pub pack-requires : goal.pack-requires
pack-requires c = search undraw-fits_by

pub returns : goal.returns
returns c = record { value = search packed-capped; out_after = search rules }
