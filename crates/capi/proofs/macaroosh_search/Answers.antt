-- Every answer of a search fits its bits, so that it can be packed; the number tried is stored beside it.
use borrow.Author.Rules.{rules}
use Rattle.capi.proofs.PackedLaws.{search-fits_by, packed-outcome, tried_by}
use Rattle.capi.proofs.macaroosh_search.Goals as goal

pub pack-requires : goal.pack-requires
pack-requires c = search search-fits_by

pub returns : goal.returns
returns c = record { value = search packed-outcome; out_after = search rules; tried_after = search tried_by }
