-- Every answer of a counted run fits its bits, so that it can be packed; the lent words are as the run leaves them.
use borrow.Author.Rules.{rules}
use Rattle.capi.proofs.PackedLaws.{receipts-small, receipts-fit_by, packed-receipts}
use Rattle.capi.proofs.macaroosh_receipts.Goals as goal

pub receipts_of-requires : goal.receipts_of-requires
receipts_of-requires c = search receipts-small

pub pack-requires : goal.pack-requires
pack-requires c = search receipts-fit_by

pub returns : goal.returns
returns c = record { value = search packed-receipts; words_after = search rules }
