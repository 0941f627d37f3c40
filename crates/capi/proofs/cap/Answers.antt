-- Refusal and count are kept and the place is shortened: the definition's three fields.
use Rattle.capi.proofs.PackedLaws.{capped_by}
use Rattle.capi.proofs.cap.Goals as goal

pub returns : goal.returns
returns c = search capped_by
