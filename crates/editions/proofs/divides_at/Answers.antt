-- The divisor that is tested is that of the weights of type m.
use Rattle.editions.proofs.EntryLaws.{divided-is}
use Rattle.editions.proofs.divides_at.Goals as goal

pub returns : goal.returns
returns c = search divided-is
