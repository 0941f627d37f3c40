-- The divisor that is tested is that of the weights of type m.
use Rattle.layout.proofs.LayoutLaws.{outside-is}
use Rattle.layout.proofs.outside_at.Goals as goal

pub returns : goal.returns
returns c = search outside-is
