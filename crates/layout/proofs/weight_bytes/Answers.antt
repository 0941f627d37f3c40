-- The product of both numbers; a types byte is below 256.
use Rattle.layout.proofs.LayoutLaws.{weight_bytes_are, weight_bytes-few}
use Rattle.layout.proofs.weight_bytes.Goals as goal

pub returns : goal.returns
returns c = (search weight_bytes_are, search weight_bytes-few)
