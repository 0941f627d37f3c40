-- What is cut from the end of the front on, with one byte for each correct board, is `starts_of`; it lies inside, by `Parted`.
use Rattle.bundle.proofs.BundleLaws.{starts_are}
use Rattle.bundle.proofs.starts.Goals as goal

pub returns : goal.returns
returns c = search starts_are
