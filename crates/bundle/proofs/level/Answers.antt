-- Below the last level it is the form itself, and from there on it is the last: the two cases of the test.
use borrow.Author.Rules.{rules}
use Rattle.bundle.proofs.BundleLaws.{level-low, level-high}
use Rattle.bundle.proofs.level.Goals as goal

pub returns-then-k-lt-MOST_LEVEL : goal.returns-then-k-lt-MOST_LEVEL
returns-then-k-lt-MOST_LEVEL c = (search level-low, search rules)

pub returns-else-k-lt-MOST_LEVEL : goal.returns-else-k-lt-MOST_LEVEL
returns-else-k-lt-MOST_LEVEL c = (search level-high, search rules)
