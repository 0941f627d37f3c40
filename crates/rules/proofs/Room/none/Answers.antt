-- With no rule kept every byte is 0.
use Rattle.rules.proofs.RuleLaws.{zeros_small}
use Rattle.rules.proofs.Room.none.Goals as goal

pub invariant_of-result-clause-bytes : goal.invariant_of-result-clause-bytes
invariant_of-result-clause-bytes c = zeros_small 256
