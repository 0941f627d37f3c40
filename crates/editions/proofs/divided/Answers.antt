-- The lowest rule with a refusal is that of `first_fault`, since each answers as `rule_divides` says.
use borrow.Author.Rules.{rules}
use Rattle.editions.specs.Entry.{rule_divides}
use Rattle.editions.proofs.divided.Goals as goal

pub returns : goal.returns
returns c = rw c.rules.ensures.0 at (c.lowest.ensures (rule_divides c.args.table.now) (λ i r h p. search rules))
