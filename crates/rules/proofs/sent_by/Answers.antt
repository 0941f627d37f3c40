-- A well-formed table has the states of a rule's ends; the lowest type that the one's mask has and the other's lacks is what the rule sends.
use mathlib.Core.Path.{ap₂, ◌∙◌}
use Prim.Native.Nat.{ℕ}
use native.Mathlib.Omega.{arith}
use Rattle.senders.specs.Set.{missing}
use Rattle.senders.specs.Tally.{least}
use Rattle.rules.proofs.sent_by.Goals as goal

pub sent-old-requires : goal.sent-old-requires
sent-old-requires c = (c.requires.0.formed.sized, rw c.requires.2 (c.requires.0.formed.rule c.args.r (rw (← c.requires.0.rules) c.requires.1)).ends.from)

pub sent-new-requires : goal.sent-new-requires
sent-new-requires c = (c.requires.0.formed.sized, rw c.requires.3 (c.requires.0.formed.rule c.args.r (rw (← c.requires.0.rules) c.requires.1)).ends.to)

pub returns : goal.returns
returns c = (c.lowest_missing.ensures.0 ∙ ap₂ (λ (x y : ℕ). least c.args.s.types (missing x y)) (rw (← c.requires.3) c.sent-new.ensures.0) (rw (← c.requires.2) c.sent-old.ensures.0), omega (arith, c.lowest_missing.ensures.1, c.requires.0.bounded.types))
