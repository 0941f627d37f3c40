-- No state is initial exactly if the test over all of them says no.
use mathlib.Core.Path.{refl, ap, ◌∙◌}
use mathlib.Core.Bool.{not}
use borrow.Author.Rules.{rules}
use Rattle.senders.specs.Tally.{some}
use Rattle.senders.proofs.RangeLaws.{any_some}
use Rattle.table.specs.Table.{initial_of}
use Rattle.table.specs.Refusals.{no_initial}
use Rattle.table.proofs.no_initial.Goals as goal

pub returns : goal.returns
unfolding no_initial
returns c = let P = initial_of c.args.s.now in
    ap not (any_some c.states.result P _ _ c.any.result refl c.any.ensures.ran (λ x b q k. search rules) ∙ ap (λ n. some n P) c.states.ensures.0)
