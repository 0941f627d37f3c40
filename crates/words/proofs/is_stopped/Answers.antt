-- The set's word is asked for the board.
use mathlib.Core.Path.{ap, ◌∙◌}
use Prim.Native.Nat.{ℕ}
use Rattle.senders.specs.Set.{mem}
use Rattle.words.proofs.is_stopped.Goals as goal

pub returns : goal.returns
returns c = c.has.ensures ∙ ap (λ (S : ℕ). mem S c.args.p) c.stopped_in.ensures
