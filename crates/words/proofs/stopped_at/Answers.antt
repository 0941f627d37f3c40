-- The place after the sent words, which is the last.
use mathlib.Core.Path.{ap, ◌∙◌}
use Prim.Native.Nat.{ℕ, ◌+◌}
use native.Mathlib.Omega.{arith}
use Rattle.words.proofs.PlaceLaws.{stopped-is, stopped-last}
use Rattle.words.proofs.stopped_at.Goals as goal

pub returns : goal.returns
returns c = let s = c.args.s in let e = c.sent_at.ensures.0 ∙ stopped-is s in
    (e, ap (λ (i : ℕ). i + 1) e ∙ stopped-last s, omega (arith, c.sent_at.ensures.1, c.requires.types))
