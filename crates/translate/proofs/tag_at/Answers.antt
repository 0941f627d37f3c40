-- The record is read, and its source replaced by the tag of that very step.
use mathlib.Core.Path.{ap, ◌∙◌}
use Prim.Native.Nat.{◌+◌, ◌*◌}
use lib.ListN.{set}
use Rattle.paper.specs.Paper.{Step}
use Rattle.agree.specs.Translation.{tag_by}
use Rattle.translate.proofs.tag_at.Goals as goal

pub returns : goal.returns
returns c = let a = c.args in
    c.set_source.ensures ∙ ap (set a.steps.now (a.i * 4 + 3)) (c.tag-q.ensures.0 ∙ ap (λ (x : Step). (tag_by a.j a.c x).source) c.step_at.ensures.0)
