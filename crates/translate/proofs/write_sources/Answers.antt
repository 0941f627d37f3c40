-- As many words are lent on as a configuration of that level has, and the walk begins with the bundle's own first words.
use mathlib.Core.Path.{ap, ◌∙◌, subst}
use mathlib.Core.List.{List}
use Prim.Native.Nat.{ℕ}
use Rattle.paper.specs.Words.{start}
use Rattle.paper.specs.Form.{wide}
use Rattle.translate.specs.Facts.{LowersTo}
use Rattle.translate.proofs.write_sources.Goals as goal

pub returns : goal.returns
returns c = let a = c.args in
    let w = c.begin.ensures.w_after ∙ ap (start a.rules.sizes.types (wide a.rules.sizes.level)) c.starts.ensures in
    subst (λ (v : List ℕ). LowersTo a.rules.sizes a.rules.ends.now v a.steps.now c.write_along.new.steps) w c.write_along.ensures
