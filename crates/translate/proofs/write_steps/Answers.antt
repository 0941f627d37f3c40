-- One of the two walks does all: the other has no level to go over.
use mathlib.Core.Path.{ap, ap₂, sym, ◌∙◌}
use mathlib.Core.List.{List}
use Prim.Native.Nat.{ℕ, ◌-◌}
use native.Mathlib.Omega.{arith}
use Rattle.agree.specs.Translation.{coarser}
use Rattle.agree.proofs.Runs.{finer_only, coarser_only}
use Rattle.schedule.specs.Records.{steps_in, bytes_of}
use Rattle.engine.specs.Entry.{schedule_of}
use Rattle.translate.specs.Written.{begin_of}
use Rattle.translate.proofs.write_steps.Goals as goal

pub returns-then-level-rules : goal.returns-then-level-rules
returns-then-level-rules c = let a = c.args in
    λ T. c.refine.ensures T ∙ ap bytes_of (sym (finer_only T.design (begin_of a.rules.sizes a.bundle.now) a.rules.sizes.level (schedule_of a.bundle.now) a.level (omega (arith, c.if-level-rules.true))))

pub returns-else-level-rules : goal.returns-else-level-rules
returns-else-level-rules c = let a = c.args in
    λ T. c.coarsen.ensures ∙ ap₂ (λ (c : ℕ) (x : List ℕ). bytes_of (coarser (a.level - a.rules.sizes.level) a.rules.sizes.level c (steps_in x))) (sym T.kept.numbers.boards) c.requires.3 ∙ ap bytes_of (sym (coarser_only T.design (begin_of a.rules.sizes a.bundle.now) a.rules.sizes.level (schedule_of a.bundle.now) a.level (omega (arith, c.if-level-rules.false))))
