-- The first configuration is made from the starts, and the steps are run from it; both are the bundle's own.
use mathlib.Core.Path.{ap, ◌∙◌}
use Rattle.paper.specs.Run.{Ran}
use Rattle.engine.specs.Entry.{ran_answer}
use Rattle.engine.proofs.EntryLaws.{starts_long, whole_steps, parts_run}
use Rattle.engine.proofs.run_in.Goals as goal

pub begin-requires : goal.begin-requires
begin-requires c = (starts_long c.args.rules.sizes c.args.bundle.now c.requires.0 c.starts.ensures, c.requires.1)

pub run_steps-requires : goal.run_steps-requires
run_steps-requires c = let a = c.args in
    (c.begin.ensures.holds, whole_steps a.rules.sizes a.bundle.now c.requires.0 c.steps.ensures)

pub returns : goal.returns
returns c = let a = c.args in
    let e = parts_run a.rules.sizes a.bundle.now c.starts.ensures c.begin.ensures.w_after c.steps.ensures in
    record { by_design = λ d K. c.run_steps.ensures.by_design d K ∙ ap ran_answer (e d); by_design_2 = λ d K. c.run_steps.ensures.by_design_2 d K ∙ ap (λ (r : Ran). r.left) (e d); holds = c.run_steps.ensures.holds }
