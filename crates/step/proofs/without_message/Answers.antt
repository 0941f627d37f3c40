-- Neither malformed nor away: the thresholds alone decide.
use mathlib.Core.Path.{sym, ap, ◌∙◌}
use native.Mathlib.Omega.{arith}
use Rattle.paper.proofs.StepLaws.{heard_silent}
use Rattle.words.proofs.KeepLaws.{holds_more}
use Rattle.words.specs.Facts.{at_rest, in_step}
use Rattle.schedule.specs.Records.{meant}
use Rattle.step.specs.Step.{sized, moved_by}
use Rattle.step.proofs.StepLaws.{fault_unmet, fault-none, arrives-silent}
use Rattle.step.proofs.without_message.Goals as goal

pub not_met-requires : goal.not_met-requires
not_met-requires c = (c.requires.1.board, c.requires.1.rule, holds_more c.args.rules.sizes at_rest in_step c.args.w.now (omega arith) c.requires.0)

pub returns-then-not_met : goal.returns-then-not_met
returns-then-not_met c = let a = c.args in
    let both = fault_unmet a.rules.sizes a.rules.ends.now a.rules.leasts.now a.w.now (meant a.x) c.args.rules.bounded.types c.requires.0.fits (arrives-silent a.rules.sizes a.rules.ends.now a.rules.leasts.now a.w.now (meant a.x) c.requires.1 c.requires.2) c.not_met.ensures c.if-not_met.true in
    record { value = both.0; w_after = both.1 }

pub move_on-requires : goal.move_on-requires
move_on-requires c = (c.requires.1.board, c.requires.1.rule, holds_more c.args.rules.sizes at_rest in_step c.args.w.now (omega arith) c.requires.0)

pub returns : goal.returns
returns c = let a = c.args in
    let both = fault-none a.rules.sizes a.rules.ends.now a.rules.leasts.now a.w.now (meant a.x) c.args.rules.bounded.types c.requires.0.fits (arrives-silent a.rules.sizes a.rules.ends.now a.rules.leasts.now a.w.now (meant a.x) c.requires.1 c.requires.2) c.not_met.ensures c.if-not_met.false
    (c.move_on.ensures ∙ ap (moved_by a.rules.sizes a.rules.ends.now a.x.board a.x.rule) (sym (heard_silent a.rules.sizes.level (sized a.rules.sizes) a.w.now (meant a.x) c.requires.2))) in
    record { value = both.0; w_after = both.1 }
