-- Any other rule is refused as by a rule; of a stop the two tests are those of the definition.
use mathlib.Core.Path.{refl, sym, ◌∙◌}
use borrow.Author.Tests.{lt-leb, le-leb, eq-eqb, ne_eqb, leb-true, leb-false}
use Rattle.schedule.specs.Records.{meant}
use Rattle.step.proofs.StepLaws.{fault-rule, by_rule_lem, no_more-stops, stops_now}
use Rattle.step.proofs.past_rules.Goals as goal

pub returns-then-x-ne-STOP : goal.returns-then-x-ne-STOP
returns-then-x-ne-STOP c = let a = c.args in
    let both = by_rule_lem a.rules.sizes a.rules.ends.now a.rules.leasts.now a.w.now (meant a.x) c.requires.1 (ne_eqb a.x.rule 254 c.if-x-ne-STOP.true) (fault-rule a.rules.sizes a.rules.ends.now a.rules.leasts.now a.w.now (meant a.x) refl (lt-leb _ _ c.requires.1.board) refl (le-leb a.rules.sizes.rules a.x.rule c.requires.3)) in
    record { value = both.0; w_after = both.1 }

pub returns-then-may_stop : goal.returns-then-may_stop
returns-then-may_stop c = let a = c.args in
    let both = stops_now a.rules.sizes a.rules.ends.now a.rules.leasts.now a.w.now (meant a.x) c.requires.1 (eq-eqb a.x.rule 254 c.if-x-ne-STOP.false) c.requires.2 (leb-true _ _ (sym c.may_stop.ensures ∙ c.if-may_stop.true)) c.stop.ensures in
    record { value = both.0; w_after = both.1 }

pub returns : goal.returns
returns c = let a = c.args in
    let both = no_more-stops a.rules.sizes a.rules.ends.now a.rules.leasts.now a.w.now (meant a.x) c.requires.1 (eq-eqb a.x.rule 254 c.if-x-ne-STOP.false) c.requires.2 (leb-false _ _ (sym c.may_stop.ensures ∙ c.if-may_stop.false)) in
    record { value = both.0; w_after = both.1 }
