-- Without a message the lowest source is the record's own, so that nothing changes; with one it is the sender that is found, heard and named.
use mathlib.Core.Path.{sym, ap, ◌∙◌}
use Prim.Native.Nat.{◌+◌, ◌*◌}
use lib.ListN.{set}
use Rattle.schedule.specs.Records.{meant}
use Rattle.translate.proofs.StepLaws.{source_what, low-unheard, low_unnamed, low-sourced, low-heard, low-named}
use Rattle.translate.proofs.hear_lowest.Goals as goal

pub returns-then-silent : goal.returns-then-silent
returns-then-silent c = let a = c.args in
    let e = sym c.silent.ensures ∙ c.if-silent.true in
    record { w_after = low-unheard a.s a.w.now (meant a.x) e; steps_after = low_unnamed a.s a.w.now (meant a.x) e a.steps.now a.i c.requires.4 }

pub source-q-requires : goal.source-q-requires
source-q-requires c = let a = c.args in
    let known = source_what a.s a.w.now (meant a.x) c.requires.0 c.requires.5 (sym c.silent.ensures ∙ c.if-silent.false) in
    (c.requires.0, c.requires.1, known.0, known.1)

pub hear-requires : goal.hear-requires
hear-requires c = let a = c.args in
    let e = sym c.silent.ensures ∙ c.if-silent.false in
    (c.requires.0, (source_what a.s a.w.now (meant a.x) c.requires.0 c.requires.5 e).0, low-sourced a.s a.w.now (meant a.x) c.requires.0 c.requires.5 e c.source-q.ensures.0, c.requires.1)

pub returns : goal.returns
returns c = let a = c.args in
    let e = sym c.silent.ensures ∙ c.if-silent.false in record { w_after = low-heard a.s a.w.now (meant a.x) c.requires.0 c.requires.5 e c.source-q.ensures.0 c.hear.ensures; steps_after = c.set_source.ensures ∙ ap (set a.steps.now (a.i * 4 + 3)) (low-named a.s a.w.now (meant a.x) c.requires.0 c.requires.5 e c.source-q.ensures.0) }
