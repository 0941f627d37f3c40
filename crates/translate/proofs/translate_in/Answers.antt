-- The run decides: a refusal is handed on, and else the translation is written.
use mathlib.Core.Path.{refl}
use Rattle.std.proofs.lemmas.Result.{err_from_is_err_and}
use Rattle.fault.proofs.RefusalLaws.{some_number}
use Rattle.translate.proofs.EntryLaws.{done_refused, done_runs, done_written, runs_by}
use Rattle.translate.proofs.translate_in.Goals as goal

pub returns-in_err-run_in : goal.returns-in_err-run_in
returns-in_err-run_in c = let a = c.args in
    let p = err_from_is_err_and c.from_residual.result c.from_residual.ensures.1 in
    λ F. rw (p.1, p.2) (done_refused a.rules.sizes a.bundle.now F.design a.form a.out.now (c.in_err-run_in.ensures.by_design F.design F.kept) (some_number _))

pub write-requires : goal.write-requires
write-requires c = let a = c.args in
    let F = c.requires.1 in
    (c.requires.0, runs_by F (done_runs a.rules.sizes a.bundle.now F.design a.form a.out.now (c.in_ok-run_in.ensures.by_design F.design F.kept) refl), c.requires.2, c.requires.3)

pub returns : goal.returns
returns c = let a = c.args in
    λ F. let e = c.in_ok-run_in.ensures.by_design F.design F.kept in
    done_written a.rules.sizes a.bundle.now F.design a.form a.out.now e refl refl (c.write.ensures (runs_by F (done_runs a.rules.sizes a.bundle.now F.design a.form a.out.now e refl)))
