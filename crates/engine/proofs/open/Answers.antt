-- A refusal of reading is given on; otherwise the table in use gives numbers and rules, which stand for its design.
use mathlib.Core.Path.{refl, sym, ap, ◌∙◌}
use native.Mathlib.Omega.{arith}
use Rattle.fault.specs.Fault.{Verdict}
use Rattle.words.specs.declared.Sizes.{Sizes}
use Rattle.fault.proofs.RefusalLaws.{handed_on, some_number}
use Rattle.engine.proofs.EntryLaws.{suits, opens_refused, opens_read, opens_ready}
use Rattle.engine.proofs.open.Goals as goal

pub returns-in_err-read_fault : goal.returns-in_err-read_fault
returns-in_err-read_fault c = let a = c.args in
    let p = handed_on c.from_residual.result _ c.from_residual.ensures.1 in
    opens_refused a.bundle.now a.standing.now (p ∙ c.in_err-read_fault.ensures) (λ z. some_number _ (ap (λ (v : Verdict). v.number) (sym p) ∙ z))

pub sizes_of-requires : goal.sizes_of-requires
sizes_of-requires c = let a = c.args in
    let R = opens_read a.bundle.now a.standing.now c.in_ok-read_fault.ensures refl c.table_in_use-table.ensures in (R.formed.sized.long, R.trailed.long)

pub t-requires : goal.t-requires
t-requires c = let a = c.args in
    (opens_read a.bundle.now a.standing.now c.in_ok-read_fault.ensures refl c.table_in_use-table.ensures).trailed.long

pub keep-requires : goal.keep-requires
keep-requires c = let a = c.args in
    let R = opens_read a.bundle.now a.standing.now c.in_ok-read_fault.ensures refl c.table_in_use-table.ensures in
    (suits _ a.bundle.now R c.sizes_of.ensures, omega (arith, R.few_tolerated, c.t.ensures.0), c.t.ensures.0 ∙ sym (ap (λ (s : Sizes). s.tolerated) c.sizes_of.ensures))

pub returns : goal.returns
returns c = let a = c.args in
    let k = c.keep.ensures in
    opens_ready a.bundle.now a.standing.now c.in_ok-read_fault.ensures refl c.table_in_use-table.ensures (k.0 ∙ c.sizes_of.ensures) c.t.ensures.0 (rw k.0 k.1)
