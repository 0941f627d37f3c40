-- Level by level downwards: what runs at a level runs at the one before it with its lowest sources.
use mathlib.Core.Path.{subst⁻¹}
use Prim.Native.Nat.{◌-◌}
use native.Mathlib.Omega.{arith}
use Rattle.words.specs.declared.Sizes.{Sizes}
use Rattle.engine.specs.Open.{Parts}
use Rattle.translate.proofs.ReadLaws.{level_parts, refined_records, refined_none, refined_runs, refined_more, refined_all}
use Rattle.translate.proofs.refine.Goals as goal

pub loop-j-init : goal.loop-j-init
loop-j-init c = let a = c.args in
    (c.requires.2, refined_none a.rules.sizes a.rules.ends.now a.bundle.now c.requires.0 c.requires.3)

pub write_sources-requires : goal.write_sources-requires
write_sources-requires c = let a = c.args in
    let j = c.loop-j.j - 1 in
    let e = c.at_level.ensures in
    let F = c.loop-j.invariant.1 in (
      subst⁻¹ (λ (x : Sizes). Parts x a.bundle.now) e (level_parts j a.rules.sizes c.requires.0),
      refined_records a.rules.sizes a.rules.ends.now a.bundle.now c.requires.0 (F c.requires.1),
      refined_runs a.rules.sizes a.rules.ends.now a.bundle.now c.requires.0 j c.loop-j.j (omega (arith, c.loop-j-test.true)) c.loop-j.auto.j F e c.requires.1,
    )

pub loop-j-preserved : goal.loop-j-preserved
loop-j-preserved c = let a = c.args in
    let j = c.loop-j.j - 1 in
    (omega (arith, c.loop-j-test.true), refined_more a.rules.sizes a.rules.ends.now a.bundle.now c.requires.0 j c.loop-j.j (omega (arith, c.loop-j-test.true)) c.loop-j.auto.j c.loop-j.invariant.1 c.at_level.ensures c.write_sources.ensures)

pub returns : goal.returns
returns c = let a = c.args in
    let inv = c.loop-j.invariant in
    refined_all a.rules.sizes a.rules.ends.now a.bundle.now c.requires.0 inv.0 (omega (arith, c.loop-j-test.false)) inv.1
