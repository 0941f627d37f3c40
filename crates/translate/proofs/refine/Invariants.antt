-- Level by level downwards: what runs at a level runs at the one before it with its lowest sources.
use Prim.Native.Nat.{◌≤◌}
use Rattle.translate.proofs.ReadLaws.{Refinings}
use Rattle.translate.proofs.refine.Given as goal

abbrev pub invariant-loop-j : goal.invariant-loop-j
invariant-loop-j l = (l.level ≤ l.j) × Refinings l.rules.sizes l.rules.ends.now l.bundle l.j l.steps
