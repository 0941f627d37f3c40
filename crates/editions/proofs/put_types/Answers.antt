-- The loop keeps that what is said of the types still left, put from here on, comes to what is said of all from n on. Each takes at most 4 bytes.
use native.Mathlib.Omega.{arith}
use Rattle.ink.proofs.InkLaws.{rest_all}
use Rattle.editions.proofs.MovedLaws.{types-first, types-turn, types-end}
use Rattle.editions.proofs.put_types.Goals as goal

pub loop-m-init : goal.loop-m-init
loop-m-init c = (omega arith, rest_all (search types-first))

pub loop-m-preserved : goal.loop-m-preserved
loop-m-preserved c = (omega arith, search types-turn)

pub returns : goal.returns
returns c = (search types-end, omega arith)
