-- The states as they are, the rules and the trailer, one after the other; all of them are few bytes.
use mathlib.Core.Path.{sym}
use native.Mathlib.Omega.{arith}
use borrow.Author.Rules.{rules}
use Rattle.editions.proofs.MovedLaws.{states-length, counts-fit, moved-put}
use Rattle.editions.proofs.write.Goals as goal

pub slice_bounds-put_all-end : goal.slice_bounds-put_all-end
slice_bounds-put_all-end c = sym (search states-length)

pub put_all-n-requires : goal.put_all-n-requires
put_all-n-requires c = omega (arith, states-length _ c.requires.0 c.states-states.ensures.0)

pub put_rules-n-requires : goal.put_rules-n-requires
put_rules-n-requires c = (search rules, omega (arith, c.put_all-n.ensures.place, states-length _ c.requires.0 c.states-states.ensures.0))

pub put-requires : goal.put-requires
put-requires c = (search counts-fit, search rules, omega (arith, c.put_rules-n.ensures.1, c.put_all-n.ensures.place, states-length _ c.requires.0 c.states-states.ensures.0))

pub returns : goal.returns
returns c = search moved-put
