-- What is left of the bundle before its schedule part; 0 where the trailer is missing or the part would be longer than the bundle.
use native.Mathlib.Omega.{arith}
use borrow.Author.Rules.{rules}
use Rattle.bundle.specs.Bundle.{front_length}
use Rattle.bundle.proofs.front.Goals as goal

pub returns-then-b-lt-TRAILER_BYTES : goal.returns-then-b-lt-TRAILER_BYTES
unfolding front_length
returns-then-b-lt-TRAILER_BYTES c = omega arith

pub start_distance-back-requires : goal.start_distance-back-requires
unfolding front_length
start_distance-back-requires c = search rules

pub overflow_add-back : goal.overflow_add-back
unfolding front_length
overflow_add-back c = search rules

pub overflow_sub-result : goal.overflow_sub-result
unfolding front_length
overflow_sub-result c = search rules

pub returns-then-b-back : goal.returns-then-b-back
unfolding front_length
returns-then-b-back c = omega arith

pub returns-else-b-back : goal.returns-else-b-back
unfolding front_length
returns-else-b-back c = omega arith
