-- The three tests are those of `distances_off`; the product of the counts fits, since each is a byte.
use borrow.Author.Rules.{rules}
use Rattle.table.specs.Refusals.{distances_off}
use Rattle.table.proofs.distances_off.Goals as goal

pub rules-requires : goal.rules-requires
unfolding distances_off
rules-requires c = search rules

pub types_byte-requires : goal.types_byte-requires
unfolding distances_off
types_byte-requires c = search rules

pub rule_bytes-requires : goal.rule_bytes-requires
unfolding distances_off
rule_bytes-requires c = search rules

pub times-rules-requires : goal.times-rules-requires
unfolding distances_off
times-rules-requires c = search rules

pub trailer_u16-back-requires : goal.trailer_u16-back-requires
unfolding distances_off
trailer_u16-back-requires c = search rules

pub states-requires : goal.states-requires
unfolding distances_off
states-requires c = search rules

pub overflow_mul-result : goal.overflow_mul-result
unfolding distances_off
overflow_mul-result c = search rules

pub overflow_add-result : goal.overflow_add-result
unfolding distances_off
overflow_add-result c = search rules

pub trailer_u16-requires : goal.trailer_u16-requires
unfolding distances_off
trailer_u16-requires c = search rules

pub overflow_add-result-2 : goal.overflow_add-result-2
unfolding distances_off
overflow_add-result-2 c = search rules

pub returns : goal.returns
unfolding distances_off
returns c = cc
