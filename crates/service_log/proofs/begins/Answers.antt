-- The bytes are those of the word where the number of the first four and that of the last two are.
use Rattle.service_log.proofs.PieceLaws.{begins_six}
use Rattle.service_log.proofs.begins.Goals as goal

pub returns : goal.returns
returns c = begins_six c.requires.1 c.requires.0 c.four.ensures c.four-2.ensures
    c.u16_at.ensures.value.0 c.u16_at.ensures.i_bound.0 c.u16_at.ensures.i_bound.1
    c.u16_at-2.ensures.value.0 c.u16_at-2.ensures.i_bound.0 c.u16_at-2.ensures.i_bound.1
