-- All three are read of the rule's record and of the table before the first is written, each in a place of its own.
use Rattle.table.proofs.RecordLaws.{leaves-is, enters_is}
use Rattle.rules.proofs.keep_ends.Goals as goal

pub sent_by-sends-requires : goal.sent_by-sends-requires
sent_by-sends-requires c = let a = c.args in
    (c.requires.0, c.requires.1, leaves-is a.table.now a.r c.requires.2 c.leaves-from.ensures.0, enters_is a.table.now a.r c.requires.2 c.enters-to.ensures.0)

pub returns-clause-stored : goal.returns-clause-stored
returns-clause-stored c = let a = c.args in
    let x = leaves-is a.table.now a.r c.requires.2 c.leaves-from.ensures.0 in
    let y = enters_is a.table.now a.r c.requires.2 c.enters-to.ensures.0 in
    rw (x, y, c.sent_by-sends.ensures.0)
