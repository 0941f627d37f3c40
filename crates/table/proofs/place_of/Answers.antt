-- The states and the k rules before it are the bytes before rule k. All rules lie before the trailer, so this one does too.
use Rattle.table.proofs.TableLaws.{rule-at-is, rule-at-inside}
use Rattle.table.proofs.place_of.Goals as goal

pub returns : goal.returns
returns c = (search rule-at-is, search rule-at-inside)
