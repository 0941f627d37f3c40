-- What is cut from `rule_at` on, with the length that the types byte gives, is the record. It ends before the trailer, so it is whole.
use Rattle.table.proofs.RecordLaws.{rule-cut, rule-cut-long, rule-ends-inside}
use Rattle.table.proofs.rule.Goals as goal

pub slice_bounds-result-end : goal.slice_bounds-result-end
slice_bounds-result-end c = search rule-ends-inside

pub returns : goal.returns
returns c = (search rule-cut, search rule-cut-long)
