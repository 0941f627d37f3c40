-- The arrow's two names and the label's numbers are the rule's bytes, put after those made before. The sums fit, since a text has a byte or more for each.
use mathlib.Core.Path.{refl}
use native.Mathlib.Omega.{arith}
use Rattle.drawing.proofs.LineLaws.{line_refused, rule-read}
use Rattle.drawing.proofs.lines.rule_line.Goals as goal

pub weight_bytes-weights-requires : goal.weight_bytes-weights-requires
weight_bytes-weights-requires c = omega (arith, c.requires.3.few)

pub overflow_add-result : goal.overflow_add-result
overflow_add-result c = omega (arith, c.requires.0, c.requires.1, c.requires.3.bytes_fit, c.requires.3.lines_fit, c.well_formed.0.1)

pub overflow_add-result-2 : goal.overflow_add-result-2
overflow_add-result-2 c = omega (arith, c.requires.0, c.requires.1, c.requires.3.bytes_fit, c.requires.3.lines_fit, c.well_formed.0.1)

pub overflow_add-result-3 : goal.overflow_add-result-3
overflow_add-result-3 c = omega (arith, c.requires.0, c.requires.1, c.requires.3.bytes_fit, c.requires.3.lines_fit, c.well_formed.0.1, c.weight_bytes-weights.ensures.1)

pub returns-then-c : goal.returns-then-c
returns-then-c c = let r = rule-read _ _ c.requires.1 c.requires.3 c.ends-to.ensures c.follow-b.ensures refl c.weight_bytes-weights.ensures.0 c.of_rule.ensures.0 c.label-c.ensures in line_refused c.args.text.now r.onward r.within (r.fails c.if-c.true) c.no_drawing.ensures

pub returns : goal.returns
returns c = (rule-read _ _ c.requires.1 c.requires.3 c.ends-to.ensures c.follow-b.ensures refl c.weight_bytes-weights.ensures.0 c.of_rule.ensures.0 c.label-c.ensures).stands_there c.if-c.false
