-- With 4 types at most the label has 16 numbers, so 108 bytes; and they are the rest of the rule's record.
use borrow.Author.Rules.{rules}
use native.Mathlib.Omega.{arith}
use Rattle.pen.proofs.PartLaws.{rule-weights, weights-put}
use Rattle.pen.proofs.put_weights.Goals as goal

pub put_label-requires : goal.put_label-requires
put_label-requires c = let w = rule-weights c.args.table.now c.requires.1 c.types_byte-byte.ensures.0 c.weight_bytes.ensures.0 in
    (omega (arith, w.few), omega (arith, w.all), search rules)

pub returns : goal.returns
returns c = let w = rule-weights c.args.table.now c.requires.1 c.types_byte-byte.ensures.0 c.weight_bytes.ensures.0 in
    (search weights-put, omega (arith, w.few))
