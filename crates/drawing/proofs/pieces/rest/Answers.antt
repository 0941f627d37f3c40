-- The digits that are read are those of the longest number, so that reading the text comes to the same.
use borrow.Author.Rules.{rules}
use Rattle.drawing.proofs.DigitLaws.{rest_positive, rest-reads}
use Rattle.drawing.proofs.pieces.rest.Goals as goal

pub byte_of-requires : goal.byte_of-requires
byte_of-requires c = search (rest_positive, rules)

pub returns : goal.returns
returns c = search rest-reads
