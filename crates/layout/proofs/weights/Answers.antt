-- The bytes of type m begin after those of the types before it and end inside of the record.
use borrow.Author.Rules.{rules}
use Rattle.layout.proofs.LayoutLaws.{type-small, type-inside, weights_are}
use Rattle.layout.proofs.weights.Goals as goal

pub times-before-requires : goal.times-before-requires
times-before-requires c = (search rules, search type-small)

pub weights_at-requires : goal.weights_at-requires
weights_at-requires c = search type-inside

pub returns : goal.returns
returns c = search weights_are
